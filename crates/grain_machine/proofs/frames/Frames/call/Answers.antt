use Rattle.std.proofs.Common.{◌≡◌, ◌<◌, ◌++◌, List, [], ◌∷◌, length, inl, inr, refl, sym, ap, ◌∙◌, subst, vec_len, arith}
use Rattle.std.specs.List.{All}
use Rattle.std.proofs.lemmas.List.Elements.{All-push}
use Rattle.grain_machine.specs.Standing.{IsWaiting, waiting_of}
use Rattle.grain_machine.specs.State.{FrameState, Runs}
use Rattle.grain_machine.specs.declared.frames.Caller.{Caller}
use Rattle.grain_machine.proofs.Calling.{last_called, same_activation, waiting_long}
use Rattle.grain_machine.proofs.Keeping.{kept_self}
use Rattle.grain_machine.proofs.frames.Frames.call.Goals as goal

pub returns-in-Ok-reserve-clause-standing : goal.returns-in-Ok-reserve-clause-standing
returns-in-Ok-reserve-clause-standing g c =
    let f = c.args.self.now in
    let p = f.body.program in
    let calling = c.requires.calling in
    let w : Caller g.row.V.Denot g.row.I.Denot = record { chunk = f.body.chunk; room = f.body.room; frame = f.frame; takes = c.args.takes; next = c.args.next } in
    let items : c.enter.new.self.callers.items ≡ f.callers.items ++ w ∷ [] =
    c.enter.ensures.waits ∙ ap (λ (xs : List (Caller g.row.V.Denot g.row.I.Denot)). xs ++ w ∷ []) c.reserve.ensures.items in
    let waits : IsWaiting p w = record { op = calling.op; at = calling.at; gives = calling.gives } in
    record {
      program = ap (λ (r : Runs). r.program) c.enter.ensures.runs ∙ c.callee-body.ensures.program;
      ready = rw (c.enter.ensures.runs, c.enter.ensures.stands) c.in-Ok.ensures.ready;
      waiting = subst (All (IsWaiting p)) (sym items) (All-push (IsWaiting p) f.callers.items w c.requires.standing.waiting waits);
    }

pub returns-in-Ok-reserve-clause-goes : goal.returns-in-Ok-reserve-clause-goes
returns-in-Ok-reserve-clause-goes g c =
    let f = c.args.self.now in
    let calling = c.requires.calling in
    let w : Caller g.row.V.Denot g.row.I.Denot = record { chunk = f.body.chunk; room = f.body.room; frame = f.frame; takes = c.args.takes; next = c.args.next } in
    let items : c.enter.new.self.callers.items ≡ f.callers.items ++ w ∷ [] =
    c.enter.ensures.waits ∙ ap (λ (xs : List (Caller g.row.V.Denot g.row.I.Denot)). xs ++ w ∷ []) c.reserve.ensures.items in
    let all : vec_len f.callers ≡ length f.callers.items = f.callers.ok.0 in
    let long : length (waiting_of f.callers.items) ≡ length f.callers.items = waiting_long f.callers.items in
    let within : length (waiting_of f.callers.items) < c.args.depth = omega (arith, c.len.ensures, c.if-len-depth.false) in
    inr (inl (record {
      function = c.args.function;
      chunk = c.callee-body.result.chunk;
      taken = c.args.takes;
      behind = c.args.next;
      caller = record { chunk = f.body.chunk; machine = f.frame.machine };
      may = record { op = calling.op; finds = calling.at.finds; gives = calling.gives; next = calling.at.next };
      there = c.callee-body.ensures.chunk;
      top = same_activation _ _ _ _ (ap (λ (r : Runs). r.chunk) c.enter.ensures.runs) (ap (λ (s : FrameState g.row.V.Denot g.row.I.Denot). s.machine) c.enter.ensures.stands ∙ c.in-Ok.ensures.first);
      waits = record { chunk = refl; counts = refl; operands = kept_self _ _; iterators = refl };
      callers = ap waiting_of items ∙ last_called f.callers.items w;
      within = within;
    }))
