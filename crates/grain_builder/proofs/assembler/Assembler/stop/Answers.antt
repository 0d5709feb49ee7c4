use Rattle.std.proofs.Common.{◌+◌, ◌≤◌, inl, sym, subst, arith}
use Rattle.std.proofs.lemmas.List.{map-append}
use Rattle.grain_builder.specs.Assembled.{workings_of}
use Rattle.grain_builder.specs.Fitting.{HasEffect}
use Rattle.grain_builder.specs.Sound.{Workings}
use Rattle.grain_builder.specs.Unfinished.{Unfinished}
use Rattle.grain_builder.proofs.Plain.{put_end}
use Rattle.grain_builder.proofs.assembler.Assembler.stop.Goals as goal

pub invariant_of-self-2 : goal.invariant_of-self-2
invariant_of-self-2 c =
    let k : Workings = workings_of c.self.inside in
    let does : HasEffect c.args.op k.operands c.args.takes 0 = subst (λ (w : Unfinished). HasEffect c.args.op w.operands c.args.takes 0) (sym c.self.view_is) c.requires.does in
    let room : k.level.floor + c.args.takes ≤ k.operands = subst (λ (w : Unfinished). w.level.floor + c.args.takes ≤ w.operands) (sym c.self.view_is) c.requires.room in
    let few : c.self.inside.operands ≤ 65535 = c.self.invariant.room in
    rw (c.in_ok-push.ensures.items, map-append)
    (put_end k c.self.invariant c.args.op c.args.takes 0 (record { needs_some = λ s h. (does s).0; takes_some = λ s h. (does s).1; gives_some = λ s h. (does s).2 }) c.requires.ends (inl room) c.args.left (omega arith))
