use Rattle.std.proofs.Common.{◌≡◌, ◌-◌, ◌^◌, ◌<◌, ap, ◌∙◌, sym, subst, refl, replicate, length, arith, List, Option}
use Rattle.std.specs.List.{All}
use Rattle.std.specs.Vec.{vec_len}
use Rattle.std.proofs.lemmas.List.Elements.{All-replicate}
use Rattle.std.proofs.lemmas.List.{length-map, length-replicate}
use Rattle.grain_verify.specs.States.{no_state, state_in}
use Rattle.grain_verify.specs.declared.state.State.{State}
use Rattle.grain_verify.specs.declared.states.Entry.{Entry}
use Rattle.grain_verify.proofs.ChunkNumbers.{nothing_later}
use Rattle.grain_verify.proofs.states.States.begin_chunk.Goals as goal
use Rattle.grain_verify.proofs.states.States.begin_chunk.Goals.{then-self-eq0, else-self-eq0}

pub returns : goal.returns
returns c =
    let old = c.self.inside in
    let after = c.if-self-eq0.self-inside in
    let long : length c.args.self.now ≡ length old.entries.items = sym (ap (λ (ss : List (Option State)). length ss) c.self.view_is) ∙ length-map old.entries.items (state_in old.chunk) in
    let known = elim c.if-self-eq0.branch as (λ _. All (λ (e : Entry). after.chunk - 1 < e.chunk) after.entries.items × (length after.entries.items ≡ length old.entries.items)) [
      | then-self-eq0 w ↦
          let none : Entry = record { chunk = 2 ^ 32 - 1; state = record { operands = 0; iterators = 0; list = 0 } } in
          let n = length old.entries.items in
          let same_len : vec_len old.entries ≡ n = omega (arith, old.entries.ok) in
          let items : w.fill.new.self.items ≡ replicate n none = w.fill.ensures.items (λ y same. same) ∙ ap (λ k. replicate k none) same_len in
          rw (w.self-inside-is) (
            subst (All (λ (e : Entry). 2 ^ 32 - 1 - 1 < e.chunk)) (sym items) (All-replicate (λ (e : Entry). 2 ^ 32 - 1 - 1 < e.chunk) n none (omega arith)),
            ap (λ (es : List Entry). length es) items ∙ length-replicate n none,
          )
      | else-self-eq0 w ↦ rw (w.self-inside-is) (λ k d l. (let h = c.self.invariant.later k d l in let f = w.if-self-eq0.false in omega arith), refl)
    ] in
    nothing_later (after.chunk - 1) after.entries.items known.0 ∙ ap (λ n. replicate n no_state) (known.1 ∙ sym long)
