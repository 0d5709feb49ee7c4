use Rattle.std.proofs.Common.{◌≡◌, ◌≤◌, inl, inr, ℕ, get_or, sym, subst, None, Some, Bor, ◌∙◌, arith}
use Rattle.std.proofs.lemmas.Bool.{cases_lt}
use Rattle.std.proofs.lemmas.Option.{same_Some}
use Rattle.grain_explain.specs.declared.arrival.Arrival.{Arrival}
use Rattle.grain_explain.proofs.Walked.{deeper_holds, deeper_most, deepest_most}
use Rattle.grain_explain.proofs.scene.Scene.deepest.Goals as goal
use Rattle.grain_explain.proofs.scene.Scene.deepest.Goals.{in-Some, in_default}

pub loop-slot-preserved : goal.loop-slot-preserved
loop-slot-preserved g c =
    let slots = c.args.visited.now.slots.now in
    let at = c.loop-slot.slot-index in
    elim c.match-slot.branch [
      | in-Some w ↦
          let here = w.in-Some.arrival in
          rw w.deepest-is (record {
            holds = deeper_holds (λ (b : Bor Arrival). b.now) slots c.loop-slot.deepest here w.deeper.result.now (at, w.in-Some.is) c.loop-slot.invariant.holds w.deeper.ensures.either;
            most = λ k a l e. elim (cases_lt k at) [
              | inl m ↦ deeper_most (λ (b : Bor Arrival). b.now) c.loop-slot.deepest a w.deeper.result.now (c.loop-slot.invariant.most k a m e) w.deeper.ensures.before
              | inr m ↦
                  let there : at ≡ k = omega arith in
                  let same : here ≡ a = same_Some here a (sym w.in-Some.is ∙ subst (λ (n : ℕ). get_or slots n None ≡ Some a) (sym there) e) in
                  subst (λ (x : Arrival). x.row.operands ≤ w.deeper.result.now.row.operands) same w.deeper.ensures.most
            ];
          })
      | in_default w ↦ rw w.deepest-is (record {
        holds = c.loop-slot.invariant.holds;
        most = λ k a l e. elim (cases_lt k at) [
          | inl m ↦ c.loop-slot.invariant.most k a m e
          | inr m ↦ (let there : at ≡ k = omega arith in absurd (w.in_default.not-Some a (subst (λ (n : ℕ). get_or slots n None ≡ Some a) (sym there) e)))
        ];
      })
    ]

pub returns-clause-most : goal.returns-clause-most
returns-clause-most g c = deepest_most (λ (b : Bor Arrival). b.now) c.args.visited.now.slots.now c.loop-slot.deepest c.loop-slot.slot-index (let l = c.loop-slot-test.false in omega arith) c.loop-slot.invariant.most
