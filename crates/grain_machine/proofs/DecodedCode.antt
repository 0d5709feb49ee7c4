-- What is decoded is what stands there.
use Rattle.std.proofs.Common.{◌≡◌, ℕ, ◌+◌, ◌<◌, inl, inr, List, [], ◌∷◌, ◌++◌, Some, length, slice_get, sym, ap, ◌∙◌, subst, arith}
use Rattle.std.proofs.lemmas.List.{length_push}
use Rattle.grain_code.specs.InstructionTable.{width_of}
use Rattle.grain_code.specs.Split.{StandsAt}
use Rattle.grain_code.specs.declared.op.Op.{Op}
use Rattle.grain_code.proofs.SetBelow.{listed_cases}
use Rattle.grain_rules.specs.Facts.{facts_of, facts_with}
use Rattle.grain_rules.specs.Rows.{takes}
use Rattle.grain_rules.specs.declared.pools.Pools.{Pools}
use Rattle.grain_rules.proofs.OperationUniqueness.{stands_once}
use Rattle.grain_rules.proofs.Splits.{start_op}
use Rattle.grain.specs.Program.{Program, setting_of}
use Rattle.grain.proofs.Inputs.{ArePools}
use Rattle.grain_machine.specs.Decoded.{AreDecoded, IsEntryAt}
use Rattle.grain_machine.specs.State.{IsAt, IsRunnable, IsUnderWay, Runs, State}
use Rattle.grain_machine.specs.declared.decoded.Decoded.{Decoded}
use Rattle.grain_machine.proofs.Standing.{is_at, passes_here}

-- the facts of a program are those of its pools
pub facts_of_pools : (p : Program) (pools : Pools) → ArePools p pools → (setting_of p).facts ≡ facts_of pools
facts_of_pools p pools h = sym (λ i. facts_with (h.consts i) (h.names i) (h.tokens i) (h.assign_ops i) (h.residuals i) (h.chains i) (h.switches i))

-- an operation that stands at an address is the only one
pub decoded_alone : (p : Program) (at : ℕ) (op : Op) (taken behind : ℕ) → StandsAt p.code at op → taken ≡ takes (setting_of p) op → behind ≡ at + width_of op
    → IsEntryAt p at (record { op = op; takes = taken; next = behind })
decoded_alone p at op taken behind stands et en other h =
    let same = stands_once p.code at op other stands h in
    record { op_is = same; takes_so = et ∙ ap (takes (setting_of p)) same; next_is = en ∙ ap (λ o. at + width_of o) same }

-- one address more
pub decoded_more : (p : Program) (n : ℕ) (all : List Decoded) (d : Decoded) → AreDecoded p n all → IsEntryAt p n d → AreDecoded p (n + 1) (all ++ d ∷ [])
decoded_more p n all d h new = record {
  each = λ at e found. elim (listed_cases all d at e found) [
    | inl before ↦ h.each at e before
    | inr here ↦ subst (IsEntryAt p at) here.1 (subst (λ (k : ℕ). IsEntryAt p k d) (sym h.long ∙ sym here.0) new)
  ];
  long = let l = length_push all d in let k = h.long in omega arith;
}

-- a run stands within the code
pub stands_within : (r : Runs) (s : State) → IsRunnable r → IsUnderWay r s → s.machine.address < length r.program.code
stands_within r s runs ready = (start_op r.program.code s.machine.address (passes_here r s runs ready).1.stands.within.place).0

-- the entry at the address where a run stands is what the run finds there
pub entry_here : (r : Runs) (s : State) (all : List Decoded) (at : ℕ) (d : Decoded) → IsRunnable r → IsUnderWay r s → AreDecoded r.program (length r.program.code) all
    → at ≡ s.machine.address → slice_get all at ≡ Some d → IsAt r s d.op d.next × (d.takes ≡ takes (setting_of r.program) d.op)
entry_here r s all at d runs ready decoded here found =
    let passes = passes_here r s runs ready in
    let entry = decoded.each at d found passes.0 (subst (λ (n : ℕ). StandsAt r.program.code n passes.0) (sym here) passes.1.stands.is) in (
      is_at r s d.op d.next runs ready (subst (λ (o : Op). StandsAt r.program.code s.machine.address o) (sym entry.op_is) passes.1.stands.is)
          (entry.next_is ∙ ap (λ n. n + width_of passes.0) here ∙ ap (λ (o : Op). s.machine.address + width_of o) (sym entry.op_is)),
      entry.takes_so ∙ ap (takes (setting_of r.program)) (sym entry.op_is),
    )
