-- A verdict on what was made is one on all with the flat form.
use Rattle.std.proofs.Common.{◌≡◌, ◌<◌, ◌^◌, ℕ, List, [], ap, length, Result, Ok, Err, Vec, inr, subst}
use Rattle.std.specs.List.{All}
use Rattle.std.specs.declared.alloc.Global.{Global}
use Rattle.std.proofs.lemmas.Slice.Zip.{AllZip-long}
use Rattle.grain_rules.specs.Accepted.{Input, input_beside}
use Rattle.grain_rules.specs.Code.{Bytecode}
use Rattle.grain_pools.specs.Dispatch.{Arms}
use Rattle.grain_code.specs.Span.{Span}
use Rattle.grain_pools.specs.declared.chain.Chain.{Chain}
use Rattle.grain_code.specs.declared.function.Function.{Function}
use Rattle.grain_flat.specs.Flat.{AreChains, IsFlat}
use Rattle.grain_flat.specs.RowFacts.{facts_by_rows, leads_of}
use Rattle.grain_flat.specs.Asking.{RowPasses}
use Rattle.grain_flat.specs.Judging.{AreSome, IsFlatMetered, IsFlatVerdict, IsMeteredOf, IsVerdictOf, judged}
use Rattle.grain_flat.specs.declared.judge.Rejection.{Rejection}
use Rattle.grain_flat.specs.declared.judge.Rejection.TheVariants as stops
use Rattle.grain_flat.specs.declared.records.CPools.{CPools}
use Rattle.grain_flat.proofs.CodeOfRows.{code_by_rows, are_of_rows}
use Rattle.grain_flat.proofs.Flatness.{switches_by_rows}
use Rattle.grain_flat.proofs.FlatAlike.{AreOf}
use Rattle.grain_flat.proofs.Wholes.{accepted, accepted_back, deepest_there, flaw_there, no_constants, reached_there, safe_there, typed_there, whole_constants}

-- what is judged, by its rows
abbrev pub over : ℕ → List ℕ → List Span → CPools → List Function → Input
over caps bytes chunks p functions = input_beside caps [] bytes functions chunks (facts_by_rows p) (leads_of p)

over_is : (caps : ℕ) (bytes : List ℕ) (chunks : List Span) (p : CPools) (functions : List Function) (cs : List Chain) → AreChains p.chains.now p.steps.now cs
    → over caps bytes chunks p functions ≡ judged caps bytes chunks p functions cs (switches_by_rows p.switches.now p.cases.now p.ranges.now)
over_is caps bytes chunks p functions cs are = ap (λ (code : Bytecode). record { code = code; consts = []; functions = functions; chunks = chunks }) (code_by_rows caps bytes p cs are)

flat_verdict : (caps : ℕ) (bytes : List ℕ) (chunks : List Span) (p : CPools) (cs : List Chain) (ts : List Arms) (functions : List Function) → AreOf p cs ts → AreSome p.functions functions
    → All (RowPasses caps) p.constants.now → (result : Result (Vec ℕ Global) Rejection) → IsVerdictOf (judged caps bytes chunks p functions cs ts) result → IsFlatVerdict caps bytes chunks p result
flat_verdict caps bytes chunks p cs ts functions made some rows (Ok v) h =
    let none = no_constants caps in
    record {
      accepted = record {
        accepted = λ whole. accepted caps bytes chunks p cs ts functions made some whole.rest whole.consts (whole_constants caps p whole rows) h.accepted.0;
        rows = rows;
        rest = λ rest. accepted caps bytes chunks p cs ts functions made some rest [] none h.accepted.0;
        typed = λ rest. typed_there caps bytes chunks p cs ts functions made some rest [] none v.items h.accepted.1;
        deepest = λ rest. deepest_there caps bytes chunks p cs ts functions made some rest [] none v.items h.accepted.2;
        safe = λ rest. safe_there caps bytes chunks p cs ts functions made some rest [] none v.items h.accepted.3;
      };
      each = AllZip-long _ chunks v.items h.accepted.2;
      refused = tt;
    }
flat_verdict caps bytes chunks p cs ts functions made some rows (Err stops.OutOfMemory) h = record { accepted = tt; each = tt; refused = tt }
flat_verdict caps bytes chunks p cs ts functions made some rows (Err (stops.Refused r)) h =
    let none = no_constants caps in
    record {
      accepted = tt;
      each = tt;
      refused = record {
        refused = λ whole is. h.refused.0 (accepted_back caps bytes chunks p cs ts functions made some whole.rest whole.consts (whole_constants caps p whole rows) is);
        flaw = λ whole. flaw_there caps bytes chunks p cs ts functions made some whole.rest whole.consts (whole_constants caps p whole rows) r.chunk r.error h.refused.1;
        cause = inr (record {
          rows = rows;
          refused = λ rest is. h.refused.0 (accepted_back caps bytes chunks p cs ts functions made some rest [] none is);
          flaw = λ rest. flaw_there caps bytes chunks p cs ts functions made some rest [] none r.chunk r.error h.refused.1;
        });
      };
    }

flat_metered : (caps : ℕ) (bytes : List ℕ) (chunks : List Span) (p : CPools) (cs : List Chain) (ts : List Arms) (functions : List Function) → AreOf p cs ts → AreSome p.functions functions
    → (old new : ℕ) (result : Result (Vec ℕ Global) Rejection) → IsMeteredOf (judged caps bytes chunks p functions cs ts) old new result → IsFlatMetered caps bytes chunks p old new result
flat_metered caps bytes chunks p cs ts functions made some old new (Ok v) h = record {
  accepted = (h.accepted.0, λ rest. reached_there caps bytes chunks p cs ts functions made some rest [] (no_constants caps) h.accepted.0 h.accepted.1, h.accepted.2);
  refused = tt;
}
flat_metered caps bytes chunks p cs ts functions made some old new (Err stop) h =
    let within = h.refused.1 in
    record { accepted = tt; refused = (h.refused.0, record { starts = within.starts; nowhere = within.nowhere }, h.refused.2) }

pub rows_verdict : (caps : ℕ) (bytes : List ℕ) (chunks : List Span) (p : CPools) (functions : List Function) → IsFlat p → length p.steps.now < 2 ^ 63 → AreSome p.functions functions
    → All (RowPasses caps) p.constants.now → (result : Result (Vec ℕ Global) Rejection) → IsVerdictOf (over caps bytes chunks p functions) result → IsFlatVerdict caps bytes chunks p result
rows_verdict caps bytes chunks p functions flat small some rows result h =
    let are = are_of_rows p flat small in
    flat_verdict caps bytes chunks p _ _ functions are some rows result (subst (λ (i : Input). IsVerdictOf i result) (over_is caps bytes chunks p functions _ are.chains_are) h)

pub rows_metered : (caps : ℕ) (bytes : List ℕ) (chunks : List Span) (p : CPools) (functions : List Function) → IsFlat p → length p.steps.now < 2 ^ 63 → AreSome p.functions functions
    → (old new : ℕ) (result : Result (Vec ℕ Global) Rejection) → IsMeteredOf (over caps bytes chunks p functions) old new result → IsFlatMetered caps bytes chunks p old new result
rows_metered caps bytes chunks p functions flat small some old new result h =
    let are = are_of_rows p flat small in
    flat_metered caps bytes chunks p _ _ functions are some old new result (subst (λ (i : Input). IsMeteredOf i old new result) (over_is caps bytes chunks p functions _ are.chains_are) h)
