use Rattle.std.proofs.Common.{◌≡◌, ℕ, List, OnOk, Result, Ok, Err, ap, length, subst, sym, take, arith}
use Rattle.std.proofs.lemmas.List.{take_all}
use Rattle.grain_code.specs.Split.{Split}
use Rattle.grain_rules.proofs.code_test.start_code.Goals as goal

-- a front that ends where the code does is the code
all_of : {A E : Type 0} (r : Result A E) (code starts : List ℕ) (end : ℕ) → OnOk r (Split (take end code) starts) → OnOk r (end ≡ length code) → OnOk r (Split code starts)
all_of (Ok v) code starts end is whole = subst (λ (bytes : List ℕ). Split bytes starts) (take_all end code (omega arith)) is
all_of (Err e) code starts end is whole = tt

pub returns-clause-starts : goal.returns-clause-starts
returns-clause-starts g c =
    let tested = c.test_code-front in
    rw c.finish.ensures (all_of tested.result.result c.args.code.now tested.result.front.starts tested.result.front.end tested.ensures.is tested.ensures.whole)
