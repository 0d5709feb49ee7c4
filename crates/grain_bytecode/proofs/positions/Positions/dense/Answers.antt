use Rattle.std.proofs.Common.{◌≡◌, refl, true, false, rules}
use Rattle.std.proofs.lemmas.Iterator.{cases_from_all, YieldsList-from_slice}
use Rattle.grain_base.specs.Place.{is_none}
use Rattle.grain_bytecode.proofs.PositionEntries.{all_none, some_place}
use borrow.Author.Tests.{tests}
use Rattle.grain_bytecode.proofs.positions.Positions.dense.Goals as goal

pub returns-then-all : goal.returns-then-all
returns-then-all c =
    let items = c.args.positions.items in
    let m = cases_from_all _ _ _ (λ p. is_none p ≡ true) (λ p. is_none p ≡ false) c.all.ensures.ran (YieldsList-from_slice items cc) (λ x q k. search (rules, tests)) (λ x q k. search (rules, tests)) in
    let none = rw c.if-all.true at m in
    rw (all_none items none) refl

pub returns-else-all : goal.returns-else-all
returns-else-all c =
    let items = c.args.positions.items in
    let m = cases_from_all _ _ _ (λ p. is_none p ≡ true) (λ p. is_none p ≡ false) c.all.ensures.ran (YieldsList-from_slice items cc) (λ x q k. search (rules, tests)) (λ x q k. search (rules, tests)) in
    let some = rw c.if-all.false at m in
    rw (some_place items some.0 some.1 some.2) refl
