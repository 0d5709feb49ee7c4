-- The places of some entries of a list.
use Rattle.std.proofs.Common.{◌≡◌, ℕ, ◌-◌, Bool, true, List, [], drop, map, Option, Some, None, ap, ◌∙◌}
use Rattle.std.specs.Option.{UnwrapsOrElse}
use Rattle.std.specs.Prelude.{IfSome}
use Rattle.std.specs.Slice.{IsGetRangeResult, IsItemAt}
use Rattle.std.specs.Borrow.{Bor}
use Rattle.rhai_emit.proofs.PlaceTests.{drop_pass, each_pass, take_pass}
use Rattle.rhai_emit.specs.Places.{Places, all_of, pass}
use Rattle.grain_base.specs.declared.pos.Site.{Site}

-- the places of a part of a list, or of none of it, pass where those of all entries do
pub part_pass : {X : Type 0} (f : X → Places) (test : Site → Bool) (xs : List X) (i j : ℕ) (found : Option (Bor (List X))) (part : Bor (List X)) → IsGetRangeResult xs i j found → UnwrapsOrElse found (λ (x : Bor (List X)). x.now ≡ []) part → pass test (all_of (map f xs)) ≡ true → pass test (all_of (map f part.now)) ≡ true
part_pass {X} f test xs i j None part got is h = ap (λ (ys : List X). pass test (all_of (map f ys))) is
part_pass {X} f test xs i j (Some x) part got is h =
    ap (λ (b : Bor (List X)). pass test (all_of (map f b.now))) is
    ∙ ap (λ (ys : List X). pass test (all_of (map f ys))) got.0.2
    ∙ take_pass f test (j - i) (drop i xs) (drop_pass f test i xs h)

-- those of an entry that was looked for
pub item_pass : {X : Type 0} (f : X → Places) (xs : List X) (i : ℕ) (found : Option (Bor X)) → IsItemAt xs i found → IfSome found (λ (x : Bor X). (test : Site → Bool) → pass test (all_of (map f xs)) ≡ true → pass test (f x.now) ≡ true)
item_pass f xs i None got = tt
item_pass f xs i (Some x) got = λ test all. each_pass f test xs i x.now got.3.0 got.1 all
