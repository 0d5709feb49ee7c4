use Rattle.std.proofs.Common.{◌≡◌, ◌<◌, ◌≤◌, ℕ, List, arith, length, rules, subst, ◌∙◌, sym}
use Rattle.std.specs.Prelude.{slice_index}
use Rattle.std.proofs.lemmas.List.Elements.{All-weaker}
use Rattle.std.proofs.lemmas.Option.{get_or_from_slice_get}
use Rattle.grain_base.specs.Place.{place_of}
use Rattle.grain_base.specs.declared.position.Position.{Position}
use Rattle.grain.proofs.AttachedPositions.{places_listed}
use Rattle.grain.specs.Program.{listed_positions}
use Rattle.rhai_compile.specs.Positions.{IsKeptPosition, IsListedPosition, IsPositionFor, IsPositionIn}
use Rattle.rhai_compile.proofs.LocatedPositions.{AreFoundUpTo, found_all, found_more, kept_here}
use Rattle.rhai_compile.proofs.PlacedPositions.{listed_dense, placed_dense}
use Rattle.rhai_compile.proofs.building.dense.Goals as goal
use Rattle.grain_base.specs.declared.pos.Site.{Site}

pub returns-clause-listed : goal.returns-clause-listed
returns-clause-listed c = listed_dense c.args.lines.now.lengths.items (listed_positions c.dense.result) c.loop-index.positions.items _ (sym (places_listed c.dense.result) ∙ c.dense.ensures)
    (All-weaker (IsKeptPosition c.args.lines.now.lengths.items c.args.places.now) (IsListedPosition c.args.lines.now.lengths.items) (λ p h. h.listed) c.loop-index.positions.items c.loop-index.invariant.kept)

pub returns-clause-placed : goal.returns-clause-placed
returns-clause-placed c = placed_dense c.args.places.now (listed_positions c.dense.result) c.loop-index.positions.items _ (sym (places_listed c.dense.result) ∙ c.dense.ensures)
    (All-weaker (IsKeptPosition c.args.lines.now.lengths.items c.args.places.now) (IsPositionIn c.args.places.now) (λ p h. h.among) c.loop-index.positions.items c.loop-index.invariant.kept)

pub returns-clause-located : goal.returns-clause-located
returns-clause-located c =
    found_all c.args.lines.now.lengths.items c.args.places.now c.args.offsets.now c.args.len c.requires c.loop-index.positions.items (listed_positions c.dense.result)
    (sym (places_listed c.dense.result) ∙ c.dense.ensures) (let ended : c.loop-index.index ≡ length c.args.places.now = search rules in subst (λ (n : ℕ). AreFoundUpTo c.args.lines.now.lengths.items c.args.places.now c.args.offsets.now n c.loop-index.positions.items) ended c.loop-index.invariant.placed)

pub loop-index-preserved : goal.loop-index-preserved
loop-index-preserved c =
    let lengths : List ℕ = c.args.lines.now.lengths.items in
    let places : List Site = c.args.places.now in
    let xs : List Position = c.loop-index.positions.items in
    let n : ℕ = c.loop-index.index in
    let position : Position = c.kept_place.result in
    let many : length xs ≡ c.args.len = c.loop-index.invariant.many in
    let some : length places ≤ length c.args.offsets.now = c.requires.some in
    let inside : slice_index c.args.offsets.now n < c.args.len = c.requires.inside n c.loop-index-test.true in
    let here : IsKeptPosition lengths places position = kept_here lengths places n _ position c.loop-index-test.true c.kept_place.ensures.listed c.kept_place.ensures.own in
    record {
      kept = search rules;
      many = search rules;
      placed =
          found_more lengths places c.args.offsets.now c.args.len c.requires xs n position (omega (arith, c.loop-index-test.true)) (omega arith)
          (λ place e. subst (λ (q : Site). IsPositionFor lengths q (place_of position)) (get_or_from_slice_get places n place _ e) c.kept_place.ensures.exact) c.loop-index.invariant.placed;
    }
