use Rattle.std.proofs.Common.{◌≡◌, ℕ, List, rules}
use Rattle.std.specs.Prelude.{IfSome}
use Rattle.grain_base.specs.Place.{place_of}
use Rattle.rhai_compile.proofs.LocatedPositions.{exact_for}
use Rattle.rhai_compile.proofs.placing.kept_place.Goals as goal

pub returns-clause-exact : goal.returns-clause-exact
returns-clause-exact c =
    let lengths : List ℕ = c.args.lines.now.lengths.items in
    let own : IfSome (place_of c.kept.result) (λ p. c.args.place ≡ record { line = p.0; column = p.1 }) = search rules in
    exact_for lengths c.args.place c.kept.result
    (λ fits. c.kept.ensures.kept (c.args.place.line, c.args.place.column) (c.position.ensures.kept fits.listed.some fits.line fits.column) fits.listed)
    own c.kept.ensures.listed
