use Rattle.std.proofs.Common.{List, subst}
use Rattle.std.specs.List.{All}
use Rattle.std.specs.Prelude.{IfOk, IfSome}
use Rattle.rhai_compile.specs.Positions.{IsLocated, IsPositionIn}
use Rattle.grain_base.specs.declared.pos.Site.{Site}
use Rattle.rhai_compile.proofs.building.finish.Goals as goal

pub returns-clause-placed : goal.returns-clause-placed
returns-clause-placed c =
    subst (λ (ps : List Site). IfOk c.complete.result (λ built. IfSome built.program.positions (All (IsPositionIn ps)))) c.in_ok-made.ensures.places c.complete.ensures.placed

pub returns-clause-located : goal.returns-clause-located
returns-clause-located c =
    subst (λ (ps : List Site). IfOk c.complete.result (λ built. IsLocated c.args.lines.now.lengths.items ps built.program)) c.in_ok-made.ensures.places c.complete.ensures.located
