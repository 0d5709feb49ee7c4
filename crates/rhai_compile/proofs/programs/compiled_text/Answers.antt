use Rattle.std.proofs.lemmas.Result.{IfOk-weaker}
use Rattle.rhai_compile.specs.Positions.{ArePositions, IsListedPosition, IsPositionOf}
use Rattle.rhai_compile.proofs.PlacedPositions.{all_lie_in}
use Rattle.rhai_compile.proofs.programs.compiled_text.Goals as goal

pub returns-clause-positions : goal.returns-clause-positions
returns-clause-positions c = IfOk-weaker c.compile_syntax.result (λ b. ArePositions (IsListedPosition c.in_ok-lines.lines.lengths.items) b.program) (λ b. ArePositions (IsPositionOf c.args.source.now) b.program) (λ b. all_lie_in c.args.source.now c.in_ok-lines.lines.lengths.items c.in_ok-lines.ensures b.program) c.compile_syntax.ensures.positions
