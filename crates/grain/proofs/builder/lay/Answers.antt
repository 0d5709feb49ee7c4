use Rattle.grain_code.specs.Span.{Span}
use Rattle.grain.proofs.builder.lay.Goals as goal

pub returns-in_err-check_cuts-clause-accepts : goal.returns-in_err-check_cuts-clause-accepts
returns-in_err-check_cuts-clause-accepts c can =
    let bad = c.in_err-check_cuts.ensures.err.2 in
    let none : Span = record { entry = 0; end = 0; max_stack = 0 } in
    absurd (bad.here none (can.cuts c.in_err-check_cuts.ensures.err.0 none bad.inside))
