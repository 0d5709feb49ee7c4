use Rattle.grain_engine_c.proofs.NewSession.{kept_new}
use Rattle.grain_engine_c.proofs.opening.grain_proved_session_compile_modules.Goals as goal

pub returns-in-Ok-clause-new : goal.returns-in-Ok-clause-new
returns-in-Ok-clause-new c accepted =
    kept_new c.kept.new.session.content c.in-Ok.made c.args.bounds.now.calls c.args.bounds.now.runs c.bounds_of.result.calls c.bounds_of.result.runs (c.kept.ensures.accepted accepted).1 c.in-Ok.ensures.new
    c.bounds_of.ensures.calls c.bounds_of.ensures.runs
