use Rattle.std.proofs.Common.{ap}
use Rattle.std.proofs.lemmas.Result.{IfOk-weaker}
use Rattle.grain_code.specs.Starts.{Front}
use Rattle.grain_code.proofs.Splits.{one_split}
use Rattle.grain_verify.proofs.verifier.starts_of.Goals as goal

pub returns-then-is_known : goal.returns-then-is_known
returns-then-is_known c starts split = one_split c.args.code.now c.args.room.starts starts (c.requires c.if-is_known.true) split

pub returns-else-is_known : goal.returns-else-is_known
returns-else-is_known c starts split = IfOk-weaker c.refill.result _ _ (λ s is. ap (λ (f : Front). f.starts) is) (c.refill.ensures.whole starts split)
