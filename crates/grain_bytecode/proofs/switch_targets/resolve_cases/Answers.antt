use Rattle.std.proofs.Common.{rules}
use Rattle.std.proofs.lemmas.Map.Made.{map_same_pairs}
use Rattle.grain_pools.specs.Dispatch.{resolved_case}
use Rattle.grain_bytecode.proofs.switch_targets.resolve_cases.Goals as goal

pub returns : goal.returns
returns c = map_same_pairs _ (resolved_case c.args.offsets.now) _ (λ k v b w f' t. search rules) _ _ c.retain.ensures.filtered
