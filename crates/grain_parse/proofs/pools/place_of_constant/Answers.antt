use Rattle.std.proofs.Common.{◌≡◌, rules, tests}
use Rattle.std.proofs.lemmas.Iterator.{IsFirst-from_position, YieldsList-from_slice}
use Rattle.grain_base.specs.ContentLaws.{same_Decides}
use Rattle.grain_base.specs.View.{content}
use Rattle.grain_parse.proofs.PoolEntries.{first_leads}
use Rattle.grain_parse.proofs.pools.place_of_constant.Goals as goal

pub returns : goal.returns
returns c =
    first_leads _ (λ _. Unit {0}) _ _
    (IsFirst-from_position _ _ _ (λ other. content other ≡ content c.args.value.now) (λ _. Unit {0}) c.position.ensures.ran (YieldsList-from_slice c.args.consts.now cc) (λ x q k. (same_Decides (content x.now) (content c.args.value.now)).0 (search (rules, tests))) (λ x q k. search (rules, tests)))
