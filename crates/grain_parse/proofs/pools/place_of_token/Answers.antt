use Rattle.std.proofs.Common.{◌≡◌, rules, tests}
use Rattle.std.proofs.lemmas.Iterator.{IsFirst-from_position, YieldsList-from_slice}
use Rattle.grain_base.specs.Tokens.{token_parts}
use Rattle.grain_base.specs.declared.token.Token.{Token}
use Rattle.grain_parse.proofs.PoolEntries.{first_leads}
use Rattle.grain_parse.proofs.pools.place_of_token.Goals as goal

pub returns : goal.returns
returns c =
    first_leads _ (λ _. Unit {0}) _ _
    (IsFirst-from_position _ _ _ (λ (other : Token). token_parts other ≡ token_parts c.args.token.now) (λ _. Unit {0}) c.position.ensures.ran (YieldsList-from_slice c.args.tokens.now cc) (λ x q k. search (rules, tests)) (λ x q k. search (rules, tests)))
