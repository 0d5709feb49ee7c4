use Rattle.std.proofs.Common.{List, ℕ, subst, sym, arith}
use Rattle.std.specs.List.{Contains}
use Rattle.std.proofs.lemmas.List.{length-map}
use Rattle.grain_rules.specs.Code.{switch_targets}
use Rattle.grain_rules.proofs.EntryFacts.{default_named}
use Rattle.grain_rules.proofs.pool_reads.PoolsRead.default_target.Goals as goal

pub returns-in-Some-clause-some : goal.returns-in-Some-clause-some
returns-in-Some-clause-some c =
    let found = c.in-Some.ensures.found in
    let s = c.in-Some.switch.now in
    (omega (arith, found.0, length-map c.args.self.now.switches.now switch_targets), subst (λ (ts : List ℕ). Contains ts s.default) (sym found.1) (default_named s))
