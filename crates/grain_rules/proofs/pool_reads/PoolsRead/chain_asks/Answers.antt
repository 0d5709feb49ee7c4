use Rattle.std.proofs.Common.{ap, sym, ◌∙◌, option_map}
use Rattle.std.specs.Borrow.{Bor}
use Rattle.grain_pools.specs.declared.chain.Chain.{Chain}
use Rattle.grain_rules.specs.Facts.{ChainFacts, chain_facts}
use Rattle.grain_rules.proofs.EntryFacts.{said_at, said_nowhere}
use Rattle.grain_rules.proofs.pool_reads.PoolsRead.chain_asks.Goals as goal

pub returns-in-Some : goal.returns-in-Some
returns-in-Some c =
    c.chain_caps.ensures
    ∙ sym (said_at chain_facts (λ (f : ChainFacts). f.asks) c.args.self.now.chains.now c.args.chain c.in-Some.chain.now 0 (sym c.chain_at.ensures ∙ ap (option_map (λ (c : Bor Chain). c.now)) c.in-Some.is))

pub returns-in-None : goal.returns-in-None
returns-in-None c =
    c.empty.ensures tt
    ∙ sym (said_nowhere chain_facts (λ (f : ChainFacts). f.asks) c.args.self.now.chains.now c.args.chain 0 (sym c.chain_at.ensures ∙ ap (option_map (λ (c : Bor Chain). c.now)) c.in-None.is))
