use Rattle.std.proofs.Common.{List, [], ap, map, sym, ◌∙◌, option_map}
use Rattle.std.specs.Borrow.{Bor}
use Rattle.grain_pools.specs.declared.chain.Chain.{Chain}
use Rattle.grain_rules.specs.Facts.{ChainFacts, Mention, chain_facts, facts_of}
use Rattle.grain_rules.specs.FirstOut.{alone, first_out}
use Rattle.grain_rules.specs.Indices.{test_of}
use Rattle.grain_rules.proofs.EntryFacts.{said_at, said_nowhere}
use Rattle.grain_rules.proofs.pool_reads.PoolsRead.check_chain.Goals as goal

pub returns-in-Some : goal.returns-in-Some
returns-in-Some c =
    let pools = c.args.self.now in
    let named = said_at chain_facts (λ (f : ChainFacts). f.mentions) pools.chains.now c.args.chain c.in-Some.chain.now [] (sym c.chain_at.ensures ∙ ap (option_map (λ (c : Bor Chain). c.now)) c.in-Some.is) in
    c.check_inside.ensures ∙ ap (λ (ms : List Mention). first_out (map (test_of (alone (facts_of pools))) ms)) (sym named)

pub returns-in-None : goal.returns-in-None
returns-in-None c =
    let pools = c.args.self.now in
    let none = said_nowhere chain_facts (λ (f : ChainFacts). f.mentions) pools.chains.now c.args.chain [] (sym c.chain_at.ensures ∙ ap (option_map (λ (c : Bor Chain). c.now)) c.in-None.is) in
    ap (λ (ms : List Mention). first_out (map (test_of (alone (facts_of pools))) ms)) (sym none)
