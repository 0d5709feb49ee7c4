use Rattle.std.proofs.Common.{List, ℕ, ap, sym, ◌∙◌, option_map}
use Rattle.std.specs.Borrow.{Bor}
use Rattle.grain_rules.specs.Capabilities.{name_caps}
use Rattle.grain_rules.proofs.EntryFacts.{said_past}
use Rattle.grain_rules.proofs.pool_reads.PoolsRead.name_asks.Goals as goal

pub returns-in-None : goal.returns-in-None
returns-in-None c =
    let none = said_past name_caps c.args.self.now.names.now c.args.name 0 (sym c.get.ensures ∙ ap (option_map (λ (s : Bor (List ℕ)). s.now)) c.in-None.is) in
    c.empty.ensures tt ∙ sym none
