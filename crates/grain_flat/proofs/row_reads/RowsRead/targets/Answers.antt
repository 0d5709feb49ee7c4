use Rattle.std.proofs.Common.{rules, ◌≡◌, List, ℕ, [], None, Option, slice_get, ap, sym, ◌∙◌}
use Rattle.std.specs.Option.{unwrap_or}
use Rattle.std.proofs.lemmas.Option.{unwrap_or-slice_get}
use Rattle.grain_flat.specs.RowFacts.{leads_of}
use Rattle.grain_flat.proofs.row_reads.RowsRead.targets.Goals as goal

pub returns-in-None : goal.returns-in-None
returns-in-None c =
    let leads = leads_of c.args.self.now in
    let none : slice_get leads c.args.switch ≡ None = search rules in
    ap (λ (o : Option (List ℕ)). unwrap_or o []) (sym none) ∙ unwrap_or-slice_get leads c.args.switch []
