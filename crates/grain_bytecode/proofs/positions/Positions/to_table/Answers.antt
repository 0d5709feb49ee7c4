use Rattle.std.proofs.Common.{◌≡◌, ◌∙◌, Some, map, ap, sym}
use Rattle.grain_base.specs.AddressTable.{entries_with_site}
use Rattle.grain_base.specs.Place.{place_of}
use Rattle.grain_bytecode.specs.Positions.{places, entries_at_places}
use Rattle.grain_bytecode.proofs.PositionEntries.{entries_ascend, entries_kept}
use Rattle.grain_bytecode.proofs.positions.Positions.to_table.Goals as goal

pub encode-requires-in-Dense : goal.encode-requires-in-Dense
encode-requires-in-Dense c = rw (c.deref-in-Dense-2.ensures.value ∙ c.in_ok-sites-in-Dense.ensures) (entries_ascend c.deref-in-Dense.result.now)

pub returns-in_ok-encode-in-Dense-clause-written : goal.returns-in_ok-encode-in-Dense-clause-written
returns-in_ok-encode-in-Dense-clause-written c =
    let all : entries_with_site c.deref-in-Dense-2.result.now ≡ entries_at_places (places c.args.self.now) =
    ap entries_with_site (c.deref-in-Dense-2.ensures.value ∙ c.in_ok-sites-in-Dense.ensures) ∙ entries_kept c.deref-in-Dense.result.now
    ∙ ap (λ list. entries_at_places (Some (map place_of list))) c.deref-in-Dense.ensures.value ∙ ap (λ positions. entries_at_places (places positions)) (sym c.in-Dense.is) in
    rw (← all) c.in_ok-encode-in-Dense.ensures.written

pub returns-in_ok-encode-in-Dense-clause-table : goal.returns-in_ok-encode-in-Dense-clause-table
returns-in_ok-encode-in-Dense-clause-table c =
    let all : entries_with_site c.deref-in-Dense-2.result.now ≡ entries_at_places (places c.args.self.now) =
    ap entries_with_site (c.deref-in-Dense-2.ensures.value ∙ c.in_ok-sites-in-Dense.ensures) ∙ entries_kept c.deref-in-Dense.result.now
    ∙ ap (λ list. entries_at_places (Some (map place_of list))) c.deref-in-Dense.ensures.value ∙ ap (λ positions. entries_at_places (places positions)) (sym c.in-Dense.is) in
    rw (← all) c.in_ok-encode-in-Dense.ensures.table
