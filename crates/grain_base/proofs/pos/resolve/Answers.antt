use Rattle.std.proofs.Common.{◌≡◌, List, sym, ap, ◌∙◌, rules}
use Rattle.grain_base.specs.AddressTable.{Entry, site_at}
use Rattle.grain_base.proofs.Entries.{front, front_is}
use Rattle.grain_base.proofs.AllEntries.{left, all_left}
use Rattle.grain_base.proofs.SiteLookup.{site_more, site_here, site_past, site_none, known_none, known_some}
use Rattle.grain_base.proofs.pos.resolve.Goals as goal

pub loop-here-init : goal.loop-here-init
loop-here-init c =
    let same : c.into_iter-here-iterator.result ≡ c.entries-here-items.result = search rules in
    let all : left c.into_iter-here-iterator.result ≡ front c.args.table.now = ap left same ∙ all_left c.args.table.now _ c.entries-here-items.ensures.gives in
    (tt, tt, ap (λ (list : List Entry). site_at list c.args.address) all)

pub returns-then-site-eq0 : goal.returns-then-site-eq0
returns-then-site-eq0 c =
    let table = c.args.table.now in
    (front table, front_is table, sym (known_none (c.in-Some.here, c.in-Some.site) c.if-site-eq0.true) ∙ sym (site_here _ _ _ _ c.in-Some.ensures.steps c.if-here-address.true) ∙ c.loop-here.invariant.2)

pub returns-else-site-eq0 : goal.returns-else-site-eq0
returns-else-site-eq0 c =
    let table = c.args.table.now in
    (front table, front_is table, sym (known_some (c.in-Some.here, c.in-Some.site) c.if-site-eq0.false) ∙ sym (site_here _ _ _ _ c.in-Some.ensures.steps c.if-here-address.true) ∙ c.loop-here.invariant.2)

pub returns-then-here-address-2 : goal.returns-then-here-address-2
returns-then-here-address-2 c =
    let table = c.args.table.now in
    (front table, front_is table, sym (site_past _ _ _ _ c.in-Some.ensures.steps c.if-here-address-2.true) ∙ c.loop-here.invariant.2)

pub loop-here-preserved : goal.loop-here-preserved
loop-here-preserved c = (tt, tt, sym (site_more _ _ _ _ c.in-Some.ensures.steps c.if-here-address.false) ∙ c.loop-here.invariant.2)

pub returns : goal.returns
returns c =
    let table = c.args.table.now in
    (front table, front_is table, sym (site_none _ _ c.in-None.ensures.steps.0) ∙ c.loop-here.invariant.2)
