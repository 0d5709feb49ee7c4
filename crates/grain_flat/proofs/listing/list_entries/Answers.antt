use Rattle.std.proofs.Common.{◌≡◌, ◌++◌, ◌∷◌, [], List, refl, sym, ap, subst, ◌∙◌, arith, rules, append-nil}
use Rattle.std.proofs.lemmas.List.{length-append}
use Rattle.grain_base.specs.AddressTable.{Entry, LongestFront}
use Rattle.grain_base.proofs.AllEntries.{all_left, left, left_more, left_none}
use Rattle.grain_base.proofs.Entries.{front, front_is}
use Rattle.grain_flat.specs.Listing.{entry_row}
use Rattle.grain_flat.proofs.Listed.{filled_none, mapped_more}
use Rattle.grain_flat.proofs.ListedEntries.{given_more, one_left}
use Rattle.grain_flat.proofs.listing.list_entries.Goals as goal

pub loop-address-init : goal.loop-address-init
loop-address-init c =
    let same : c.into_iter-address-iterator.result ≡ c.entries-address-items.result = search rules in
    let all : left c.into_iter-address-iterator.result ≡ front c.args.table.now = ap left same ∙ all_left c.args.table.now _ c.entries-address-items.ensures.gives in
    (tt, tt, ([], sym all, refl, filled_none c.args.room.now))

pub overflow_add-count : goal.overflow_add-count
overflow_add-count c =
    let done = c.loop-address.invariant.2 in
    let entry : Entry = (c.in-Some.address, c.in-Some.site) in
    let next = left_more c.loop-address.address-iterator c.next.new.self entry c.in-Some.ensures.steps in
    let more : front c.args.table.now ≡ done.0 ++ entry ∷ left c.next.new.self = done.1 ∙ ap (λ (xs : List Entry). done.0 ++ xs) next in
    omega (arith, done.2, one_left c.args.table.now done.0 (left c.next.new.self) entry more)

pub loop-address-preserved : goal.loop-address-preserved
loop-address-preserved c =
    let done = c.loop-address.invariant.2 in
    let entry : Entry = (c.in-Some.address, c.in-Some.site) in
    let one = left_more c.loop-address.address-iterator c.next.new.self entry c.in-Some.ensures.steps in (
      tt,
      tt,
      (
        done.0 ++ entry ∷ [],
        given_more (front c.args.table.now) done.0 (left c.loop-address.address-iterator) (left c.next.new.self) entry done.1 one,
        omega (arith, done.2, length-append done.0 (entry ∷ [])),
        mapped_more entry_row done.0 c.args.room.now c.loop-address.room c.put_at.new.room c.loop-address.count entry done.3 done.2 c.put_at.ensures,
      ),
    )

pub returns : goal.returns
returns c =
    let done = c.loop-address.invariant.2 in
    let all : front c.args.table.now ≡ done.0 = done.1 ∙ ap (λ (xs : List Entry). done.0 ++ xs) (left_none c.loop-address.address-iterator c.in-None.ensures.steps.0) ∙ append-nil done.0 in
    (done.0, subst (λ (list : List Entry). LongestFront c.args.table.now list) all (front_is c.args.table.now), done.2, done.3)
