use Rattle.std.proofs.Common.{arith, rules}
use Rattle.grain_base.proofs.TableEncoding.{encoded_none, encoded_without, encoded_with, encoded_end, not_below, shortest_table}
use Rattle.grain_base.proofs.pos.encode.Goals as goal

pub loop-address-init : goal.loop-address-init
loop-address-init c = encoded_none _ _ c.requires (rw (c.count_kept.ensures, c.new-table.ensures.items) at c.in_ok-put_u64.ensures.ok)

pub overflow_sub-address : goal.overflow_sub-address
overflow_sub-address c = not_below _ _ _ _ _ c.loop-address.invariant c.loop-address-test.true c.if-site-eq0.false

pub loop-address-preserved-then-site-eq0 : goal.loop-address-preserved-then-site-eq0
loop-address-preserved-then-site-eq0 c = encoded_without _ _ _ _ _ c.loop-address.invariant c.loop-address-test.true c.if-site-eq0.true

pub loop-address-preserved : goal.loop-address-preserved
loop-address-preserved c =
    encoded_with _ _ _ _ _ _ _ _ c.loop-address.invariant c.loop-address-test.true c.if-site-eq0.false (search rules, search rules, search rules)
    (rw c.from.ensures at c.in_ok-put_u64-2.ensures.ok) (rw c.from-in-loop-address.ensures at c.in_ok-put_u64-3.ensures.ok) (rw c.from-in-loop-address-2.ensures at c.in_ok-put_u64-4.ensures.ok)

pub returns-clause-written : goal.returns-clause-written
returns-clause-written c = (encoded_end _ _ _ _ c.loop-address.invariant (omega arith)).0

pub returns-clause-table : goal.returns-clause-table
returns-clause-table c few =
    let done = encoded_end _ _ _ _ c.loop-address.invariant (omega arith) in
    shortest_table _ _ c.requires done.1 few done.0
