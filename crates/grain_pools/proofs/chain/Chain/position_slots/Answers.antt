use Rattle.std.proofs.Common.{arith}
use Rattle.grain_pools.proofs.Slots.{chain_slots}
use Rattle.grain_pools.proofs.chain.Chain.position_slots.Goals as goal

pub slots_of-requires : goal.slots_of-requires
slots_of-requires c = rw c.deref.ensures.value (omega (arith, chain_slots c.args.self.now))

pub overflow_add-result : goal.overflow_add-result
overflow_add-result c = let slots = rw c.deref.ensures.value at c.slots_of.ensures in omega (arith, slots, chain_slots c.args.self.now)

pub returns : goal.returns
returns c = let slots = rw c.deref.ensures.value at c.slots_of.ensures in omega (arith, slots, chain_slots c.args.self.now)
