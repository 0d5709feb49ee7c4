use Rattle.std.proofs.Common.{ℕ, subst}
use Rattle.std.specs.List.{All}
use Rattle.std.specs.Iterator.{Yields}
use Rattle.grain_code.specs.Disassembly.{IsDisassembly, StepsOn}
use Rattle.grain_code.specs.Unread.{Unread}
use Rattle.grain_code.specs.declared.op.Op.{Op}
use Rattle.grain_rules.specs.Capabilities.{Allows}
use Rattle.grain_rules.specs.Rows.{caps_of}
use Rattle.grain_needs.proofs.Accumulated.{least_more, suffice_more}
use Rattle.grain_needs.proofs.Disassemblies.{one_disassembly}
use Rattle.grain_needs.proofs.capabilities.caps_of_code.Goals as goal

pub loop-op-preserved : goal.loop-op-preserved
loop-op-preserved g c = record {
  suffice = λ s e. suffice_more (λ (item : ℕ × Op). caps_of s item.1) c.loop-op.yielded (c.in-Some.field-0-0, c.in-Some.op) c.loop-op.all.0 c.caps_of_op.result.0 c.union-all.result.0 (c.union-all.ensures tt) (c.caps_of_op.ensures s e) (c.loop-op.invariant.suffice s e);
  least = λ s e others. least_more (λ (item : ℕ × Op). caps_of s item.1) c.loop-op.yielded (c.in-Some.field-0-0, c.in-Some.op) c.loop-op.all.0 c.caps_of_op.result.0 c.union-all.result.0 (c.union-all.ensures tt) (c.caps_of_op.ensures s e) others (c.loop-op.invariant.least s e others);
}

pub returns-clause-suffice : goal.returns-clause-suffice
returns-clause-suffice g c = λ s e items are.
    let found : IsDisassembly 0 c.args.code.now c.loop-op.yielded = c.disassemble-op-items.ensures.gives c.loop-op.yielded (c.next.new.self, (c.loop-op.op-iterator, subst (λ (s : Unread). Yields StepsOn s c.loop-op.yielded c.loop-op.op-iterator) c.into_iter-op-iterator.ensures.into_iter_gives c.loop-op.yielded_by, c.in-None.ensures.steps)) in
    subst (All (λ (item : ℕ × Op). Allows c.loop-op.all.0 (caps_of s item.1))) (one_disassembly 0 c.args.code.now c.loop-op.yielded items found are) (c.loop-op.invariant.suffice s e)

pub returns-clause-least : goal.returns-clause-least
returns-clause-least g c = λ s e others each.
    let found : IsDisassembly 0 c.args.code.now c.loop-op.yielded = c.disassemble-op-items.ensures.gives c.loop-op.yielded (c.next.new.self, (c.loop-op.op-iterator, subst (λ (s : Unread). Yields StepsOn s c.loop-op.yielded c.loop-op.op-iterator) c.into_iter-op-iterator.ensures.into_iter_gives c.loop-op.yielded_by, c.in-None.ensures.steps)) in
    c.loop-op.invariant.least s e others (each c.loop-op.yielded found)
