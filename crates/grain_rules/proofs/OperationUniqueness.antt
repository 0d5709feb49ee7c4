-- One operation is read at a place.
use Rattle.std.proofs.Common.{◌≡◌, ℕ, List, take, drop, ap, sym, ◌∙◌}
use Rattle.std.proofs.lemmas.List.{take-append-drop}
use Rattle.std.proofs.lemmas.Option.{same_Some}
use Rattle.grain_code.specs.InstructionTable.{width_of}
use Rattle.grain_code.specs.Split.{StandsAt}
use Rattle.grain_code.specs.declared.op.Op.{Op}
use Rattle.grain_code.proofs.FieldBytes.{one_instruction}
use Rattle.grain_rules.specs.Layout.{Layout, Coded, Listed, Reads}

pub stands_once : (bytes : List ℕ) (at : ℕ) (op other : Op) → StandsAt bytes at op → StandsAt bytes at other → op ≡ other
stands_once bytes at op other h k =
    (one_instruction (take (width_of op) (drop at bytes)) (take (width_of other) (drop at bytes)) (drop (width_of op) (drop at bytes)) (drop (width_of other) (drop at bytes)) op other h k
    (take-append-drop (width_of op) (drop at bytes) ∙ sym (take-append-drop (width_of other) (drop at bytes)))).1

pub reads_once : (layout : Layout) (at : ℕ) (op other : Op) → Reads layout at op → Reads layout at other → op ≡ other
reads_once (Coded bytes switches) at op other a b = stands_once bytes at op other a b
reads_once (Listed ops switches) at op other a b = same_Some op other (sym a ∙ b)

-- the width that was read is that of the operation that was
pub wide : (bytes : List ℕ) (at width : ℕ) (op : Op) → ((other : Op) × StandsAt bytes at other × (width ≡ width_of other)) → StandsAt bytes at op → width ≡ width_of op
wide bytes at width op (other, h, e) k = e ∙ ap width_of (stands_once bytes at other op h k)
