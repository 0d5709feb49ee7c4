use Rattle.std.proofs.Common.{◌≡◌, ◌↔◌, ◌≤◌, length}
use Rattle.grain_explain.specs.RowView.{list_in}
use Rattle.grain_explain.proofs.lists.are_same.Given as goal

abbrev pub invariant-loop-left : goal.invariant-loop-left
invariant-loop-left l = record {
  left : l.left ≤ length l.bases;
  right : l.right ≤ length l.bases;
  same : (list_in l.bases l.one ≡ list_in l.bases l.other) ↔ (list_in l.bases l.left ≡ list_in l.bases l.right);
}

abbrev pub decreases-loop-left : goal.decreases-loop-left
decreases-loop-left l = l.left
