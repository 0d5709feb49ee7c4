use Rattle.grain_explain.specs.RowView.{plain_base, list_in}
use Rattle.grain_explain.proofs.Bases.{base_ext}
use Rattle.grain_explain.proofs.SharedLists.{ends_same}
use Rattle.grain_explain.proofs.lists.behind_both.Goals as goal

pub returns : goal.returns
returns c =
    let bases = c.args.bases.now in
    let here = c.in-Some.here in
    let there = c.in-Some-first_base.there in
    let left = c.in-Some.ensures in
    let right = c.in-Some-first_base.ensures in (
      ends_same (plain_base here) (plain_base there) (list_in bases here.next) (list_in bases there.next) (list_in bases c.args.left) (list_in bases c.args.right) left.0 right.0
          (base_ext (plain_base here) (plain_base there) c.if-here-there.false c.if-here-there-2.false),
      left.1,
      right.1,
    )
