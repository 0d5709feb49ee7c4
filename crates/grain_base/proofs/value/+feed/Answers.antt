use Rattle.std.proofs.Common.{◌≡◌, arith, length}
use Rattle.std.proofs.lemmas.Grind.{common_steps}
use Rattle.grain_base.proofs.Parts.{item_count_is}
use Rattle.grain_base.specs.Content.{item_count}
use Rattle.grain_base.specs.View.{items_content}
use Rattle.grain_base.proofs.value.+feed.Goals as goal

pub feed_items-returns : goal.feed_items-returns
feed_items-returns g t c =
    let counted : item_count (items_content c.args.items.now) ≡ length c.args.items.now = item_count_is c.args.items.now in
    grind (arith, common_steps, counted)
