use Rattle.grain_base.specs.ContentLaws.{same_Decides}
use Rattle.grain_base.proofs.laws.equality_is_of_content.Goals as goal

pub returns : goal.returns
returns c x y = same_Decides x y
