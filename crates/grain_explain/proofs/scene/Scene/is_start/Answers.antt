use Rattle.grain_rules.proofs.ListedStarts.{listed_start, start_listed}
use Rattle.grain_explain.proofs.scene.Scene.is_start.Goals as goal

pub returns : goal.returns
returns g c =
    let code = c.args.self.now.code.now in
    let starts = c.args.self.now.starts.now.starts in
    let at = c.args.at in
    (λ t. listed_start code starts at c.requires (c.contains.ensures.0 t), λ s. c.contains.ensures.1 (start_listed code starts at c.requires s))
