use Rattle.std.proofs.Common.{◌<◌, [], ◌∷◌, length, sym, rules}
use Rattle.std.proofs.lemmas.List.Elements.{Contains-append_left}
use Rattle.rhai_compile.proofs.parts.target_at.Goals as goal

pub returns-then-place-len : goal.returns-then-place-len
returns-then-place-len c =
    let within : c.args.place < length c.args.targets.now.cases.items = search rules in
    Contains-append_left c.args.targets.now.cases.items (c.args.targets.now.default ∷ []) c.index.result.now (c.args.place, within, sym c.index.ensures)
