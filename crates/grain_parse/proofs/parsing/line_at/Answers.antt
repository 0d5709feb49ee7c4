use Rattle.std.proofs.Common.{ℕ, List, [], ap, ◌∙◌}
use Rattle.std.specs.Option.{option_map}
use Rattle.std.proofs.lemmas.Option.{slice_get-get_or, slice_get-map}
use denote.Ref.{Bor}
use Rattle.grain_parse.proofs.parsing.line_at.Goals as goal

-- the line that is read is the one that is got
pub returns : goal.returns
returns c =
    let text : Bor (List ℕ) → List ℕ = λ line. line.now in
    slice_get-map text c.args.lines.now c.args.at
    ∙ ap (option_map text) (slice_get-get_or c.args.lines.now c.args.at (record { ref_ptr = (0, 0); now = [] }) c.requires)
