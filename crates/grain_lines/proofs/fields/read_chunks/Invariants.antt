use Rattle.std.proofs.Common.{◌≡◌, ◌++◌, length}
use Rattle.std.specs.Option.{option_map}
use Rattle.grain_lines.specs.Fields.{chunks_spelled}
use Rattle.grain_lines.specs.Words.{words}
use Rattle.grain_lines.proofs.fields.read_chunks.Given as goal

-- some words were read, and spell these chunks
abbrev pub invariant-reading : goal.invariant-reading
invariant-reading l = chunks_spelled (words l.fields) ≡ option_map (λ more. l.chunks.items ++ more) (chunks_spelled (words l.rest))

abbrev pub decreases-reading : goal.decreases-reading
decreases-reading l = length (words l.rest)
