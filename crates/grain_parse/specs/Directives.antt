-- Directives that begin sections, and the passes that read these.
use Rattle.std.specs.Prelude.{ℕ, List, codes}
use Rattle.grain_parse.specs.declared.sections.Pass.{Pass}
use Rattle.grain_parse.specs.declared.sections.Pass.TheVariants as passes
use Rattle.grain_parse.specs.declared.sections.Section.{Section}
use Rattle.grain_parse.specs.declared.sections.Section.TheVariants as sections

-- the directive with which a section begins
abbrev pub directive_of : Section → List ℕ
directive_of sections.Names = codes ".names"
directive_of sections.Constants = codes ".constants"
directive_of sections.Operators = codes ".operators"
directive_of sections.OpAssignments = codes ".op-assignments"
directive_of sections.Chains = codes ".chains"
directive_of sections.Switches = codes ".switches"
directive_of sections.Chunks = codes ".chunks"
directive_of sections.Code = codes ".code"
directive_of sections.Places = codes ".places"

-- the pass that reads the entries of a section
abbrev pub pass_of : Section → Pass
pass_of sections.Names = passes.Entries
pass_of sections.Constants = passes.Entries
pass_of sections.Operators = passes.Entries
pass_of sections.OpAssignments = passes.OpAssignments
pass_of sections.Chains = passes.Rest
pass_of sections.Switches = passes.Rest
pass_of sections.Chunks = passes.Rest
pass_of sections.Code = passes.Rest
pass_of sections.Places = passes.Rest
