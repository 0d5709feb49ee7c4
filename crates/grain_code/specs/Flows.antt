-- What flows, and rows of the table of tags, say of operations.
use Rattle.std.specs.Prelude.{⊤, Bool, true, false}
use Rattle.grain_code.specs.declared.flow.Flow.{Flow}
use Rattle.grain_code.specs.declared.flow.Flow.TheVariants as ways
use Rattle.grain_code.specs.declared.tag_table.TagRow.{TagRow}

-- it leads to an address, which is the first field of the operation
abbrev pub HasTarget : Flow → Type 0
HasTarget ways.Falls = ⊥
HasTarget ways.Ends = ⊥
HasTarget ways.Jumps = ⊤
HasTarget ways.Branches = ⊤
HasTarget ways.Switches = ⊥
HasTarget ways.BeginsIterator = ⊥
HasTarget ways.AdvancesIterator = ⊤
HasTarget ways.EndsIterator = ⊥
HasTarget ways.PushesHandler = ⊤
HasTarget ways.PopsHandler = ⊥

-- operations with this flow do what their row says, whatever their fields are; of those that fall through, the plain ones
abbrev pub fixes : Flow → Bool → Bool
fixes ways.Falls plain = plain
fixes ways.Ends plain = true
fixes ways.Jumps plain = true
fixes ways.Branches plain = true
fixes ways.Switches plain = false
fixes ways.BeginsIterator plain = true
fixes ways.AdvancesIterator plain = true
fixes ways.EndsIterator plain = true
fixes ways.PushesHandler plain = true
fixes ways.PopsHandler plain = true

abbrev pub is_fixed : TagRow → Bool
is_fixed row = fixes row.flow row.is_plain
