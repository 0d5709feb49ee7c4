-- Lists as they are written into room that a caller has.
use Rattle.std.specs.Prelude.{List, ◌++◌, drop, length, take, Option, Some, None}
use Rattle.grain_base.specs.AddressTable.{Entry}
use Rattle.grain_base.specs.declared.pos.Site.{Site}
use Rattle.grain_flat.specs.declared.records.CEntry.{CEntry}
use Rattle.grain_flat.specs.declared.records.CPlace.{CPlace}

-- the room with the items in front, as many as it has places for, and then what it had
abbrev pub filled : {A : Type 0} → List A → List A → List A
filled items room = take (length room) items ++ drop (length items) room

-- an entry of an address table as a record
abbrev pub entry_row : Entry → CEntry
entry_row entry = record { address = entry.0; line = entry.1.line; column = entry.1.column }

-- a site as a record, whose line is 0 if there is none
abbrev pub place_row : Option Site → CPlace
place_row None = record { line = 0; column = 0 }
place_row (Some site) = record { line = site.line; column = site.column }
