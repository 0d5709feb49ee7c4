-- The positions of code: for each byte a place in the source text. And how an address table stands for them; in this file
-- a table is an address table.
use Rattle.std.specs.Prelude.{◌≡◌, ◌≢◌, ℕ, ◌-◌, ◌/◌, ◌%◌, ◌^◌, ◌≤◌, ◌⊎◌, replicate, Bool, true, false, List, [], ◌∷◌, ◌++◌, length, take, drop}
use Rattle.std.specs.Prelude.{map, filter_map, count_by, codes, decimal, nat_lt, nat_le, slice_get, slice_set}
use Rattle.std.specs.Prelude.{Option, Some, None, is_some, is_none, unwrap_or, option_map, option_and_then, ◌==◌, ◌||◌, if◌then◌else◌}
use Rattle.std.specs.Fmt.{digits}
use Rattle.std.specs.List.{prefix_len, list_all, list_any, enumerate_from, range_with_len}
use Rattle.grain_base.specs.AddressTable.{Entry, Table, AreDue, FirstFlaw, site_at, debug_text_of}
use Rattle.grain_base.specs.EntriesLeft.{EntriesLeft}
use Rattle.grain_base.specs.Place.{place_of}
use Rattle.grain_base.specs.declared.pos.Site.{Site}
use Rattle.grain_base.specs.declared.position.Position.{Position}
use Rattle.grain_bytecode.specs.ChainStream.{stream_error_text as stream_text}
use Rattle.grain_code.specs.Split.{NoneStandsAt, Split}
use Rattle.grain_bytecode.specs.declared.positions.Positions.{Positions}
use Rattle.grain_bytecode.specs.declared.positions.Positions.TheVariants.{Stripped, Dense}
use Rattle.grain_bytecode.specs.declared.positions.StripError.{StripError}
use Rattle.grain_bytecode.specs.declared.positions.StripError.TheVariants as strip_error
use Rattle.grain_bytecode.specs.declared.positions.TableError.{TableError}
use Rattle.grain_bytecode.specs.declared.positions.TableError.TheVariants as table_error

-- a line and a column, or no place
abbrev pub Place : Type 0
Place = Option (ℕ × ℕ)

-- the places of the code's bytes, if they aren't stripped
abbrev pub places : Positions → Option (List Place)
places Stripped = None
places (Dense positions) = Some (map place_of positions.items)

-- places, stripped if there is none among them
abbrev pub dense : List Place → Option (List Place)
dense list = if list_all is_none list then None else Some list

-- the place at an address; there is none if they are stripped, and none past the last
abbrev pub place_at : Option (List Place) → ℕ → Place
place_at None at = None
place_at (Some list) at = unwrap_or (slice_get list at) None

-- the place of a site, which is none if its line is 0 or a number is above 65535
abbrev pub site_place : Site → Place
site_place site = if site.line == 0 || nat_lt 65535 site.line || nat_lt 65535 site.column then None else Some (site.line, site.column)

-- an entry for a place, if it is one, at its address
abbrev pub entry_of : ℕ × Place → Option Entry
entry_of item = option_map (λ place. (item.0, record { line = place.0; column = place.1 })) item.1

-- an entry for each place that there is, with its address
abbrev pub entries_at_places : Option (List Place) → List Entry
entries_at_places None = []
entries_at_places (Some list) = filter_map entry_of (enumerate_from 0 list)

-- Reading the code arrives at these addresses: at the starts of its longest front that splits and, if that front isn't
-- the whole code, last at the address where it ends.
pub record Arrived (code arrived : List ℕ) : Type 0 where
  pub end : ℕ
  pub starts : List ℕ
  pub inside : end ≤ length code
  pub front : Split (take end code) starts
  pub longest : NoneStandsAt code end
  pub addresses : arrived ≡ starts ++ (if nat_lt end (length code) then end ∷ [] else [])

-- the site of an address of the code; none has one that doesn't fit u32
abbrev pub code_site : List Entry → ℕ → Option Site
code_site list at = if nat_le at 4294967295 then site_at list at else None

-- how many of the addresses have a site
abbrev pub matched : List Entry → List ℕ → ℕ
matched list arrived = count_by (λ at. is_some (code_site list at)) arrived

-- the place of a byte: that of its site, if the byte is one of those arrived at
abbrev pub byte_place : List Entry → List ℕ → ℕ → Place
byte_place list arrived at = if list_any (λ there. there == at) arrived then option_and_then site_place (code_site list at) else None

-- the places of the code's bytes by a table's entries
abbrev pub table_places : List Entry → List ℕ → List ℕ → List Place
table_places list arrived code = map (byte_place list arrived) (range_with_len 0 (length code))

-- What is read of a table and code: nothing of a table without entries, else the places by its entries, each of which has
-- to be met where reading the code arrives.
pub record IsRead (table code : List ℕ) (found : Option (List Place)) : Type 0 where
  pub list : List Entry
  pub is : Table table list
  pub whole : (list ≡ []) × (found ≡ None) ⊎ ((arrived : List ℕ) × Arrived code arrived × (matched list arrived ≡ length list) × (found ≡ dense (table_places list arrived code)))

-- a place is written if there is a site, and nothing else
abbrev pub IsPlaced : Option Site → ℕ → List Position → List Position → Bool → Type 0
IsPlaced None at old new met = (new ≡ old) × (met ≡ false)
IsPlaced (Some site) at old new met = (position : Position) × (place_of position ≡ site_place site) × (new ≡ slice_set old at position) × (met ≡ true)

-- The entries ahead of a walk over a table: the one that was read last, and those that are due, which stand there.
abbrev pub AreAhead : Option Entry → EntriesLeft → List Entry → Type 0
AreAhead None left list = list ≡ []
AreAhead (Some entry) left list = (others : List Entry) × AreDue left others × (list ≡ entry ∷ others)

-- the entries from the first on that stands at an address or behind it
abbrev pub from_address : ℕ → List Entry → List Entry
from_address at list = drop (prefix_len (λ entry. nat_lt entry.0 at) list) list

-- The table is one, but has this many entries, of which only that many have a place in the code.
pub record Exceeds (table code : List ℕ) (entries some : ℕ) : Type 0 where
  pub list : List Entry
  pub arrived : List ℕ
  pub is : Table table list
  pub reads : Arrived code arrived
  pub counted : entries ≡ length list
  pub found : some ≡ matched list arrived
  pub differ : some ≢ entries

-- why positions can't be read from a table and code; memory is only asked for where the table has entries
abbrev pub IsRefusal : List ℕ → List ℕ → TableError → Type 0
IsRefusal table code (table_error.Malformed error) = FirstFlaw table error
IsRefusal table code (table_error.PastTheEnd entries some instructions) = Exceeds table code entries some × (instructions ≡ length code)
IsRefusal table code table_error.OutOfMemory = (entry : Entry) × (list : List Entry) × Table table (entry ∷ list)
IsRefusal table code (table_error.WrongProgram expected found) = ⊥
IsRefusal table code (table_error.ChainStream error) = ⊥
IsRefusal table code (table_error.ChainCount sites slots) = ⊥

-- 16 lower case digits of a number of 64 bits to the base 16
abbrev pub hex_half : ℕ → List ℕ
hex_half n = replicate (16 - length (digits 16 false n)) 48 ++ digits 16 false n

-- what is printed of the number of a program: 0x and 32 digits
abbrev pub id_text : ℕ → List ℕ
id_text id = codes "0x" ++ (hex_half (id / 2 ^ 64) ++ hex_half (id % 2 ^ 64))

-- what is printed of an error
abbrev pub positions_error_text : TableError → List ℕ
positions_error_text (table_error.Malformed error) = codes "position table is malformed: " ++ debug_text_of error
positions_error_text (table_error.PastTheEnd entries some instructions) =
    codes "position table has " ++ (decimal entries ++ (codes " entries but only " ++ (decimal some
    ++ (codes " begin an instruction of this chunk's " ++ (decimal instructions ++ codes " code bytes, so it is a different program's")))))
positions_error_text (table_error.WrongProgram expected found) =
    codes "sidecar belongs to debug id " ++ (id_text expected ++ (codes ", not to this program's " ++ id_text found))
positions_error_text (table_error.ChainStream error) = stream_text error
positions_error_text (table_error.ChainCount sites slots) =
    codes "chain site stream holds " ++ (decimal sites ++ (codes " sites but this program's chains carry " ++ (decimal slots ++ codes " positions, so it is a different program's")))
positions_error_text table_error.OutOfMemory = codes "out of memory"

-- what is printed if positions can't be written
abbrev pub strip_error_text : StripError → List ℕ
strip_error_text strip_error.AddressTooWide = codes "a position stands at an address above 4294967295"
strip_error_text strip_error.OutOfMemory = codes "out of memory"
