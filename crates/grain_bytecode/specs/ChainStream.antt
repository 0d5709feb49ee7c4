-- The stream of the positions of chains.
use Rattle.std.specs.Prelude.{◌≡◌, ℕ, ◌*◌, ◌<◌, ⊤, List, [], ◌∷◌, ◌++◌, length, codes, decimal, Option, Some, None, unwrap_or, option_map, ◌==◌, if◌then◌else◌}
use Rattle.grain_base.specs.declared.pos.Site.{Site}
use Rattle.grain_base.specs.declared.varint.Error.{Error as NumberError}
use Rattle.grain_base.specs.declared.varint.Error.TheVariants as number_error
use Rattle.grain_base.specs.Varint.{BeginsNumbers, U32Flaw, AreShortest}
use Rattle.grain_base.specs.Place.{place_of, line_of, column_of}
use Rattle.grain_base.specs.declared.position.Position.{Position}
use Rattle.std.specs.List.{flat_map}
use Rattle.grain_pools.specs.Chain.{positions}
use Rattle.grain_pools.specs.declared.chain.Chain.{Chain}
use Rattle.grain_bytecode.specs.declared.sites.StreamError.{StreamError}
use Rattle.grain_bytecode.specs.declared.sites.StreamError.TheVariants as stream_error

-- the site of a line and a column; line 0 says that there is none
abbrev pub site_of : ℕ → ℕ → Option Site
site_of line column = if line == 0 then None else Some (record { line = line; column = column })

-- the sites that lines and columns, in turn, give
abbrev pub sites_of : List ℕ → List (Option Site)
sites_of (line ∷ column ∷ numbers) = site_of line column ∷ sites_of numbers
sites_of (line ∷ []) = []
sites_of [] = []

-- The bytes are a stream of these slots: how many they are, and of each a line and a column, all numbers that fit u32.
pub record Stream (bytes : List ℕ) (slots : List (Option Site)) : Type 0 where
  pub numbers : List ℕ
  pub spelled : BeginsNumbers bytes (length slots ∷ numbers) []
  pub paired : length numbers ≡ 2 * length slots
  pub sites : slots ≡ sites_of numbers

-- The bytes can be read as a stream up to a slot, which is counted, and record this site for it.
pub record Records (bytes : List ℕ) (slot : ℕ) (site : Site) : Type 0 where
  pub count : ℕ
  pub before : List ℕ
  pub rest : List ℕ
  pub read : BeginsNumbers bytes (count ∷ before ++ site.line ∷ site.column ∷ []) rest
  pub place : length before ≡ 2 * slot
  pub counted : slot < count
  pub known : 0 < site.line

-- Behind these numbers of a stream another is due: its count, or one of the two of each slot.
abbrev pub IsSlotDue : List ℕ → Type 0
IsSlotDue [] = ⊤
IsSlotDue (count ∷ numbers) = length numbers < 2 * count

-- The first number of a stream that is due and can't be read can't for this reason.
pub record IsSlotUnreadable (bytes : List ℕ) (error : NumberError) : Type 0 where
  pub numbers : List ℕ
  pub left : List ℕ
  pub read : BeginsNumbers bytes numbers left
  pub unfinished : IsSlotDue numbers
  pub flaw : U32Flaw left error

-- a stream stands at the front of the bytes, and this many bytes follow it
pub record Trails (bytes : List ℕ) (count : ℕ) : Type 0 where
  pub stream : List ℕ
  pub more : List ℕ
  pub slots : List (Option Site)
  pub parts : bytes ≡ stream ++ more
  pub is : Stream stream slots
  pub some : 0 < count
  pub long : length more ≡ count

-- the first thing that is wrong with bytes that are no stream, in the order in which they are read
abbrev pub StreamFlaw : List ℕ → StreamError → Type 0
StreamFlaw bytes stream_error.Truncated = IsSlotUnreadable bytes number_error.Truncated
StreamFlaw bytes stream_error.Overflow = IsSlotUnreadable bytes number_error.Overflow
StreamFlaw bytes (stream_error.TrailingBytes count) = Trails bytes count
StreamFlaw bytes stream_error.OutOfMemory = ⊥

-- new is old with the shortest spellings of the numbers behind it
abbrev pub AppendsAll : List ℕ → List ℕ → List ℕ → Type 0
AppendsAll old new numbers = (written : List ℕ) × (new ≡ old ++ written) × AreShortest written numbers

-- the positions of chains, chain by chain
abbrev pub all_positions : List Chain → List Position
all_positions chains = flat_map positions chains

-- what is written of a position: its line and its column, 0 if it has none
abbrev pub numbers_of : Position → List ℕ
numbers_of p = unwrap_or (line_of p) 0 ∷ unwrap_or (column_of p) 0 ∷ []

-- the site of a position, which is none if the position has no place
abbrev pub recorded : Position → Option Site
recorded p = option_map (λ place. record { line = place.0; column = place.1 }) (place_of p)

-- an error of a number as one of a stream
abbrev pub as_stream_error : NumberError → StreamError
as_stream_error number_error.Truncated = stream_error.Truncated
as_stream_error number_error.Overflow = stream_error.Overflow

-- what is printed of an error
abbrev pub stream_error_text : StreamError → List ℕ
stream_error_text stream_error.Truncated = codes "chain position stream ends mid-slot"
stream_error_text stream_error.Overflow = codes "chain position stream holds a number too wide to read"
stream_error_text (stream_error.TrailingBytes count) = codes "chain position stream has " ++ decimal count ++ codes " bytes past its last slot"
stream_error_text stream_error.OutOfMemory = codes "out of memory"
