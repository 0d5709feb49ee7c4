-- Positions apart from their program: what is written of them, and how they come back.
use Rattle.std.specs.Prelude.{◌≡◌, ◌≢◌, ◌<◌, ◌^◌, ℕ, List, [], ◌∷◌, Option, None, length, map, min, option_and_then}
use Rattle.std.specs.List.{All, Contains, flat_map}
use Rattle.grain_base.specs.AddressTable.{Table, numbers_from}
use Rattle.grain_base.specs.Place.{place_of}
use Rattle.grain_base.specs.Varint.{AreShortest}
use Rattle.grain_base.specs.declared.pos.Site.{Site}
use Rattle.grain_base.specs.declared.position.Position.{Position}
use Rattle.grain_pools.specs.Chain.{shape}
use Rattle.grain_bytecode.specs.ChainStream.{Stream, StreamFlaw, all_positions, numbers_of, recorded}
use Rattle.grain_bytecode.specs.Positions.{IsRead, IsRefusal, Place, entries_at_places, site_place}
use Rattle.grain_code.specs.Split.{Split}
use Rattle.grain_bytecode.specs.declared.positions.TableError.{TableError}
use Rattle.grain_bytecode.specs.declared.positions.TableError.TheVariants as table_error
use Rattle.grain.specs.Program.{Program, places_of}
use Rattle.grain.specs.declared.sidecar.Sidecar.{Sidecar}

-- The programs differ in positions alone, in those of the code and those inside the chains: with one position in place of
-- each chain's, the chains are the same.
pub record DiffersInPositions (old new : Program) : Type 0 where
  pub chains : (p : Position) → map (shape p) new.chains ≡ map (shape p) old.chains
  pub rest : record new { positions = None; chains = [] } ≡ record old { positions = None; chains = [] }

-- The number of the program, the table of its positions and the stream of those in its chains, in shortest spellings.
pub record IsSidecar (p : Program) (s : Sidecar) : Type 0 where
  pub id : s.debug_id ≡ p.debug_id
  pub written : let list = entries_at_places (places_of p) in AreShortest s.positions.items (length list ∷ numbers_from 0 list)
  pub table : let list = entries_at_places (places_of p) in length list < 2 ^ 32 → Table s.positions.items list
  pub chains_written : let list = all_positions p.chains in AreShortest s.chains.items (length list ∷ flat_map numbers_of list)
  pub stream : let list = all_positions p.chains in length list < 2 ^ 32 → Stream s.chains.items (map recorded list)

-- The code is fewer than 2^32 bytes of whole instructions, at which the recorded addresses stand, and the chains carry fewer
-- than 2^32 positions.
pub record CanComeBack (p : Program) : Type 0 where
  pub starts : List ℕ
  pub split : Split p.code starts
  pub short : length p.code < 2 ^ 32
  pub recorded : All (λ entry. Contains starts entry.0) (entries_at_places (places_of p))
  pub few : length (all_positions p.chains) < 2 ^ 32

-- no position is left, and all else is as it was
pub record IsStripped (old new : Program) : Type 0 where
  pub positions : new.positions ≡ None
  pub chains : All (λ p. place_of p ≡ None) (all_positions new.chains)
  pub rest : DiffersInPositions old new

-- the table of the sidecar, which is of this program, is read with its code, and gives these places
pub record ReadsPlaces (p : Program) (s : Sidecar) (places : Option (List Place)) : Type 0 where
  pub own : s.debug_id ≡ p.debug_id
  pub read : IsRead s.positions.items p.code places

-- and its stream has a slot for each position in the chains
pub record Belongs (p : Program) (s : Sidecar) (places : Option (List Place)) (slots : List (Option Site)) : Type 0 where
  pub reads : ReadsPlaces p s places
  pub stream : Stream s.chains.items slots
  pub counted : length slots ≡ length (all_positions p.chains)

-- the place of a slot
abbrev pub slot_place : Option Site → Place
slot_place slot = option_and_then site_place slot

-- the sidecar belongs to the program, which has its positions now, all else being as it was
pub record IsAttached (old : Program) (s : Sidecar) (new : Program) : Type 0 where
  pub slots : List (Option Site)
  pub belongs : Belongs old s (places_of new) slots
  pub chains : map place_of (all_positions new.chains) ≡ map slot_place slots
  pub rest : DiffersInPositions old new

-- The stream has this many slots, and the chains this many positions, of which no more are counted than a `usize` holds.
pub record Miscounts (p : Program) (s : Sidecar) (sites slots : ℕ) : Type 0 where
  pub list : List (Option Site)
  pub stream : Stream s.chains.items list
  pub sites_are : sites ≡ length list
  pub slots_are : slots ≡ min (length (all_positions p.chains)) 18446744073709551615
  pub differ : length list ≢ length (all_positions p.chains)

-- what is wrong first with a sidecar that isn't attached, in the order of the tests
abbrev pub SidecarFlaw : Program → Sidecar → TableError → Type 0
SidecarFlaw p s (table_error.WrongProgram expected found) = (expected ≡ s.debug_id) × (found ≡ p.debug_id) × (expected ≢ found)
SidecarFlaw p s (table_error.Malformed error) = (s.debug_id ≡ p.debug_id) × IsRefusal s.positions.items p.code (table_error.Malformed error)
SidecarFlaw p s (table_error.PastTheEnd entries some instructions) = (s.debug_id ≡ p.debug_id) × IsRefusal s.positions.items p.code (table_error.PastTheEnd entries some instructions)
SidecarFlaw p s (table_error.ChainStream error) = (places : Option (List Place)) × ReadsPlaces p s places × StreamFlaw s.chains.items error
SidecarFlaw p s (table_error.ChainCount sites slots) = (places : Option (List Place)) × ReadsPlaces p s places × Miscounts p s sites slots
SidecarFlaw p s table_error.OutOfMemory = ⊥
