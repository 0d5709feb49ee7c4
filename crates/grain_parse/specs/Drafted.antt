-- What the program of a text has of what was read.
use Rattle.std.specs.Option.{ForSome}
use Rattle.std.specs.Prelude.{◌≡◌, ℕ, IfSome, List, [], Option, None, Some, map, option_map, string_bytes}
use Rattle.grain.specs.Program.{listed_positions}
use Rattle.grain.specs.declared.program.Parts.{Parts}
use Rattle.grain_base.specs.declared.position.Position.{Position}
use Rattle.grain_parse.specs.Entries.{GrowsTo}
use Rattle.grain_parse.specs.declared.chunks.Chunks.{Chunks}
use Rattle.grain_parse.specs.declared.draft.Draft.{Draft}
use Rattle.grain_parse.specs.declared.parsed.Parsed.{Parsed}
use Rattle.grain_parse.specs.declared.pools.Pools.{Pools}
use Rattle.grain_parse.specs.declared.sections.Section.TheVariants as sections

-- there are pools, and nothing in them
pub record HasNoEntry (pools : Pools) : Type 0 where
  pub names : pools.names.items ≡ []
  pub consts : pools.consts.items ≡ []
  pub tokens : pools.tokens.items ≡ []
  pub assign_ops : pools.assign_ops.items ≡ []
  pub chains : pools.chains.items ≡ []
  pub switches : pools.switches.items ≡ []

-- the main chunk and the functions that were read stay, and more functions follow them
pub record KeepsChunks (old new : Chunks) : Type 0 where
  pub main : ForSome old.main (λ chunk. new.main ≡ Some chunk)
  pub functions : GrowsTo old.functions.items new.functions.items

-- nothing was read so far, and code comes next
pub record HasReadNothing (draft : Draft) : Type 0 where
  pub caps : draft.head.caps ≡ None
  pub debug_id : draft.head.debug_id ≡ 0
  pub fragments : draft.head.fragments ≡ 0
  pub source : draft.head.source ≡ None
  pub positions : draft.head.positions ≡ None
  pub pools : HasNoEntry draft.pools
  pub main : draft.chunks.main ≡ None
  pub functions : draft.chunks.functions.items ≡ []
  pub automatic : draft.chunks.automatic.items ≡ []
  pub code : draft.code.items ≡ []
  pub places : draft.places.items ≡ []
  pub section : draft.section ≡ sections.Code

-- each entry is where it was read, so that an index leads to the same
pub record HasEntries (pools : Pools) (parts : Parts) : Type 0 where
  pub names : parts.names ≡ map string_bytes pools.names.items
  pub consts : parts.consts ≡ pools.consts
  pub tokens : parts.tokens ≡ pools.tokens
  pub assign_ops : parts.assign_ops ≡ pools.assign_ops
  pub chains : parts.chains ≡ pools.chains
  pub switches : parts.switches ≡ pools.switches

-- what the directives say
pub record HasDirectives (id fragments : ℕ) (name : Option (List ℕ)) (places : Option (List Position)) (parts : Parts) : Type 0 where
  pub debug_id : parts.debug_id ≡ id
  pub residuals : parts.residuals ≡ fragments
  pub source : option_map string_bytes parts.source ≡ name
  pub positions : listed_positions parts.positions ≡ places

-- The program has the code, the entries and what the directives say, and its capabilities if they do.
pub record IsParsedOf (draft : Draft) (parsed : Parsed) : Type 0 where
  pub code : parsed.program.code ≡ draft.code.items
  pub names : parsed.program.names ≡ map string_bytes draft.pools.names.items
  pub consts : parsed.program.consts ≡ draft.pools.consts.items
  pub tokens : parsed.program.tokens ≡ draft.pools.tokens.items
  pub assign_ops : parsed.program.assign_ops ≡ draft.pools.assign_ops.items
  pub chains : parsed.program.chains ≡ draft.pools.chains.items
  pub switches : parsed.program.switches ≡ draft.pools.switches.items
  pub caps : IfSome draft.head.caps (λ caps. parsed.program.caps ≡ caps)
  pub declared : parsed.caps ≡ draft.head.caps
  pub debug_id : parsed.program.debug_id ≡ draft.head.debug_id
  pub residuals : parsed.program.residuals ≡ draft.head.fragments
  pub source : parsed.program.source ≡ option_map string_bytes draft.head.source
