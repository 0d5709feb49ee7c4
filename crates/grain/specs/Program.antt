-- A program as contracts see it: what it has, but not where that lies in memory.
use Rattle.std.specs.Prelude.{◌≤◌, ℕ, List, ◌∷◌, Option, Some, None, length, map, option_map, string_bytes}
use Rattle.std.specs.List.{All, Contains}
use Rattle.grain_base.specs.Place.{place_of}
use Rattle.grain_base.specs.declared.caps.Caps.{Caps}
use Rattle.grain_base.specs.declared.position.Position.{Position}
use Rattle.grain_base.specs.declared.token.Token.{Token}
use Rattle.grain_base.specs.declared.value.Dynamic.{Dynamic}
use Rattle.grain_bytecode.specs.Positions.{Place}
use Rattle.grain_code.specs.Span.{Span}
use Rattle.grain_pools.specs.declared.assign_op.AssignOp.{AssignOp}
use Rattle.grain_pools.specs.declared.chain.Chain.{Chain}
use Rattle.grain_code.specs.declared.function.Function.{Function}
use Rattle.grain_bytecode.specs.declared.positions.Positions.{Positions}
use Rattle.grain_bytecode.specs.declared.positions.Positions.TheVariants.{Stripped, Dense}
use Rattle.grain_pools.specs.declared.switch.Switch.{Switch}
use Rattle.grain_rules.specs.Accepted.{Input}
use Rattle.grain_rules.specs.Code.{switch_targets}
use Rattle.grain_rules.specs.Facts.{facts_with}
use Rattle.grain_rules.specs.Setting.{Setting, with_caps}
use Rattle.grain.specs.declared.program.Parts.{Parts}

pub record Program : Type 0 where
  pub caps : Caps
  pub code : List ℕ
  pub main : Span
  pub functions : List Function
  -- one for each byte of the code, if they aren't stripped
  pub positions : Option (List Position)
  pub debug_id : ℕ
  pub residuals : ℕ
  pub consts : List Dynamic
  pub names : List (List ℕ)
  pub tokens : List Token
  pub assign_ops : List AssignOp
  pub chains : List Chain
  pub switches : List Switch
  -- the name of the source, as bytes
  pub source : Option (List ℕ)

abbrev pub listed_positions : Positions → Option (List Position)
listed_positions Stripped = None
listed_positions (Dense positions) = Some positions.items

-- the program of these parts
abbrev pub made : Caps → List ℕ → Span → List Function → Parts → Program
made caps code main functions parts = record {
  caps = caps;
  code = code;
  main = main;
  functions = functions;
  positions = listed_positions parts.positions;
  debug_id = parts.debug_id;
  residuals = parts.residuals;
  consts = parts.consts.items;
  names = parts.names;
  tokens = parts.tokens.items;
  assign_ops = parts.assign_ops.items;
  chains = parts.chains.items;
  switches = parts.switches.items;
  source = option_map string_bytes parts.source;
}

-- the places of the code's bytes, if they aren't stripped
abbrev pub places_of : Program → Option (List Place)
places_of p = option_map (λ positions. map place_of positions) p.positions

-- the main chunk, and then that of each function
abbrev pub chunks_of : Program → List Span
chunks_of p = p.main ∷ map (λ f. f.chunk) p.functions

-- what each chunk declares
abbrev pub declared_by : Program → List ℕ
declared_by p = map (λ chunk. chunk.max_stack) (chunks_of p)

-- the greatest of the numbers
pub record IsGreatest (numbers : List ℕ) (n : ℕ) : Type 0 where
  pub among : Contains numbers n
  pub most : All (λ m. m ≤ n) numbers

-- what the program's code is judged against
abbrev pub setting_of : Program → Setting
setting_of p = with_caps p.caps.0 (facts_with (length p.consts) p.names (length p.tokens) (length p.assign_ops) p.residuals p.chains p.switches)

-- what `verify` is given of the program
abbrev pub input_of : Program → Input
input_of p = record {
  code = record { setting = setting_of p; bytes = p.code; switches = map switch_targets p.switches };
  consts = p.consts;
  functions = p.functions;
  chunks = chunks_of p;
}
