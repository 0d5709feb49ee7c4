-- What of a program is kept in a file, and how that is encoded.
use Rattle.std.specs.Prelude.{◌≡◌, ℕ, ◌/◌, ◌%◌, ◌^◌, ◌≤◌, zero, suc, List, length, map, Option, Some, None, Result, refl}
use Rattle.grain_code.specs.Span.{Span}
use Rattle.grain.specs.Program.{Program, places_of}
use Rattle.grain_file.specs.declared.file.Limits.{Limits}
use Rattle.grain_file.specs.declared.file.TheConstants.{MAX_DEPTH}
use Rattle.grain_format.specs.declared.error.FieldFault.TheVariants.{Magic, Version, Kind}
use Rattle.grain_format.specs.declared.error.Unkept.{Unkept}
use Rattle.grain_format.specs.declared.error.Unkept.TheVariants.{Residuals}
use Rattle.grain_format.specs.Reading.{LocatedFault}
use Rattle.grain_format.specs.Formats.{Format, any_number, number_below, blob, text, only, both, depending, counted_list, optional, headed, whole}
use Rattle.grain_format.specs.Functions.{FunctionParts, function_parts, function_format, chunk_format}
use Rattle.grain_format.specs.Names.{names_format}
use Rattle.grain_base.specs.Tokens.{TokenParts, token_parts}
use Rattle.grain_format.specs.Tokens.{AssignOpParts, token_format, assign_op_parts, assign_op_format}
use Rattle.grain_bytecode.specs.Positions.{Place}
use Rattle.grain_format.specs.Chains.{ChainParts, chain_parts, chain_format, place_format}
use Rattle.grain_format.specs.Switches.{SwitchParts, most_cases, switch_parts, switch_format}
use Rattle.grain_format.specs.Form.{Form, forms, spelled, value_refusal, FitsWithin}
use Rattle.grain_format.specs.FormAt.{value_at}
use Rattle.grain_format.specs.FormLaws.{value_takes, value_again}
use Rattle.grain_format.specs.FormEnds.{value_ends}
use Rattle.grain_format.specs.FormSound.{value_keeps, deepest}

abbrev pub value_format : ℕ → Format Form
value_format depth = record { spelling = spelled; Fits = FitsWithin depth; reading = value_at depth; refusal = value_refusal; takes = value_takes depth; again = value_again depth; keeps = value_keeps depth; ends = value_ends depth }

-- ---- code and its chunks

-- the low and the high 64 bits
abbrev pub halves : ℕ → ℕ × ℕ
halves id = (id % 2 ^ 64, id / 2 ^ 64)

-- the capabilities, the number of the program, the code, the main chunk and the functions
abbrev pub CodeParts : Type 0
CodeParts = ℕ × ((ℕ × ℕ) × (List ℕ × (Span × List FunctionParts)))

unfoldable pub code_format : Format CodeParts
code_format = both (number_below (2 ^ 16)) (both (both any_number any_number) (both blob (both chunk_format (counted_list function_format))))

-- ---- pools

-- the names, constants, operators, op-assignments, chains and switches
abbrev pub PoolParts : Type 0
PoolParts = List (List ℕ) × (List Form × (List TokenParts × (List AssignOpParts × (List ChainParts × List SwitchParts))))

-- What readers bound: how deep values are nested, and how many cases a switch has.
pub record Bounds : Type 0 where
  pub depth : ℕ
  pub cases : ℕ

abbrev pub bounds_of : Limits → Bounds
bounds_of limits = record { depth = limits.depth; cases = limits.cases }

abbrev pub no_bounds : Bounds
no_bounds = record { depth = 0; cases = 0 }

unfoldable pub pools_format : Bounds → Format PoolParts
pools_format bounds = both names_format (depending (counted_list (value_format bounds.depth)) (λ constants. both (counted_list token_format) (both (counted_list assign_op_format) (both (counted_list chain_format) (counted_list (switch_format bounds.cases constants))))))

-- ---- all else

-- the places of the code's bytes, if they are known
abbrev pub positions_format : Format (Option (List Place))
positions_format = optional (counted_list place_format)

abbrev pub residuals_refusal : ℕ → Option Unkept
residuals_refusal zero = None
residuals_refusal (suc n) = Some Residuals

-- the name of the source, the positions, and how many fragments weren't compiled
abbrev pub RestParts : Type 0
RestParts = Option (List ℕ) × (Option (List Place) × ℕ)

unfoldable pub rest_format : Format RestParts
rest_format = both (optional text) (both positions_format (only 0 residuals_refusal refl))

-- ---- a whole file

abbrev pub Kept : Type 0
Kept = CodeParts × (PoolParts × RestParts)

-- what of a program is kept: all except where it is in memory
abbrev pub kept : Program → Kept
kept p = (
  (p.caps.0, (halves p.debug_id, (p.code, (p.main, map function_parts p.functions)))),
  (
    (p.names, (forms p.consts, (map token_parts p.tokens, (map assign_op_parts p.assign_ops, (map chain_parts p.chains, map (switch_parts p.consts) p.switches))))),
    (p.source, (places_of p, p.residuals)),
  ),
)

unfoldable pub body_format : Bounds → Format Kept
body_format bounds = both code_format (both (pools_format bounds) rest_format)

-- the version 2, the kind 0, and the program
unfoldable pub versioned_format : Bounds → Format Kept
versioned_format bounds = headed 2 Version (headed 0 Kind (body_format bounds))

-- 00 67 72 6e, which is "grn" after a byte 0, and that
unfoldable pub file_format : Bounds → Format Kept
file_format bounds = headed 0x00 Magic (headed 0x67 Magic (headed 0x72 Magic (headed 0x6e Magic (versioned_format bounds))))

-- the bytes are a file of what is kept, within what a reader bounds
pub record IsFile (bounds : Bounds) (bytes : List ℕ) (k : Kept) : Type 0 where
  pub spelled : bytes ≡ (file_format bounds).spelling k
  pub fits : (file_format bounds).Fits k

-- how deep the values are nested among the constants
abbrev pub nesting_of : Kept → ℕ
nesting_of k = deepest k.1.0.1.0

-- how many cases the switch has that has most
abbrev pub most_cases_of : Kept → ℕ
most_cases_of k = most_cases k.1.0.1.1.1.1.1

-- no value is nested deeper, and no switch has more cases
pub record IsWithin (bounds : Bounds) (k : Kept) : Type 0 where
  pub nesting : nesting_of k ≤ bounds.depth
  pub cases : most_cases_of k ≤ bounds.cases

-- the first reason for which what is kept has no file
abbrev pub refusal_of : Kept → Option Unkept
refusal_of k = (file_format no_bounds).refusal k

-- it is a file within the limits, of which that on nesting is one that a reader takes
pub record IsFileWithin (limits : Limits) (bytes : List ℕ) (k : Kept) : Type 0 where
  pub shallow : limits.depth ≤ MAX_DEPTH
  pub short : length bytes ≤ limits.size
  pub file : IsFile (bounds_of limits) bytes k

-- what reading all of the bytes gives
unfoldable pub whole_at : Bounds → List ℕ → Result (Kept × List ℕ) LocatedFault
whole_at bounds bytes = whole (file_format bounds) bytes
