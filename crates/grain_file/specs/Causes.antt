-- What a refusal says of the bytes, and what of the parts of a program is kept.
use Rattle.std.specs.Prelude.{◌≡◌, ℕ, ◌-◌, ◌<◌, ◌≤◌, List, length, drop, map, Result, Err}
use Rattle.grain_format.specs.Reading.{LocatedFault}
use Rattle.grain_file.specs.declared.file.Code.{Code}
use Rattle.grain_file.specs.declared.file.PoolFields.{PoolFields}
use Rattle.grain_file.specs.declared.file.Limits.{Limits}
use Rattle.grain_file.specs.declared.file.ReadError.{ReadError}
use Rattle.grain_file.specs.declared.file.TheConstants.{MAX_DEPTH}
use Rattle.grain_file.specs.declared.file.ReadError.TheVariants as errors
use Rattle.grain_format.specs.Form.{forms}
use Rattle.grain_format.specs.Functions.{function_parts}
use Rattle.grain_base.specs.Tokens.{token_parts}
use Rattle.grain_format.specs.Tokens.{assign_op_parts}
use Rattle.grain_format.specs.Chains.{chain_parts}
use Rattle.grain_format.specs.Switches.{switch_parts}
use Rattle.grain_file.specs.ProgramFile.{Bounds, CodeParts, PoolParts, bounds_of, halves, whole_at}

abbrev pub code_parts : Code → CodeParts
code_parts c = (c.caps.0, (halves c.debug_id, (c.code.items, (c.main, map function_parts c.functions.items))))

abbrev pub pool_parts : PoolFields → PoolParts
pool_parts p = (p.names, (forms p.consts.items, (map token_parts p.tokens.items, (map assign_op_parts p.assign_ops.items, (map chain_parts p.chains.items, map (switch_parts p.consts.items) p.switches.items)))))

-- the fault is the one at which reading ends, and stands at this byte
abbrev pub IsFaultIn : {K : Type 0} → (List ℕ → Result (K × List ℕ) LocatedFault) → List ℕ → ReadError → Type 0
IsFaultIn reading bytes errors.OutOfMemory = Unit {0}
IsFaultIn reading bytes (errors.TooLarge size limit) = ⊥
IsFaultIn reading bytes (errors.DepthLimit depth) = ⊥
IsFaultIn reading bytes (errors.Malformed at part fault) = (left : List ℕ) × (reading bytes ≡ Err (fault, left)) × (at ≡ length bytes - length left)

-- The limit on nesting is above the greatest, or the bytes are more than the limit, or else the fault is the one at which reading ends, with what follows from that byte on.
abbrev pub IsCauseIn : {K : Type 0} → (List ℕ → Result (K × List ℕ) LocatedFault) → Limits → List ℕ → ReadError → Type 0
IsCauseIn reading limits bytes errors.OutOfMemory = Unit {0}
IsCauseIn reading limits bytes (errors.TooLarge size limit) = (size ≡ length bytes) × (limit ≡ limits.size) × (limits.size < length bytes)
IsCauseIn reading limits bytes (errors.DepthLimit depth) = (depth ≡ limits.depth) × (MAX_DEPTH < limits.depth)
IsCauseIn reading limits bytes (errors.Malformed at part fault) = (at ≤ length bytes) × (reading bytes ≡ Err (fault, drop at bytes))

abbrev pub IsReadFault : Bounds → List ℕ → ReadError → Type 0
IsReadFault bounds bytes error = IsFaultIn (whole_at bounds) bytes error

abbrev pub IsReadCause : Limits → List ℕ → ReadError → Type 0
IsReadCause limits bytes error = IsCauseIn (whole_at (bounds_of limits)) limits bytes error
