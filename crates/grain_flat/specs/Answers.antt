-- What `grain_verify` answers: that is the headline again, of all that has a flat form.
use Rattle.std.specs.Prelude.{◌≡◌, ◌≢◌, ◌⊎◌, ⊤, ℕ, ◌<◌, ◌≤◌, ◌^◌, List, Option, Some, None, codes, sum_by, if◌then◌else◌}
use Rattle.std.specs.List.{All}
use Rattle.std.specs.Str.{bytes_eq}
use Rattle.grain_rules.specs.Accepted.{AreDeepest, AreSafe, AreTyped, IsAccepted}
use Rattle.grain_rules.specs.Flaw.{FlawAt}
use Rattle.grain_verify.specs.Meter.{AreReached, starts_within}
use Rattle.grain_code.specs.Span.{Span}
use Rattle.grain_code.specs.Split.{Split}
use Rattle.grain_rules.specs.declared.error.VerifyError.{VerifyError}
use Rattle.grain_rules.specs.declared.error.VerifyError.TheVariants as errors
use Rattle.grain_base.specs.declared.caps.Caps.{Caps}
use Rattle.grain_flat.specs.Asking.{IsFirstRefusedRow, RowPasses}
use Rattle.grain_flat.specs.Flat.{Rest, Whole, flat_input, rest_input}
use Rattle.grain_flat.specs.declared.flaws.TheConstants.{WHOLE_PROGRAM, MISSING_CAPS, UNDECODABLE, TRAILING_BYTES, CHUNK_OUT_OF_RANGE, JUMP_OUT_OF_RANGE, JUMP_INTO_AN_INSTRUCTION}
use Rattle.grain_flat.specs.declared.flaws.TheConstants.{DEPTH_CONFLICT, UNDERFLOW, FALLS_OFF_THE_END, STACK_EXCEEDS_DECLARED, ITERATOR_UNDERFLOW, HANDLER_UNDERFLOW, SINKS_BELOW_HANDLER, BAD_INDEX}
use Rattle.grain_flat.specs.declared.kinds.TheConstants.{NOTHING, CONSTANT, NAME, OPERATOR, OP_ASSIGNMENT, FRAGMENT, CHAIN, SWITCH, SYNTAX_SITE, OPERAND}
use Rattle.grain_flat.specs.declared.records.CRefusal.{CRefusal}
use Rattle.grain_flat.specs.declared.records.CPools.{CPools}

-- All with this flat form is accepted, and the numbers of the chunks are right. The rows of constants are judged by what
-- they ask, so that this holds too if no value asks what a row says.
pub record Accepts (caps : ℕ) (bytes : List ℕ) (chunks : List Span) (p : CPools) (numbers : List ℕ) : Type 0 where
  pub accepted : (whole : Whole p) → IsAccepted (flat_input caps bytes chunks p whole)
  pub rows : All (RowPasses caps) p.constants.now
  pub rest : (rest : Rest p) → IsAccepted (rest_input caps bytes chunks p rest)
  pub typed : (rest : Rest p) → AreTyped (rest_input caps bytes chunks p rest) numbers
  pub deepest : (rest : Rest p) → AreDeepest (rest_input caps bytes chunks p rest) numbers
  pub safe : (rest : Rest p) → AreSafe (rest_input caps bytes chunks p rest) numbers

-- the number of places that the chunks reach, each chunk for itself
abbrev pub Visits : ℕ → List ℕ → List Span → CPools → ℕ → Type 0
Visits caps bytes chunks p n = (rest : Rest p) → AreReached (rest_input caps bytes chunks p rest).code chunks n

-- no more than all chunks have starts, each for itself; none if the code isn't whole instructions
pub record VisitsWithin (bytes : List ℕ) (chunks : List Span) (n : ℕ) : Type 0 where
  pub starts : (starts : List ℕ) → Split bytes starts → n ≤ sum_by (starts_within starts) chunks
  pub nowhere : ((starts : List ℕ) → Split bytes starts → ⊥) → n ≡ 0

-- what the first row asks that isn't all there
pub record AsksMissing (caps : ℕ) (p : CPools) (place : Option ℕ) (e : VerifyError) : Type 0 where
  pub artifact : Caps
  pub asked : Caps
  pub artifact_is : artifact.0 ≡ caps
  pub first : IsFirstRefusedRow caps p.constants.now asked.0
  pub place_is : place ≡ None
  pub error_is : e ≡ errors.MissingCaps artifact asked 0

-- what the rows ask is there, and none of what else has this flat form is accepted: all of it has this flaw
pub record RefusesRest (caps : ℕ) (bytes : List ℕ) (chunks : List Span) (p : CPools) (place : Option ℕ) (e : VerifyError) : Type 0 where
  pub rows : All (RowPasses caps) p.constants.now
  pub refused : (rest : Rest p) → IsAccepted (rest_input caps bytes chunks p rest) → ⊥
  pub flaw : (rest : Rest p) → FlawAt (rest_input caps bytes chunks p rest) place e

-- Nothing with this flat form is accepted, and all of it has this flaw; by its rows, or else by the rest.
pub record Refuses (caps : ℕ) (bytes : List ℕ) (chunks : List Span) (p : CPools) (place : Option ℕ) (e : VerifyError) : Type 0 where
  pub refused : (whole : Whole p) → IsAccepted (flat_input caps bytes chunks p whole) → ⊥
  pub flaw : (whole : Whole p) → FlawAt (flat_input caps bytes chunks p whole) place e
  pub cause : AsksMissing caps p place e ⊎ RefusesRest caps bytes chunks p place e

-- what a refusal calls an index, as a number
abbrev pub word_kind : List ℕ → ℕ
word_kind what =
    if bytes_eq what (codes "constant") then CONSTANT
    else if bytes_eq what (codes "name") then NAME
    else if bytes_eq what (codes "operator") then OPERATOR
    else if bytes_eq what (codes "op-assignment") then OP_ASSIGNMENT
    else if bytes_eq what (codes "fragment") then FRAGMENT
    else if bytes_eq what (codes "chain") then CHAIN
    else if bytes_eq what (codes "switch") then SWITCH
    else if bytes_eq what (codes "custom syntax site") then SYNTAX_SITE
    else if bytes_eq what (codes "operand") then OPERAND
    else NOTHING

-- the place of a chunk, or that there is none
abbrev pub chunk_number : Option ℕ → ℕ
chunk_number None = WHOLE_PROGRAM
chunk_number (Some place) = place

-- a refusal as a record: what it is, the chunk's place, the address, and two more numbers
abbrev pub refusal_record : Option ℕ → VerifyError → CRefusal
refusal_record place (errors.MissingCaps artifact missing at) = record { flaw = MISSING_CAPS; chunk = chunk_number place; at = at; first = missing.0; second = artifact.0 }
refusal_record place (errors.Undecodable at) = record { flaw = UNDECODABLE; chunk = chunk_number place; at = at; first = 0; second = 0 }
refusal_record place (errors.TrailingBytes at len) = record { flaw = TRAILING_BYTES; chunk = chunk_number place; at = at; first = len; second = 0 }
refusal_record place (errors.ChunkOutOfRange entry end len) = record { flaw = CHUNK_OUT_OF_RANGE; chunk = chunk_number place; at = entry; first = end; second = len }
refusal_record place (errors.JumpOutOfRange at target) = record { flaw = JUMP_OUT_OF_RANGE; chunk = chunk_number place; at = at; first = target; second = 0 }
refusal_record place (errors.JumpIntoAnInstruction at target) = record { flaw = JUMP_INTO_AN_INSTRUCTION; chunk = chunk_number place; at = at; first = target; second = 0 }
refusal_record place (errors.DepthConflict at expected found) = record { flaw = DEPTH_CONFLICT; chunk = chunk_number place; at = at; first = expected; second = found }
refusal_record place (errors.Underflow at need have) = record { flaw = UNDERFLOW; chunk = chunk_number place; at = at; first = need; second = have }
refusal_record place errors.FallsOffTheEnd = record { flaw = FALLS_OFF_THE_END; chunk = chunk_number place; at = 0; first = 0; second = 0 }
refusal_record place (errors.StackExceedsDeclared needed declared) = record { flaw = STACK_EXCEEDS_DECLARED; chunk = chunk_number place; at = 0; first = needed; second = declared }
refusal_record place (errors.IteratorUnderflow at) = record { flaw = ITERATOR_UNDERFLOW; chunk = chunk_number place; at = at; first = 0; second = 0 }
refusal_record place (errors.HandlerUnderflow at) = record { flaw = HANDLER_UNDERFLOW; chunk = chunk_number place; at = at; first = 0; second = 0 }
refusal_record place (errors.SinksBelowHandler at need have) = record { flaw = SINKS_BELOW_HANDLER; chunk = chunk_number place; at = at; first = need; second = have }
refusal_record place (errors.BadIndex at what index) = record { flaw = BAD_INDEX; chunk = chunk_number place; at = at; first = index; second = word_kind what.now }
refusal_record place errors.OutOfMemory = record { flaw = NOTHING; chunk = chunk_number place; at = 0; first = 0; second = 0 }

-- a refusal has a record: its numbers fit their types, and what it calls an index is known
abbrev pub HasRefusalRecord : VerifyError → Type 0
HasRefusalRecord (errors.MissingCaps artifact missing at) = (artifact.0 < 2 ^ 16) × (missing.0 < 2 ^ 16)
HasRefusalRecord (errors.Undecodable at) = ⊤
HasRefusalRecord (errors.TrailingBytes at len) = ⊤
HasRefusalRecord (errors.ChunkOutOfRange entry end len) = (entry < 2 ^ 32) × (end < 2 ^ 32)
HasRefusalRecord (errors.JumpOutOfRange at target) = target < 2 ^ 32
HasRefusalRecord (errors.JumpIntoAnInstruction at target) = target < 2 ^ 32
HasRefusalRecord (errors.DepthConflict at expected found) = ⊤
HasRefusalRecord (errors.Underflow at need have) = ⊤
HasRefusalRecord errors.FallsOffTheEnd = ⊤
HasRefusalRecord (errors.StackExceedsDeclared needed declared) = declared < 2 ^ 16
HasRefusalRecord (errors.IteratorUnderflow at) = ⊤
HasRefusalRecord (errors.HandlerUnderflow at) = ⊤
HasRefusalRecord (errors.SinksBelowHandler at need have) = ⊤
HasRefusalRecord (errors.BadIndex at what index) = (index < 2 ^ 32) × (word_kind what.now ≢ NOTHING)
HasRefusalRecord errors.OutOfMemory = ⊥

-- the record tells this refusal, of whichever chunk
pub record TellsRefusal (refusal : CRefusal) (e : VerifyError) : Type 0 where
  pub is : HasRefusalRecord e
  pub record_is : record refusal { chunk = WHOLE_PROGRAM } ≡ refusal_record None e
