-- What calls answer that write a program file again.
use Rattle.std.specs.Prelude.{◌≡◌, ◌≢◌, ◌⊎◌, ◌<◌, ◌≤◌, ◌++◌, ℕ, List, Option, Some, drop, length}
use Rattle.grain.specs.Program.{Program, input_of}
use Rattle.grain_c.specs.declared.status.TheConstants.{ACCEPTED, REFUSED, SHORT, OUT_OF_MEMORY, TOO_MUCH_WORK, MALFORMED, TOO_LONG, BAD_LIMIT, NOT_RESTORABLE}
use Rattle.grain_file.specs.Causes.{IsReadCause}
use Rattle.grain_file.specs.Loading.{IsFileOf}
use Rattle.grain_file.specs.declared.file.Limits.{Limits}
use Rattle.grain_file.specs.declared.file.ReadError.{ReadError}
use Rattle.grain_file.specs.declared.file.TheConstants.{MAX_DEPTH}
use Rattle.grain_flat.specs.Answers.{refusal_record}
use Rattle.grain_flat.specs.declared.records.CReport.{CReport}
use Rattle.grain_flat_file.specs.Changed.{AddressesFit, AreStrippedFiles, IsRestorable, IsTightFile, program_work}
use Rattle.grain_flat_file.specs.Errors.{read_error_record}
use Rattle.grain_flat_file.specs.declared.changed.Stripped.{Stripped}
use Rattle.grain_flat_file.specs.declared.records.CReadError.{CReadError}
use Rattle.grain_rules.specs.Accepted.{IsAccepted}
use Rattle.grain_rules.specs.Flaw.{FlawAt}
use Rattle.grain_rules.specs.declared.error.VerifyError.{VerifyError}

-- the file stands in front of the room, and the rest of the room is as it was
abbrev pub IsPut : List ℕ → List ℕ → List ℕ → Type 0
IsPut file room written = written ≡ file ++ drop (length file) room

-- why the bytes are no file within the limits
abbrev pub IsMalformed : Limits → List ℕ → CReadError → Type 0
IsMalformed limits bytes said = (e : ReadError) × IsReadCause limits bytes e × (read_error_record e ≡ Some said)

-- a flaw of the program that the bytes are a file of
pub record IsToldFlaw (limits : Limits) (bytes : List ℕ) (report : CReport) : Type 0 where
  pub read : Program
  pub file : IsFileOf limits bytes read
  pub chunk : Option ℕ
  pub error : VerifyError
  pub flaw : FlawAt (input_of read) chunk error
  pub told : report.refusal ≡ refusal_record chunk error

-- What a call is lent beside the bytes and the limits, before and after it: the room, the size, the error and the report.
pub record Lent : Type 0 where
  pub room : List ℕ
  pub size : ℕ
  pub error : CReadError
  pub report : CReport

-- What tightening a file answers: when which status, and what is written then.
pub record IsTightenAnswer (limits : Limits) (bytes : List ℕ) (limit : ℕ) (old new : Lent) (status : ℕ) : Type 0 where
  -- the file that is written, or too long for the room, and how many places its chunks reach
  pub accepted : status ≡ ACCEPTED → (file : List ℕ) × IsTightFile limits bytes file 0 new.report.visited × IsPut file old.room new.room × (new.size ≡ length file)
  pub short : status ≡ SHORT → (file : List ℕ) × (visited : ℕ) × IsTightFile limits bytes file 0 visited × (new.size ≡ length file) × (length old.room < length file)
  pub refused : status ≡ REFUSED → IsToldFlaw limits bytes new.report
  pub limited : status ≡ TOO_MUCH_WORK → (p : Program) × IsFileOf limits bytes p × (limit < program_work p)
  pub bad_limit : status ≡ BAD_LIMIT → MAX_DEPTH < limits.depth
  pub malformed : status ≡ MALFORMED → IsMalformed limits bytes new.error
  -- of whatever accepted program the bytes are a file, that is written, memory and room apart
  pub only : (p : Program) → IsFileOf limits bytes p → IsAccepted (input_of p) → program_work p ≤ limit → (status ≡ ACCEPTED) ⊎ (status ≡ SHORT) ⊎ (status ≡ OUT_OF_MEMORY)
  pub answers : (status ≡ ACCEPTED) ⊎ (status ≡ SHORT) ⊎ (status ≡ REFUSED) ⊎ (status ≡ TOO_MUCH_WORK) ⊎ (status ≡ MALFORMED) ⊎ (status ≡ OUT_OF_MEMORY) ⊎ (status ≡ BAD_LIMIT)
  pub bounded : (status ≡ ACCEPTED) ⊎ (status ≡ REFUSED) → new.report.visited ≤ limit
  -- room for as many bytes as were read is enough
  pub enough : length bytes ≤ length old.room → status ≢ SHORT
  -- what stays as it was
  pub room_kept : status ≢ ACCEPTED → new.room ≡ old.room
  pub size_kept : status ≢ ACCEPTED → status ≢ SHORT → new.size ≡ old.size
  pub error_kept : status ≢ MALFORMED → new.error ≡ old.error
  pub refusal_kept : status ≢ REFUSED → new.report.refusal ≡ old.report.refusal
  pub visited_kept : status ≢ ACCEPTED → status ≢ REFUSED → new.report.visited ≡ old.report.visited

-- What stripping a file is lent, before and after it: room and sizes for both files, and the error.
pub record LentPair : Type 0 where
  pub room : List ℕ
  pub size : ℕ
  pub sidecar_room : List ℕ
  pub sidecar_size : ℕ
  pub error : CReadError

-- both files have these sizes
pub record AreSizes (files : Stripped) (lent : LentPair) : Type 0 where
  pub program : lent.size ≡ length files.program.items
  pub sidecar : lent.sidecar_size ≡ length files.sidecar.items

-- What stripping a file answers.
pub record IsStripAnswer (limits : Limits) (bytes : List ℕ) (old new : LentPair) (status : ℕ) : Type 0 where
  pub accepted : status ≡ ACCEPTED → (files : Stripped) × AreStrippedFiles limits bytes files × AreSizes files new
      × IsPut files.program.items old.room new.room × IsPut files.sidecar.items old.sidecar_room new.sidecar_room
  pub short : status ≡ SHORT → (files : Stripped) × AreStrippedFiles limits bytes files × AreSizes files new
      × ((length old.room < length files.program.items) ⊎ (length old.sidecar_room < length files.sidecar.items))
  pub too_long : status ≡ TOO_LONG → (p : Program) × IsFileOf limits bytes p × (AddressesFit p → ⊥)
  pub not_restorable : status ≡ NOT_RESTORABLE → (p : Program) × IsFileOf limits bytes p × (IsRestorable p → ⊥)
  pub malformed : status ≡ MALFORMED → IsMalformed limits bytes new.error
  pub bad_limit : status ≡ BAD_LIMIT → MAX_DEPTH < limits.depth
  pub only : (p : Program) → IsFileOf limits bytes p → AddressesFit p → IsRestorable p → (status ≡ ACCEPTED) ⊎ (status ≡ SHORT) ⊎ (status ≡ OUT_OF_MEMORY)
  pub answers : (status ≡ ACCEPTED) ⊎ (status ≡ SHORT) ⊎ (status ≡ TOO_LONG) ⊎ (status ≡ NOT_RESTORABLE) ⊎ (status ≡ MALFORMED) ⊎ (status ≡ OUT_OF_MEMORY) ⊎ (status ≡ BAD_LIMIT)
  pub rooms_kept : status ≢ ACCEPTED → (new.room ≡ old.room) × (new.sidecar_room ≡ old.sidecar_room)
  pub sizes_kept : status ≢ ACCEPTED → status ≢ SHORT → (new.size ≡ old.size) × (new.sidecar_size ≡ old.sidecar_size)
  pub error_kept : status ≢ MALFORMED → new.error ≡ old.error
