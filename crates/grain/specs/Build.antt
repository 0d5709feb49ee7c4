-- Building a program from operations: what is handed over, when it passes, and what becomes of it.
use Rattle.std.specs.Prelude.{◌≡◌, ◌≢◌, ◌⊎◌, ℕ, ◌+◌, ◌<◌, List, [], length, map, slice_index, ◌++◌, codes, decimal}
use Rattle.std.specs.List.{All, AllWithin, AllZip, HoldsAt}
use Rattle.grain_base.specs.CapBits.{FUNCTION}
use Rattle.grain_base.specs.declared.caps.Caps.{Caps}
use Rattle.grain_bytecode.specs.AssembleErrors as assemble_errors
use Rattle.grain_code.specs.Assembly.{CanAssemble, IsAssembly}
use Rattle.grain_bytecode.specs.AssemblyFlaws.{IsAssemblyFlaw}
use Rattle.grain_pools.specs.Dispatch.{IsFirstPast, arms, resolved}
use Rattle.grain_code.specs.Span.{Span}
use Rattle.grain_bytecode.specs.declared.assemble_error.AssembleError.{AssembleError}
use Rattle.grain_bytecode.specs.declared.assemble_error.AssembleError.TheVariants as refusals
use Rattle.grain_code.specs.declared.function.Function.{Function}
use Rattle.grain_code.specs.declared.op.Op.{Op}
use Rattle.grain_rules.specs.Accepted.{ConstantPasses}
use Rattle.grain_rules.specs.ByIndex.{IsCut, LeadWithin, code_by_index, span_moved}
use Rattle.grain_rules.specs.Capabilities.{Allows}
use Rattle.grain_rules.specs.Code.{Code, switch_targets}
use Rattle.grain_rules.specs.Flaw.{Flaw}
use Rattle.grain_rules.specs.Indices.{Indexed}
use Rattle.grain.specs.Program.{Program, chunks_of, input_of, made}
use Rattle.grain_rules.specs.Facts.{facts_with}
use Rattle.grain_rules.specs.Setting.{Setting, with_caps}
use Rattle.grain_rules.specs.Texts.{verify_error_text}
use Rattle.grain_rules.specs.Typing.{HasTyping, IsDeepest}
use Rattle.grain.specs.declared.builder.BuildError.{BuildError}
use Rattle.grain.specs.declared.builder.BuildError.TheVariants as errors
use Rattle.grain.specs.declared.builder.Cut.{Cut}
use Rattle.grain.specs.declared.builder.Head.{Head}
use Rattle.grain_rules.specs.declared.error.VerifyError.{VerifyError}
use Rattle.grain_rules.specs.declared.error.VerifyError.TheVariants as faults
use Rattle.grain.specs.declared.program.Parts.{Parts}

-- what is handed over: operations by index, of which each cut is a chunk, the first of them the top level and each other the
-- body of the function with the head at its place
pub record Draft : Type 0 where
  pub caps : Caps
  pub ops : List Op
  pub cuts : List Span
  pub heads : List Head
  pub parts : Parts

-- a cut as a chunk of indices
abbrev pub span_of : Cut → Span
span_of cut = record { entry = cut.first; end = cut.end; max_stack = cut.max_stack }

abbrev pub draft : Caps → List Op → List Cut → List Head → Parts → Draft
draft caps ops cuts heads parts = record { caps = caps; ops = ops; cuts = map span_of cuts; heads = heads; parts = parts }

-- what the operations are judged against
abbrev pub setting_with : Caps → Parts → Setting
setting_with caps parts =
    with_caps caps.0 (facts_with (length parts.consts.items) parts.names (length parts.tokens.items) (length parts.assign_ops.items) parts.residuals parts.chains.items parts.switches.items)

-- the indices to which each switch leads
abbrev pub leads : Draft → List (List ℕ)
leads d = map switch_targets d.parts.switches.items

-- the operations by index, with what they are judged against
abbrev pub by_index : Draft → Code
by_index d = code_by_index (setting_with d.caps d.parts) d.ops (leads d)

-- each cut is a part of the operations
abbrev pub AreCuts : Draft → Type 0
AreCuts d = All (IsCut (length d.ops)) d.cuts

-- The cuts lie in the list, the operations can be assembled, and each switch leads to operations or their end.
pub record CanLay (d : Draft) : Type 0 where
  pub cuts : AreCuts d
  pub ops : CanAssemble d.ops
  pub switches : LeadWithin (length d.ops) (leads d)

-- Besides, constants, indices and functions pass, and each cut has a typing by index within its declared stack.
pub record CanBuild (d : Draft) : Type 0 where
  pub lays : CanLay d
  pub constants : All (ConstantPasses d.caps.0) d.parts.consts.items
  pub indexed : All (Indexed (setting_with d.caps d.parts)) d.ops
  pub functions : d.heads ≢ [] → Allows d.caps.0 FUNCTION
  pub typed : All (λ cut. HasTyping (by_index d) cut cut.max_stack) d.cuts

-- what a function has besides its chunk
abbrev pub head_of : Function → Head
head_of f = record { name = f.name; params = f.params; access = f.access; this_type = f.this_type }

-- The code is the assembled operations, the chunks are the cuts at the offsets, the functions have the heads, the targets
-- of switches are mapped by the offsets, and all else is as handed over.
pub record IsLaid (d : Draft) (p : Program) : Type 0 where
  pub offsets : List ℕ
  pub code : IsAssembly d.ops p.code offsets
  pub chunks : chunks_of p ≡ map (span_moved (slice_index offsets)) d.cuts
  pub heads : map head_of p.functions ≡ d.heads
  pub switches : map arms p.switches ≡ map (resolved offsets) (map arms d.parts.switches.items)
  pub rest : record p { switches = d.parts.switches.items } ≡ made d.caps p.code p.main p.functions d.parts

-- the greatest operand count that walks by index reach, cut by cut
abbrev pub AreDeepestByIndex : Draft → List ℕ → Type 0
AreDeepestByIndex d numbers = AllZip (IsDeepest (by_index d)) d.cuts numbers

-- the cut at the place is the first that is no part of this many operations
pub record IsFirstBadCut (n : ℕ) (cuts : List Span) (place : ℕ) : Type 0 where
  pub inside : place < length cuts
  pub earlier : AllWithin (IsCut n) cuts 0 place
  pub here : HoldsAt (λ cut. IsCut n cut → ⊥) cuts place

-- the operations can't be assembled, or the first switch that leads past their end is named, with one such target
abbrev pub LayFlaw : Draft → AssembleError → Type 0
LayFlaw d error =
    IsAssemblyFlaw d.ops error
    ⊎ (CanAssemble d.ops × ((table : ℕ) × (target : ℕ) × (error ≡ refusals.SwitchTargetOutOfRange table target) × IsFirstPast (length d.ops + 1) d.parts.switches.items table target))

-- What each refusal says: of what was handed over, or of the program that it makes. A lack of memory says nothing of them.
abbrev pub BuildFlaw : Draft → BuildError → Type 0
BuildFlaw d (errors.BadCut place) = IsFirstBadCut (length d.ops) d.cuts place
BuildFlaw d (errors.Assemble error) = AreCuts d × LayFlaw d error
BuildFlaw d (errors.Verify error) = CanLay d × ((p : Program) × IsLaid d p × Flaw (input_of p) error)
BuildFlaw d errors.OutOfMemory = ⊥

-- a refusal of the assembler as one of building
abbrev pub of_assemble : AssembleError → BuildError
of_assemble refusals.OutOfMemory = errors.OutOfMemory
of_assemble (refusals.PoolTooLarge what entries) = errors.Assemble (refusals.PoolTooLarge what entries)
of_assemble (refusals.JumpOutOfRange at target) = errors.Assemble (refusals.JumpOutOfRange at target)
of_assemble (refusals.SwitchTargetOutOfRange table target) = errors.Assemble (refusals.SwitchTargetOutOfRange table target)
of_assemble (refusals.ChunkTooLarge bytes) = errors.Assemble (refusals.ChunkTooLarge bytes)

-- a refusal of the verifier as one of building
abbrev pub of_verify : VerifyError → BuildError
of_verify faults.OutOfMemory = errors.OutOfMemory
of_verify (faults.MissingCaps artifact absent at) = errors.Verify (faults.MissingCaps artifact absent at)
of_verify (faults.Undecodable at) = errors.Verify (faults.Undecodable at)
of_verify (faults.TrailingBytes at len) = errors.Verify (faults.TrailingBytes at len)
of_verify (faults.ChunkOutOfRange entry end len) = errors.Verify (faults.ChunkOutOfRange entry end len)
of_verify (faults.JumpOutOfRange at target) = errors.Verify (faults.JumpOutOfRange at target)
of_verify (faults.JumpIntoAnInstruction at target) = errors.Verify (faults.JumpIntoAnInstruction at target)
of_verify (faults.DepthConflict at expected found) = errors.Verify (faults.DepthConflict at expected found)
of_verify (faults.Underflow at need have) = errors.Verify (faults.Underflow at need have)
of_verify faults.FallsOffTheEnd = errors.Verify faults.FallsOffTheEnd
of_verify (faults.StackExceedsDeclared needed declared) = errors.Verify (faults.StackExceedsDeclared needed declared)
of_verify (faults.IteratorUnderflow at) = errors.Verify (faults.IteratorUnderflow at)
of_verify (faults.HandlerUnderflow at) = errors.Verify (faults.HandlerUnderflow at)
of_verify (faults.SinksBelowHandler at need have) = errors.Verify (faults.SinksBelowHandler at need have)
of_verify (faults.BadIndex at what index) = errors.Verify (faults.BadIndex at what index)

-- what is printed of an error
abbrev pub build_error_text : BuildError → List ℕ
build_error_text (errors.Assemble error) = assemble_errors.assemble_error_text error
build_error_text (errors.BadCut place) = codes "cut " ++ (decimal place ++ codes " runs backwards or past the operations")
build_error_text (errors.Verify error) = verify_error_text error
build_error_text errors.OutOfMemory = codes "out of memory"
