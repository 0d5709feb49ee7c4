-- What is printed of a refusal.
use Rattle.std.specs.Prelude.{ℕ, ◌-◌, List, ◌++◌, codes, decimal, false, length, replicate}
use Rattle.std.specs.Fmt.{digits}
use Rattle.grain_rules.specs.declared.error.VerifyError.{VerifyError}
use Rattle.grain_rules.specs.declared.error.VerifyError.TheVariants as errors

-- a number as hexadecimal digits in lower case, at least four
abbrev pub four_digits : ℕ → List ℕ
four_digits bits = replicate (4 - length (digits 16 false bits)) 48 ++ digits 16 false bits

-- a number behind its name
abbrev pub named : List ℕ → ℕ → List ℕ
named name number = name ++ decimal number

abbrev pub verify_error_text : VerifyError → List ℕ
verify_error_text (errors.MissingCaps artifact missing at) = named (codes "missing-caps at=") at ++ (codes " missing=" ++ four_digits missing.0)
verify_error_text (errors.Undecodable at) = named (codes "undecodable at=") at
verify_error_text (errors.TrailingBytes at len) = named (codes "trailing-bytes at=") at ++ named (codes " len=") len
verify_error_text (errors.ChunkOutOfRange entry end len) =
    named (codes "chunk-out-of-range entry=") entry ++ (named (codes " end=") end ++ named (codes " len=") len)
verify_error_text (errors.JumpOutOfRange at target) = named (codes "jump-out-of-range at=") at ++ named (codes " target=") target
verify_error_text (errors.JumpIntoAnInstruction at target) = named (codes "jump-into-an-instruction at=") at ++ named (codes " target=") target
verify_error_text (errors.DepthConflict at expected found) =
    named (codes "depth-conflict at=") at ++ (named (codes " expected=") expected ++ named (codes " found=") found)
verify_error_text (errors.Underflow at need have) = named (codes "underflow at=") at ++ (named (codes " need=") need ++ named (codes " have=") have)
verify_error_text errors.FallsOffTheEnd = codes "falls-off-the-end"
verify_error_text (errors.StackExceedsDeclared needed declared) =
    named (codes "stack-exceeds-declared needed=") needed ++ named (codes " declared=") declared
verify_error_text (errors.IteratorUnderflow at) = named (codes "iterator-underflow at=") at
verify_error_text (errors.HandlerUnderflow at) = named (codes "handler-underflow at=") at
verify_error_text (errors.SinksBelowHandler at need have) =
    named (codes "sinks-below-handler at=") at ++ (named (codes " need=") need ++ named (codes " have=") have)
verify_error_text (errors.BadIndex at what index) = named (codes "bad-index at=") at ++ (named (codes " index=") index ++ (codes " what=" ++ what.now))
verify_error_text errors.OutOfMemory = codes "out of memory"
