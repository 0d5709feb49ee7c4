use Rattle.std.proofs.Common.{◌<◌, IsAscii, take}
use Rattle.grain_flat.proofs.flat.is_ascii.Given as goal

-- where the bits so far are low, the bytes so far are ASCII
abbrev pub invariant-loop-byte : goal.invariant-loop-byte
invariant-loop-byte l = l.bits < 128 → IsAscii (take l.byte-index l.bytes)
