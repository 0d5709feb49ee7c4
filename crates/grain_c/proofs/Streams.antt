-- What is wrong with bytes that are no stream has a number of its own.
use Rattle.std.proofs.Common.{◌≡◌, ℕ, List, arith}
use Rattle.grain_bytecode.specs.ChainStream.{StreamFlaw}
use Rattle.grain_bytecode.specs.declared.sites.StreamError.{StreamError}
use Rattle.grain_bytecode.specs.declared.sites.StreamError.TheVariants as stream_error
use Rattle.grain_c.specs.TableFlaws.{stream_flaw}

pub is_some : (bytes : List ℕ) (e : StreamError) (n : ℕ) → StreamFlaw bytes e → n ≡ (stream_flaw e).0 → n ≡ 0 → ⊥
is_some bytes stream_error.Truncated n h is e = omega arith
is_some bytes stream_error.Overflow n h is e = omega arith
is_some bytes (stream_error.TrailingBytes count) n h is e = omega arith
is_some bytes stream_error.OutOfMemory n h is e = h
