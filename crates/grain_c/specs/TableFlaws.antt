-- Flaws of address tables and streams, as numbers.
use Rattle.std.specs.Prelude.{ℕ}
use Rattle.grain_base.specs.declared.pos.Error.{Error}
use Rattle.grain_base.specs.declared.pos.Error.TheVariants as table_error
use Rattle.grain_bytecode.specs.declared.sites.StreamError.{StreamError}
use Rattle.grain_bytecode.specs.declared.sites.StreamError.TheVariants as stream_error
use Rattle.grain_c.specs.declared.table_flaws.TheConstants.{SOUND, TRUNCATED, OVERFLOW, OUT_OF_ORDER, TRAILING_BYTES}

-- which flaw of an address table it is, and the address or the count that it names, or 0
abbrev pub table_flaw : Error → ℕ × ℕ
table_flaw table_error.Truncated = (TRUNCATED, 0)
table_flaw table_error.Overflow = (OVERFLOW, 0)
table_flaw (table_error.OutOfOrder at) = (OUT_OF_ORDER, at)
table_flaw (table_error.TrailingBytes count) = (TRAILING_BYTES, count)

-- Which flaw of a stream it is, and the count that it names, or 0. Out of memory is none.
abbrev pub stream_flaw : StreamError → ℕ × ℕ
stream_flaw stream_error.Truncated = (TRUNCATED, 0)
stream_flaw stream_error.Overflow = (OVERFLOW, 0)
stream_flaw (stream_error.TrailingBytes count) = (TRAILING_BYTES, count)
stream_flaw stream_error.OutOfMemory = (SOUND, 0)
