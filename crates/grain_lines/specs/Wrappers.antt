-- The wrappers of std's readers and writers.
use Rattle.std.specs.Prelude.{ℕ}
use Rattle.grain_lines.specs.declared.stream.OverRead.{OverRead}
use Rattle.grain_lines.specs.declared.stream.OverWrite.{OverWrite}

-- how many reads failed, counted modulo 2 ^ 64
abbrev pub failed_reads : {R : Type 0} → OverRead R → ℕ
failed_reads source = source.failures

-- the reader that is read
abbrev pub reader_of : {R : Type 0} → OverRead R → R
reader_of source = source.reader

-- how many writes failed, counted modulo 2 ^ 64
abbrev pub failed_writes : {W : Type 0} → OverWrite W → ℕ
failed_writes sink = sink.failures

-- the writer that is written to
abbrev pub writer_of : {W : Type 0} → OverWrite W → W
writer_of sink = sink.writer
