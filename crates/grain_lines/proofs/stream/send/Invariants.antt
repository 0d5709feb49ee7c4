use Rattle.std.proofs.Common.{◌≡◌, List, ℕ, ◌++◌, length}
use Rattle.std.specs.Io.KnownBytes.{Appends}
use Rattle.grain_lines.proofs.stream.send.Given as goal

-- a front of the bytes went out, and the rest is left
abbrev pub invariant-sending : goal.invariant-sending
invariant-sending g l = record {
  front : List ℕ;
  parts : l.bytes ≡ front ++ l.rest;
  sent : Appends (g.K.Sink.taken l.initial.writer) (g.K.Sink.taken l.writer) front;
  unmarked : g.K.Sink.mark l.writer ≡ g.K.Sink.mark l.initial.writer;
}

abbrev pub decreases-sending : goal.decreases-sending
decreases-sending g l = length l.rest
