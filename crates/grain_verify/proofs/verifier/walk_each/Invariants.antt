use Rattle.std.proofs.Common.{◌≡◌, ◌≤◌, length, take}
use Rattle.std.specs.Vec.{vec_capacity, vec_len}
use Rattle.std.specs.List.{AllWithin, AllZip}
use Rattle.grain_rules.specs.Accepted.{ChunkPasses}
use Rattle.grain_rules.specs.Code.{coded}
use Rattle.grain_verify.specs.Asked.{Knows}
use Rattle.grain_verify.specs.Progress.{AreCounted, Fits}
use Rattle.grain_rules.specs.Typing.{HasTyping, IsDeepest}
use Rattle.grain_verify.proofs.verifier.walk_each.Given as goal

abbrev pub invariant-loop-index : goal.invariant-loop-index
invariant-loop-index g l = record {
  fits : Fits l.prepared l.traversal;
  knows : Knows l.prepared.code.setting.facts l.asked;
  counted : AreCounted l.prepared.code l.prepared.starts (take l.index l.chunks) l.initial.meter l.meter;
  one_each : vec_len l.deepest ≡ l.index;
  reserved : length l.chunks ≤ vec_capacity l.deepest;
  passes : AllWithin (ChunkPasses l.prepared.code) l.chunks 0 l.index;
  typed : AllZip (HasTyping (coded l.prepared.code)) (take l.index l.chunks) l.deepest.items;
  deepest : AllZip (IsDeepest (coded l.prepared.code)) (take l.index l.chunks) l.deepest.items;
}
