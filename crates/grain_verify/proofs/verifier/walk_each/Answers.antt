use Rattle.std.proofs.Common.{[], ◌∙◌, refl, arith}
use Rattle.grain_rules.specs.Code.{coded}
use Rattle.grain_rules.specs.Typing.{HasTyping, IsDeepest}
use Rattle.grain_verify.proofs.MeteredChunks.{counted_more, counted_refused}
use Rattle.grain_verify.proofs.MeterArithmetic.{counted_nothing}
use Rattle.grain_verify.proofs.ChunkInduction.{passes_more, passes_there, refused_at, number_more}
use Rattle.grain_verify.proofs.verifier.walk_each.Goals as goal

pub returns-in-Err-clause-accepts : goal.returns-in-Err-clause-accepts
returns-in-Err-clause-accepts g c all =
    c.of_chunk.ensures.error
    ∙ c.in-Err.ensures.accepts (passes_there c.args.prepared.now.code c.args.chunks.now c.loop-index.index c.index-chunks-index.result c.loop-index-test.true c.index-chunks-index.is all)

pub returns-in-Err-clause-flaws : goal.returns-in-Err-clause-flaws
returns-in-Err-clause-flaws g c =
    let of = c.of_chunk.ensures in
    refused_at c.args.prepared.now.code c.args.chunks.now c.loop-index.index c.index-chunks-index.result c.in-Err.error c.of_chunk.result c.loop-index-test.true c.index-chunks-index.is
    c.loop-index.invariant.passes of.error of.chunk of.memory c.in-Err.ensures.flaws

pub returns-in-Err-clause-metered : goal.returns-in-Err-clause-metered
returns-in-Err-clause-metered g c =
    counted_refused c.args.prepared.now.code c.args.prepared.now.starts c.args.chunks.now c.loop-index.index c.index-chunks-index.result c.args.meter.now c.loop-index.meter
    c.verify_chunk.new.meter c.loop-index-test.true c.index-chunks-index.is c.loop-index.invariant.counted c.in-Err.error c.in-Err.ensures.metered c.of_chunk.result

pub loop-index-preserved : goal.loop-index-preserved
loop-index-preserved g c =
    let v = c.in-Ok.ensures in
    let code = c.args.prepared.now.code in
    record {
      fits = v.fits;
      knows = v.knows;
      one_each = omega (arith, c.push_reserved.ensures.len, c.loop-index.invariant.one_each);
      reserved = omega (arith, c.push_reserved.ensures.capacity, c.loop-index.invariant.reserved);
      counted = counted_more code c.args.prepared.now.starts c.args.chunks.now c.loop-index.index c.index-chunks-index.result c.args.meter.now c.loop-index.meter
          c.verify_chunk.new.meter c.loop-index-test.true c.index-chunks-index.is c.loop-index.invariant.counted c.in-Ok.needed v.metered;
      passes = passes_more code c.args.chunks.now c.loop-index.index c.index-chunks-index.result c.loop-index-test.true c.index-chunks-index.is c.loop-index.invariant.passes v.passes;
      deepest = rw c.push_reserved.ensures.items (number_more (IsDeepest (coded code)) c.args.chunks.now c.loop-index.deepest.items c.loop-index.index c.index-chunks-index.result
          c.in-Ok.needed c.loop-index-test.true c.index-chunks-index.is c.loop-index.invariant.deepest v.deepest);
      typed = rw c.push_reserved.ensures.items (number_more (HasTyping (coded code)) c.args.chunks.now c.loop-index.deepest.items c.loop-index.index c.index-chunks-index.result
          c.in-Ok.needed c.loop-index-test.true c.index-chunks-index.is c.loop-index.invariant.typed v.typed);
    }

pub returns-clause-passes : goal.returns-clause-passes
returns-clause-passes g c k d l =
    c.loop-index.invariant.passes k d (omega arith) (let h = c.loop-index-test.false in omega arith)

pub loop-index-init : goal.loop-index-init
loop-index-init g c =
    let room = c.in_ok-try_reserve_exact.ensures in
    let none = room.items ∙ c.clear.ensures.items in
    record {
      fits = c.in_ok-make_room.ensures;
      knows = c.forget.ensures c.args.prepared.now.code.setting.facts;
      counted = record { visits = 0; within = omega arith; counted = counted_nothing c.args.meter.now; reached = ([], tt, refl) };
      one_each = room.len ∙ c.clear.ensures.len;
      reserved = let empty = room.len ∙ c.clear.ensures.len in omega (arith, room.ok, empty);
      passes = λ k d from below. absurd (omega (arith, below));
      typed = rw none tt;
      deepest = rw none tt;
    }
