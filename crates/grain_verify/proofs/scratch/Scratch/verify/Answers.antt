use Rattle.std.proofs.Common.{inr, refl}
use Rattle.grain_code.specs.Split.{Split, starts_from}
use Rattle.grain_rules.proofs.Verdicts.{memory_before, refused_before}
use Rattle.grain_verify.proofs.MeteredChunks.{metered_before, metered_located}
use Rattle.grain_verify.proofs.RefusedChunk.{located_memory, located_before, located_chunks, located_verdict}
use Rattle.grain_verify.proofs.scratch.Scratch.verify.Goals as goal

pub returns-in-Err-clause-verdict : goal.returns-in-Err-clause-verdict
returns-in-Err-clause-verdict g c =
    let before = c.in-Err.ensures in
    rw c.of_whole.ensures.error (refused_before c.args.candidate.now c.in-Err.error
    (λ a. before.refused (record { constants = a.constants; code = a.code; functions = a.functions })) before.flaws)

pub returns-in-Err-clause-located : goal.returns-in-Err-clause-located
returns-in-Err-clause-located g c =
    let before = c.in-Err.ensures in
    rw (c.of_whole.ensures.error, c.of_whole.ensures.chunk) (inr (located_before c.args.candidate.now c.in-Err.error before.refused before.flaws))

pub returns-in-Err-clause-memory : goal.returns-in-Err-clause-memory
returns-in-Err-clause-memory g c = rw c.of_whole.ensures.error (memory_before c.args.candidate.now c.in-Err.error c.in-Err.ensures.flaws)

pub verify_chunks-requires : goal.verify_chunks-requires
verify_chunks-requires g c = record { indexed = c.in-Ok.ensures.ok.code; known = c.in-Ok.ensures.known }

pub returns-in-Ok-clause-verdict : goal.returns-in-Ok-clause-verdict
returns-in-Ok-clause-verdict g c =
    let found = c.verify_chunks.ensures in
    located_verdict c.args.candidate.now c.verify_chunks.result c.in-Ok.ensures.ok found.passes found.typed found.deepest found.accepts found.flaws

pub returns-in-Ok-clause-located : goal.returns-in-Ok-clause-located
returns-in-Ok-clause-located g c = located_chunks _ c.verify_chunks.result c.in-Ok.ensures.ok c.verify_chunks.ensures.flaws

pub returns-in-Ok-clause-memory : goal.returns-in-Ok-clause-memory
returns-in-Ok-clause-memory g c = located_memory _ c.verify_chunks.result c.in-Ok.ensures.ok

pub returns-in-Ok-clause-metered : goal.returns-in-Ok-clause-metered
returns-in-Ok-clause-metered g c =
    let whole = c.in-Ok.ensures.ok.code in
    let split : Split c.args.candidate.now.code.bytes (starts_from 0 whole.0) = (whole.0, whole.1, refl) in
    metered_located c.args.candidate.now c.args.meter.now c.verify_chunks.new.meter c.verify_chunks.result (starts_from 0 whole.0) split (c.verify_chunks.ensures.metered (starts_from 0 whole.0) split)

pub returns-in-Err-clause-metered : goal.returns-in-Err-clause-metered
returns-in-Err-clause-metered g c = metered_before _ c.args.meter.now c.of_whole.result.error
