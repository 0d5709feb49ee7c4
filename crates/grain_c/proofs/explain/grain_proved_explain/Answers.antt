use Rattle.std.proofs.Common.{subst}
use Rattle.grain_flat.specs.Explaining.{Beside, ExplainsChunk, IsIndexedBeside}
use Rattle.grain_flat.proofs.ExplainedRoom.{written_in}
use Rattle.grain_c.proofs.explain.grain_proved_explain.Goals as goal

pub returns-in-Err-BadCode-clause-bad_code : goal.returns-in-Err-BadCode-clause-bad_code
returns-in-Err-BadCode-clause-bad_code c is =
    let program = c.args.program.now in
    subst (λ caps. (beside : Beside program.pools) × (IsIndexedBeside caps program.code.now program.pools beside → ⊥)) (c.from_bits_retain-caps.ensures tt) (c.in-Err-BadCode.ensures.cause c.in-Err-BadCode.field-0-is)

pub returns-in-None-clause-accepted : goal.returns-in-None-clause-accepted
returns-in-None-clause-accepted c is =
    let x = c.in-Ok.found in
    let program = c.args.program.now in
    let counts = c.counts_of.ensures in (
      x,
      record {
        chunk = c.in-Some.span.now;
        is = c.in-Some.ensures.some;
        explains = subst (λ caps. ExplainsChunk caps program.code.now c.in-Some.span.now program.pools x) (c.from_bits_retain-caps.ensures tt) c.in-Ok.ensures.explained;
      },
      c.in-None.is,
      written_in x c.in-Ok-rows_of.made c.args.rows.now c.deref.result.now c.fill.new.room c.args.bases.now c.deref-2.result.now c.fill-2.new.room c.counts_of.result c.in-Ok-rows_of.ensures
          c.deref.ensures.value c.fill.ensures c.deref-2.ensures.value c.fill-2.ensures counts.visited counts.path counts.other counts.bases,
      counts.kept c.in-None.is,
    )

pub returns-clause-refused : goal.returns-clause-refused
returns-clause-refused c is =
    let x = c.in-Ok.found in
    let program = c.args.program.now in
    let counts = c.counts_of.ensures in (
      x,
      c.in-Some-refusal.field-0,
      record {
        chunk = c.in-Some.span.now;
        is = c.in-Some.ensures.some;
        explains = subst (λ caps. ExplainsChunk caps program.code.now c.in-Some.span.now program.pools x) (c.from_bits_retain-caps.ensures tt) c.in-Ok.ensures.explained;
      },
      c.in-Some-refusal.is,
      written_in x c.in-Ok-rows_of.made c.args.rows.now c.deref.result.now c.fill.new.room c.args.bases.now c.deref-2.result.now c.fill-2.new.room c.counts_of.result c.in-Ok-rows_of.ensures
          c.deref.ensures.value c.fill.ensures c.deref-2.ensures.value c.fill-2.ensures counts.visited counts.path counts.other counts.bases,
      counts.refusal c.in-Some-refusal.field-0 c.in-Some-refusal.is,
    )
