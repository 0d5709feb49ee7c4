use Rattle.std.proofs.Common.{subst, sym, arith}
use Rattle.grain_lines.specs.Words.{Lacks, Skips}
use Rattle.grain_lines.proofs.SearchLaws.{Skips-more}
use Rattle.grain_lines.proofs.words.skip_blocks.Goals as goal

pub skipping-preserved : goal.skipping-preserved
skipping-preserved c =
    let block = c.in-Some.ensures.cases in
    let lacks : Lacks c.args.byte c.in-Some.block.now = λ k d within. c.if-contains.ensures.cases k d (omega arith) within in
    subst (Skips c.args.byte c.args.text.now) (sym block.1) (Skips-more c.args.byte c.args.text.now c.skipping.rest.now 32 c.skipping.invariant (subst (Lacks c.args.byte) block.0 lacks))
