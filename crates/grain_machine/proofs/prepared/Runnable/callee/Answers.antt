use Rattle.std.proofs.Common.{◌<◌, ◌+◌, ap, ◌∙◌, length, arith}
use Rattle.std.proofs.lemmas.Option.{slice_get-get_or}
use Rattle.grain_machine.specs.State.{Runs}
use Rattle.grain_machine.proofs.Chunks.{function_chunk, depths_long, runnable}
use Rattle.grain_machine.proofs.prepared.Runnable.callee.Goals as goal

pub bounds-self-inside-function : goal.bounds-self-inside-function
bounds-self-inside-function c =
    let l = depths_long _ c.self.invariant.1 in
    let e = ap (λ (r : Runs). length r.program.functions) c.self.view_is in
    let h = c.requires in
    omega arith

pub invariant_of-result : goal.invariant_of-result
invariant_of-result c =
    let l = depths_long _ c.self.invariant.1 in
    let e = ap (λ (r : Runs). length r.program.functions) c.self.view_is in
    let h = c.requires in
    let inside : c.args.function < length c.self.inside.program.now.functions = omega arith in
    let long : c.args.function + 1 < length c.self.inside.depths.now = omega arith in (
      runnable _ (c.args.function + 1) _ _ c.self.invariant.1
          (function_chunk c.self.inside.program.now c.functions.result.now c.args.function c.index-functions-function.result c.functions.ensures inside)
          (slice_get-get_or c.self.inside.depths.now (c.args.function + 1) 0 long),
      c.self.invariant.1,
      c.self.invariant.2,
    )

pub returns-clause-chunk : goal.returns-clause-chunk
returns-clause-chunk c =
    let same = ap (λ (r : Runs). r.program.functions) c.self.view_is in
    function_chunk c.args.self.now.program c.functions.result.now c.args.function c.index-functions-function.result (c.functions.ensures ∙ same) c.requires
