use Rattle.std.proofs.Common.{◌≡◌, ◌+◌, ◌-◌, ℕ, List, Some, ap, arith, length, slice_get, string_bytes, sym, ◌∙◌}
use Rattle.grain_pools.specs.Names.{texts}
use Rattle.grain_parse.proofs.parsing.refusal_of.Goals as goal

pub returns-in-Ok : goal.returns-in-Ok
returns-in-Ok c =
    let copied : string_bytes c.in-Ok.text ≡ c.line_at-line.result.now = c.in-Ok.ensures.ok in
    let same : c.args.flaw.line + 1 - 1 ≡ c.args.flaw.line = omega arith in
    let long : length (string_bytes c.in-Ok.text) ≡ length c.line_at-line.result.now = ap length copied in
    record {
      first = omega arith;
      line = ap (λ (at : ℕ). slice_get (texts c.args.lines.now) at) same ∙ c.line_at-line.ensures ∙ ap (λ (line : List ℕ). Some line) (sym copied);
      begins = omega arith;
      inside = omega (arith, long);
    }
