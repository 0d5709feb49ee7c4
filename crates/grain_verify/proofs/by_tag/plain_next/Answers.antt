use Rattle.std.proofs.Common.{◌≡◌, ◌+◌, ◌-◌, ◌≤◌, ap, ◌∙◌, arith}
use Rattle.grain_code.specs.InstructionTable.{width_of}
use Rattle.grain_verify.proofs.by_tag.plain_next.Goals as goal

pub returns-then-row : goal.returns-then-row
returns-then-row c code lists op stands tag width is_floor =
    let here = c.args.here in
    let row = c.args.row.now in
    let wide : c.from-then-row-3.result ≡ width_of op = let e = c.from-then-row-3.ensures in omega arith in
    let tells = c.requires.row.tells op tag in
    let plain = tells.plain c.if-row.true in
    let fixed = tells.fixed plain.0 in
    let takes = c.from-then-row.ensures in
    let gives = c.from-then-row-2.ensures in
    let enough : c.args.floor + row.needs ≤ here.state.operands = omega (arith, c.from.ensures, c.from-2.ensures, c.if-floor-from.true) in
    let fewer = c.requires.row.there in
    record {
      op = op;
      needs = row.needs;
      takes = row.takes;
      gives = row.gives;
      stands = stands;
      plain = record { operands = fixed.operands; caps = fixed.caps; flow = plain.1 };
      there = omega (arith, enough);
      above = is_floor (here.state.operands - row.takes) (omega (arith, c.requires.operands_room)) (omega (arith, enough, fewer));
      is =
          c.next.ensures
          ∙ ap (λ n. record { at = here.at + n; ordinal = here.ordinal + 1; state = record here.state { operands = here.state.operands - c.from-then-row.result + c.from-then-row-2.result } }) wide
          ∙ ap (λ n. record { at = here.at + width_of op; ordinal = here.ordinal + 1; state = record here.state { operands = here.state.operands - n + c.from-then-row-2.result } }) takes
          ∙ ap (λ n. record { at = here.at + width_of op; ordinal = here.ordinal + 1; state = record here.state { operands = here.state.operands - row.takes + n } }) gives;
    }
