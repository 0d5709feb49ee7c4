use Rattle.std.proofs.Common.{◌∷◌, ◌≡◌, ◌+◌, ℕ, List, sym, ap, subst, arith}
use Rattle.grain_code.specs.InstructionTable.{width_of}
use Rattle.grain_code.specs.Split.{StandsAt}
use Rattle.grain_code.specs.declared.op.Op.{Op}
use Rattle.grain_code.proofs.Instructions.{instr_width}
use Rattle.grain_code.proofs.FieldBytes.{same_instruction}
use Rattle.grain_rules.specs.FirstOut.{alone}
use Rattle.grain_rules.specs.Flaw.{bad_index, undecodable}
use Rattle.grain_rules.specs.Indices.{IsOut}
use Rattle.grain_rules.proofs.IndexedCode.{indexed_more}
use Rattle.grain_rules.proofs.code_test.check_at.Goals as goal

pub unreachable-requires : goal.unreachable-requires
unreachable-requires g c = let found = c.in-Some.ensures.found in c.in_default-op.ensures.none found.0 found.2

pub returns-in_default-clause-err : goal.returns-in_default-clause-err
returns-in_default-clause-err g c = undecodable (record { inside = c.requires.inside; front = c.requires.front }) c.in_default.ensures.none

pub returns-in-Ok-clause-stands : goal.returns-in-Ok-clause-stands
returns-in-Ok-clause-stands g c =
    let i = c.in-Some.instruction in
    let found = c.in-Some.ensures.found in
    let op = c.in-Some-op.op in
    let same = same_instruction (i.tag ∷ i.fields.now) found.0 op found.2 c.in-Some-op.ensures.found in
    let wide : c.width.result ≡ width_of op = let e = c.width.ensures in let w = instr_width (i.tag ∷ i.fields.now) op c.in-Some-op.ensures.found in omega arith in
    (op, subst (λ (o : Op). StandsAt c.args.code.now c.args.at o) same found.1, ap (λ n. c.args.at + n) wide)

pub returns-in-Ok-clause-ok : goal.returns-in-Ok-clause-ok
unfolding returns-in-Ok-clause-stands
returns-in-Ok-clause-ok g c =
    let here = returns-in-Ok-clause-stands g c in
    let s = alone (g.P.Read.facts c.args.pools.now) in
    indexed_more s c.args.code.now c.args.at c.width.result c.in-Some-op.op c.requires.front here.1 c.in-Ok.ensures.ok (omega (arith, here.2))

pub returns-in-Err-clause-err : goal.returns-in-Err-clause-err
returns-in-Err-clause-err g c =
    let i = c.in-Some.instruction in
    let found = c.in-Some.ensures.found in
    let op = c.in-Some-op.op in
    let same = same_instruction (i.tag ∷ i.fields.now) found.0 op found.2 c.in-Some-op.ensures.found in
    bad_index op (record { inside = c.requires.inside; front = c.requires.front }) (subst (λ (o : Op). StandsAt c.args.code.now c.args.at o) same found.1)
    (subst (λ (what : List ℕ). IsOut (alone (g.P.Read.facts c.args.pools.now)) op what c.in-Err.bad.index) (sym c.word_of.ensures) c.in-Err.ensures.err)
