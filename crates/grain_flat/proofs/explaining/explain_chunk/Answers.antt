use Rattle.std.proofs.Common.{◌≡◌, ◌∙◌, ap, rules}
use Rattle.grain_rules.specs.Code.{bytecode_beside}
use Rattle.grain_flat.specs.RowFacts.{facts_by_rows, leads_of}
use Rattle.grain_flat.specs.declared.records.CPools.{CPools}
use Rattle.grain_flat.proofs.CodeOfRows.{code_by_rows, are_of_rows}
use Rattle.grain_flat.proofs.Explained.{flat_cause, one_explained}
use Rattle.grain_flat.proofs.explaining.explain_chunk.Goals as goal

pub returns-clause-explained : goal.returns-clause-explained
returns-clause-explained c =
    let p = c.args.pools.now in
    let are = are_of_rows p c.requires c.new-rows.ensures.small in
    let same = ap (λ (q : CPools). bytecode_beside c.args.caps.0 (facts_by_rows q) (leads_of q) c.args.code.now) c.new-rows.ensures.same in
    let is = same ∙ code_by_rows c.args.caps.0 c.args.code.now p _ are.chains_are in
    let here : c.new.result ≡ c.args.chunk.now = search rules in
    let found = one_explained _ _ c.new.result c.args.chunk.now c.in-Ok.explained.items c.pop.new.self.items c.in-Some.explained c.in-Ok.ensures.explained
    c.in-Ok.ensures.exact c.in-Some.ensures.items is here in
    record {
      chains = _;
      switches = _;
      chains_are = are.chains_are;
      switches_are = are.switches_are;
      explained = found.0;
      exact = found.1;
    }

pub returns-in-Err-clause-cause : goal.returns-in-Err-clause-cause
returns-in-Err-clause-cause c =
    let p = c.args.pools.now in
    let are = are_of_rows p c.requires c.new-rows.ensures.small in
    let same = ap (λ (q : CPools). bytecode_beside c.args.caps.0 (facts_by_rows q) (leads_of q) c.args.code.now) c.new-rows.ensures.same in
    let is = same ∙ code_by_rows c.args.caps.0 c.args.code.now p _ are.chains_are in
    flat_cause c.args.caps.0 c.args.code.now p (record { chains = _; switches = _; chains_are = are.chains_are; switches_are = are.switches_are }) _
    c.in-Err.error is c.in-Err.ensures.cause
