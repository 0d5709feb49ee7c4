use Rattle.std.proofs.Common.{◌≡◌, ◌≤◌, ℕ, false, true, sym, subst}
use Rattle.grain.specs.Program.{input_of}
use Rattle.grain_file.specs.ProgramFile.{kept}
use Rattle.grain_file.proofs.KeptAccepted.{accepted_alike}
use Rattle.grain_rules.specs.Accepted.{IsAccepted}
use Rattle.grain_flat_file.specs.Changed.{program_work}
use Rattle.grain_flat_file.proofs.RefusedFiles.{refused_cause}
use Rattle.grain_flat_file.proofs.SpannedWork.{accepted_visits, refused_visits, same_span}
use Rattle.grain_flat_file.proofs.WrittenAgain.{tight_has_file, tight_written}
use Rattle.grain_flat_file.proofs.changed.tighten.Goals as goal

pub returns-then-not-branch-clause-only : goal.returns-then-not-branch-clause-only
returns-then-not-branch-clause-only c p is accepted spans =
    let same : kept c.in-Ok.program ≡ kept p = c.in-Ok.ensures.only (kept p) is in
    let few : program_work c.in-Ok.program ≤ c.args.limit = subst (λ (n : ℕ). n ≤ c.args.limit) (sym (same_span p c.in-Ok.program same)) spans in
    let yes : c.in_ok-spans_within.field-0 ≡ true = c.in_ok-spans_within.ensures.1 few in
    let no : c.in_ok-spans_within.field-0 ≡ false = c.if-not-branch.true in
    cc

pub returns-in-Err-tighten_located-clause-only : goal.returns-in-Err-tighten_located-clause-only
returns-in-Err-tighten_located-clause-only c p is accepted spans =
    let same : kept c.in-Ok.program ≡ kept p = c.in-Ok.ensures.only (kept p) is in
    let here : IsAccepted (input_of c.in-Ok.program) = accepted_alike p c.in-Ok.program (sym same) accepted in
    c.stop_of.ensures.memory (c.in-Err-tighten_located.ensures.accepts here)

pub returns-in-Err-tighten_located-clause-causes : goal.returns-in-Err-tighten_located-clause-causes
returns-in-Err-tighten_located-clause-causes c =
    let refused = c.in-Err-tighten_located.ensures in
    refused_cause c.args.limits.now c.args.bytes.now c.args.limit c.args.meter.now c.tighten_located.new.meter c.in-Ok.program c.in-Err-tighten_located.refusal c.stop_of.result
    c.in-Ok.ensures.found refused.located refused.within c.stop_of.ensures.memory c.stop_of.ensures.refused

pub returns-in-Err-tighten_located-clause-visited : goal.returns-in-Err-tighten_located-clause-visited
returns-in-Err-tighten_located-clause-visited c =
    refused_visits c.in-Ok.program c.args.meter.now c.tighten_located.new.meter c.args.limit c.in-Err-tighten_located.ensures.within (c.in_ok-spans_within.ensures.0 c.if-not-branch.false)

pub file_of-requires : goal.file_of-requires
file_of-requires c =
    tight_has_file c.args.limits.now c.args.bytes.now c.in-Ok.program c.tighten_located.new.self c.in-Ok.ensures.found c.in-Ok-tighten_located.ensures.ok

pub returns-in_err-file_of-clause-visited : goal.returns-in_err-file_of-clause-visited
returns-in_err-file_of-clause-visited c =
    let tight = c.in-Ok-tighten_located.ensures in
    accepted_visits c.in-Ok.program c.args.meter.now c.tighten_located.new.meter c.args.limit tight.ok.accepted tight.reached (c.in_ok-spans_within.ensures.0 c.if-not-branch.false)

pub returns-clause-file : goal.returns-clause-file
returns-clause-file c =
    let tight = c.in-Ok-tighten_located.ensures in
    tight_written c.args.limits.now c.args.bytes.now c.in-Ok.program c.tighten_located.new.self c.in-Ok.ensures.found c.in_ok-file_of.field-0.items c.args.meter.now c.tighten_located.new.meter
    tight.ok c.in_ok-file_of.ensures tight.reached

pub returns-clause-visited : goal.returns-clause-visited
returns-clause-visited c =
    let tight = c.in-Ok-tighten_located.ensures in
    accepted_visits c.in-Ok.program c.args.meter.now c.tighten_located.new.meter c.args.limit tight.ok.accepted tight.reached (c.in_ok-spans_within.ensures.0 c.if-not-branch.false)
