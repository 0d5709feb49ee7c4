use Rattle.std.proofs.Common.{◌∷◌, [], filter, string_bytes, sym, subst}
use Rattle.grain_lines.specs.Lines.{is_case}
use Rattle.grain_lines.specs.Report.{Answers, Written}
use Rattle.grain_lines.proofs.AnswerLaws.{answers_one}
use Rattle.grain_lines.proofs.report.Verdicts.answer.Goals as goal

pub returns : goal.returns
returns c =
    let new : Written = record { text = string_bytes c.push_str.new.self; summary = c.count.new.self } in
    subst (λ old. Answers (filter is_case (c.args.line.now ∷ [])) old new) c.self.view_is
    (answers_one c.args.line.now _ _ new c.in_ok-case.case c.is_none.result (sym c.if-not-is_case.ensures) c.in_ok-case.ensures.ok c.is_none.ensures
    c.in_ok-write_verdict_with.ensures c.in_ok-push_str.ensures.bytes c.count.ensures.cases c.count.ensures.bad)
