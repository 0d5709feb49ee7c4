use Rattle.std.proofs.Common.{◌++◌, ◌∷◌, [], ap, refl, sym, subst, ◌∙◌}
use Rattle.std.proofs.lemmas.List.Elements.{All-append, All-cons, All-nil}
use Rattle.grain_lines.specs.Lines.{ended_lines}
use Rattle.grain_lines.specs.Words.{Lacks}
use Rattle.grain_lines.proofs.SearchLaws.{Lacks-nil, Lacks-append}
use Rattle.grain_lines.proofs.LineLaws.{ended_lines-more}
use Rattle.grain_lines.proofs.AnswerLaws.{Answers-line, Answers-none}
use Rattle.grain_lines.proofs.report.Report.feed.Goals as goal

pub cutting-init : goal.cutting-init
cutting-init c = record {
  lines = [];
  whole = refl;
  each = All-nil (Lacks 10);
  lacks = c.requires;
  answers = Answers-none c.args.self.now.verdicts;
}

pub cutting-preserved : goal.cutting-preserved
cutting-preserved c =
    let so_far = c.cutting.invariant in
    let line = c.cutting.self.carry.items ++ c.in-Some.piece.now in
    let cut = ended_lines-more _ so_far.lines c.cutting.self.carry.items c.in-Some.piece.now c.in-Some.more.now
    (so_far.whole ∙ ap (λ xs. ended_lines so_far.lines ++ (c.cutting.self.carry.items ++ xs)) c.in-Some.ensures.parts) in
    let lacks : Lacks 10 line = Lacks-append 10 c.cutting.self.carry.items c.in-Some.piece.now so_far.lacks c.in-Some.ensures.first in
    record {
      lines = so_far.lines ++ line ∷ [];
      whole = cut ∙ ap (λ xs. ended_lines (so_far.lines ++ line ∷ []) ++ (xs ++ c.in-Some.more.now)) (sym c.in_ok-end_line.ensures.carry);
      each = All-append (Lacks 10) so_far.lines (line ∷ []) so_far.each (All-cons (Lacks 10) line [] lacks (All-nil (Lacks 10)));
      lacks = subst (Lacks 10) (sym c.in_ok-end_line.ensures.carry) (Lacks-nil 10);
      answers = Answers-line so_far.lines line so_far.answers c.in_ok-end_line.ensures.answers;
    }

pub returns : goal.returns
returns c =
    let so_far = c.cutting.invariant in
    let grown = c.in_ok-extend_from_slice.ensures.items in
    record {
      lines = so_far.lines;
      cut = record {
        whole = so_far.whole ∙ ap (λ xs. ended_lines so_far.lines ++ xs) (sym grown);
        each = so_far.each;
        lacks = subst (Lacks 10) (sym grown) (Lacks-append 10 c.cutting.self.carry.items c.cutting.rest.now so_far.lacks c.in_default.ensures.none);
      };
      answers = so_far.answers;
    }
