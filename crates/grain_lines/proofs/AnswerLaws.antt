-- Laws of verdicts, and of the count of cases.
use Rattle.std.proofs.Common.{◌≡◌, ℕ, length, ◌+◌, zero-add, Bool, true, false, cond, List, [], ◌∷◌, ◌++◌, Some, None, Option, refl, sym, ap, subst, ◌∙◌, arith, append_assoc, append-nil}
use Rattle.std.specs.Prelude.{is_none, is_some, not, filter, count_by}
use Rattle.std.specs.List.{AllZip}
use Rattle.std.specs.Option.{option_map}
use Rattle.std.proofs.lemmas.Grind.{flat_map-append}
use Rattle.std.specs.Str.Lines.{strip_carriage_return}
use Rattle.std.proofs.lemmas.List.{length-append}
use Rattle.std.proofs.lemmas.List.Sums.{sum_by-append}
use Rattle.grain_lines.specs.Lines.{ended, ended_lines, is_case}
use Rattle.grain_lines.specs.LineCase.{asked, is_bad, as_asked}
use Rattle.grain_lines.specs.declared.case.LineCase.{LineCase}
use Rattle.grain_lines.specs.Verdict.{Adds, IsVerdictOn, Verdict, IsVerdictText}
use Rattle.grain_lines.specs.Report.{Answers, Written}
use Rattle.grain_lines.specs.Outcome.{CountsOn, saturated}
use Rattle.grain_lines.proofs.LineLaws.{cases_in, cases_in-append}

-- a line without a form spells no case
bad-as_asked : (found : Option LineCase) (bad : Bool) → is_some found ≡ not bad → bad ≡ is_none (option_map as_asked found)
bad-as_asked (Some case) true e = e
bad-as_asked (Some case) false e = refl
bad-as_asked None true e = refl
bad-as_asked None false e = e

-- a case was answered and counted
pub answers_one : (line mid : List ℕ) (old new : Written) (found : Option LineCase) (bad : Bool) → is_case line ≡ true → option_map as_asked found ≡ asked line
    → is_some found ≡ not bad → Adds (IsVerdictOn (option_map as_asked found)) old.text mid → new.text ≡ mid ++ 10 ∷ []
    → CountsOn old.summary.cases new.summary.cases 1 → CountsOn old.summary.bad new.summary.bad (cond bad 1 0) → Answers (filter is_case (line ∷ [])) old new
answers_one line mid old new found bad is found_is bad_is adds e cases bads = rw is (record {
  added = ended adds.added;
  verdicts = record {
    verdicts = adds.added ∷ [];
    each = (subst (λ question. IsVerdictOn question adds.added) found_is adds.kind, tt);
    whole = sym (append-nil (ended adds.added));
  };
  text = e ∙ ap ended adds.text ∙ append_assoc old.text adds.added (10 ∷ []);
  counted = cases;
  counted_bad =
      let same : is_bad line ≡ bad = sym (bad-as_asked found bad bad_is ∙ ap is_none found_is) in
      rw same (subst (CountsOn old.summary.bad new.summary.bad) (sym (zero-add (cond bad 1 0))) bads);
})

AllZip-append : (cases more : List (List ℕ)) (texts more_texts : List (List ℕ)) → AllZip Verdict cases texts → AllZip Verdict more more_texts
    → AllZip Verdict (cases ++ more) (texts ++ more_texts)
AllZip-append [] more [] more_texts first second = second
AllZip-append [] more (text ∷ texts) more_texts first second = absurd first
AllZip-append (line ∷ cases) more [] more_texts first second = absurd first
AllZip-append (line ∷ cases) more (text ∷ texts) more_texts first second = (first.0, AllZip-append cases more texts more_texts first.1 second)

IsVerdictText-append : (cases more : List (List ℕ)) (text more_text : List ℕ) → IsVerdictText cases text → IsVerdictText more more_text
    → IsVerdictText (cases ++ more) (text ++ more_text)
IsVerdictText-append cases more text more_text first second = record {
  verdicts = first.verdicts ++ second.verdicts;
  each = AllZip-append cases more first.verdicts second.verdicts first.each second.each;
  whole = ap (λ xs. xs ++ more_text) first.whole ∙ ap (λ xs. ended_lines first.verdicts ++ xs) second.whole
      ∙ sym (flat_map-append ended first.verdicts second.verdicts);
}

CountsOn-none : (count : ℕ) → CountsOn count count 0
CountsOn-none count total e = let same : total ≡ total + 0 = omega arith in e ∙ ap saturated same

CountsOn-append : (a b c more most : ℕ) → CountsOn a b more → CountsOn b c most → CountsOn a c (more + most)
CountsOn-append a b c more most first second total e =
    let regrouped : total + more + most ≡ total + (more + most) = omega arith in
    second (total + more) (first total e) ∙ ap saturated regrouped

pub IsVerdictText-none : IsVerdictText [] []
IsVerdictText-none = record { verdicts = []; each = tt; whole = refl }

pub Answers-none : (written : Written) → Answers [] written written
Answers-none written = record {
  added = [];
  verdicts = IsVerdictText-none;
  text = sym (append-nil written.text);
  counted = CountsOn-none written.summary.cases;
  counted_bad = CountsOn-none written.summary.bad;
}

-- some cases were answered, and then some more
pub Answers-append : {cases more : List (List ℕ)} {a b c : Written} → Answers cases a b → Answers more b c → Answers (cases ++ more) a c
Answers-append {cases} {more} {a} {b} {c} first second = record {
  added = first.added ++ second.added;
  verdicts = IsVerdictText-append cases more first.added second.added first.verdicts second.verdicts;
  text = second.text ∙ ap (λ xs. xs ++ second.added) first.text ∙ append_assoc a.text first.added second.added;
  counted = rw (length-append cases more) (CountsOn-append a.summary.cases b.summary.cases c.summary.cases (length cases) (length more) first.counted second.counted);
  counted_bad = rw (sum_by-append (λ line. cond (is_bad line) 1 0) cases more)
      (CountsOn-append a.summary.bad b.summary.bad c.summary.bad (count_by is_bad cases) (count_by is_bad more) first.counted_bad second.counted_bad);
}

-- the answers to some lines, and then to one more
pub Answers-line : {a b c : Written} (lines : List (List ℕ)) (line : List ℕ)
    → Answers (cases_in lines) a b → Answers (filter is_case (strip_carriage_return line ∷ [])) b c → Answers (cases_in (lines ++ line ∷ [])) a c
Answers-line {a} {c = c} lines line first second = subst (λ cases. Answers cases a c) (sym (cases_in-append lines (line ∷ []))) (Answers-append first second)
