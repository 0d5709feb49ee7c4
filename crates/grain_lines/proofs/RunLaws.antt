-- Laws of a run.
use Rattle.std.proofs.Common.{◌≡◌, ℕ, ◌+◌, ◌≤◌, ◌<◌, List, [], ◌∷◌, ◌++◌, length, Option, None, Some, refl, sym, ap, subst, ◌∙◌, arith, append_assoc, append-nil, length-append, take, length-take, inl, inr}
use Rattle.std.specs.Prelude.{filter}
use Rattle.std.proofs.lemmas.Grind.{common_steps}
use Rattle.std.proofs.KnownBytes.{Appends-nil, Appends-trans, Consumes-nil, Consumes-trans, Consumes-kept}
use Rattle.std.specs.Io.KnownBytes.{Appends, Consumes, IsAtEnd, Keeps}
use Rattle.std.proofs.lemmas.List.Elements.{All-nil}
use Rattle.grain_lines.specs.Lines.{AreLines, case_lines, is_case}
use Rattle.grain_lines.specs.Words.{Lacks}
use Rattle.grain_lines.specs.Stream.{SendsFront}
use Rattle.grain_lines.specs.Verdict.{IsVerdictText}
use Rattle.grain_lines.specs.Report.{Answers, AnswersBytes, Written, none_written}
use Rattle.grain_lines.specs.Outcome.{CountsOn, saturated}
use Rattle.grain_lines.specs.Driver.{AnswersAll, AnswersComplete, AnswersFirst, AnswersFront, AreReadCases}
use Rattle.grain_lines.specs.declared.outcome.Summary.{Summary}
use Rattle.grain_lines.proofs.SearchLaws.{Lacks-nil}
use Rattle.grain_lines.proofs.LineLaws.{AreLines-append, cases_in, cases_in-append, case_lines-cut, complete_cases-cut, cut_of}
use Rattle.grain_lines.proofs.AnswerLaws.{Answers-none, Answers-append, IsVerdictText-none}

-- an input was read whose cases are answered by what was sent and by the text that is yet to be sent
pub record Pending (left left' taken taken' : Option (List ℕ)) (input : List ℕ) (cases : List (List ℕ)) (written : Written) : Type 0 where
  pub sent : List ℕ
  pub read : Consumes left left' input
  pub answers : Answers cases none_written (record { text = sent ++ written.text; summary = written.summary })
  pub sending : Appends taken taken' sent

pending_none : (left taken : Option (List ℕ)) → Pending left left taken taken [] [] none_written
pending_none left taken = record {
  sent = [];
  read = Consumes-nil left;
  answers = Answers-none none_written;
  sending = Appends-nil taken;
}

-- more was read, and more cases were answered
pending_more : {left left' left'' taken taken' : Option (List ℕ)} {input : List ℕ} {cases more : List (List ℕ)} {old new : Written} (bytes : List ℕ)
    → Pending left left' taken taken' input cases old → Consumes left' left'' bytes → Answers more old new
    → Pending left left'' taken taken' (input ++ bytes) (cases ++ more) new
pending_more {left} {left'} {left''} {input = input} {old = old} bytes before read since = record {
  sent = before.sent;
  read = Consumes-trans left left' left'' input bytes before.read read;
  answers = Answers-append before.answers (record {
    added = since.added;
    verdicts = since.verdicts;
    text = ap (λ xs. before.sent ++ xs) since.text ∙ sym (append_assoc before.sent old.text since.added);
    counted = since.counted;
    counted_bad = since.counted_bad;
  });
  sending = before.sending;
}

-- the text was sent
pending_sent : {left left' taken taken' taken'' : Option (List ℕ)} {input : List ℕ} {cases : List (List ℕ)} {old new : Written}
    → Pending left left' taken taken' input cases old → Appends taken' taken'' old.text → new.text ≡ [] → new.summary ≡ old.summary
    → Pending left left' taken taken'' input cases new
pending_sent {taken = taken} {taken' = taken'} {taken'' = taken''} {cases = cases} {old = old} {new = new} before sent none same = record {
  sent = before.sent ++ old.text;
  read = before.read;
  answers = subst (λ text. Answers cases none_written (record { text = text; summary = new.summary }))
      (sym (ap (λ xs. (before.sent ++ old.text) ++ xs) none ∙ append-nil (before.sent ++ old.text)))
      (subst (λ summary. Answers cases none_written (record { text = before.sent ++ old.text; summary = summary })) (sym same) before.answers);
  sending = Appends-trans taken taken' taken'' before.sent old.text before.sending sent;
}

-- all that was answered is one verdict text
text_of : {left left' taken taken' : Option (List ℕ)} {input : List ℕ} {cases : List (List ℕ)} {written : Written}
    → (before : Pending left left' taken taken' input cases written) → IsVerdictText cases (before.sent ++ written.text)
text_of {cases = cases} before = subst (IsVerdictText cases) (sym before.answers.text) before.answers.verdicts

sent_of : {left left' taken taken' : Option (List ℕ)} {input : List ℕ} {cases : List (List ℕ)} {written : Written}
    → (before : Pending left left' taken taken' input cases written) → written.text ≡ [] → IsVerdictText cases before.sent
sent_of {cases = cases} before none = subst (IsVerdictText cases) (ap (λ xs. before.sent ++ xs) none ∙ append-nil before.sent) (text_of before)

-- only a front of the text was sent
pending_cut : {left left' taken taken' taken'' : Option (List ℕ)} {input : List ℕ} {cases : List (List ℕ)} {written : Written}
    → Pending left left' taken taken' input cases written → AreReadCases input left' cases → SendsFront taken' taken'' written.text → AnswersFront left left' taken taken''
pending_cut {taken = taken} {taken' = taken'} {taken'' = taken''} {input = input} {cases = cases} before due sent = record {
  input = input;
  cases = cases;
  front = before.sent ++ sent.front;
  back = sent.back;
  read = before.read;
  due = due;
  verdicts = subst (IsVerdictText cases) (ap (λ xs. before.sent ++ xs) sent.parts ∙ sym (append_assoc before.sent sent.front sent.back)) (text_of before);
  written = Appends-trans taken taken' taken'' before.sent sent.front before.sending sent.sent;
  cut = sent.left;
}

-- The state between two turns: some bytes were read, and their complete lines are answered. What came of the next line is carried.
pub record Reading (left left' taken taken' : Option (List ℕ)) (turns : ℕ) (carry : List ℕ) (written : Written) : Type 0 where
  pub input : List ℕ
  pub parts : List (List ℕ)
  pub cut : AreLines input parts carry
  pub state : Pending left left' taken taken' input (cases_in parts) written
  pub sent : written.text ≡ []
  pub long : turns ≤ length input

pub reading_none : (left taken : Option (List ℕ)) (carry : List ℕ) (written : Written) → carry ≡ [] → written ≡ none_written → Reading left left taken taken 0 carry written
reading_none left taken carry written empty none = record {
  input = [];
  parts = [];
  cut = record { whole = sym empty; each = All-nil (Lacks 10); lacks = subst (Lacks 10) (sym empty) (Lacks-nil 10) };
  state = subst (Pending left left taken taken [] []) (sym none) (pending_none left taken);
  sent = ap (λ w. w.text) none;
  long = omega arith;
}

-- a bytes was read, and its lines were answered
fed : {left left' left'' taken taken' : Option (List ℕ)} {turns : ℕ} {carry bytes new_carry : List ℕ} {old new : Written}
    → (before : Reading left left' taken taken' turns carry old) → Consumes left' left'' bytes → (since : AnswersBytes carry bytes new_carry old new)
    → Pending left left'' taken taken' (before.input ++ bytes) (cases_in (before.parts ++ since.lines)) new
fed {left} {left'' = left''} {taken = taken} {taken' = taken'} {bytes = bytes} {new = new} before read since =
    subst (λ cases. Pending left left'' taken taken' (before.input ++ bytes) cases new) (sym (cases_in-append before.parts since.lines))
    (pending_more bytes before.state read since.answers)

fed_cut : {left left' taken taken' : Option (List ℕ)} {turns : ℕ} {carry bytes new_carry : List ℕ} {old new : Written}
    → (before : Reading left left' taken taken' turns carry old) → (since : AnswersBytes carry bytes new_carry old new)
    → AreLines (before.input ++ bytes) (before.parts ++ since.lines) new_carry
fed_cut {carry = carry} {bytes = bytes} {new_carry = new_carry} before since = AreLines-append before.input bytes before.parts since.lines carry new_carry before.cut since.cut

-- its verdicts were sent too
pub reading_more : {left left' left'' taken taken' taken'' : Option (List ℕ)} {turns : ℕ} {carry bytes new_carry last_carry : List ℕ} {old new last : Written}
    → Reading left left' taken taken' turns carry old → Consumes left' left'' bytes → 0 < length bytes → AnswersBytes carry bytes new_carry old new
    → Appends taken' taken'' new.text → last.text ≡ [] → last.summary ≡ new.summary → last_carry ≡ new_carry
    → Reading left left'' taken taken'' (turns + 1) last_carry last
reading_more {bytes = bytes} before read some since sent none same same_carry = record {
  input = before.input ++ bytes;
  parts = before.parts ++ since.lines;
  cut = subst (AreLines (before.input ++ bytes) (before.parts ++ since.lines)) (sym same_carry) (fed_cut before since);
  state = pending_sent (fed before read since) sent none same;
  sent = none;
  long = omega (arith, length-append before.input bytes, before.long);
}

-- only a front of its verdicts was sent
pub reading_cut : {left left' left'' taken taken' taken'' : Option (List ℕ)} {turns : ℕ} {carry bytes new_carry : List ℕ} {old new : Written}
    → Reading left left' taken taken' turns carry old → Consumes left' left'' bytes → AnswersBytes carry bytes new_carry old new
    → SendsFront taken' taken'' new.text → AnswersFront left left'' taken taken''
reading_cut {new_carry = new_carry} before read since sent =
    pending_cut (fed before read since) (inl (sym (complete_cases-cut _ _ new_carry (fed_cut before since)))) sent

-- a read failed
pub reading_failed : {left left' left'' taken taken' : Option (List ℕ)} {turns : ℕ} {carry : List ℕ} {written : Written}
    → Reading left left' taken taken' turns carry written → Keeps left' left'' → AnswersComplete left left'' taken taken'
reading_failed {left} {left'} {left''} {carry = carry} before kept = record {
  input = before.input;
  text = before.state.sent;
  read = Consumes-kept left left' left'' before.input before.state.read kept;
  verdicts = subst (λ cases. IsVerdictText cases before.state.sent) (sym (complete_cases-cut before.input before.parts carry before.cut)) (sent_of before.state before.sent);
  written = before.state.sending;
}

-- no more reads are made
pub reading_left : {left left' taken taken' : Option (List ℕ)} {turns : ℕ} {carry : List ℕ} {written : Written}
    → Reading left left' taken taken' turns carry written → AnswersComplete left left' taken taken'
reading_left {left' = left'} before = reading_failed before (kept left') where
  kept : (known : Option (List ℕ)) → Keeps known known
  kept None = tt
  kept (Some bytes) = refl

-- there was no memory for a bytes
pub reading_stopped : {left left' left'' taken taken' : Option (List ℕ)} {turns : ℕ} {carry : List ℕ} {written : Written} (bytes : List ℕ)
    → Reading left left' taken taken' turns carry written → Consumes left' left'' bytes → AnswersFirst left left'' taken taken'
reading_stopped {left} {left'} {left''} {carry = carry} bytes before read =
    let (lines, rest, cut) = cut_of (carry ++ bytes) in
    let all = AreLines-append before.input bytes before.parts lines carry rest before.cut cut in
    record {
      input = before.input ++ bytes;
      cases = cases_in before.parts;
      later = cases_in lines;
      text = before.state.sent;
      read = Consumes-trans left left' left'' before.input bytes before.state.read read;
      first = complete_cases-cut _ _ rest all ∙ cases_in-append before.parts lines;
      verdicts = sent_of before.state before.sent;
      written = before.state.sending;
    }

-- there was no memory to begin with
pub nothing_read : (left taken : Option (List ℕ)) → AnswersFirst left left taken taken
nothing_read left taken = record {
  input = [];
  cases = [];
  later = [];
  text = [];
  read = Consumes-nil left;
  first = refl;
  verdicts = IsVerdictText-none;
  written = Appends-nil taken;
}

-- the source ended, and the last line was answered
finished : {left left' left'' taken taken' : Option (List ℕ)} {turns : ℕ} {carry : List ℕ} {old new : Written} (bytes : List ℕ)
    → (before : Reading left left' taken taken' turns carry old) → Consumes left' left'' bytes → bytes ≡ []
    → Answers (filter is_case (carry ∷ [])) old new → Pending left left'' taken taken' before.input (case_lines before.input) new
finished {left} {left'' = left''} {taken = taken} {taken' = taken'} {carry = carry} {new = new} bytes before read empty since =
    let all : before.input ++ bytes ≡ before.input = ap (λ xs. before.input ++ xs) empty ∙ append-nil before.input in
    subst (λ input. Pending left left'' taken taken' input (case_lines before.input) new) all
    (subst (λ cases. Pending left left'' taken taken' (before.input ++ bytes) cases new) (sym (case_lines-cut before.input before.parts carry before.cut))
    (pending_more bytes before.state read since))

total : (new n : ℕ) → CountsOn 0 new n → new ≡ saturated n
total new n counts = let e : 0 + n ≡ n = omega arith in counts 0 refl ∙ ap saturated e

-- its verdict was sent too
pub reading_all : {left left' left'' taken taken' taken'' : Option (List ℕ)} {turns : ℕ} {carry : List ℕ} {old new last : Written} {summary : Summary} (bytes : List ℕ)
    → Reading left left' taken taken' turns carry old → Consumes left' left'' bytes → bytes ≡ [] → IsAtEnd left'' → Answers (filter is_case (carry ∷ [])) old new
    → Appends taken' taken'' new.text → last.text ≡ [] → last.summary ≡ new.summary → summary ≡ last.summary → AnswersAll left left'' taken taken'' summary
reading_all {left} {left'' = left''} {taken = taken} {taken'' = taken''} {last = last} bytes before read empty at_end since sent none same is =
    let all : Pending left left'' taken taken'' before.input (case_lines before.input) last = pending_sent (finished bytes before read empty since) sent none same in
    subst (AnswersAll left left'' taken taken'') (sym is) (record {
      input = before.input;
      text = all.sent;
      read = all.read;
      ended = at_end;
      verdicts = sent_of all none;
      written = all.sending;
      cases = total last.summary.cases _ all.answers.counted;
      bad = total last.summary.bad _ all.answers.counted_bad;
    })

-- only a front of it was sent
pub reading_last_cut : {left left' left'' taken taken' taken'' : Option (List ℕ)} {turns : ℕ} {carry : List ℕ} {old new : Written} (bytes : List ℕ)
    → Reading left left' taken taken' turns carry old → Consumes left' left'' bytes → bytes ≡ [] → IsAtEnd left'' → Answers (filter is_case (carry ∷ [])) old new
    → SendsFront taken' taken'' new.text → AnswersFront left left'' taken taken''
reading_last_cut bytes before read empty at_end since sent = pending_cut (finished bytes before read empty since) (inr (at_end, refl)) sent

pub take_none : (n : ℕ) (xs : List ℕ) → n ≡ 0 → take n xs ≡ []
take_none n xs e = grind (arith, common_steps)

pub take_some : (n : ℕ) (xs : List ℕ) → (n ≡ 0 → ⊥) → n ≤ length xs → 0 < length (take n xs)
take_some n xs some le = omega (arith, length-take n xs)
