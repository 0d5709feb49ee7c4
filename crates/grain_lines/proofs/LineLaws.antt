-- Laws of lines, and of the cases among them.
use Rattle.std.proofs.Common.{◌≡◌, ℕ, Bool, true, false, eqb, eqb-true, List, [], ◌∷◌, ◌++◌, map, length, take, refl, sym, ap, ◌∙◌, arith, append_assoc, append-nil}
use Rattle.std.specs.Prelude.{count_by, filter, if◌then◌else◌, ◌==◌}
use Rattle.std.specs.List.{AllByRecursion, slice_split}
use Rattle.std.specs.Str.Lines.{lines, lines_of_parts, strip_carriage_return}
use Rattle.std.proofs.lemmas.Bool.Decides.{nat_tests}
use Rattle.std.proofs.lemmas.Grind.{flat_map-append}
use Rattle.std.proofs.lemmas.List.{map-append, length-map, length-append}
use Rattle.std.proofs.lemmas.List.Elements.{filter-append, All-append, All-cons, All-head, All-nil, All-tail, recursion_from_All}
use Rattle.std.proofs.lemmas.List.Splits.{slice_split_at, slice_split_none, length-slice_split}
use Rattle.std.proofs.Math.Seq.{take-append_seam}
use Rattle.grain_lines.specs.Words.{Lacks}
use Rattle.grain_lines.proofs.SearchLaws.{Lacks-nil}
use Rattle.grain_lines.specs.Lines.{AreLines, ended, ended_lines, is_line_feed, is_case, case_lines, complete_cases, complete_lines}

-- one more line was cut off
pub ended_lines-more : (all : List ℕ) (parts : List (List ℕ)) (carry piece more : List ℕ)
    → all ≡ ended_lines parts ++ (carry ++ (piece ++ 10 ∷ more)) → all ≡ ended_lines (parts ++ (carry ++ piece) ∷ []) ++ more
ended_lines-more all parts carry piece more e = e ∙ sym (ap (λ xs. xs ++ more) (flat_map-append ended parts ((carry ++ piece) ∷ [])) ∙ simp (append_assoc, append-nil))

pub AreLines-append : (input bytes : List ℕ) (parts more : List (List ℕ)) (carry rest : List ℕ)
    → AreLines input parts carry → AreLines (carry ++ bytes) more rest → AreLines (input ++ bytes) (parts ++ more) rest
AreLines-append input bytes parts more carry rest first second = record {
  whole = ap (λ xs. xs ++ bytes) first.whole ∙ append_assoc (ended_lines parts) carry bytes ∙ ap (λ xs. ended_lines parts ++ xs) second.whole
      ∙ sym (append_assoc (ended_lines parts) (ended_lines more) rest) ∙ sym (ap (λ xs. xs ++ rest) (flat_map-append ended parts more));
  each = All-append (Lacks 10) parts more first.each second.each;
  lacks = second.lacks;
}

pieces_by : (parts : List (List ℕ)) (rest : List ℕ) → AllByRecursion (Lacks 10) parts → Lacks 10 rest → slice_split is_line_feed (ended_lines parts ++ rest) ≡ parts ++ rest ∷ []
pieces_by [] rest each lacks = slice_split_none is_line_feed rest lacks
pieces_by (line ∷ parts) rest each lacks =
    let split : (line ++ 10 ∷ []) ++ ended_lines parts ++ rest ≡ line ++ 10 ∷ (ended_lines parts ++ rest) = simp append_assoc in
    ap (slice_split is_line_feed) split ∙ slice_split_at is_line_feed line 10 (ended_lines parts ++ rest) each.0 refl ∙ ap (λ xs. line ∷ xs) (pieces_by parts rest each.1 lacks)

-- the pieces between line feeds
pieces-cut : (input : List ℕ) (parts : List (List ℕ)) (rest : List ℕ) → AreLines input parts rest → slice_split is_line_feed input ≡ parts ++ rest ∷ []
pieces-cut input parts rest cut = ap (slice_split is_line_feed) cut.whole ∙ pieces_by parts rest (recursion_from_All (Lacks 10) parts cut.each) cut.lacks

-- the last line, if anything stands there
abbrev last_line : List ℕ → List (List ℕ)
last_line rest = if length rest == 0 then [] else rest ∷ []

last_line-some : (byte : ℕ) (bytes : List ℕ) → last_line (byte ∷ bytes) ≡ (byte ∷ bytes) ∷ []
last_line-some byte bytes = grind (arith, nat_tests)

lines_by : (parts : List (List ℕ)) (rest : List ℕ) → lines_of_parts (parts ++ rest ∷ []) ≡ map strip_carriage_return parts ++ last_line rest
lines_by [] rest = refl
lines_by (line ∷ []) rest = refl
lines_by (line ∷ next ∷ parts) rest = ap (λ xs. strip_carriage_return line ∷ xs) (lines_by (next ∷ parts) rest)

lines-cut : (input : List ℕ) (parts : List (List ℕ)) (rest : List ℕ) → AreLines input parts rest → lines input ≡ map strip_carriage_return parts ++ last_line rest
lines-cut input parts rest cut = ap lines_of_parts (pieces-cut input parts rest cut) ∙ lines_by parts rest

-- there are as many line feeds as complete lines
feeds-cut : (input : List ℕ) (parts : List (List ℕ)) (rest : List ℕ) → AreLines input parts rest → count_by is_line_feed input ≡ length (map strip_carriage_return parts)
feeds-cut input parts rest cut =
    omega (arith, length-slice_split is_line_feed input, ap length (pieces-cut input parts rest cut), length-append parts (rest ∷ []), length-map parts strip_carriage_return)

complete_lines-cut : (input : List ℕ) (parts : List (List ℕ)) (rest : List ℕ) → AreLines input parts rest → complete_lines input ≡ map strip_carriage_return parts
complete_lines-cut input parts rest cut =
    let count = feeds-cut input parts rest cut in
    ap (λ n. take n (lines input)) count ∙ ap (take (length (map strip_carriage_return parts))) (lines-cut input parts rest cut)
    ∙ take-append_seam (map strip_carriage_return parts) (last_line rest)

-- the cases among complete lines
abbrev pub cases_in : List (List ℕ) → List (List ℕ)
cases_in parts = filter is_case (map strip_carriage_return parts)

pub cases_in-append : (parts more : List (List ℕ)) → cases_in (parts ++ more) ≡ cases_in parts ++ cases_in more
cases_in-append parts more = ap (filter is_case) (map-append strip_carriage_return parts more) ∙ filter-append is_case (map strip_carriage_return parts) (map strip_carriage_return more)

pub complete_cases-cut : (input : List ℕ) (parts : List (List ℕ)) (rest : List ℕ) → AreLines input parts rest → complete_cases input ≡ cases_in parts
complete_cases-cut input parts rest cut = ap (filter is_case) (complete_lines-cut input parts rest cut)

-- an empty last line is no case
last_case : (rest : List ℕ) → filter is_case (last_line rest) ≡ filter is_case (rest ∷ [])
last_case [] = refl
last_case (byte ∷ bytes) = ap (filter is_case) (last_line-some byte bytes)

pub case_lines-cut : (input : List ℕ) (parts : List (List ℕ)) (rest : List ℕ) → AreLines input parts rest → case_lines input ≡ cases_in parts ++ filter is_case (rest ∷ [])
case_lines-cut input parts rest cut =
    ap (filter is_case) (lines-cut input parts rest cut) ∙ filter-append is_case (map strip_carriage_return parts) (last_line rest)
    ∙ ap (λ xs. cases_in parts ++ xs) (last_case rest)

-- one more byte in front
cut_more : (byte : ℕ) (bytes : List ℕ) (lines : List (List ℕ)) (rest : List ℕ) (b : Bool) → eqb byte 10 ≡ b → AreLines bytes lines rest
    → (parts : List (List ℕ)) × (last : List ℕ) × AreLines (byte ∷ bytes) parts last
cut_more byte bytes lines rest true h cut =
    ([] ∷ lines, rest, record { whole = ap (λ b. b ∷ bytes) (eqb-true byte 10 h) ∙ ap (λ xs. 10 ∷ xs) cut.whole; each = All-cons (Lacks 10) [] lines (Lacks-nil 10) cut.each; lacks = cut.lacks })
cut_more byte bytes [] rest false h cut =
    ([], byte ∷ rest, record { whole = ap (λ xs. byte ∷ xs) cut.whole; each = cut.each; lacks = All-cons (λ b. eqb b 10 ≡ false) byte rest h cut.lacks })
cut_more byte bytes (line ∷ lines) rest false h cut = (
  (byte ∷ line) ∷ lines,
  rest,
  record {
    whole = ap (λ xs. byte ∷ xs) cut.whole;
    each = All-cons (Lacks 10) (byte ∷ line) lines (All-cons (λ b. eqb b 10 ≡ false) byte line h (All-head (Lacks 10) line lines cut.each)) (All-tail (Lacks 10) line lines cut.each);
    lacks = cut.lacks;
  },
)

-- every input is some lines and a rest
pub cut_of : (input : List ℕ) → (lines : List (List ℕ)) × (rest : List ℕ) × AreLines input lines rest
cut_of [] = ([], [], record { whole = refl; each = All-nil (Lacks 10); lacks = Lacks-nil 10 })
cut_of (byte ∷ bytes) = let before = cut_of bytes in cut_more byte bytes before.0 before.1 (eqb byte 10) refl before.2
