-- Laws of texts that lack a byte.
use Rattle.std.proofs.Common.{◌≡◌, ℕ, false, eqb, List, [], ◌++◌, take, drop, sym, ap, ◌∙◌, append_assoc}
use Rattle.std.proofs.lemmas.List.{take-append-drop}
use Rattle.std.proofs.lemmas.List.Elements.{All-append, All-nil}
use Rattle.grain_lines.specs.Words.{Lacks, Skips}

pub Lacks-nil : (byte : ℕ) → Lacks byte []
Lacks-nil byte = All-nil (λ b. eqb b byte ≡ false)

pub Lacks-append : (byte : ℕ) (xs ys : List ℕ) → Lacks byte xs → Lacks byte ys → Lacks byte (xs ++ ys)
Lacks-append byte xs ys = All-append (λ b. eqb b byte ≡ false) xs ys

-- one more block lacks the byte
pub Skips-more : (byte : ℕ) (text rest : List ℕ) (n : ℕ) → Skips byte text rest → Lacks byte (take n rest) → Skips byte text (drop n rest)
Skips-more byte text rest n so_far lacks = record {
  front = so_far.front ++ take n rest;
  parts = so_far.parts ∙ ap (λ xs. so_far.front ++ xs) (sym (take-append-drop n rest)) ∙ sym (append_assoc so_far.front (take n rest) (drop n rest));
  lacks = Lacks-append byte so_far.front (take n rest) so_far.lacks lacks;
}
