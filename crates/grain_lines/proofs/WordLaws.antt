-- Laws of words.
use Rattle.std.proofs.Common.{◌≡◌, ℕ, ◌<◌, List, [], ◌∷◌, ◌++◌, length, false, filter, refl, sym, ap, subst, ◌∙◌, arith, eqb}
use Rattle.std.proofs.lemmas.Bool.{false≢true}
use Rattle.std.proofs.lemmas.List.Splits.{slice_split_at, slice_split_none}
use Rattle.grain_lines.specs.Words.{Lacks}
use Rattle.grain_lines.specs.Words.{words, is_word, is_space, StartsWord}

-- a word that a space ends is the first
pub words-first : (word rest : List ℕ) → StartsWord (word ++ 32 ∷ rest) → Lacks 32 word → words (word ++ 32 ∷ rest) ≡ word ∷ words rest
words-first [] rest starts lacks = absurd (false≢true (sym starts))
words-first (byte ∷ bytes) rest starts lacks = ap (filter is_word) (slice_split_at is_space (byte ∷ bytes) 32 rest lacks refl)

-- a word that nothing follows is the only one
pub words-last : (word : List ℕ) → 0 < length word → Lacks 32 word → words word ≡ word ∷ []
words-last [] long lacks = absurd (omega arith)
words-last (byte ∷ bytes) long lacks = ap (filter is_word) (slice_split_none is_space (byte ∷ bytes) lacks)

pub words-first_of : (text word rest : List ℕ) → text ≡ word ++ 32 ∷ rest → StartsWord text → Lacks 32 word → words text ≡ word ∷ words rest
words-first_of text word rest parts starts lacks = ap words parts ∙ words-first word rest (subst StartsWord parts starts) lacks

pub words-last_of : (word : List ℕ) → false ≡ eqb (length word) 0 → Lacks 32 word → words word ≡ word ∷ []
words-last_of word long lacks = words-last word (some (length word) long) lacks where
  some : (n : ℕ) → false ≡ eqb n 0 → 0 < n
  some n h = grind arith
