-- The starts of code as contracts see them, and how bits stand for them.
use Rattle.std.specs.Prelude.{◌≡◌, ℕ, ◌*◌, ◌/◌, ◌%◌, ◌≤◌, ◌<◌, ◌==◌, ◌++◌, ◌∷◌, [], Bool, false, List, map, length, take, filter, slice_get, slice_index, Some}
use Rattle.std.specs.Int.{bit_at}
use Rattle.std.specs.List.{range_with_len}
use Rattle.grain_code.specs.Split.{AreInstructions, Split, NoneStandsAt, starts_from}
use Rattle.grain_code.specs.declared.op.Op.{Op}
use Rattle.grain_code.specs.declared.starts.Word.{Word}

-- a front of code: where it ends, and where its instructions begin
pub record Front : Type 0 where
  pub end : ℕ
  pub starts : List ℕ

-- it is the longest front of the code that splits
pub record IsLongestFront (code : List ℕ) (front : Front) : Type 0 where
  pub inside : front.end ≤ length code
  pub splits : Split (take front.end code) front.starts
  pub longest : NoneStandsAt code front.end

-- whether the bit of an address is set, in words of 64 bits each, the lowest bit first
abbrev pub is_set : List ℕ → ℕ → Bool
is_set bits at = bit_at (slice_index bits (at / 64)) (at % 64) == 1

-- the addresses below a limit that have their bits set
abbrev pub set_below : List ℕ → ℕ → List ℕ
set_below bits limit = filter (is_set bits) (range_with_len 0 limit)

-- the bits of the words
abbrev pub bits_of : List Word → List ℕ
bits_of words = map (λ word. word.bits) words

-- the addresses that have their bits set in these words
abbrev pub starts_in : List Word → List ℕ
starts_in words = set_below (bits_of words) (64 * length words)

-- each word has the number of starts before its own addresses, and the count is that of all starts
pub record IsCounted (words : List Word) (count : ℕ) : Type 0 where
  pub before : (i : ℕ) (word : Word) → slice_get words i ≡ Some word → word.before ≡ length (set_below (bits_of words) (64 * i))
  pub all : count ≡ length (starts_in words)

-- the bits of the words that are closed and of the one that is open
abbrev pub all_bits : List Word → ℕ → List ℕ
all_bits words bits = bits_of words ++ bits ∷ []

-- Just these starts have their bits set, all of them below an address, and the words count those before them.
pub record Filling (words : List Word) (before bits count at : ℕ) (starts : List ℕ) : Type 0 where
  pub below : set_below (all_bits words bits) at ≡ starts
  pub clear : (b : ℕ) → at ≤ b → is_set (all_bits words bits) b ≡ false
  pub closed : (i : ℕ) (word : Word) → slice_get words i ≡ Some word → word.before ≡ length (set_below (all_bits words bits) (64 * i))
  pub opened : before ≡ length (set_below (all_bits words bits) (64 * length words))
  pub counted : count ≡ length starts

-- code is read up to an address, and the starts up to there are in these words and the open one
abbrev pub ReadTo : List ℕ → List Word → ℕ → ℕ → ℕ → ℕ → Type 0
ReadTo code words before bits count at = (ops : List Op) × AreInstructions (take at code) ops × Filling words before bits count at (starts_from 0 ops)

-- the starts of a front as far as they are written down: where it ends, where its instructions begin, and how many words of
-- 64 addresses there is room for
pub record Growth : Type 0 where
  pub end : ℕ
  pub starts : List ℕ
  pub room : ℕ

-- the words are full up to the one that the end lies in, which is open, and there is room for it
pub record IsGrowing (words : List Word) (before bits count end capacity : ℕ) : Type 0 where
  pub filling : Filling words before bits count end (set_below (all_bits words bits) end)
  pub opened : length words ≡ end / 64
  pub room : end / 64 < capacity
  pub few : count ≤ end
