-- The places behind more and more characters of a text.
use Rattle.std.proofs.Common.{◌≡◌, ◌↔◌, ℕ, ◌+◌, ◌-◌, ◌<◌, ◌≤◌, Bool, true, false, List, length, take, get_or, inl, inr, refl, sym, ap, subst, ◌∙◌, arith}
use Rattle.std.specs.Prelude.{not, count_by}
use Rattle.std.specs.List.{suffix_len}
use Rattle.std.specs.Str.{IsUtf8, chars}
use Rattle.std.proofs.lemmas.Bool.{cases_lt}
use Rattle.std.proofs.lemmas.Bool.Decides.{nat_tests}
use Rattle.std.proofs.lemmas.List.{get_or_default, length-take-le, take_all}
use Rattle.std.proofs.lemmas.List.Sums.{count_by-le-length, count_by_more_no, count_by_more_yes, suffix_len-le-length, suffix_len-take_no, suffix_len-take_yes}
use Rattle.std.proofs.lemmas.Str.{encodes-chars, length-le-encodes}
use Rattle.rhai_errors.specs.Places.{IsBehind, is_feed}
use Rattle.grain_base.specs.declared.pos.Site.{Site}

-- this many lines and columns are behind the first characters of a text
pub record AreBehind (text : List ℕ) (n lines columns : ℕ) : Type 0 where
  pub line : lines ≡ count_by is_feed (take n text)
  pub column : columns ≡ suffix_len (λ c. not (is_feed c)) (take n text)

pub behind_none : (text : List ℕ) → AreBehind text 0 0 0
behind_none text = record { line = refl; column = refl }

less_one : (n : ℕ) → n + 1 - 1 ≡ n
less_one n = omega arith

module _ (text : List ℕ) (n lines columns c : ℕ) (within : n < length text) (is : c ≡ get_or text n c) (here : AreBehind text n lines columns) where
  tested : (b : Bool) → is_feed c ≡ b → is_feed (get_or text n 0) ≡ b
  tested b e = ap is_feed (get_or_default text n 0 c within ∙ sym is) ∙ e

  -- behind a line feed the next line begins
  pub behind_feed : c ≡ 10 → AreBehind text (n + 1) (lines + 1) 0
  behind_feed feed =
      let found : is_feed (get_or text n 0) ≡ true = tested true (ap is_feed feed) in
      record {
        line = ap (λ (k : ℕ). k + 1) here.line ∙ sym (count_by_more_yes is_feed text n 0 within found);
        column = sym (suffix_len-take_no (λ c. not (is_feed c)) text (n + 1) 0 (omega arith) (omega arith)
            (ap (λ (k : ℕ). not (is_feed (get_or text k 0))) (less_one n) ∙ ap not found));
      }

  -- any other character is one more of its line
  pub behind_other : (c ≡ 10 → ⊥) → AreBehind text (n + 1) lines (columns + 1)
  behind_other other =
      let found : is_feed (get_or text n 0) ≡ false = tested false (grind (arith, nat_tests)) in
      record {
        line = here.line ∙ sym (count_by_more_no is_feed text n 0 within found);
        column =
            let more : suffix_len (λ c. not (is_feed c)) (take (n + 1) text) ≡ 1 + suffix_len (λ c. not (is_feed c)) (take (n + 1 - 1) text) =
            suffix_len-take_yes (λ c. not (is_feed c)) text (n + 1) 0 (omega arith) (omega arith)
            (ap (λ (k : ℕ). not (is_feed (get_or text k 0))) (less_one n) ∙ ap not found) in
            let same : suffix_len (λ c. not (is_feed c)) (take (n + 1 - 1) text) ≡ columns = ap (λ (k : ℕ). suffix_len (λ c. not (is_feed c)) (take k text)) (less_one n) ∙ sym here.column in
            omega (arith, more, same);
      }

  -- neither count passes that of the characters
  pub few_behind : (lines ≤ n) × (columns ≤ n)
  few_behind =
      let long : length (take n text) ≡ n = length-take-le n text (omega arith) in
      (omega (arith, here.line, count_by-le-length is_feed (take n text)), omega (arith, here.column, suffix_len-le-length (λ c. not (is_feed c)) (take n text)))

-- a text has no more characters than bytes
pub few_chars : (source : List ℕ) → IsUtf8 source → length (chars source) ≤ length source
few_chars source utf8 = subst (λ (bytes : List ℕ). length (chars source) ≤ length bytes) (encodes-chars source utf8) (length-le-encodes (chars source))

-- a place behind this many of the first characters is known by these counts
pub behind_counts : (text : List ℕ) (n lines columns : ℕ) (place : Site) → AreBehind text n lines columns → ((place.line ≡ lines + 1) × (place.column ≡ columns + 1)) ↔ IsBehind (take n text) place
behind_counts text n lines columns place here = (
  λ at. record { line = omega (arith, here.line, at.0); column = omega (arith, here.column, at.1) },
  λ is. (omega (arith, here.line, is.line), omega (arith, here.column, is.column)),
)

-- a place of a text is behind all characters, if it is behind no fewer
pub behind_all : (text : List ℕ) (n : ℕ) (place : Site) → length text ≤ n → ((k : ℕ) → k < n → IsBehind (take k text) place → ⊥) → (k : ℕ) → IsBehind (take k text) place → IsBehind (take n text) place
behind_all text n place all passed k is =
    elim (cases_lt k n) [
      | inl below ↦ absurd (passed k below is)
      | inr above ↦
          let same : take k text ≡ take n text = take_all k text (omega arith) ∙ sym (take_all n text all) in
          subst (λ (xs : List ℕ). IsBehind xs place) same is
    ]
