-- A value that is read is spelled so, and one that is spelled is read.
use Rattle.std.proofs.Common.{◌≡◌, ℕ, ℤ, pos, negsuc, zero, suc, ◌+◌, ◌*◌, ◌/◌, ◌%◌, ◌^◌, ◌<◌, true, false, cond, eqb, List, [], ◌∷◌, ◌++◌, length, Option, Some, None, Result, Ok, Err, refl, sym, ap, subst, ◌∙◌, append_assoc, arith, inl, inr}
use Rattle.std.proofs.Math.Utf8.{scalar}
use Rattle.std.specs.List.{flat_map, AllByRecursion}
use Rattle.std.proofs.lemmas.Bool.{eqb-true, eqb-false, cases_Bool}
use Rattle.grain_base.specs.Varint.{zigzag}
use Rattle.grain_format.specs.declared.error.FieldFault.TheVariants.{KeyOrder, NotCharacter}
use Rattle.grain_format.specs.Reading.{LocatedFault, ◌>>=◌, AreBytes, Takes, Again}
use Rattle.grain_format.specs.Numbers.{number, number_at, below_at}
use Rattle.grain_format.specs.Texts.{counted_bytes, bytes_at, text_at}
use Rattle.grain_format.specs.Lists.{seen_at, both_at, both_spelling, BothFit, counted_at, counted_spelling, CountedFit}
use Rattle.grain_format.specs.Laws.{bind_ok, chosen, ok_is, tail_are_bytes}
use Rattle.grain_format.specs.ListLaws.{left_are_bytes, regroup, checked_takes, checked_again, seen_takes, seen_again, both_takes, both_again, counted_takes, counted_again}
use Rattle.grain_format.specs.NumberLaws.{IsBelow, number_takes, number_again, below_takes, below_again}
use Rattle.grain_format.specs.TextLaws.{BytesFit, TextFits, bytes_takes, bytes_again, text_takes, text_again}
use Rattle.grain_format.specs.Form.{Form, unit, boolean, integer, character, text, range, range_inclusive, array, blob, object_map, fn_ptr, shared, host, float, Forms, no_forms, form_then, Entries, no_entries, entry_then}
use Rattle.grain_format.specs.Form.{forms_of, listed_forms, form_entries_of, listed_entries, spelled, spelled_forms, spelled_entries, entry_spelled, comes_after, KeysAscend, EntryFits, IntegerFits, CharacterFits, FloatFits, FitsAround, FitsWithin}
use Rattle.grain_format.specs.FormAt.{signed, integer_at, character_at, entries_at, counted_entries_at, behind_tag, value_at}

-- ---- signed numbers

pub zigzag_signed : (n : ℕ) → zigzag (signed n) ≡ n
zigzag_signed n = elim (cases_Bool (eqb (n % 2) 0)) [
  | inl e ↦ rw e (let even = eqb-true (n % 2) 0 e in omega arith)
  | inr e ↦ rw e (let odd = eqb-false (n % 2) 0 e in omega arith)
]

pub signed_zigzag : (z : ℤ) → signed (zigzag z) ≡ z
signed_zigzag (pos m) =
    let even : (2 * m) % 2 ≡ 0 = omega arith in
    let half : (2 * m) / 2 ≡ m = omega arith in
    rw (even, half) refl
signed_zigzag (negsuc m) =
    let odd : (2 * m + 1) % 2 ≡ 1 = omega arith in
    let half : (2 * m + 1) / 2 ≡ m = omega arith in
    rw (odd, half) refl

pub integer_takes : Takes (λ z. number (zigzag z)) IntegerFits integer_at
integer_takes = seen_takes signed zigzag number (λ n. n < 2 ^ 64) number_at zigzag_signed number_takes

pub integer_again : Again (λ z. number (zigzag z)) IntegerFits integer_at
integer_again = seen_again signed zigzag number (λ n. n < 2 ^ 64) number_at signed_zigzag number_again

-- ---- characters

pub character_takes : Takes number CharacterFits character_at
character_takes = checked_takes number (IsBelow (2 ^ 32)) (below_at (2 ^ 32)) scalar NotCharacter (below_takes (2 ^ 32))

pub character_again : Again number CharacterFits character_at
character_again = checked_again number (IsBelow (2 ^ 32)) (below_at (2 ^ 32)) scalar NotCharacter (below_again (2 ^ 32))

-- ---- lists of values and of entries

pub listed_forms-forms_of : (xs : List Form) → listed_forms (forms_of xs) ≡ xs
listed_forms-forms_of [] = refl
listed_forms-forms_of (x ∷ xs) = ap (λ (ys : List Form). x ∷ ys) (listed_forms-forms_of xs)

pub forms_of-listed_forms : (xs : Forms) → forms_of (listed_forms xs) ≡ xs
forms_of-listed_forms no_forms = refl
forms_of-listed_forms (form_then x xs) = ap (form_then x) (forms_of-listed_forms xs)

pub forms_spelled : (xs : Forms) → spelled_forms xs ≡ flat_map spelled (listed_forms xs)
forms_spelled no_forms = refl
forms_spelled (form_then x xs) = ap (λ (b : List ℕ). spelled x ++ b) (forms_spelled xs)

pub listed_entries-form_entries_of : (es : List (List ℕ × Form)) → listed_entries (form_entries_of es) ≡ es
listed_entries-form_entries_of [] = refl
listed_entries-form_entries_of (e ∷ es) = ap (λ (fs : List (List ℕ × Form)). e ∷ fs) (listed_entries-form_entries_of es)

pub form_entries_of-listed_entries : (es : Entries) → form_entries_of (listed_entries es) ≡ es
form_entries_of-listed_entries no_entries = refl
form_entries_of-listed_entries (entry_then k x es) = ap (entry_then k x) (form_entries_of-listed_entries es)

pub entries_spelled : (es : Entries) → spelled_entries es ≡ flat_map entry_spelled (listed_entries es)
entries_spelled no_entries = refl
entries_spelled (entry_then k x es) = ap (λ (b : List ℕ). (counted_bytes k ++ spelled x) ++ b) (entries_spelled es)

pub array_spelled : (xs : List Form) → number (length (listed_forms (forms_of xs))) ++ spelled_forms (forms_of xs) ≡ counted_spelling spelled xs
array_spelled xs = rw (forms_spelled (forms_of xs), listed_forms-forms_of xs) refl

pub map_spelled : (es : List (List ℕ × Form)) → number (length (listed_entries (form_entries_of es))) ++ spelled_entries (form_entries_of es) ≡ counted_spelling entry_spelled es
map_spelled es = rw (entries_spelled (form_entries_of es), listed_entries-form_entries_of es) refl

module _ (value : List ℕ → Result (Form × List ℕ) LocatedFault) (Inner : Form → Type 0) where
  pub entries_takes : Takes spelled Inner value → (n : ℕ) (last : Option (List ℕ)) (bytes : List ℕ) (es : List (List ℕ × Form)) (rest : List ℕ) → AreBytes bytes → entries_at value n last bytes ≡ Ok (es, rest)
      → (bytes ≡ flat_map entry_spelled es ++ rest) × (AllByRecursion (EntryFits Inner) es × (KeysAscend last es × (length es ≡ n)))
  unfolding entries_at
  entries_takes takes zero last bytes es rest are e =
      subst (λ (y : List (List ℕ × Form) × List ℕ). (bytes ≡ flat_map entry_spelled y.0 ++ y.1) × (AllByRecursion (EntryFits Inner) y.0 × (KeysAscend last y.0 × (length y.0 ≡ zero)))) (ok_is {E = LocatedFault} ([], bytes) (es, rest) e) (refl, (tt, (tt, refl)))
  entries_takes takes (suc n) last bytes es rest are e =
      let a = bind_ok (text_at bytes) (λ key. cond (comes_after last key.0) (value key.1 >>= λ x. (entries_at value n (Some key.0) x.1 >>= λ fs. Ok ((key.0, x.0) ∷ fs.0, fs.1))) (Err (KeyOrder, bytes))) (es, rest) e in
      let k = a.0 in
      elim (chosen (comes_after last k.0) (value k.1 >>= λ x. (entries_at value n (Some k.0) x.1 >>= λ fs. Ok ((k.0, x.0) ∷ fs.0, fs.1))) (Err (KeyOrder, bytes)) (Ok (es, rest)) a.2) [
        | inl p ↦
            let b = bind_ok (value k.1) (λ x. (entries_at value n (Some k.0) x.1 >>= λ fs. Ok ((k.0, x.0) ∷ fs.0, fs.1))) (es, rest) p.1 in
            let d = bind_ok (entries_at value n (Some k.0) b.0.1) (λ fs. Ok ((k.0, b.0.0) ∷ fs.0, fs.1)) (es, rest) b.2 in
            let t = text_takes bytes k.0 k.1 are a.1 in
            let u = takes k.1 b.0.0 b.0.1 (left_are_bytes bytes (counted_bytes k.0) k.1 are t.0) b.1 in
            let one = regroup bytes (counted_bytes k.0) k.1 (spelled b.0.0) b.0.1 t.0 u.0 in
            let v = entries_takes takes n (Some k.0) b.0.1 d.0.0 d.0.1 (left_are_bytes bytes (counted_bytes k.0 ++ spelled b.0.0) b.0.1 are one) d.1 in
            subst (λ (y : List (List ℕ × Form) × List ℕ). (bytes ≡ flat_map entry_spelled y.0 ++ y.1) × (AllByRecursion (EntryFits Inner) y.0 × (KeysAscend last y.0 × (length y.0 ≡ suc n))))
            (ok_is {E = LocatedFault} ((k.0, b.0.0) ∷ d.0.0, d.0.1) (es, rest) d.2)
            (regroup bytes (counted_bytes k.0 ++ spelled b.0.0) b.0.1 (flat_map entry_spelled d.0.0) d.0.1 one v.0, (((t.1, u.1), v.1.0), ((p.0, v.1.1.0), ap suc v.1.1.1)))
        | inr p ↦ absurd (let q = p.1 in cc)
      ]

  pub entries_again : Again spelled Inner value → (es : List (List ℕ × Form)) (last : Option (List ℕ)) (rest : List ℕ) → AllByRecursion (EntryFits Inner) es → KeysAscend last es
      → entries_at value (length es) last (flat_map entry_spelled es ++ rest) ≡ Ok (es, rest)
  unfolding entries_at
  entries_again again [] last rest fits up = refl
  entries_again again (e ∷ es) last rest fits up =
      let first : (entry_spelled e ++ flat_map entry_spelled es) ++ rest ≡ counted_bytes e.0 ++ (spelled e.1 ++ (flat_map entry_spelled es ++ rest)) =
      append_assoc (entry_spelled e) (flat_map entry_spelled es) rest ∙ append_assoc (counted_bytes e.0) (spelled e.1) (flat_map entry_spelled es ++ rest) in
      rw (first, text_again e.0 (spelled e.1 ++ (flat_map entry_spelled es ++ rest)) fits.0.0, up.0, again e.1 (flat_map entry_spelled es ++ rest) fits.0.1, entries_again again es (Some e.0) rest fits.1 up.1) refl

  abbrev pub MapFits : List (List ℕ × Form) → Type 0
  MapFits es = CountedFit (EntryFits Inner) es × KeysAscend None es

  pub map_takes : Takes spelled Inner value → Takes (counted_spelling entry_spelled) MapFits (counted_entries_at value)
  map_takes takes bytes es rest are e =
      let a = bind_ok (number_at bytes) (λ n. entries_at value n.0 None n.1) (es, rest) e in
      let t = number_takes bytes a.0.0 a.0.1 are a.1 in
      let u = entries_takes takes a.0.0 None a.0.1 es rest (left_are_bytes bytes (number a.0.0) a.0.1 are t.0) a.2 in
      let counted : bytes ≡ number (length es) ++ a.0.1 = rw u.1.1.1 t.0 in
      (regroup bytes (number (length es)) a.0.1 (flat_map entry_spelled es) rest counted u.0, ((rw u.1.1.1 t.1, u.1.0), u.1.1.0))

  pub map_again : Again spelled Inner value → Again (counted_spelling entry_spelled) MapFits (counted_entries_at value)
  map_again again es rest fits =
      rw (append_assoc (number (length es)) (flat_map entry_spelled es) rest, number_again (length es) (flat_map entry_spelled es ++ rest) fits.0.0) (entries_again again es None rest fits.0.1 fits.1)

  -- ---- behind a tag

  abbrev Behind : ℕ → List ℕ → Form → List ℕ → Type 0
  Behind tag bytes x rest = (tag ∷ bytes ≡ spelled x ++ rest) × FitsAround Inner x

  tagged : {A : Type 0} (spell : A → List ℕ) (Fits : A → Type 0) (reading : List ℕ → Result (A × List ℕ) LocatedFault) (to : A → Form) (tag : ℕ) → Takes spell Fits reading
      → ((a : A) → tag ∷ spell a ≡ spelled (to a)) → ((a : A) → Fits a → FitsAround Inner (to a))
      → (bytes : List ℕ) (x : Form) (rest : List ℕ) → AreBytes bytes → seen_at to reading bytes ≡ Ok (x, rest) → Behind tag bytes x rest
  tagged spell Fits reading to tag takes is fit bytes x rest are e =
      let a = bind_ok (reading bytes) (λ v. Ok (to v.0, v.1)) (x, rest) e in
      let t = takes bytes a.0.0 a.0.1 are a.1 in
      subst (λ (y : Form × List ℕ). Behind tag bytes y.0 y.1) (ok_is {E = LocatedFault} (to a.0.0, a.0.1) (x, rest) a.2)
      (ap (λ (b : List ℕ). tag ∷ b) t.0 ∙ ap (λ (b : List ℕ). b ++ a.0.1) (is a.0.0), fit a.0.0 t.1)

  pub behind_takes : Takes spelled Inner value → (tag : ℕ) (bytes : List ℕ) (x : Form) (rest : List ℕ) → AreBytes bytes → behind_tag value tag bytes ≡ Ok (x, rest) → Behind tag bytes x rest
  unfolding behind_tag
  behind_takes takes zero bytes x rest are e =
      subst (λ (y : Form × List ℕ). Behind 0 bytes y.0 y.1) (ok_is {E = LocatedFault} (unit, bytes) (x, rest) e) (refl, tt)
  behind_takes takes (suc zero) bytes x rest are e =
      subst (λ (y : Form × List ℕ). Behind 1 bytes y.0 y.1) (ok_is {E = LocatedFault} (boolean false, bytes) (x, rest) e) (refl, tt)
  behind_takes takes (suc (suc zero)) bytes x rest are e =
      subst (λ (y : Form × List ℕ). Behind 2 bytes y.0 y.1) (ok_is {E = LocatedFault} (boolean true, bytes) (x, rest) e) (refl, tt)
  behind_takes takes (suc (suc (suc zero))) bytes x rest are e =
      tagged (λ z. number (zigzag z)) IntegerFits integer_at integer 3 integer_takes (λ z. refl) (λ z f. f) bytes x rest are e
  behind_takes takes (suc (suc (suc (suc zero)))) bytes x rest are e =
      tagged number CharacterFits character_at character 4 character_takes (λ n. refl) (λ n f. f) bytes x rest are e
  behind_takes takes (suc (suc (suc (suc (suc zero))))) bytes x rest are e =
      tagged counted_bytes TextFits text_at text 5 text_takes (λ t. refl) (λ t f. f) bytes x rest are e
  behind_takes takes (suc (suc (suc (suc (suc (suc zero)))))) bytes x rest are e =
      tagged (both_spelling (λ z. number (zigzag z)) (λ z. number (zigzag z))) (BothFit IntegerFits IntegerFits) (both_at integer_at integer_at) (λ r. range r.0 r.1) 6 (both_takes (λ z. number (zigzag z)) IntegerFits integer_at (λ z. number (zigzag z)) IntegerFits integer_at integer_takes integer_takes) (λ r. refl) (λ r f. f) bytes x rest are e
  behind_takes takes (suc (suc (suc (suc (suc (suc (suc zero))))))) bytes x rest are e =
      tagged (both_spelling (λ z. number (zigzag z)) (λ z. number (zigzag z))) (BothFit IntegerFits IntegerFits) (both_at integer_at integer_at) (λ r. range_inclusive r.0 r.1) 7 (both_takes (λ z. number (zigzag z)) IntegerFits integer_at (λ z. number (zigzag z)) IntegerFits integer_at integer_takes integer_takes) (λ r. refl) (λ r f. f) bytes x rest are e
  behind_takes takes (suc (suc (suc (suc (suc (suc (suc (suc zero)))))))) bytes x rest are e =
      tagged (counted_spelling spelled) (CountedFit Inner) (counted_at value) (λ xs. array (forms_of xs)) 8 (counted_takes spelled Inner value takes) (λ xs. ap (λ (b : List ℕ). 8 ∷ b) (sym (array_spelled xs))) (λ xs f. rw (listed_forms-forms_of xs) f) bytes x rest are e
  behind_takes takes (suc (suc (suc (suc (suc (suc (suc (suc (suc zero))))))))) bytes x rest are e =
      tagged counted_bytes BytesFit bytes_at blob 9 bytes_takes (λ b. refl) (λ b f. f) bytes x rest are e
  behind_takes takes (suc (suc (suc (suc (suc (suc (suc (suc (suc (suc zero)))))))))) bytes x rest are e =
      tagged (counted_spelling entry_spelled) MapFits (counted_entries_at value) (λ es. object_map (form_entries_of es)) 10 (map_takes takes) (λ es. ap (λ (b : List ℕ). 10 ∷ b) (sym (map_spelled es))) (λ es f. rw (listed_entries-form_entries_of es) f) bytes x rest are e
  behind_takes takes (suc (suc (suc (suc (suc (suc (suc (suc (suc (suc (suc zero))))))))))) bytes x rest are e =
      tagged (both_spelling counted_bytes (counted_spelling spelled)) (BothFit TextFits (CountedFit Inner)) (both_at text_at (counted_at value)) (λ r. fn_ptr r.0 (forms_of r.1)) 11 (both_takes counted_bytes TextFits text_at (counted_spelling spelled) (CountedFit Inner) (counted_at value) text_takes (counted_takes spelled Inner value takes)) (λ r. ap (λ (b : List ℕ). 11 ∷ (counted_bytes r.0 ++ b)) (sym (array_spelled r.1))) (λ r f. (f.0, rw (listed_forms-forms_of r.1) f.1)) bytes x rest are e
  behind_takes takes (suc (suc (suc (suc (suc (suc (suc (suc (suc (suc (suc (suc zero)))))))))))) bytes x rest are e =
      tagged spelled Inner value shared 12 takes (λ v. refl) (λ v f. f) bytes x rest are e
  behind_takes takes (suc (suc (suc (suc (suc (suc (suc (suc (suc (suc (suc (suc (suc zero))))))))))))) bytes x rest are e =
      tagged number FloatFits number_at float 13 number_takes (λ n. refl) (λ n f. f) bytes x rest are e
  behind_takes takes (suc (suc (suc (suc (suc (suc (suc (suc (suc (suc (suc (suc (suc (suc n)))))))))))))) bytes x rest are e = absurd cc

-- ---- within a depth

pub value_takes : (depth : ℕ) → Takes spelled (FitsWithin depth) (value_at depth)
unfolding FitsWithin value_at
value_takes zero bytes x rest are e = absurd cc
value_takes (suc depth) [] x rest are e = absurd cc
value_takes (suc depth) (tag ∷ bytes) x rest are e =
    behind_takes (value_at depth) (FitsWithin depth) (value_takes depth) tag bytes x rest (tail_are_bytes tag bytes are) e

pub value_again : (depth : ℕ) → Again spelled (FitsWithin depth) (value_at depth)
unfolding FitsWithin value_at behind_tag
value_again zero x rest fits = absurd fits
value_again (suc depth) unit rest fits = refl
value_again (suc depth) (boolean false) rest fits = refl
value_again (suc depth) (boolean true) rest fits = refl
value_again (suc depth) (integer z) rest fits = rw (integer_again z rest fits) refl
value_again (suc depth) (character n) rest fits = rw (character_again n rest fits) refl
value_again (suc depth) (text t) rest fits = rw (text_again t rest fits) refl
value_again (suc depth) (range a b) rest fits =
    rw (both_again (λ z. number (zigzag z)) IntegerFits integer_at (λ z. number (zigzag z)) IntegerFits integer_at integer_again integer_again (a, b) rest fits) refl
value_again (suc depth) (range_inclusive a b) rest fits =
    rw (both_again (λ z. number (zigzag z)) IntegerFits integer_at (λ z. number (zigzag z)) IntegerFits integer_at integer_again integer_again (a, b) rest fits) refl
value_again (suc depth) (array xs) rest fits =
    rw (forms_spelled xs, counted_again spelled (FitsWithin depth) (value_at depth) (value_again depth) (listed_forms xs) rest fits, forms_of-listed_forms xs) refl
value_again (suc depth) (blob b) rest fits = rw (bytes_again b rest fits) refl
value_again (suc depth) (object_map es) rest fits =
    rw (entries_spelled es, map_again (value_at depth) (FitsWithin depth) (value_again depth) (listed_entries es) rest fits, form_entries_of-listed_entries es) refl
value_again (suc depth) (fn_ptr name xs) rest fits =
    rw (forms_spelled xs, both_again counted_bytes TextFits text_at (counted_spelling spelled) (CountedFit (FitsWithin depth)) (counted_at (value_at depth)) text_again (counted_again spelled (FitsWithin depth) (value_at depth) (value_again depth)) (name, listed_forms xs) rest fits, forms_of-listed_forms xs) refl
value_again (suc depth) (shared x) rest fits = rw (value_again depth x rest fits) refl
value_again (suc depth) (host t i) rest fits = absurd fits
value_again (suc depth) (float n) rest fits = rw (number_again n rest fits) refl
