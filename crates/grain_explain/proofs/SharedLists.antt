-- Lists of bases that share their ends.
use Rattle.std.proofs.Common.{◌≡◌, ◌↔◌, ℕ, zero, suc, ◌-◌, ◌<◌, ◌≤◌, inl, inr, List, [], ◌∷◌, ◌++◌, length, get_or, slice_get, Some, refl, sym, ap, subst, ◌∙◌, arith}
use Rattle.std.proofs.lemmas.Bool.{cases_lt}
use Rattle.std.proofs.lemmas.List.{get_or_append_left, get_or_push, length_push}
use Rattle.std.proofs.lemmas.Option.{get_or_from_slice_get}
use Rattle.grain_rules.specs.Counts.{Base}
use Rattle.grain_explain.specs.RowView.{AreLinked, plain_base, list_in, list_within, no_base}
use Rattle.grain_explain.specs.declared.row.LinkedBase.{LinkedBase}

-- more room changes nothing
within_more : (f most : ℕ) (bases : List LinkedBase) (n : ℕ) → AreLinked bases → n ≤ length bases → n ≤ f → n ≤ most → list_within f bases n ≡ list_within most bases n
within_more zero zero bases n p w l m = refl
within_more zero (suc most) bases zero p w l m = refl
within_more zero (suc most) bases (suc k) p w l m = absurd (omega arith)
within_more (suc f) zero bases zero p w l m = refl
within_more (suc f) zero bases (suc k) p w l m = absurd (omega arith)
within_more (suc f) (suc most) bases zero p w l m = refl
within_more (suc f) (suc most) bases (suc k) p w l m =
    let q = p k (omega arith) in
    ap (λ (bs : List Base). plain_base (get_or bases k no_base) ∷ bs) (within_more f most bases (get_or bases k no_base).next p (omega arith) (omega arith) (omega arith))

-- the list of a number is the base before it, in front of the list that this names
pub list_suc : (bases : List LinkedBase) (k : ℕ) → AreLinked bases → k < length bases → list_in bases (suc k) ≡ plain_base (get_or bases k no_base) ∷ list_in bases (get_or bases k no_base).next
list_suc bases k p l =
    let q = p k l in
    ap (λ (bs : List Base). plain_base (get_or bases k no_base) ∷ bs) (within_more k (get_or bases k no_base).next bases (get_or bases k no_base).next p (omega arith) q (omega arith))

-- the same of the base that stands before a number
pub list_headed : (bases : List LinkedBase) (n : ℕ) → AreLinked bases → n ≤ length bases → (n ≡ 0 → ⊥)
    → (list_in bases n ≡ plain_base (get_or bases (n - 1) no_base) ∷ list_in bases (get_or bases (n - 1) no_base).next) × ((get_or bases (n - 1) no_base).next < n)
list_headed bases zero p w some = absurd (some refl)
list_headed bases (suc k) p w some =
    let back : suc k - 1 ≡ k = omega arith in
    let q = p k (omega arith) in
    rw back (list_suc bases k p (omega arith), omega arith)

-- the empty list alone has no base
pub not_empty : (bases : List LinkedBase) (n : ℕ) → AreLinked bases → n ≤ length bases → (n ≡ 0 → ⊥) → list_in bases n ≡ [] → ⊥
not_empty bases zero p w some e = some refl
not_empty bases (suc k) p w some e = let c = list_suc bases k p (omega arith) in cc

-- lists with equal first bases are equal where what is behind these is
pub ends_same : {A : Type 0} (x y : A) (xs ys left right : List A) → left ≡ x ∷ xs → right ≡ y ∷ ys → x ≡ y → (left ≡ right) ↔ (xs ≡ ys)
ends_same x y xs ys left right e f same = (λ h. cc, λ h. cc)

pub heads_unlike : {A : Type 0} (x y : A) (xs ys left right : List A) → left ≡ x ∷ xs → right ≡ y ∷ ys → (x ≡ y → ⊥) → left ≡ right → ⊥
heads_unlike x y xs ys left right e f unlike h = unlike (cc)

within_append : (most : ℕ) (bases more : List LinkedBase) (n : ℕ) → AreLinked bases → n ≤ length bases → list_within most (bases ++ more) n ≡ list_within most bases n
within_append zero bases more n p w = refl
within_append (suc most) bases more zero p w = refl
within_append (suc most) bases more (suc k) p w =
    let e : get_or (bases ++ more) k no_base ≡ get_or bases k no_base = get_or_append_left bases more no_base k (omega arith) in
    let q = p k (omega arith) in
    ap (λ (x : LinkedBase). plain_base x ∷ list_within most (bases ++ more) x.next) e
    ∙ ap (λ (bs : List Base). plain_base (get_or bases k no_base) ∷ bs) (within_append most bases more (get_or bases k no_base).next p (omega arith))

-- lists stay what they are where bases are added
pub list_append : (bases more : List LinkedBase) (n : ℕ) → AreLinked bases → n ≤ length bases → list_in (bases ++ more) n ≡ list_in bases n
list_append bases more n p w = within_append n bases more n p w

pub linked_push : (bases : List LinkedBase) (x : LinkedBase) → AreLinked bases → x.next ≤ length bases → AreLinked (bases ++ x ∷ [])
linked_push bases x p w = λ k l. elim (cases_lt k (length bases)) [
  | inl h ↦ subst (λ (y : LinkedBase). y.next ≤ k) (sym (get_or_append_left bases (x ∷ []) no_base k h)) (p k h)
  | inr g ↦ let e : k ≡ length bases = let m = length_push bases x in omega arith in
      subst (λ (y : LinkedBase). y.next ≤ k) (sym (get_or_push bases x no_base k (sym e))) (omega arith)
]

-- the list of a base that was added
pub list_push : (bases : List LinkedBase) (x : LinkedBase) → AreLinked bases → x.next ≤ length bases → list_in (bases ++ x ∷ []) (suc (length bases)) ≡ plain_base x ∷ list_in bases x.next
list_push bases x p w =
    let n = length bases in
    let m = length_push bases x in
    let there : get_or (bases ++ x ∷ []) n no_base ≡ x = get_or_push bases x no_base n refl in
    list_suc (bases ++ x ∷ []) n (linked_push bases x p w) (omega arith)
    ∙ (ap (λ (y : LinkedBase). plain_base y ∷ list_in (bases ++ x ∷ []) y.next) there ∙ ap (λ (bs : List Base). plain_base x ∷ bs) (list_append bases (x ∷ []) x.next p w))

-- the list of a base that was found
pub list_found : (bases : List LinkedBase) (n : ℕ) (x : LinkedBase) → AreLinked bases → 0 < n → n ≤ length bases → slice_get bases (n - 1) ≡ Some x → list_in bases n ≡ plain_base x ∷ list_in bases x.next
list_found bases n x p pos w is =
    subst (λ (y : LinkedBase). list_in bases n ≡ plain_base y ∷ list_in bases y.next) (get_or_from_slice_get bases (n - 1) x no_base is) (list_headed bases n p w (λ e. absurd (omega arith))).0
