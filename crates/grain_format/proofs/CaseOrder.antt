-- Cases that ascend are the only order of themselves.
use Rattle.std.proofs.Common.{◌≡◌, ℕ, ◌+◌, ◌<◌, ◌≤◌, Bool, true, false, cond, eqb, leb, ◌&&◌, List, [], ◌∷◌, refl, sym, ap, ◌∙◌, arith, inl, inr}
use Rattle.std.specs.List.{sum_by}
use Rattle.std.specs.List.Sorted.{IsPermutation}
use Rattle.std.proofs.lemmas.Bool.{eqb-true, leb-true, eq-eqb, lt-ltb, le-leb, le-ltb, cases_Bool, cases_order}
use Rattle.std.proofs.lemmas.List.Sums.{sum_by-cons}
use Rattle.std.proofs.lemmas.List.Sorted.{sum_by-IsPermutation}
use Rattle.grain_format.specs.Cases.{CaseParts, put_case, ordered, ascend_from}

pub and_true : (a b : Bool) → (a && b) ≡ true → (a ≡ true) × (b ≡ true)
and_true true b e = (refl, e)
and_true false b e = absurd cc

-- how often a case is there
abbrev is_case : CaseParts → CaseParts → ℕ
is_case c d = cond (eqb d.0 c.0 && eqb d.1 c.1) 1 0

other_case : (c d : CaseParts) → (d.0 ≡ c.0 → ⊥) → is_case c d ≡ 0
other_case c d differ = elim (cases_Bool (eqb d.0 c.0)) [
  | inl e ↦ absurd (differ (eqb-true d.0 c.0 e))
  | inr e ↦ rw e refl
]

self_case : (c : CaseParts) → is_case c c ≡ 1
self_case c = rw (eq-eqb c.0 c.0 refl, eq-eqb c.1 c.1 refl) refl

case_is : (c d : CaseParts) → c.0 ≡ d.0 → c.1 ≡ d.1 → c ≡ d
case_is (a, b) (c, d) p q = rw (p, q) refl

the_case : (c d : CaseParts) → 0 < is_case c d → d ≡ c
the_case c d some = elim (cases_Bool (eqb d.0 c.0)) [
  | inl e ↦ elim (cases_Bool (eqb d.1 c.1)) [
    | inl f ↦ case_is d c (eqb-true d.0 c.0 e) (eqb-true d.1 c.1 f)
    | inr f ↦ absurd (let n : 0 < 0 = rw (e, f) at some in omega arith)
  ]
  | inr e ↦ absurd (let n : 0 < 0 = rw e at some in omega arith)
]

absent : (c : CaseParts) (n : ℕ) (cs : List CaseParts) → ascend_from n cs ≡ true → c.0 < n → sum_by (is_case c) cs ≡ 0
absent c n [] asc lt = refl
absent c n (d ∷ cs) asc lt =
    let p = and_true (leb n d.0) (ascend_from (d.0 + 1) cs) asc in
    let le = leb-true n d.0 p.0 in
    rw (sum_by-cons (is_case c) d cs, other_case c d (λ e. omega arith), absent c (d.0 + 1) cs p.1 (omega arith)) refl

pub lower : (m n : ℕ) (cs : List CaseParts) → m ≤ n → ascend_from n cs ≡ true → ascend_from m cs ≡ true
lower m n [] le asc = refl
lower m n (d ∷ cs) le asc =
    let p = and_true (leb n d.0) (ascend_from (d.0 + 1) cs) asc in
    let here = leb-true n d.0 p.0 in
    rw (le-leb m d.0 (omega arith)) p.1

pub front : (c : CaseParts) (cs : List CaseParts) → ascend_from (c.0 + 1) cs ≡ true → put_case c cs ≡ c ∷ cs
front c [] asc = refl
front c (d ∷ cs) asc =
    let here = leb-true (c.0 + 1) d.0 (and_true (leb (c.0 + 1) d.0) (ascend_from (d.0 + 1) cs) asc).0 in
    rw (lt-ltb c.0 d.0 (omega arith)) refl

pub raised : (n : ℕ) (d : CaseParts) (cs : List CaseParts) → n ≤ d.0 → ascend_from (d.0 + 1) cs ≡ true → ascend_from n (d ∷ cs) ≡ true
raised n d cs le asc = rw (le-leb n d.0 le) asc

pub behind : (c d : CaseParts) (left cs : List CaseParts) → d.0 ≤ c.0 → put_case c left ≡ cs → put_case c (d ∷ left) ≡ d ∷ cs
behind c d left cs le e = rw (le-ltb c.0 d.0 le, e) refl

-- A case was taken out of cases that ascend, and goes back to its place.
record Taken (c : CaseParts) (n : ℕ) (cs : List CaseParts) : Type 0 where
  left : List CaseParts
  sums : (f : CaseParts → ℕ) → sum_by f cs ≡ f c + sum_by f left
  ascends : ascend_from n left ≡ true
  back : put_case c left ≡ cs

take_out : (c : CaseParts) (n : ℕ) (cs : List CaseParts) → ascend_from n cs ≡ true → 0 < sum_by (is_case c) cs → Taken c n cs
take_out c n [] asc some = absurd (let h : 0 < 0 = some in omega arith)
take_out c n (d ∷ cs) asc some =
    let p = and_true (leb n d.0) (ascend_from (d.0 + 1) cs) asc in
    let least = leb-true n d.0 p.0 in
    let parts = sum_by-cons (is_case c) d cs in
    elim (cases_order c.0 d.0) [
      | inl e ↦
          let none = absent c (d.0 + 1) cs p.1 (omega arith) in
          let is : d ≡ c = the_case c d (omega arith) in
          record {
            left = cs;
            sums = λ f. sum_by-cons f d cs ∙ ap (λ (x : CaseParts). f x + sum_by f cs) is;
            ascends = lower n (d.0 + 1) cs (omega arith) p.1;
            back = front c cs (rw (← is) p.1) ∙ ap (λ (x : CaseParts). x ∷ cs) (sym is);
          }
      | inr (inl lt) ↦ absurd (
          let none = absent c (d.0 + 1) cs p.1 (omega arith) in
          let other = other_case c d (λ e. omega arith) in
          omega arith)
      | inr (inr lt) ↦
          let other = other_case c d (λ e. omega arith) in
          let t = take_out c (d.0 + 1) cs p.1 (omega arith) in
          record {
            left = d ∷ t.left;
            sums = λ f. let a = sum_by-cons f d cs in let b = t.sums f in let e = sum_by-cons f d t.left in omega arith;
            ascends = raised n d t.left least t.ascends;
            back = behind c d t.left cs (omega arith) t.back;
          }
    ]

abbrev HaveSums : List CaseParts → List CaseParts → Type 0
HaveSums cs ds = (f : CaseParts → ℕ) → sum_by f cs ≡ sum_by f ds

ordered_by_sums : (cs ds : List CaseParts) (n : ℕ) → HaveSums cs ds → ascend_from n ds ≡ true → ordered cs ≡ ds
unfolding ordered
ordered_by_sums [] [] n sums asc = refl
ordered_by_sums [] (d ∷ ds) n sums asc = absurd (
    let a = sum_by-cons (λ x. 1) d ds in
    let b : 0 ≡ sum_by (λ x. 1) (d ∷ ds) = sums (λ x. 1) in
    omega arith)
ordered_by_sums (c ∷ cs) ds n sums asc =
    let here = sum_by-cons (is_case c) c cs in
    let self = self_case c in
    let all = sums (is_case c) in
    let t = take_out c n ds asc (omega arith) in
    let rest : HaveSums cs t.left = λ f. let a = sum_by-cons f c cs in let b = sums f in let e = t.sums f in omega arith in
    rw (ordered_by_sums cs t.left n rest t.ascends) t.back

-- cases in another order are those that ascend, once they are in order
pub ordered_is : (cs ds : List CaseParts) (n : ℕ) → IsPermutation cs ds → ascend_from n ds ≡ true → ordered cs ≡ ds
ordered_is cs ds n moved asc = ordered_by_sums cs ds n (λ f. sym (sum_by-IsPermutation f cs ds moved)) asc
