-- Gathering cases by the values of their constants, one after another.
use Rattle.std.proofs.Common.{◌≡◌, ℕ, zero, suc, ◌+◌, ◌<◌, Bool, true, false, cond, List, [], ◌∷◌, ◌++◌, map, length, Option, Some, None, refl, sym, ap, subst, ◌∙◌, arith, get_or, take, drop, add-one}
use Rattle.std.specs.Prelude.{option_map, slice_get, is_some, ◌||◌}
use Rattle.std.specs.List.{AllPass, list_any}
use Rattle.std.specs.List.Sorted.{IsPermutation}
use Rattle.std.specs.HashMap.{get, PutsEntry, Updates, IsEmpty}
use Rattle.std.proofs.Math.Seq.{take-suc, drop-cons}
use Rattle.std.proofs.lemmas.Bool.{ltb-true}
use Rattle.std.proofs.lemmas.List.{map_push}
use Rattle.std.proofs.lemmas.List.Folds.{list_any-append}
use Rattle.std.proofs.lemmas.List.Elements.{All-cons, All-nil}
use Rattle.std.proofs.lemmas.List.Sorted.{IsPermutation-map, IsPermutation-push_more, IsPermutation-refl, All-permutation}
use Rattle.std.proofs.lemmas.List.Sums.{list_all-from_AllPass}
use Rattle.grain_base.specs.Content.{Content}
use Rattle.grain_base.specs.ContentLaws.{same_Decides}
use Rattle.grain_base.specs.View.{content}
use Rattle.grain_base.specs.declared.value.Dynamic.{Dynamic}
use Rattle.grain_format.specs.Form.{forms}
use Rattle.grain_format.specs.Cases.{CaseParts, Cases, Gathered, are_new, are_same, are_there, case_content, case_parts, is_keyed, same_keys}
use Rattle.grain_format.proofs.CaseOrder.{and_true}
use Rattle.grain_format.proofs.CaseContents.{content_of, same_flips}

module _ (constants : List Dynamic) where
  abbrev pub contents : List CaseParts → List (Option Content)
  contents cs = map (case_content (forms constants)) cs

  -- what holds between two cases
  pub record Gathering (all done rest : List CaseParts) (m : Cases) : Type 0 where
    pub moved : IsPermutation done (map case_parts m.entries)
    pub keyed : AllPass (is_keyed constants) m.entries
    pub seen : (q : Dynamic) → is_some (get same_keys m q) ≡ list_any (are_same (Some (content q))) (contents done)
    pub new : are_new [] (contents all) ≡ are_new (contents done) (contents rest)

  pub none_yet : (all : List CaseParts) (m : Cases) → IsEmpty m → Gathering all [] all m
  none_yet all m empty = record {
    moved = rw empty (IsPermutation-refl []);
    keyed = rw empty (All-nil (λ c. is_keyed constants c ≡ true));
    seen = λ q. rw empty refl;
    new = refl;
  }

  value_of : (c : CaseParts) (constant key : Dynamic) → slice_get constants c.0 ≡ Some constant → content key ≡ content constant → case_content (forms constants) c ≡ Some (content key)
  value_of c constant key found copy = content_of constants c ∙ ap (λ (o : Option Dynamic). option_map content o) found ∙ ap Some (sym copy)

  seen_more : (q key : Dynamic) (old : Option (ℕ × ℕ)) (new : ℕ × ℕ) (done : List (Option Content)) (x : Option Content) → x ≡ Some (content key) → is_some old ≡ list_any (are_same (Some (content q))) done
      → is_some (cond (same_keys key q) (Some new) old) ≡ list_any (are_same (Some (content q))) (done ++ x ∷ [])
  seen_more q key old new done x is before =
      rw (list_any-append (are_same (Some (content q))) done (x ∷ []), is, same_flips (Some (content q)) (Some (content key)), ← before)
      (joined (same_keys key q) old new)
    where
      joined : (b : Bool) (o : Option (ℕ × ℕ)) (v : ℕ × ℕ) → is_some (cond b (Some v) o) ≡ (is_some o || (b || false))
      joined true None v = refl
      joined true (Some w) v = refl
      joined false None v = refl
      joined false (Some w) v = refl

  pub step : (all done rest : List CaseParts) (c : CaseParts) (m n : Cases) (key constant : Dynamic) → slice_get constants c.0 ≡ Some constant → content key ≡ content constant
      → Gathering all done (c ∷ rest) m → get same_keys m key ≡ None → PutsEntry same_keys m n key (c.1, c.0) None → Updates same_keys m n key (Some (c.1, c.0))
      → Gathering all (done ++ c ∷ []) rest n
  step all done rest c m n key constant found copy so_far absent puts updates =
      let x : case_content (forms constants) c ≡ Some (content key) = value_of c constant key found copy in
      let here : is_keyed constants (key, (c.1, c.0)) ≡ true = rw found ((same_Decides (content constant) (content key)).1 (sym copy)) in
      let none : list_any (are_same (Some (content key))) (contents done) ≡ false = sym (so_far.seen key) ∙ ap is_some absent in
      let pushed : contents (done ++ c ∷ []) ≡ contents done ++ case_content (forms constants) c ∷ [] = map_push (case_content (forms constants)) done c in
      record {
        moved = IsPermutation-push_more done (map case_parts m.entries) (map case_parts n.entries) c so_far.moved (IsPermutation-map case_parts ((key, (c.1, c.0)) ∷ m.entries) n.entries puts);
        keyed = All-permutation (λ d. is_keyed constants d ≡ true) ((key, (c.1, c.0)) ∷ m.entries) n.entries puts (All-cons (λ d. is_keyed constants d ≡ true) (key, (c.1, c.0)) m.entries here so_far.keyed);
        seen = λ q. rw (updates.0 q, pushed) (seen_more q key (get same_keys m q) (c.1, c.0) (contents done) (case_content (forms constants) c) x (so_far.seen q));
        new = so_far.new ∙ rw (pushed, x, none) refl;
      }

  pub stop : (all done rest : List CaseParts) (c : CaseParts) (m : Cases) (key constant : Dynamic) → slice_get constants c.0 ≡ Some constant → content key ≡ content constant
      → Gathering all done (c ∷ rest) m → is_some (get same_keys m key) ≡ true → are_new [] (contents all) ≡ false
  stop all done rest c m key constant found copy so_far there =
      let some : list_any (are_same (Some (content key))) (contents done) ≡ true = sym (so_far.seen key) ∙ there in
      so_far.new ∙ rw (value_of c constant key found copy, some) refl

  pub finished : (all done : List CaseParts) (m : Cases) → done ≡ all → Gathering all done [] m → Gathered constants all (Some m)
  finished all done m is so_far = (so_far.new, (list_all-from_AllPass (is_keyed constants) m.entries so_far.keyed), subst (λ (cs : List CaseParts). IsPermutation cs (map case_parts m.entries)) is so_far.moved)

pub next_taken : {A B : Type 0} (f : A → B) (xs : List A) (i : ℕ) (d : A) → i < length xs → map f (take (i + 1) xs) ≡ map f (take i xs) ++ f (get_or xs i d) ∷ []
next_taken f xs i d lt = rw (add-one i, take-suc xs i d lt) (map_push f (take i xs) (get_or xs i d))

pub next_left : {A B : Type 0} (f : A → B) (xs : List A) (i : ℕ) (d : A) → i < length xs → map f (drop i xs) ≡ f (get_or xs i d) ∷ map f (drop (i + 1) xs)
next_left f xs i d lt = rw (add-one i, drop-cons xs i d lt) refl

pub split_at : {A B : Type 0} (f : A → B) (xs : List A) (i : ℕ) (d : A) → i < length xs → map f xs ≡ map f (take i xs) ++ f (get_or xs i d) ∷ map f (drop (i + 1) xs)
split_at f [] i d lt = absurd (let h : i < 0 = lt in omega arith)
split_at f (x ∷ xs) zero d lt = refl
split_at {B = B} f (x ∷ xs) (suc i) d lt = rw (add-one (suc i)) (ap (λ (ys : List B). f x ∷ ys) (rw (add-one i) at (split_at f xs i d (omega arith))))

pub there_at : (n : ℕ) (done : List CaseParts) (c : CaseParts) (rest : List CaseParts) → are_there n (done ++ c ∷ rest) ≡ true → c.0 < n
there_at n [] c rest all = ltb-true c.0 n (and_true _ _ all).0
there_at n (d ∷ done) c rest all = there_at n done c rest (and_true _ _ all).1

pub none_is : {A : Type 0} (o : Option A) → is_some o ≡ false → o ≡ None
none_is None e = refl
none_is (Some x) e = absurd cc
