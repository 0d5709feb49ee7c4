-- Lists that share their nodes.
use Rattle.std.proofs.Common.{◌≡◌, ℕ, zero, suc, ◌+◌, ◌-◌, ◌<◌, ◌≤◌, ◌⊎◌, inl, inr, Bool, true, false, cond, List, [], ◌∷◌, ◌++◌, length, get_or, Option, Some, None, refl, sym, ap, subst, ◌∙◌, arith, add-one}
use Rattle.std.proofs.lemmas.Option.{same_Some, none-some}
use Rattle.std.proofs.lemmas.List.{get_or_append_left, get_or_push, get_or_read, length_push}
use Rattle.std.proofs.lemmas.Bool.{cases_lt}
use Rattle.std.proofs.lemmas.Bool.Decides.{nat_tests}
use Rattle.std.proofs.lemmas.Grind.{common_steps}
use Rattle.std.specs.Ordering.{is_eq}
use Rattle.grain_rules.specs.Counts.{Base}
use Rattle.grain_verify.specs.Lists.{IsSharing, as_base, node_list, node_list_within, no_node, node_cmp}
use Rattle.grain_verify.specs.declared.lists.Node.{Node}

abbrev Parents : List Node → Type 0
Parents nodes = (k : ℕ) → k < length nodes → (get_or nodes k no_node).parent ≤ k

-- more room changes nothing
within_more : (f most : ℕ) (nodes : List Node) (n : ℕ) → Parents nodes → n ≤ length nodes → n ≤ f → n ≤ most → node_list_within f nodes n ≡ node_list_within most nodes n
within_more zero zero nodes n p w l m = refl
within_more zero (suc most) nodes zero p w l m = refl
within_more zero (suc most) nodes (suc k) p w l m = absurd (omega arith)
within_more (suc f) zero nodes zero p w l m = refl
within_more (suc f) zero nodes (suc k) p w l m = absurd (omega arith)
within_more (suc f) (suc most) nodes zero p w l m = refl
within_more (suc f) (suc most) nodes (suc k) p w l m =
    let q = p k (omega arith) in
    ap (λ (bs : List Base). as_base (get_or nodes k no_node).base ∷ bs) (within_more f most nodes (get_or nodes k no_node).parent p (omega arith) (omega arith) (omega arith))

within_enough : (most : ℕ) (nodes : List Node) (n : ℕ) → Parents nodes → n ≤ length nodes → n ≤ most → node_list_within most nodes n ≡ node_list_within n nodes n
within_enough most nodes n p w m = within_more most n nodes n p w m (omega arith)

-- a node's list is its base on its parent's list
pub named_suc : (nodes : List Node) (k : ℕ) → Parents nodes → k < length nodes → node_list nodes (suc k) ≡ as_base (get_or nodes k no_node).base ∷ node_list nodes (get_or nodes k no_node).parent
named_suc nodes k p l =
    let q = p k l in
    ap (λ (bs : List Base). as_base (get_or nodes k no_node).base ∷ bs) (within_enough k nodes (get_or nodes k no_node).parent p (omega arith) q)

within_push : (most : ℕ) (nodes : List Node) (x : Node) (n : ℕ) → Parents nodes → n ≤ length nodes → node_list_within most (nodes ++ x ∷ []) n ≡ node_list_within most nodes n
within_push zero nodes x n p w = refl
within_push (suc most) nodes x zero p w = refl
within_push (suc most) nodes x (suc k) p w =
    let e : get_or (nodes ++ x ∷ []) k no_node ≡ get_or nodes k no_node = get_or_append_left nodes (x ∷ []) no_node k (omega arith) in
    let q = p k (omega arith) in
    ap (λ (y : Node). as_base y.base ∷ node_list_within most (nodes ++ x ∷ []) y.parent) e
    ∙ ap (λ (bs : List Base). as_base (get_or nodes k no_node).base ∷ bs) (within_push most nodes x (get_or nodes k no_node).parent p (omega arith))

pub named_push : (nodes : List Node) (x : Node) (n : ℕ) → Parents nodes → n ≤ length nodes → node_list (nodes ++ x ∷ []) n ≡ node_list nodes n
named_push nodes x n p w = within_push n nodes x n p w

pub parents_push : (nodes : List Node) (x : Node) → Parents nodes → x.parent ≤ length nodes → Parents (nodes ++ x ∷ [])
parents_push nodes x p w = λ k l. elim (cases_lt k (length nodes)) [
  | inl h ↦ subst (λ (y : Node). y.parent ≤ k) (sym (get_or_append_left nodes (x ∷ []) no_node k h)) (p k h)
  | inr g ↦ let e : k ≡ length nodes = let m = length_push nodes x in omega arith in
      subst (λ (y : Node). y.parent ≤ k) (sym (get_or_push nodes x no_node k (sym e))) (omega arith)
]

same_record : (x y : Node) → x.parent ≡ y.parent → as_base x.base ≡ as_base y.base → x ≡ y
same_record x y e f = λ i. record { parent = e i; base = record { operands = (f i).operands; iterators = (f i).iterators } }

head_same : {A : Type 0} (x y : A) (xs ys : List A) → x ∷ xs ≡ y ∷ ys → x ≡ y
head_same x y xs ys e = cc

tail_same : {A : Type 0} (x y : A) (xs ys : List A) → x ∷ xs ≡ y ∷ ys → xs ≡ ys
tail_same x y xs ys e = cc

-- equal lists have equal numbers
module _ (nodes : List Node) (find : Node → Option ℕ) (s : IsSharing nodes find) where
  numbered_once : (j k : ℕ) → j < length nodes → k < length nodes → get_or nodes j no_node ≡ get_or nodes k no_node → j ≡ k
  numbered_once j k l m e =
      let h : j + 1 ≡ k + 1 = same_Some (j + 1) (k + 1) (sym (s.complete j l) ∙ (ap find e ∙ s.complete k m)) in
      omega arith

  one_number_within : (most n m : ℕ) → n ≤ most → n ≤ length nodes → m ≤ length nodes → node_list nodes n ≡ node_list nodes m → n ≡ m
  one_number_within most zero zero h l r e = refl
  one_number_within most zero (suc k) h l r e = absurd (cc (e ∙ named_suc nodes k s.parents (omega arith)))
  one_number_within most (suc j) zero h l r e = absurd (cc (sym (named_suc nodes j s.parents (omega arith)) ∙ e))
  one_number_within zero (suc j) (suc k) h l r e = absurd (omega arith)
  one_number_within (suc most) (suc j) (suc k) h l r e =
      let x = get_or nodes j no_node in
      let y = get_or nodes k no_node in
      let f : as_base x.base ∷ node_list nodes x.parent ≡ as_base y.base ∷ node_list nodes y.parent = sym (named_suc nodes j s.parents (omega arith)) ∙ (e ∙ named_suc nodes k s.parents (omega arith)) in
      let px = s.parents j (omega arith) in
      let py = s.parents k (omega arith) in
      let g = one_number_within most x.parent y.parent (omega arith) (omega arith) (omega arith) (tail_same (as_base x.base) (as_base y.base) (node_list nodes x.parent) (node_list nodes y.parent) f) in
      ap suc (numbered_once j k (omega arith) (omega arith) (same_record x y g (head_same (as_base x.base) (as_base y.base) (node_list nodes x.parent) (node_list nodes y.parent) f)))

  pub one_number : (n m : ℕ) → n ≤ length nodes → m ≤ length nodes → node_list nodes n ≡ node_list nodes m → n ≡ m
  one_number n m l r e = one_number_within n n m (omega arith) l r e

-- the same of a number that isn't 0, where its node was read
pub named_read : (nodes : List Node) (n : ℕ) (x : Node) → Parents nodes → 0 < n → n ≤ length nodes → x ≡ get_or nodes (n - 1) x → node_list nodes n ≡ as_base x.base ∷ node_list nodes x.parent
named_read nodes zero x p h l e = absurd (omega arith)
named_read nodes (suc k) x p h l e =
    let i : suc k - 1 ≡ k = omega arith in
    let at : x ≡ get_or nodes k no_node = get_or_read nodes k x (omega arith) (e ∙ ap (λ j. get_or nodes j x) i) no_node in
    named_suc nodes k p (omega arith) ∙ ap (λ (y : Node). as_base y.base ∷ node_list nodes y.parent) (sym at)

pub found_list : (nodes : List Node) (find : Node → Option ℕ) (x : Node) (n : ℕ) → IsSharing nodes find → find x ≡ Some n → (n ≤ length nodes) × (node_list nodes n ≡ as_base x.base ∷ node_list nodes x.parent)
found_list nodes find x n s e =
    let h = s.sound x n e in
    let m : n ≡ suc h.0 = h.1 ∙ add-one h.0 in
    let l = h.2 in
    (omega (arith, m, l), ap (node_list nodes) m ∙ (named_suc nodes h.0 s.parents l ∙ ap (λ (y : Node). as_base y.base ∷ node_list nodes y.parent) h.3))

pub pushed_list : (nodes new : List Node) (x : Node) (n : ℕ) → Parents nodes → x.parent ≤ length nodes → new ≡ nodes ++ x ∷ [] → n ≡ length new
    → (n ≤ length new) × (node_list new n ≡ as_base x.base ∷ node_list nodes x.parent)
pushed_list nodes new x n p w f e =
    let k = length nodes in
    let m : n ≡ suc k = e ∙ (ap length f ∙ (length_push nodes x ∙ add-one k)) in
    let q = parents_push nodes x p w in
    let l : k < length (nodes ++ x ∷ []) = let g = length_push nodes x in omega arith in
    let y : get_or (nodes ++ x ∷ []) k no_node ≡ x = get_or_push nodes x no_node k refl in (
      omega (arith, e),
      ap (λ (ns : List Node). node_list ns n) f
          ∙ (ap (node_list (nodes ++ x ∷ [])) m ∙ (named_suc (nodes ++ x ∷ []) k q l
          ∙ (ap (λ (z : Node). as_base z.base ∷ node_list (nodes ++ x ∷ []) z.parent) y ∙ ap (λ (bs : List Base). as_base x.base ∷ bs) (named_push nodes x x.parent p w)))),
    )

-- the order tells nodes apart
pub node_exact : (x y : Node) → is_eq (node_cmp x y) ≡ true → x ≡ y
node_exact x y t =
    let a : x.parent ≡ y.parent = grind (arith, nat_tests, common_steps) in
    let b : x.base.operands ≡ y.base.operands = grind (arith, nat_tests, common_steps) in
    let c : x.base.iterators ≡ y.base.iterators = grind (arith, nat_tests, common_steps) in
    λ i. record { parent = a i; base = record { operands = b i; iterators = c i } }

pub node_self : (x : Node) → is_eq (node_cmp x x) ≡ true
node_self x = grind (arith, nat_tests, common_steps)

pub either : (b : Bool) → (b ≡ true) ⊎ (b ≡ false)
either true = inl refl
either false = inr refl

-- a new node, noted behind the others, is shared too
module _ (nodes : List Node) (find later : Node → Option ℕ) (x : Node) (s : IsSharing nodes find) (fresh : find x ≡ None) (on : x.parent ≤ length nodes)
    (noted : (q : Node) → later q ≡ cond (is_eq (node_cmp x q)) (Some (length nodes + 1)) (find q)) where
  at_self : later x ≡ Some (length nodes + 1)
  at_self = noted x ∙ ap (λ b. cond b (Some (length nodes + 1)) (find x)) (node_self x)

  at_other : (q : Node) → is_eq (node_cmp x q) ≡ false → later q ≡ find q
  at_other q e = noted q ∙ ap (λ b. cond b (Some (length nodes + 1)) (find q)) e

  old_node : (k : ℕ) → k < length nodes → get_or (nodes ++ x ∷ []) k no_node ≡ get_or nodes k no_node
  old_node k l = get_or_append_left nodes (x ∷ []) no_node k l

  new_node : (k : ℕ) → k ≡ length nodes → get_or (nodes ++ x ∷ []) k no_node ≡ x
  new_node k e = get_or_push nodes x no_node k (sym e)

  sound_push : (q : Node) (n : ℕ) → later q ≡ Some n → (k : ℕ) × (n ≡ k + 1) × (k < length (nodes ++ x ∷ [])) × (get_or (nodes ++ x ∷ []) k no_node ≡ q)
  sound_push q n e = elim (either (is_eq (node_cmp x q))) [
    | inl t ↦
        let same = node_exact x q t in
        let m : length nodes + 1 ≡ n = same_Some (length nodes + 1) n (sym at_self ∙ (ap later same ∙ e)) in
        (length nodes, sym m, (let g = length_push nodes x in omega arith), new_node (length nodes) refl ∙ same)
    | inr f ↦
        let h = s.sound q n (sym (at_other q f) ∙ e) in
        (h.0, h.1, (let g = length_push nodes x in let l = h.2 in omega arith), old_node h.0 h.2 ∙ h.3)
  ]

  other_old : (k : ℕ) → k < length nodes → is_eq (node_cmp x (get_or nodes k no_node)) ≡ false
  other_old k l = elim (either (is_eq (node_cmp x (get_or nodes k no_node)))) [
    | inl t ↦ absurd (none-some (k + 1) (sym fresh ∙ (ap find (node_exact x (get_or nodes k no_node) t) ∙ s.complete k l)))
    | inr f ↦ f
  ]

  complete_push : (k : ℕ) → k < length (nodes ++ x ∷ []) → later (get_or (nodes ++ x ∷ []) k no_node) ≡ Some (k + 1)
  complete_push k l = elim (cases_lt k (length nodes)) [
    | inl h ↦ ap later (old_node k h) ∙ (at_other (get_or nodes k no_node) (other_old k h) ∙ s.complete k h)
    | inr g ↦
        let e : k ≡ length nodes = let m = length_push nodes x in omega arith in
        ap later (new_node k e) ∙ (at_self ∙ ap (λ n. Some (n + 1)) (sym e))
  ]

  pub sharing_push : IsSharing (nodes ++ x ∷ []) later
  sharing_push = record { parents = parents_push nodes x s.parents on; sound = sound_push; complete = complete_push }
