-- Nodes that are found as the first on top of their parent, or else in a map.
use Rattle.std.proofs.Common.{◌≡◌, ◌≢◌, ℕ, zero, suc, ◌+◌, ◌-◌, ◌<◌, ◌≤◌, inl, inr, Bool, true, false, cond, List, [], ◌∷◌, ◌++◌, length, get_or, set, Option, Some, None, refl, sym, ap, subst, ◌∙◌, arith}
use Rattle.std.specs.BTreeMap.{get}
use Rattle.std.specs.Ordering.{is_eq}
use Rattle.std.proofs.lemmas.Bool.{cases_eq, cases_lt}
use Rattle.std.proofs.lemmas.Bool.Decides.{nat_tests}
use Rattle.std.proofs.lemmas.Grind.{common_steps}
use Rattle.std.proofs.lemmas.List.{get_or_append_left, get_or_past, get_or_push, get_or-set_same, get_or-set_other, length-set, length_push}
use Rattle.grain_verify.specs.Lists.{AreFirsts, Grows, IsShared, IsSharing, base_cmp, first_on, firsts_of, found_in, found_with, node_list, no_node, node_cmp, list_count}
use Rattle.grain_verify.specs.declared.lists.Base as kept
use Rattle.grain_verify.specs.declared.lists.Lists.{Lists}
use Rattle.grain_verify.specs.declared.lists.Node.{Node}
use Rattle.grain_verify.proofs.SharedLists.{either, named_push, node_exact, sharing_push}

-- nodes on one list are compared by their bases, and those on two differ
same_parent : (x q : Node) → q.parent ≡ x.parent → is_eq (node_cmp x q) ≡ is_eq (base_cmp x.base q.base)
same_parent x q e = grind (arith, nat_tests, common_steps)

other_parent : (x q : Node) → q.parent ≢ x.parent → is_eq (node_cmp x q) ≡ false
other_parent x q ne = grind (arith, nat_tests, common_steps)

base_self : (b : kept.Base) → is_eq (base_cmp b b) ≡ true
base_self b = grind (arith, nat_tests, common_steps)

-- a list has none on top of it where one was added to the others
first_push : (firsts : List ℕ) (n : ℕ) → first_on (firsts ++ 0 ∷ []) n ≡ first_on firsts n
first_push firsts n = elim (cases_lt n (length firsts)) [
  | inl l ↦ get_or_append_left firsts (0 ∷ []) 0 n l
  | inr g ↦ elim (cases_eq n (length firsts)) [
    | inl e ↦ get_or_push firsts 0 0 n (sym e) ∙ sym (get_or_past firsts n 0 g)
    | inr ne ↦ get_or_past (firsts ++ 0 ∷ []) n 0 (let m = length_push firsts 0 in omega arith) ∙ sym (get_or_past firsts n 0 g)
  ]
]

found_push : (nodes : List Node) (elsewhere : Node → Option ℕ) (x q : Node) (f : ℕ) → ((k : ℕ) → f ≡ suc k → k < length nodes) → found_with (nodes ++ x ∷ []) elsewhere q f ≡ found_with nodes elsewhere q f
found_push nodes elsewhere x q zero inside = refl
found_push nodes elsewhere x q (suc k) inside =
    ap (λ (y : Node). cond (is_eq (base_cmp y.base q.base)) (Some (suc k)) (elsewhere q)) (get_or_append_left nodes (x ∷ []) no_node k (inside k refl))

-- a new node that is the first on top of its parent
module _ (nodes : List Node) (firsts : List ℕ) (elsewhere : Node → Option ℕ) (x : Node) (are : AreFirsts nodes firsts elsewhere) (on : x.parent ≤ length nodes) (none : first_on firsts x.parent ≡ 0) where
  abbrev with_first : List ℕ
  with_first = set (firsts ++ 0 ∷ []) x.parent (length nodes + 1)

  pub first_fresh : found_in nodes firsts elsewhere x ≡ None
  first_fresh = ap (found_with nodes elsewhere x) none ∙ are.only x none

  first_here : (n : ℕ) → n ≡ x.parent → first_on with_first n ≡ suc (length nodes)
  first_here n e =
      let inside : x.parent < length (firsts ++ 0 ∷ []) = let l = are.long in let m = length_push firsts 0 in omega arith in
      ap (first_on with_first) e ∙ (get_or-set_same (firsts ++ 0 ∷ []) x.parent (length nodes + 1) 0 inside ∙ omega arith)

  first_other : (n : ℕ) → n ≢ x.parent → first_on with_first n ≡ first_on firsts n
  first_other n ne = get_or-set_other (firsts ++ 0 ∷ []) x.parent n (length nodes + 1) 0 ne ∙ first_push firsts n

  pub first_noted : (q : Node) → found_in (nodes ++ x ∷ []) with_first elsewhere q ≡ cond (is_eq (node_cmp x q)) (Some (length nodes + 1)) (found_in nodes firsts elsewhere q)
  first_noted q = elim (cases_eq q.parent x.parent) [
    | inl e ↦
        let new : get_or (nodes ++ x ∷ []) (length nodes) no_node ≡ x = get_or_push nodes x no_node (length nodes) refl in
        let old : found_in nodes firsts elsewhere q ≡ elsewhere q = ap (found_with nodes elsewhere q) (ap (first_on firsts) e ∙ none) in
        let n : suc (length nodes) ≡ length nodes + 1 = omega arith in
        let test : is_eq (base_cmp x.base q.base) ≡ is_eq (node_cmp x q) = sym (same_parent x q e) in
        let rest : elsewhere q ≡ found_in nodes firsts elsewhere q = sym old in
        ap (found_with (nodes ++ x ∷ []) elsewhere q) (first_here q.parent e)
        ∙ ap (λ (y : Node). cond (is_eq (base_cmp y.base q.base)) (Some (suc (length nodes))) (elsewhere q)) new
        ∙ (λ i. cond (test i) (Some (n i)) (rest i))
    | inr ne ↦
        ap (found_with (nodes ++ x ∷ []) elsewhere q) (first_other q.parent ne)
        ∙ found_push nodes elsewhere x q (first_on firsts q.parent) (λ k f. (are.there q.parent k f).0)
        ∙ sym (ap (λ (b : Bool). cond b (Some (length nodes + 1)) (found_in nodes firsts elsewhere q)) (other_parent x q ne))
  ]

  pub first_added : AreFirsts (nodes ++ x ∷ []) with_first elsewhere
  first_added = record {
    long = length-set (firsts ++ 0 ∷ []) x.parent (length nodes + 1) ∙ (let l = are.long in let m = length_push firsts 0 in let k = length_push nodes x in omega arith);
    there = λ n k f. elim (cases_eq n x.parent) [
      | inl e ↦
          let is : length nodes ≡ k = let s : suc (length nodes) ≡ suc k = sym (first_here n e) ∙ f in omega arith in
          ((let m = length_push nodes x in omega arith), ap (λ (y : Node). y.parent) (get_or_push nodes x no_node k is) ∙ sym e)
      | inr ne ↦
          let old = are.there n k (sym (first_other n ne) ∙ f) in
          let l = old.0 in
          ((let m = length_push nodes x in omega arith), ap (λ (y : Node). y.parent) (get_or_append_left nodes (x ∷ []) no_node k l) ∙ old.1)
    ];
    only = λ q f. elim (cases_eq q.parent x.parent) [
      | inl e ↦ absurd (let s : suc (length nodes) ≡ 0 = sym (first_here q.parent e) ∙ f in omega arith)
      | inr ne ↦ are.only q (sym (first_other q.parent ne) ∙ f)
    ];
  }

-- a new node on top of a list on which another base lies
module _ (nodes : List Node) (firsts : List ℕ) (elsewhere later : Node → Option ℕ) (x : Node) (are : AreFirsts nodes firsts elsewhere) (k : ℕ) (first : first_on firsts x.parent ≡ suc k)
    (unlike : is_eq (base_cmp (get_or nodes k no_node).base x.base) ≡ false) where
  found_else : found_in nodes firsts elsewhere x ≡ elsewhere x
  found_else = ap (found_with nodes elsewhere x) first ∙ ap (λ (b : Bool). cond b (Some (suc k)) (elsewhere x)) unlike

  pub other_fresh : elsewhere x ≡ None → found_in nodes firsts elsewhere x ≡ None
  other_fresh none = found_else ∙ none

  pub other_found : (n : ℕ) → elsewhere x ≡ Some n → found_in nodes firsts elsewhere x ≡ Some n
  other_found n e = found_else ∙ e

  module _ (noted : (q : Node) → later q ≡ cond (is_eq (node_cmp x q)) (Some (length nodes + 1)) (elsewhere q)) where
    -- the first on top of a list is found as before
    other_with : (q : Node) (f : ℕ) → first_on firsts q.parent ≡ f → found_with nodes later q f ≡ cond (is_eq (node_cmp x q)) (Some (length nodes + 1)) (found_with nodes elsewhere q f)
    other_with q zero is = noted q
    other_with q (suc j) is = elim (either (is_eq (base_cmp (get_or nodes j no_node).base q.base))) [
      | inl t ↦
          let differs : is_eq (node_cmp x q) ≡ false = elim (either (is_eq (node_cmp x q))) [
            | inl same ↦
                let e = node_exact x q same in
                let at : suc k ≡ suc j = sym first ∙ (ap (λ (y : Node). first_on firsts y.parent) e ∙ is) in
                let here : k ≡ j = omega arith in
                absurd (cc (sym unlike ∙ ((λ i. is_eq (base_cmp (get_or nodes (here i) no_node).base (e i).base)) ∙ t)))
            | inr f ↦ f
          ] in
          ap (λ (b : Bool). cond b (Some (suc j)) (later q)) t
          ∙ sym (ap (λ (b : Bool). cond b (Some (length nodes + 1)) (found_with nodes elsewhere q (suc j))) differs ∙ ap (λ (b : Bool). cond b (Some (suc j)) (elsewhere q)) t)
      | inr f ↦
          ap (λ (b : Bool). cond b (Some (suc j)) (later q)) f
          ∙ noted q
          ∙ sym (ap (λ (o : Option ℕ). cond (is_eq (node_cmp x q)) (Some (length nodes + 1)) o) (ap (λ (b : Bool). cond b (Some (suc j)) (elsewhere q)) f))
    ]

    pub other_noted : (q : Node) → found_in (nodes ++ x ∷ []) (firsts ++ 0 ∷ []) later q ≡ cond (is_eq (node_cmp x q)) (Some (length nodes + 1)) (found_in nodes firsts elsewhere q)
    other_noted q =
        ap (found_with (nodes ++ x ∷ []) later q) (first_push firsts q.parent)
        ∙ found_push nodes later x q (first_on firsts q.parent) (λ j f. (are.there q.parent j f).0)
        ∙ other_with q (first_on firsts q.parent) refl

    pub other_added : AreFirsts (nodes ++ x ∷ []) (firsts ++ 0 ∷ []) later
    other_added = record {
      long = let l = are.long in let m = length_push firsts 0 in let n = length_push nodes x in omega arith;
      there = λ n j f. (
          let old = are.there n j (sym (first_push firsts n) ∙ f) in
          let l = old.0 in
          ((let m = length_push nodes x in omega arith), ap (λ (y : Node). y.parent) (get_or_append_left nodes (x ∷ []) no_node j l) ∙ old.1)
          );
      only = λ q f. (
          let none = sym (first_push firsts q.parent) ∙ f in
          let differs : is_eq (node_cmp x q) ≡ false = elim (either (is_eq (node_cmp x q))) [
            | inl same ↦ absurd (let e : suc k ≡ 0 = sym first ∙ (ap (λ (y : Node). first_on firsts y.parent) (node_exact x q same) ∙ none) in omega arith)
            | inr g ↦ g
          ] in
          noted q ∙ (ap (λ (b : Bool). cond b (Some (length nodes + 1)) (elsewhere q)) differs ∙ are.only q none)
          );
    }

-- the first on top of a list, where there is one
pub first_inside : (nodes : List Node) (firsts : List ℕ) (elsewhere : Node → Option ℕ) (n f : ℕ) → AreFirsts nodes firsts elsewhere → first_on firsts n ≡ f → f ≢ 0 → f - 1 < length nodes
first_inside nodes firsts elsewhere n zero are is some = absurd (some refl)
first_inside nodes firsts elsewhere n (suc k) are is some = let l = (are.there n k is).0 in omega arith

-- a node with its base is found by its number
pub first_found : (nodes : List Node) (firsts : List ℕ) (elsewhere : Node → Option ℕ) (x : Node) (f : ℕ) → first_on firsts x.parent ≡ f → f ≢ 0
    → (get_or nodes (f - 1) no_node).base ≡ x.base → found_in nodes firsts elsewhere x ≡ Some f
first_found nodes firsts elsewhere x zero is some same = absurd (some refl)
first_found nodes firsts elsewhere x (suc k) is some same =
    let at : suc k - 1 ≡ k = omega arith in
    let here : is_eq (base_cmp (get_or nodes k no_node).base x.base) ≡ true = subst (λ (b : kept.Base). is_eq (base_cmp b x.base) ≡ true)
    (sym (ap (λ j. (get_or nodes j no_node).base) (sym at) ∙ same)) (base_self x.base) in
    ap (found_with nodes elsewhere x) is ∙ ap (λ (b : Bool). cond b (Some (suc k)) (elsewhere x)) here

pub some_first : (f : ℕ) → f ≢ 0 → (k : ℕ) × (f ≡ suc k)
some_first zero some = absurd (some refl)
some_first (suc k) some = (k, refl)

-- what the lists are once a node was added that wasn't found
module _ (old new : Lists) (x : Node) (shared : IsShared old) (on : x.parent ≤ list_count old) (items : new.nodes.items ≡ old.nodes.items ++ x ∷ []) where
  abbrev before : Node → Option ℕ
  before = get node_cmp old.others

  abbrev after : Node → Option ℕ
  after = get node_cmp new.others

  -- the node is found by its new number, and all else as before
  abbrev IsNoted : List ℕ → (Node → Option ℕ) → Type 0
  IsNoted firsts elsewhere =
      AreFirsts (old.nodes.items ++ x ∷ []) firsts elsewhere
      × ((q : Node) → found_in (old.nodes.items ++ x ∷ []) firsts elsewhere q ≡ cond (is_eq (node_cmp x q)) (Some (list_count old + 1)) (found_in old.nodes.items (firsts_of old) before q))

  grows_by : found_in old.nodes.items (firsts_of old) before x ≡ None → IsNoted (firsts_of new) after → Grows old new
  grows_by fresh noted =
      let find : List Node → Node → Option ℕ = λ ns. found_in ns (firsts_of new) after in
      let sharing = sharing_push old.nodes.items (found_in old.nodes.items (firsts_of old) before) (find (old.nodes.items ++ x ∷ [])) x shared.sharing fresh on noted.1 in
      let more : list_count new ≡ list_count old + 1 = ap (λ (ns : List Node). length ns) items ∙ length_push old.nodes.items x in
      record {
        shared = record {
          firsts = subst (λ (ns : List Node). AreFirsts ns (firsts_of new) after) (sym items) noted.0;
          sharing = subst (λ (ns : List Node). IsSharing ns (find ns)) (sym items) sharing;
        };
        more = omega (arith, more);
        few = omega (arith, more);
        kept = λ n l. ap (λ (ns : List Node). node_list ns n) items ∙ named_push old.nodes.items x n shared.sharing.parents l;
      }

  -- it is the first on top of its parent
  pub grows_first : first_on (firsts_of old) x.parent ≡ 0 → (firsts_of new) ≡ set ((firsts_of old) ++ 0 ∷ []) x.parent (list_count old + 1) → new.others ≡ old.others → Grows old new
  grows_first none firsts others =
      let ns = old.nodes.items in
      let fs = firsts_of old in
      let are = shared.firsts in
      let known : IsNoted (set (fs ++ 0 ∷ []) x.parent (list_count old + 1)) before = (first_added ns fs before x are on none, first_noted ns fs before x are on none) in
      let same : after ≡ before = ap (get node_cmp) others in
      grows_by (first_fresh ns fs before x are on none) (subst (λ (gs : List ℕ). IsNoted gs after) (sym firsts) (subst (IsNoted (set (fs ++ 0 ∷ []) x.parent (list_count old + 1))) (sym same) known))

  -- another lies there first, and the map has it now
  pub grows_other : (k : ℕ) → first_on (firsts_of old) x.parent ≡ suc k → is_eq (base_cmp (get_or old.nodes.items k no_node).base x.base) ≡ false → before x ≡ None
      → (firsts_of new) ≡ (firsts_of old) ++ 0 ∷ [] → ((q : Node) → after q ≡ cond (is_eq (node_cmp x q)) (Some (list_count old + 1)) (before q)) → Grows old new
  grows_other k first unlike none firsts noted =
      let ns = old.nodes.items in
      let fs = firsts_of old in
      let are = shared.firsts in
      let known : IsNoted (fs ++ 0 ∷ []) after = (other_added ns fs before after x are k first unlike noted, other_noted ns fs before after x are k first unlike noted) in
      grows_by (other_fresh ns fs before after x are k first unlike none) (subst (λ (gs : List ℕ). IsNoted gs after) (sym firsts) known)
