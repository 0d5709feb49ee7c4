-- The capabilities that the items of a list need, one item more.
use Rattle.std.proofs.Common.{◌≡◌, ℕ, ◌+◌, ◌<◌, List, [], ◌∷◌, ◌++◌, length, take, get_or, bit_or, Option, Some, None, sym, subst}
use Rattle.std.specs.List.{All}
use Rattle.std.proofs.lemmas.List.Elements.{All-contains, All-contains_itself, All-more, All-push, All-weaker, Contains-append_left, Contains-push}
use Rattle.std.proofs.lemmas.List.{take_more}
use Rattle.grain_base.specs.declared.value.Dynamic.{Dynamic}
use Rattle.grain_code.specs.declared.op.Op.{Op}
use Rattle.grain_rules.specs.Accepted.{AllowsConst, ConstantPasses}
use Rattle.grain_rules.specs.Capabilities.{Allows}
use Rattle.grain_rules.specs.ConstCaps.{const_caps}
use Rattle.grain_rules.specs.Rows.{caps_of}
use Rattle.grain_rules.specs.Setting.{Setting}
use Rattle.grain_needs.proofs.CapabilityBits.{allows_both, allows_itself, more_allows, others_allow}

-- all of a list with one item more
pub all_before : {X : Type 0} (P : X → Type 0) (xs : List X) (x : X) → All P (xs ++ x ∷ []) → All P xs
all_before P xs x all = All-weaker (λ y. (k : ℕ) × (k < length xs) × (get_or xs k y ≡ y)) P (λ y has. All-contains P (xs ++ x ∷ []) y all (Contains-append_left xs (x ∷ []) y has)) xs (All-contains_itself xs)

pub all_last : {X : Type 0} (P : X → Type 0) (xs : List X) (x : X) → All P (xs ++ x ∷ []) → P x
all_last P xs x all = All-contains P (xs ++ x ∷ []) x all (Contains-push xs x)

module _ {X : Type 0} (needs : X → ℕ) (xs : List X) (x : X) (caps more both : ℕ) (joined : both ≡ bit_or caps more) (own : more ≡ needs x) where
  pub suffice_more : All (λ y. Allows caps (needs y)) xs → All (λ y. Allows both (needs y)) (xs ++ x ∷ [])
  suffice_more all =
      let with_both : (n : ℕ) → Allows (bit_or caps more) n → Allows both n = λ n h. subst (λ (b : ℕ). Allows b n) (sym joined) h in
      All-push (λ y. Allows both (needs y)) xs x
      (All-weaker (λ y. Allows caps (needs y)) (λ y. Allows both (needs y)) (λ y h. with_both (needs y) (more_allows caps more (needs y) h)) xs all)
      (with_both (needs x) (others_allow caps more (needs x) (subst (Allows more) own (allows_itself more))))

  pub least_more : (others : ℕ) → (All (λ y. Allows others (needs y)) xs → Allows others caps) → All (λ y. Allows others (needs y)) (xs ++ x ∷ []) → Allows others both
  least_more others before all =
      subst (Allows others) (sym joined) (allows_both others caps more (before (all_before (λ y. Allows others (needs y)) xs x all)) (subst (Allows others) (sym own) (all_last (λ y. Allows others (needs y)) xs x all)))

-- a constant passes if as much suffices
passes_more : (caps more : ℕ) → ((n : ℕ) → Allows caps n → Allows more n) → (needed : Option ℕ) → AllowsConst caps needed → AllowsConst more needed
passes_more caps more kept None h = tt
passes_more caps more kept (Some n) h = kept n h

module _ (consts : List Dynamic) (i : ℕ) (d : Dynamic) (inside : i < length consts) where
  pub constants_more : (caps more : ℕ) → ((n : ℕ) → Allows caps n → Allows more n) → All (ConstantPasses caps) (take i consts) → ConstantPasses more (get_or consts i d) → All (ConstantPasses more) (take (i + 1) consts)
  constants_more caps more kept all here =
      All-more (ConstantPasses more) consts i d inside (All-weaker (ConstantPasses caps) (ConstantPasses more) (λ v h. passes_more caps more kept (const_caps v) h) (take i consts) all) here

  pub constants_before : (others : ℕ) → All (ConstantPasses others) (take (i + 1) consts) → All (ConstantPasses others) (take i consts)
  constants_before others all = all_before (ConstantPasses others) (take i consts) (get_or consts i d) (subst (All (ConstantPasses others)) (take_more consts i d inside) all)

  pub constant_here : (others : ℕ) → All (ConstantPasses others) (take (i + 1) consts) → ConstantPasses others (get_or consts i d)
  constant_here others all = all_last (ConstantPasses others) (take i consts) (get_or consts i d) (subst (All (ConstantPasses others)) (take_more consts i d inside) all)

pub constants_all : (consts : List Dynamic) (caps more : ℕ) → ((n : ℕ) → Allows caps n → Allows more n) → All (ConstantPasses caps) consts → All (ConstantPasses more) consts
constants_all consts caps more kept all = All-weaker (ConstantPasses caps) (ConstantPasses more) (λ v h. passes_more caps more kept (const_caps v) h) consts all

pub instructions_all : (s : Setting) (items : List (ℕ × Op)) (caps more : ℕ) → ((n : ℕ) → Allows caps n → Allows more n) → All (λ (item : ℕ × Op). Allows caps (caps_of s item.1)) items
    → All (λ (item : ℕ × Op). Allows more (caps_of s item.1)) items
instructions_all s items caps more kept all =
    All-weaker (λ (item : ℕ × Op). Allows caps (caps_of s item.1)) (λ (item : ℕ × Op). Allows more (caps_of s item.1)) (λ item h. kept (caps_of s item.1) h) items all
