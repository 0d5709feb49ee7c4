-- Facts about a chain follow from its row and those of its steps.
use Rattle.std.proofs.Common.{◌≡◌, ℕ, ◌+◌, List, [], ◌∷◌, ◌++◌, Some, None, cond, length, map, refl, sym, ap, ◌∙◌, take, drop}
use Rattle.std.specs.Prelude.{◌==◌, not}
use Rattle.std.specs.List.{flat_map}
use Rattle.std.proofs.lemmas.List.Concat.{flat_map-cons}
use Rattle.std.proofs.lemmas.List.{length-map}
use Rattle.std.proofs.Math.Seq.{drop-append_seam, take-append_seam}
use Rattle.grain_rules.specs.Capabilities.{chain_caps, joined, root_caps, step_caps}
use Rattle.grain_pools.specs.Chain.{assigns, consumed, roots_on_stack}
use Rattle.grain_rules.specs.Facts.{chain_facts, root_mentions, step_mentions, tail_mentions}
use Rattle.grain_pools.specs.declared.chain.Chain.{Chain}
use Rattle.grain_pools.specs.declared.chain.Root.{Root}
use Rattle.grain_pools.specs.declared.chain.Root.TheVariants as roots
use Rattle.grain_pools.specs.declared.chain.Step.{Step}
use Rattle.grain_pools.specs.declared.chain.Step.TheVariants as steps
use Rattle.grain_pools.specs.declared.chain.Tail.{Tail}
use Rattle.grain_pools.specs.declared.chain.Tail.TheVariants as tails
use Rattle.grain_rules.proofs.Members.{flat_by_rows, map_by_rows}
use Rattle.grain_flat.specs.declared.records.CChain.{CChain}
use Rattle.grain_flat.specs.declared.records.CStep.{CStep}
use Rattle.grain_flat.specs.declared.shapes.TheConstants.{TEMPORARY, READ}
use Rattle.grain_flat.specs.Flat.{AreChains, chain_row, root_row, step_row, step_rows, tail_row}
use Rattle.grain_flat.specs.RowFacts.{chain_by_rows, chains_by_rows, root_asked, root_by_row, step_asked, step_by_row, tail_by_row, taken}

-- a row with this root, and one with this tail, whatever else is in it
abbrev pub with_root : Root → CChain → CChain
with_root r row = record row { root = (root_row r).0; root_name = (root_row r).1; slot = (root_row r).2 }

abbrev with_tail : Tail → CChain → CChain
with_tail t row = record row { tail = (tail_row t).0; op = (tail_row t).1 }

-- roots
root_on_stack : (r : Root) → roots_on_stack r ≡ ((root_row r).0 == TEMPORARY)
root_on_stack (roots.Local slot n) = refl
root_on_stack (roots.Named n pos) = refl
root_on_stack (roots.This pos) = refl
root_on_stack roots.Temporary = refl

root_asks : (r : Root) (row : CChain) → root_caps r ≡ root_asked (with_root r row)
root_asks (roots.Local slot n) row = refl
root_asks (roots.Named n pos) row = refl
root_asks (roots.This pos) row = refl
root_asks roots.Temporary row = refl

root_names : (r : Root) (row : CChain) → root_mentions r ≡ root_by_row (with_root r row)
root_names (roots.Local slot n) row = refl
root_names (roots.Named n pos) row = refl
root_names (roots.This pos) row = refl
root_names roots.Temporary row = refl

-- tails
tail_assigns : (t : Tail) → assigns t ≡ not ((tail_row t).0 == READ)
tail_assigns tails.Read = refl
tail_assigns (tails.Assign None) = refl
tail_assigns (tails.Assign (Some op)) = refl

tail_names : (t : Tail) (row : CChain) → tail_mentions t ≡ tail_by_row (with_tail t row)
tail_names tails.Read row = refl
tail_names (tails.Assign None) row = refl
tail_names (tails.Assign (Some op)) row = refl

-- steps
step_asks : (s : Step) → step_caps s ≡ step_asked (step_row s)
step_asks (steps.Index operand flags pos bracket) = refl
step_asks (steps.Property n getter setter flags pos) = refl
step_asks (steps.Method n argc operand flags pos) = refl

step_names : (operands : ℕ) (step : Step) → step_mentions operands step ≡ step_by_row operands (step_row step)
step_names operands (steps.Index operand flags pos bracket) = refl
step_names operands (steps.Property n getter setter flags pos) = refl
step_names operands (steps.Method n argc operand flags pos) = refl

-- chains
takes_by_rows : (c : Chain) → consumed c ≡ taken (chain_row c)
takes_by_rows c = ap (λ b. c.operands + cond b 1 0 + cond (assigns c.tail) 1 0) (root_on_stack c.root) ∙ ap (λ b. c.operands + cond ((root_row c.root).0 == TEMPORARY) 1 0 + cond b 1 0) (tail_assigns c.tail)

asks_by_rows : (c : Chain) → chain_caps c ≡ joined (root_asked (chain_row c)) (map step_asked (step_rows c))
asks_by_rows c =
    ap (λ n. joined n (map step_caps c.steps.items)) (root_asks c.root (chain_row c))
    ∙ ap (λ ns. joined (root_asked (chain_row c)) ns) (map_by_rows step_caps step_row step_asked step_asks c.steps.items)

names_by_rows : (c : Chain) → (chain_facts c).mentions ≡ (chain_by_rows (chain_row c) (step_rows c)).mentions
names_by_rows c =
    ap (λ ms. ms ++ flat_map (step_mentions c.operands) c.steps.items ++ tail_mentions c.tail) (root_names c.root (chain_row c))
    ∙ ap (λ ms. root_by_row (chain_row c) ++ ms ++ tail_mentions c.tail) (flat_by_rows (step_mentions c.operands) step_row (step_by_row c.operands) (step_names c.operands) c.steps.items)
    ∙ ap (λ ms. root_by_row (chain_row c) ++ flat_map (step_by_row c.operands) (step_rows c) ++ ms) (tail_names c.tail (chain_row c))

facts_by_rows : (c : Chain) → chain_by_rows (chain_row c) (step_rows c) ≡ chain_facts c
facts_by_rows c = sym (λ i. record { takes = takes_by_rows c i; asks = asks_by_rows c i; mentions = names_by_rows c i })

-- lists of one length before others
pub apart : {A : Type 0} (xs ys us vs : List A) → length xs ≡ length us → xs ++ ys ≡ us ++ vs → (xs ≡ us) × (ys ≡ vs)
apart xs ys us vs long e = (
  sym (take-append_seam xs ys) ∙ ap (take (length xs)) e ∙ ap (λ n. take n (us ++ vs)) long ∙ take-append_seam us vs,
  sym (drop-append_seam xs ys) ∙ ap (drop (length xs)) e ∙ ap (λ n. drop n (us ++ vs)) long ∙ drop-append_seam us vs,
)

-- what stands in front, and what comes behind it
in_front : {A : Type 0} (xs ys all : List A) (n : ℕ) → length xs ≡ n → all ≡ xs ++ ys → (take n all ≡ xs) × (drop n all ≡ ys)
in_front xs ys all n long is = (
  ap (take n) is ∙ ap (λ m. take m (xs ++ ys)) (sym long) ∙ take-append_seam xs ys,
  ap (drop n) is ∙ ap (λ m. drop m (xs ++ ys)) (sym long) ∙ drop-append_seam xs ys,
)

-- facts about chains follow from their rows and their steps
all_by_rows : (cs : List Chain) → chains_by_rows (map chain_row cs) (flat_map step_rows cs) ≡ map chain_facts cs
all_by_rows [] = refl
all_by_rows (c ∷ cs) =
    let cut = in_front (step_rows c) (flat_map step_rows cs) (flat_map step_rows (c ∷ cs)) (length c.steps.items) (length-map c.steps.items step_row) (flat_map-cons step_rows c cs) in
    λ i. (ap (chain_by_rows (chain_row c)) cut.0 ∙ facts_by_rows c) i ∷ (ap (chains_by_rows (map chain_row cs)) cut.1 ∙ all_by_rows cs) i

-- whatever the chains are that have these rows
pub chains_are_by_rows : (rows : List CChain) (given : List CStep) (cs : List Chain) → AreChains rows given cs → chains_by_rows rows given ≡ map chain_facts cs
chains_are_by_rows rows given cs are = ap (λ rs. chains_by_rows rs given) are.rows_are ∙ ap (chains_by_rows (map chain_row cs)) are.steps_are ∙ all_by_rows cs
