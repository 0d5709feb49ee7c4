-- A name in a namespace: the namespace, a separator and the name.
use Rattle.std.specs.Prelude.{◌≡◌, ◌≤◌, ℕ, List, [], ◌∷◌, ◌++◌, ◌||◌, Option, Some, None, option_and_then, option_map, codes, cond, drop, length, nat_eq}
use Rattle.std.specs.List.{starts_with}
use Rattle.std.specs.Option.{option_or}

-- ::
abbrev pub separator : List ℕ
separator = codes "::"

-- a name cut at the last place where the separator stands
pub record IsLastCut (name before after : List ℕ) : Type 0 where
  pub whole : name ≡ before ++ separator ++ after
  pub last : (xs ys : List ℕ) → name ≡ xs ++ separator ++ ys → length xs ≤ length before

-- what is before the last separator, and what is after it
abbrev pub last_cut : List ℕ → Option (List ℕ × List ℕ)
last_cut [] = None
last_cut (x ∷ xs) =
    option_or (option_map (λ p. (x ∷ p.0, p.1)) (last_cut xs)) (cond (starts_with nat_eq (x ∷ xs) separator) (Some ([], drop 2 (x ∷ xs))) None)

-- the namespace and the name, if both have something
abbrev pub split_qualified : List ℕ → Option (List ℕ × List ℕ)
split_qualified name =
    option_and_then (λ p. cond (nat_eq (length p.0) 0 || nat_eq (length p.1) 0) None (Some p)) (last_cut name)
