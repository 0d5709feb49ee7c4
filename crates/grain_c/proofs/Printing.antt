-- Texts in the caller's room.
use Rattle.std.proofs.Common.{◌≡◌, ℕ, ◌+◌, ◌-◌, ◌<◌, ◌≤◌, inl, inr, min, List, ◌∷◌, ◌++◌, length, get_or, set, take, drop, sym, ap, ◌∙◌, arith}
use Rattle.std.proofs.lemmas.Bool.{cases_lt}
use Rattle.std.proofs.lemmas.List.{drop_all, drop_more, length-take-le, set_at, take_min}

-- the first bytes of a text in front of room, and the 0 that ends them
pub ended : (text room : List ℕ) (count : ℕ) → 0 < length room → count ≡ min (length text) (length room - 1)
    → set (take count text ++ drop count room) count 0 ≡ take (length room - 1) text ++ 0 ∷ drop (length text + 1) room
ended text room count some is =
    let fits : count ≤ length text = omega arith in
    let inside : count < length room = omega arith in
    let cut : drop count room ≡ get_or room count 0 ∷ drop (count + 1) room = drop_more room count 0 inside in
    ap (λ (rest : List ℕ). set (take count text ++ rest) count 0) cut
    ∙ set_at (take count text) (get_or room count 0) (drop (count + 1) room) 0 count (length-take-le count text fits)
    ∙ ap (λ (front : List ℕ). front ++ 0 ∷ drop (count + 1) room) front_is
    ∙ ap (λ (rest : List ℕ). take (length room - 1) text ++ 0 ∷ rest) rest_is
  where
    same : count ≡ min (length room - 1) (length text)
    same = omega arith

    front_is : take count text ≡ take (length room - 1) text
    front_is = ap (λ (n : ℕ). take n text) same ∙ take_min (length room - 1) text

    rest_is : drop (count + 1) room ≡ drop (length text + 1) room
    rest_is =
        elim (cases_lt (length room - 1) (length text)) [
          | inr short ↦ (let e : count ≡ length text = omega arith in ap (λ (n : ℕ). drop (n + 1) room) e)
          | inl long ↦ drop_all (count + 1) room (omega arith) ∙ sym (drop_all (length text + 1) room (omega arith))
        ]
