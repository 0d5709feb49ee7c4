-- A table with one more name, and what is read back of one that was made.
use Rattle.std.proofs.Common.{◌≡◌, ℕ, ◌+◌, ◌<◌, ◌≤◌, Bor, slice_index_or, sym, List, [], ◌∷◌, ◌++◌, true, length, take, drop, refl, None, ap, ◌∙◌, arith, length-append, append-nil}
use Rattle.std.proofs.lemmas.Bool.Decides.{nat_tests}
use Rattle.std.proofs.lemmas.Grind.{common_steps}
use Rattle.std.proofs.lemmas.List.{map_more, take-append-drop}
use Rattle.std.proofs.lemmas.List.Folds.{concat-append, list_all-append}
use Rattle.std.specs.Cmp.{first_so, second_so}
use Rattle.std.specs.List.{concat, list_all, take-map}
use Rattle.std.specs.Str.{is_utf8}
use Rattle.grain_pools.specs.Names.{flaw_from, first_flaw, names_from, names_in, span, span_flaw, starts_of, texts, IsTable}
use Rattle.grain_pools.proofs.Tables.{here, longer, rest_is}

pub concat_more : (xs : List (List ℕ)) (y : List ℕ) → concat (xs ++ y ∷ []) ≡ concat xs ++ y
concat_more xs y = concat-append xs (y ∷ []) ∙ ap (λ (r : List ℕ). concat xs ++ r) (append-nil y)

pub starts_more : (n : ℕ) (xs : List (List ℕ)) (y : List ℕ) (end : ℕ) → n + length (concat xs) + length y ≡ end → starts_of n (xs ++ y ∷ []) ≡ starts_of n xs ++ end ∷ []
starts_more n [] y end e = let k : n + length y ≡ end = omega arith in rw k refl
starts_more n (x ∷ xs) y end e =
    let k : n + length x + length (concat xs) + length y ≡ end = omega (arith, length-append x (concat xs)) in
    ap (λ (r : List ℕ). n ∷ r) (starts_more (n + length x) xs y end k)

pub texts_more : (xs : List (List ℕ)) (y : List ℕ) → list_all is_utf8 xs ≡ true → is_utf8 y ≡ true → list_all is_utf8 (xs ++ y ∷ []) ≡ true
texts_more xs y h k = rw (list_all-append is_utf8 xs (y ∷ []), h, k) refl

-- a front is no longer than the whole
pub front_le : (xs : List (List ℕ)) (i : ℕ) → length (concat (take i xs)) ≤ length (concat xs)
front_le xs i =
    let whole : length (concat (take i xs ++ drop i xs)) ≡ length (concat xs) = ap (λ (ys : List (List ℕ)). length (concat ys)) (take-append-drop i xs) in
    omega (arith, whole, ap length (concat-append (take i xs) (drop i xs)), length-append (concat (take i xs)) (concat (drop i xs)))

-- a reference to no bytes
abbrev pub no_name : Bor (List ℕ)
no_name = record { ref_ptr = (0, 0); now = [] }

-- one more name in front adds its bytes
pub front_more : (names : List (Bor (List ℕ))) (i : ℕ) (d : Bor (List ℕ)) → i < length names
    → length (concat (texts (take (i + 1) names))) ≡ length (concat (texts (take i names))) + length (slice_index_or names i d).now
front_more names i d inside =
    let text : Bor (List ℕ) → List ℕ = λ name. name.now in
    let xs = texts (take i names) in
    let y = (slice_index_or names i d).now in
    ap (λ all. length (concat all)) (map_more text names i d inside) ∙ ap length (concat_more xs y) ∙ length-append (concat xs) y

-- the bytes of the names in front are no more than those of all
pub front_texts_le : (names : List (Bor (List ℕ))) (i : ℕ) → length (concat (texts (take i names))) ≤ length (concat (texts names))
front_texts_le names i =
    let same : texts (take i names) ≡ take i (texts names) = sym (take-map (λ (name : Bor (List ℕ)). name.now) i names) in
    omega (arith, front_le (texts names) i, ap (λ all. length (concat all)) same)

-- the starts after the first
ends_of : ℕ → List (List ℕ) → List ℕ
ends_of n [] = []
ends_of n (x ∷ xs) = (n + length x) ∷ ends_of (n + length x) xs

starts_are_ends : (n : ℕ) (xs : List (List ℕ)) → starts_of n xs ≡ n ∷ ends_of n xs
unfolding ends_of
starts_are_ends n [] = refl
starts_are_ends n (x ∷ xs) = ap (λ (r : List ℕ). n ∷ r) (starts_are_ends (n + length x) xs)

names_back : (blob : List ℕ) (n : ℕ) (xs : List (List ℕ)) → n ≤ length blob → drop n blob ≡ concat xs → names_from blob n (ends_of n xs) ≡ xs
unfolding ends_of
names_back blob n [] h e = refl
names_back blob n (x ∷ xs) h e =
    cc (here blob x (concat xs) n h e, names_back blob (n + length x) xs (longer blob x (concat xs) n h e) (rest_is blob x (concat xs) n e))

-- the names of a table that was made of them
pub names_of_made : (xs : List (List ℕ)) → names_in (concat xs) (starts_of 0 xs) ≡ xs
names_of_made xs = rw (starts_are_ends 0 xs) (names_back (concat xs) 0 xs (omega arith) refl)

pub made_table : (xs : List (List ℕ)) → list_all is_utf8 xs ≡ true → IsTable (concat xs) (starts_of 0 xs)
made_table xs h =
    let back = names_of_made xs in
    record { starts_are = rw back refl; blob_is = rw back refl; texts = rw back h }

flawless : (blob : List ℕ) (from to : ℕ) → from ≤ to → to ≤ length blob → is_utf8 (span blob from to) ≡ true → span_flaw blob from to ≡ None
flawless blob from to a b u = rw u (grind (arith, nat_tests))

-- the starts after the first have no flaw in the names that they were made of
flawless_from : (blob : List ℕ) (n : ℕ) (xs : List (List ℕ)) → n ≤ length blob → drop n blob ≡ concat xs → list_all is_utf8 xs ≡ true → flaw_from blob n (ends_of n xs) ≡ None
unfolding ends_of
flawless_from blob n [] h e u =
    let left : length (drop n blob) ≡ 0 = ap length e in
    let all : n ≡ length blob = grind (arith, common_steps) in
    grind (arith, nat_tests)
flawless_from blob n (x ∷ xs) h e u =
    let to = n + length x in
    let text : is_utf8 (span blob n to) ≡ true = rw (here blob x (concat xs) n h e) (first_so (is_utf8 x) (list_all is_utf8 xs) u) in
    let inside = longer blob x (concat xs) n h e in
    rw (flawless blob n to (omega arith) inside text)
    (flawless_from blob to xs inside (rest_is blob x (concat xs) n e) (second_so (is_utf8 x) (list_all is_utf8 xs) u))

pub made_flawless : (xs : List (List ℕ)) → list_all is_utf8 xs ≡ true → first_flaw (concat xs) (starts_of 0 xs) ≡ None
made_flawless xs u = rw (starts_are_ends 0 xs) (flawless_from (concat xs) 0 xs (omega arith) refl u)
