-- What is assembled stays sound where a list of labels is pushed to or written to.
use Rattle.std.proofs.Common.{◌≡◌, ℕ, ◌+◌, ◌<◌, true, List, [], ◌∷◌, ◌++◌, length, map, set, get_or, Option, Some, option_map, refl, sym, ap, subst, ◌∙◌, arith}
use Rattle.std.specs.Prelude.{slice_get}
use Rattle.std.proofs.Math.Seq.{map-set_same}
use Rattle.std.proofs.lemmas.List.{length-map, map-append, map-set}
use Rattle.std.proofs.lemmas.Option.{get_or_from_slice_get, slice_get-map, slice_get_read, slice_get_within}
use Rattle.grain_builder.specs.Assembled.{label_target, spot_at}
use Rattle.grain_builder.specs.Sound.{IsWellMade, Workings, nowhere}
use Rattle.grain_builder.specs.Unfinished.{StaysIn, Spot, spot}
use Rattle.grain_builder.specs.declared.assembler.Label.{Label}
use Rattle.grain_builder.proofs.Appended.{get_end, get_left, some_inj}
use Rattle.grain_builder.proofs.Marks.{one_bound, one_label}
use Rattle.grain_builder.proofs.Steps.{made_settled}

abbrev pub outer_of : Label → ℕ
outer_of l = l.outer

pub pushed : (k : Workings) (ls : List Label) (new : Label) (n : ℕ) → IsWellMade (record k { labels = map spot_at ls; outers = map outer_of ls; targets = map label_target ls }) → new.at ≡ nowhere → new.outer ≡ k.pending → n ≡ length ls → IsWellMade (record k { labels = map spot_at (ls ++ new ∷ []); outers = map outer_of (ls ++ new ∷ []); targets = map label_target (ls ++ new ∷ []); pending = n + 1 })
pushed k ls new n s free outer is =
    let old : Workings = record k { labels = map spot_at ls; outers = map outer_of ls; targets = map label_target ls } in
    let a : map spot_at (ls ++ new ∷ []) ≡ map spot_at ls ++ spot_at new ∷ [] = map-append spot_at ls (new ∷ []) in
    let b : map outer_of (ls ++ new ∷ []) ≡ map outer_of ls ++ k.pending ∷ [] = map-append outer_of ls (new ∷ []) ∙ ap (λ (x : ℕ). map outer_of ls ++ x ∷ []) outer in
    let d : map label_target (ls ++ new ∷ []) ≡ map label_target ls ++ nowhere ∷ [] = map-append label_target ls (new ∷ []) ∙ ap (λ (x : ℕ). map label_target ls ++ x ∷ []) free in
    let e : n + 1 ≡ length (map label_target ls) + 1 = ap (λ (x : ℕ). x + 1) (is ∙ sym (length-map ls label_target)) in
    subst (λ (x : Workings). IsWellMade x) (λ i. record k { labels = sym a i; outers = sym b i; targets = sym d i; pending = sym e i }) (one_label old s (spot_at new))

mapped : {A B : Type 0} (f : A → B) (xs : List A) (i : ℕ) (x : A) → slice_get xs i ≡ Some x → slice_get (map f xs) i ≡ Some (f x)
mapped {A} {B} f xs i x e = slice_get-map f xs i ∙ ap (λ (o : Option A). option_map f o) e

-- the label at a place with another operation to which it is bound
pub rebound : (k : Workings) (ls : List Label) (l : ℕ) (old new : Label) → IsWellMade (record k { labels = map spot_at ls; outers = map outer_of ls; targets = map label_target ls }) → k.fixed ≡ true → slice_get ls l ≡ Some old → new ≡ record old { at = length k.ops } → spot_at old ≡ spot k.operands k.level → k.pending ≡ l + 1 → length k.ops < nowhere → IsWellMade (record k { labels = map spot_at (set ls l new); outers = map outer_of (set ls l new); targets = map label_target (set ls l new); pending = old.outer })
rebound k ls l old new s here there is spot_is innermost few =
    let inner : Workings = record k { labels = map spot_at ls; outers = map outer_of ls; targets = map label_target ls } in
    let was : get_or ls l old ≡ old = get_or_from_slice_get ls l old old there in
    let a : map spot_at (set ls l new) ≡ map spot_at ls = map-set_same spot_at ls l new old (ap spot_at is ∙ ap spot_at (sym was)) in
    let b : map outer_of (set ls l new) ≡ map outer_of ls = map-set_same outer_of ls l new old (ap outer_of is ∙ ap outer_of (sym was)) in
    let d : map label_target (set ls l new) ≡ set (map label_target ls) l (length k.ops) = map-set label_target ls l new ∙ ap (λ (x : ℕ). set (map label_target ls) l x) (ap label_target is) in
    let spots : slice_get (map spot_at ls) l ≡ Some (spot k.operands k.level) = mapped spot_at ls l old there ∙ ap (λ (x : Spot). Some x) spot_is in
    let outers : slice_get (map outer_of ls) l ≡ Some old.outer = mapped outer_of ls l old there in
    subst (λ (x : Workings). IsWellMade x) (λ i. record k { labels = sym a i; outers = sym b i; targets = sym d i; pending = old.outer }) (one_bound inner s here l old.outer spots outers innermost few)

pub pushed_here : {B : Type 0} (f : Label → B) (ls : List Label) (new : Label) (n : ℕ) → n ≡ length ls → slice_get (map f (ls ++ new ∷ [])) n ≡ Some (f new)
pushed_here f ls new n is = mapped f (ls ++ new ∷ []) n new (subst (λ m. slice_get (ls ++ new ∷ []) m ≡ Some new) (sym is) (get_end ls new))

pub pushed_keeps : {B : Type 0} (f : Label → B) (ls : List Label) (new : Label) → StaysIn (map f ls) (map f (ls ++ new ∷ []))
pushed_keeps f ls new = λ i x e. subst (λ xs. slice_get xs i ≡ Some x) (sym (map-append f ls (new ∷ []))) (get_left (map f ls) (f new ∷ []) i x e)

-- the same, from what was read of the list
pub bound_in : (k : Workings) (ls : List Label) (l n : ℕ) (read old : Label) → IsWellMade (record k { labels = map spot_at ls; outers = map outer_of ls; targets = map label_target ls }) → slice_get (map spot_at ls) l ≡ Some (spot k.operands k.level) → k.pending ≡ l + 1 → read ≡ get_or ls l read → old ≡ get_or ls l old → n ≡ length k.ops → n < nowhere → IsWellMade (record k { labels = map spot_at (set ls l (record old { at = n })); outers = map outer_of (set ls l (record old { at = n })); targets = map label_target (set ls l (record old { at = n })); pending = read.outer; fixed = true })
bound_in k ls l n read old s here innermost reads olds is few =
    let inside : l < length ls = let a = slice_get_within (map spot_at ls) l (spot k.operands k.level) here in let b = length-map ls spot_at in omega arith in
    let there : slice_get ls l ≡ Some old = slice_get_read ls (length ls) l old refl inside olds in
    let other : slice_get ls l ≡ Some read = slice_get_read ls (length ls) l read refl inside reads in
    let same : old ≡ read = some_inj (sym there ∙ other) in
    let spot_is : spot_at old ≡ spot k.operands k.level = some_inj (sym (mapped spot_at ls l old there) ∙ here) in
    let changed : record old { at = n } ≡ record old { at = length k.ops } = λ i. record old { at = is i } in
    subst (λ (o : ℕ). IsWellMade (record k { labels = map spot_at (set ls l (record old { at = n })); outers = map outer_of (set ls l (record old { at = n })); targets = map label_target (set ls l (record old { at = n })); pending = o; fixed = true })) (ap outer_of same)
    (rebound (record k { fixed = true }) ls l old (record old { at = n }) (made_settled (record k { labels = map spot_at ls; outers = map outer_of ls; targets = map label_target ls }) s) refl there changed spot_is innermost (let e = is in let f = few in omega arith))

-- what a label has besides is as it was
pub same_spots : (ls : List Label) (l n : ℕ) (old : Label) → old ≡ get_or ls l old → map spot_at (set ls l (record old { at = n })) ≡ map spot_at ls
same_spots ls l n old is = map-set_same spot_at ls l (record old { at = n }) old (ap spot_at is)

pub same_outers : (ls : List Label) (l n : ℕ) (old : Label) → old ≡ get_or ls l old → map outer_of (set ls l (record old { at = n })) ≡ map outer_of ls
same_outers ls l n old is = map-set_same outer_of ls l (record old { at = n }) old (ap outer_of is)

pub outer_there : (ls : List Label) (l : ℕ) (read : Label) (p : Spot) → slice_get (map spot_at ls) l ≡ Some p → read ≡ get_or ls l read → slice_get (map outer_of ls) l ≡ Some read.outer
outer_there ls l read p here reads =
    let inside : l < length ls = let a = slice_get_within (map spot_at ls) l p here in let b = length-map ls spot_at in omega arith in
    mapped outer_of ls l read (slice_get_read ls (length ls) l read refl inside reads)
