-- Writing the stream of chain positions, slot by slot.
use Rattle.std.proofs.Common.{◌≡◌, ℕ, ◌+◌, ◌*◌, ◌<◌, ◌≤◌, ◌^◌, List, [], ◌∷◌, ◌++◌, length, map, take, get_or, inl, inr, refl, sym, ap, subst, ◌∙◌, arith, append_assoc, add-one, Option, Some, None, IfNone, unwrap_or}
use Rattle.std.specs.List.{flat_map, AllByRecursion}
use Rattle.std.proofs.lemmas.Bool.{cases_eq, eq-eqb, ne_eqb}
use Rattle.std.proofs.lemmas.List.{append-nil, length-map, take_all}
use Rattle.std.proofs.lemmas.Grind.{flat_map-append}
use Rattle.std.proofs.Math.Seq.{take-suc}
use Rattle.grain_base.specs.Place.{line_of, column_of}
use Rattle.grain_base.specs.Varint.{AppendsShortest, AreShortest, BeginsNumbers}
use Rattle.grain_base.specs.declared.position.Position.{Position}
use Rattle.grain_pools.specs.declared.chain.Chain.{Chain}
use Rattle.grain_pools.specs.Chain.{positions}
use Rattle.grain_bytecode.specs.ChainStream.{Stream, AppendsAll, all_positions, numbers_of, recorded, site_of, sites_of}

shortest-append : (a b ns ms : List ℕ) → AreShortest a ns → AreShortest b ms → AreShortest (a ++ b) (ns ++ ms)
shortest-append a b [] ms none more = rw none more
shortest-append a b (n ∷ ns) ms first more = (first.0, first.1 ++ b, ap (λ bytes. bytes ++ b) first.2 ∙ append_assoc first.0 first.1 b, first.3, shortest-append first.1 b ns ms first.4 more)

pub appends_none : (old : List ℕ) → AppendsAll old old []
appends_none old = ([], sym (append-nil old), refl)

pub appends_one : (old new : List ℕ) (n : ℕ) → AppendsShortest old new n → AppendsAll old new (n ∷ [])
appends_one old new n one = (one.0, one.1, (one.0, [], sym (append-nil one.0), one.2, refl))

pub appends_more : (old mid new ns ms : List ℕ) → AppendsAll old mid ns → AppendsAll mid new ms → AppendsAll old new (ns ++ ms)
appends_more old mid new ns ms first more = (
  first.0 ++ more.0,
  more.1 ∙ ap (λ bytes. bytes ++ more.0) first.1 ∙ append_assoc old first.0 more.0,
  shortest-append first.0 more.0 ns ms first.2 more.2,
)

-- two numbers, one behind the other
pub appends_two : (old mid new : List ℕ) (m n : ℕ) → AppendsShortest old mid m → AppendsShortest mid new n → AppendsAll old new (m ∷ n ∷ [])
appends_two old mid new m n first second = appends_more old mid new (m ∷ []) (n ∷ []) (appends_one old mid m first) (appends_one mid new n second)

-- the lists of one more element
pub flat_map-push : {X A : Type 0} (f : X → List A) (xs : List X) (x : X) → flat_map f (xs ++ x ∷ []) ≡ flat_map f xs ++ f x
flat_map-push f xs x = flat_map-append f xs (x ∷ []) ∙ ap (λ ys. flat_map f xs ++ ys) (append-nil (f x))

pub flat_map-next : {X A : Type 0} (f : X → List A) (xs : List X) (i : ℕ) (d : X) → i < length xs → flat_map f (take (i + 1) xs) ≡ flat_map f (take i xs) ++ f (get_or xs i d)
flat_map-next f xs i d inside = ap (flat_map f) (ap (λ n. take n xs) (add-one i) ∙ take-suc xs i d inside) ∙ flat_map-push f (take i xs) (get_or xs i d)

pub none_so : {A P : Type 0} (r : Option A) → P → IfNone r P
none_so None holds = holds
none_so (Some x) holds = tt

-- the slots of one chain more
pub written_more : (chains : List Chain) (i : ℕ) (chain : Chain) (old new : List ℕ) (count : ℕ) → i < length chains → chain ≡ get_or chains i chain
    → AppendsAll [] old (count ∷ flat_map numbers_of (all_positions (take i chains))) → AppendsAll old new (flat_map numbers_of (positions chain))
    → AppendsAll [] new (count ∷ flat_map numbers_of (all_positions (take (i + 1) chains)))
written_more chains i chain old new count inside is written more =
    let next : all_positions (take (i + 1) chains) ≡ all_positions (take i chains) ++ positions chain = flat_map-next positions chains i chain inside ∙ ap (λ c. all_positions (take i chains) ++ positions c) (sym is) in
    rw (next, flat_map-append numbers_of (all_positions (take i chains)) (positions chain))
    (appends_more [] old new (count ∷ flat_map numbers_of (all_positions (take i chains))) (flat_map numbers_of (positions chain)) written more)

-- the slots of all chains
pub written_all : (chains : List Chain) (i : ℕ) (bytes : List ℕ) (count : ℕ) → length chains ≤ i → AppendsAll [] bytes (count ∷ flat_map numbers_of (all_positions (take i chains)))
    → AreShortest bytes (count ∷ flat_map numbers_of (all_positions chains))
written_all chains i bytes count all written =
    rw written.1 (subst (λ list. AreShortest written.0 (count ∷ flat_map numbers_of (all_positions list))) (take_all i chains all) written.2)

-- a number that isn't there is 0, and so the numbers are the position's own
written_line : (p : Position) → unwrap_or (line_of p) 0 ≡ p.line
written_line p = elim (cases_eq p.line 0) [
  | inl none ↦ rw (eq-eqb p.line 0 none) (sym none)
  | inr some ↦ rw (ne_eqb p.line 0 some) refl
]

written_column : (p : Position) → unwrap_or (column_of p) 0 ≡ p.column
written_column p = elim (cases_eq p.column 0) [
  | inl none ↦ rw (eq-eqb p.column 0 none) (sym none)
  | inr some ↦ rw (ne_eqb p.column 0 some) refl
]

recorded_is : (p : Position) → recorded p ≡ site_of (unwrap_or (line_of p) 0) (unwrap_or (column_of p) 0)
recorded_is p = rw (written_line p, written_column p) (elim (cases_eq p.line 0) [
  | inl none ↦ rw (eq-eqb p.line 0 none) refl
  | inr some ↦ rw (ne_eqb p.line 0 some) refl
])

abbrev Fit : List ℕ → Type 0
Fit = AllByRecursion (λ n. n < 2 ^ 32)

numbers_fit : (list : List Position) → Fit (flat_map numbers_of list)
numbers_fit [] = tt
numbers_fit (p ∷ list) = let line = p.line_fits in let column = p.column_fits in (omega (arith, written_line p), (omega (arith, written_column p), numbers_fit list))

numbers_pair : (list : List Position) → length (flat_map numbers_of list) ≡ 2 * length list
numbers_pair [] = refl
numbers_pair (p ∷ list) = omega (arith, numbers_pair list)

sites_recorded : (list : List Position) → map recorded list ≡ sites_of (flat_map numbers_of list)
sites_recorded [] = refl
sites_recorded (p ∷ list) = cc (recorded_is p, sites_recorded list)

shortest_begins : (bytes ns : List ℕ) → AreShortest bytes ns → Fit ns → BeginsNumbers bytes ns []
shortest_begins bytes [] spelled fit = spelled
shortest_begins bytes (n ∷ ns) spelled fit = (spelled.0, spelled.1, spelled.2, (spelled.3.spelled, fit.0), shortest_begins spelled.1 ns spelled.4 fit.1)

-- what is written is a stream, where the count fits
pub written_stream : (bytes : List ℕ) (list : List Position) → length list < 2 ^ 32 → AreShortest bytes (length list ∷ flat_map numbers_of list) → Stream bytes (map recorded list)
written_stream bytes list few written =
    let long : length (map recorded list) ≡ length list = length-map list recorded in
    record {
      numbers = flat_map numbers_of list;
      spelled = rw long (shortest_begins bytes (length list ∷ flat_map numbers_of list) written (few, numbers_fit list));
      paired = rw long (numbers_pair list);
      sites = sites_recorded list;
    }
