-- No more instructions are visited than the chunks span bytes of the code.
use Rattle.std.proofs.Common.{◌≡◌, ℕ, ◌+◌, ◌-◌, ◌<◌, ◌≤◌, suc, zero, inl, inr, max, min, Bool, true, false, List, [], ◌∷◌, None, length, nat_eq, nat_le, nat_lt, ◌&&◌, cond, replicate, refl, subst, arith}
use Rattle.std.specs.Prelude.{sum_by}
use Rattle.std.specs.List.{All, AllByRecursion, AllZip, Contains, IsDistinct}
use Rattle.std.proofs.lemmas.Bool.{cases_lt}
use Rattle.std.proofs.lemmas.Bool.Decides.{nat_tests}
use Rattle.std.proofs.lemmas.List.{length-replicate}
use Rattle.std.proofs.lemmas.List.Sums.{sum_by-cons}
use Rattle.std.proofs.lemmas.Map.Keys.{IsDistinct-cons, IsDistinct-head, IsDistinct-tail}
use Rattle.grain_code.specs.Span.{Span}
use Rattle.grain_code.specs.InstructionTable.{width_of}
use Rattle.grain_code.specs.declared.function.Function.{Function}
use Rattle.grain_base.specs.declared.access.FnAccess.TheVariants as access
use Rattle.grain_rules.specs.Accepted.{ChunkPasses}
use Rattle.grain_rules.specs.Code.{Bytecode, coded}
use Rattle.grain_rules.specs.Typing.{IsReachedCount}
use Rattle.grain_rules.proofs.Law.{typing_covers}
use Rattle.grain_rules.proofs.Splits.{SplitsFrom, in_head, in_tail, split_splits, width_pos}
use Rattle.grain_verify.specs.Meter.{starts_within}
use Rattle.grain_flat.specs.Answers.{Accepts, Visits, VisitsWithin}
use Rattle.grain_flat.specs.Flat.{Pooled, Rest, rest_input}
use Rattle.grain_flat.specs.Work.{spanned, work_of}
use Rattle.grain_flat.specs.declared.records.CPools.{CPools}
use Rattle.grain_flat.proofs.Flatness.{vector}

-- a chunk has no more starts than it spans bytes, those before an address left out
starts_few : (code : List ℕ) (chunk : Span) (at : ℕ) (starts : List ℕ) → SplitsFrom code at starts → starts_within starts chunk ≤ min (length code) chunk.end - max at chunk.entry
starts_few code chunk at [] h = omega arith
starts_few code chunk at (x ∷ xs) (e, l, (op, i, h)) =
    let more = starts_few code chunk (at + width_of op) xs h in
    let w = width_pos op in
    let one : cond (nat_le chunk.entry x && nat_lt x chunk.end) 1 0 ≤ chunk.end - x = grind (arith, nat_tests) in
    let other : cond (nat_le chunk.entry x && nat_lt x chunk.end) 1 0 ≤ x + 1 - chunk.entry = grind (arith, nat_tests) in
    let most : cond (nat_le chunk.entry x && nat_lt x chunk.end) 1 0 ≤ 1 = grind (arith, nat_tests) in
    omega (arith, more, w, e, l, one, other, most, sum_by-cons (λ (y : ℕ). cond (nat_le chunk.entry y && nat_lt y chunk.end) 1 0) x xs)

all_few : (code starts : List ℕ) → SplitsFrom code 0 starts → (chunks : List Span) → sum_by (starts_within starts) chunks ≤ work_of code chunks
all_few code starts h [] = omega arith
all_few code starts h (x ∷ xs) =
    let one : starts_within starts x ≤ spanned (length code) x = let f = starts_few code x 0 starts h in omega (arith, f) in
    let more = all_few code starts h xs in
    omega (arith, one, more, sum_by-cons (starts_within starts) x xs, sum_by-cons (spanned (length code)) x xs)

-- of a refused program
pub refused_within : (code : List ℕ) (chunks : List Span) (n : ℕ) → VisitsWithin code chunks n → n ≤ work_of code chunks
refused_within code chunks n h =
    elim (cases_lt (work_of code chunks) n) [
      | inr few ↦ few
      | inl many ↦
          let none : n ≡ 0 = h.nowhere (λ starts split. let most = h.starts starts split in let few = all_few code starts (split_splits code starts split) chunks in omega arith) in
          omega arith
    ]

-- numbers of a range, without the first of it
record Without (low high : ℕ) (xs : List ℕ) : Type 1 where
  others : List ℕ
  long : length xs ≤ length others + 1
  once : IsDistinct nat_eq others
  inside : AllByRecursion (λ x. (suc low ≤ x) × (x < high)) others
  kept : (P : ℕ → Type 0) → AllByRecursion P xs → AllByRecursion P others

above : (low high : ℕ) (xs : List ℕ) → AllByRecursion (λ x. nat_eq low x ≡ false) xs → AllByRecursion (λ x. (low ≤ x) × (x < high)) xs → AllByRecursion (λ x. (suc low ≤ x) × (x < high)) xs
above low high [] apart inside = tt
above low high (x ∷ xs) apart inside = (
  (let a = apart.0 in let b = inside.0.0 in grind (arith, nat_tests, a, b), inside.0.1),
  above low high xs apart.1 inside.1,
)

one_without : (low high x : ℕ) (xs : List ℕ) → IsDistinct nat_eq (x ∷ xs) → AllByRecursion (λ y. (low ≤ y) × (y < high)) (x ∷ xs) → Without low high xs → (b : Bool) → nat_eq low x ≡ b → Without low high (x ∷ xs)
one_without low high x xs once inside more true is =
    let same : x ≡ low = grind (arith, nat_tests, is) in
    record {
      others = xs;
      long = omega arith;
      once = IsDistinct-tail nat_eq x xs once;
      inside = above low high xs (subst (λ (y : ℕ). AllByRecursion (λ z. nat_eq y z ≡ false) xs) same (IsDistinct-head nat_eq x xs once)) inside.1;
      kept = λ P h. h.1;
    }
one_without low high x xs once inside more false is =
    let low_x : suc low ≤ x = let a = inside.0.0 in grind (arith, nat_tests, is, a) in
    record {
      others = x ∷ more.others;
      long = let l = more.long in omega arith;
      once = IsDistinct-cons nat_eq x more.others (more.kept (λ y. nat_eq x y ≡ false) (IsDistinct-head nat_eq x xs once)) more.once;
      inside = ((low_x, inside.0.1), more.inside);
      kept = λ P h. (h.0, more.kept P h.1);
    }

without : (low high : ℕ) (xs : List ℕ) → IsDistinct nat_eq xs → AllByRecursion (λ x. (low ≤ x) × (x < high)) xs → Without low high xs
without low high [] once inside = record { others = []; long = omega arith; once = once; inside = tt; kept = λ P h. tt }
without low high (x ∷ xs) once inside = one_without low high x xs once inside (without low high xs (IsDistinct-tail nat_eq x xs once) inside.1) (nat_eq low x) refl

-- distinct numbers of a range are no more than it has
few : (size low : ℕ) (xs : List ℕ) → IsDistinct nat_eq xs → AllByRecursion (λ x. (low ≤ x) × (x < low + size)) xs → length xs ≤ size
few size low [] once inside = omega arith
few zero low (x ∷ xs) once inside = absurd (let a = inside.0.0 in let b = inside.0.1 in omega arith)
few (suc size) low (x ∷ xs) once inside =
    let rest = without low (low + suc size) (x ∷ xs) once inside in
    let same : low + suc size ≡ suc low + size = omega arith in
    let most = few size (suc low) rest.others rest.once (subst (λ (high : ℕ). AllByRecursion (λ y. (suc low ≤ y) × (y < high)) rest.others) same rest.inside) in
    let long = rest.long in
    omega arith

each : (P : ℕ → Type 0) (xs : List ℕ) → ((x : ℕ) → Contains xs x → P x) → AllByRecursion P xs
each P [] h = tt
each P (x ∷ xs) h = (h x (in_head x xs), each P xs (λ y c. h y (in_tail x xs y c)))

-- a chunk that passes reaches no more places than it spans bytes
reached_few : (code : Bytecode) (chunk : Span) (n : ℕ) → ChunkPasses code chunk → IsReachedCount (coded code) chunk n → n ≤ spanned (length code.bytes) chunk
reached_few code chunk n passes h =
    let ordered = passes.framed.ordered in
    let end = passes.framed.inside in
    let size = chunk.end - chunk.entry in
    let inside : AllByRecursion (λ x. (chunk.entry ≤ x) × (x < chunk.entry + size)) h.places =
    each (λ x. (chunk.entry ≤ x) × (x < chunk.entry + size)) h.places (λ x c.
    let reached = (h.reached x).0 c in
    let typing = passes.typed.1 in
    let there = typing.met x reached.0 (typing_covers (coded code) chunk chunk.max_stack passes.typed.0 typing x reached.0 reached.1) in
    let from = there.1.stands.within.entry in
    let to = there.1.stands.within.end in
    (from, omega arith)) in
    let most = few size chunk.entry h.places h.distinct inside in
    let count = h.count in
    omega arith

pub all_reached_few : (code : Bytecode) (chunks : List Span) (numbers : List ℕ) → All (ChunkPasses code) chunks → AllZip (IsReachedCount (coded code)) chunks numbers
    → sum_by (λ x. x) numbers ≤ work_of code.bytes chunks
all_reached_few code [] [] passes counts = omega arith
all_reached_few code [] (n ∷ ns) passes counts = absurd counts
all_reached_few code (c ∷ cs) [] passes counts = absurd counts
all_reached_few code (c ∷ cs) (n ∷ ns) passes counts =
    let one = reached_few code c n (passes 0 c (omega arith)) counts.0 in
    let more = all_reached_few code cs ns (λ k d inside. passes (suc k) d (omega arith)) counts.1 in
    omega (arith, one, more, sum_by-cons (λ (x : ℕ). x) n ns, sum_by-cons (spanned (length code.bytes)) c cs)

-- this number of functions
functions_of : (count : ℕ) → (functions : List Function) × (length functions ≡ count)
functions_of count =
    let function : Function = record { name = 0; params = vector [] (omega arith); access = access.Public; this_type = None; chunk = record { entry = 0; end = 0; max_stack = 0 } } in
    (replicate count function, length-replicate count function)

-- of an accepted program
pub accepted_within : (caps : ℕ) (code : List ℕ) (chunks : List Span) (p : CPools) (numbers : List ℕ) (n : ℕ) → Pooled p → Accepts caps code chunks p numbers → Visits caps code chunks p n → n ≤ work_of code chunks
accepted_within caps code chunks p numbers n pooled accepts visits =
    let functions = functions_of p.functions in
    let rest : Rest p = record { pooled = pooled; functions = functions.0; functions_are = functions.1 } in
    let reached = visits rest in
    let most = all_reached_few (rest_input caps code chunks p rest).code chunks reached.0 (accepts.rest rest).chunks reached.1 in
    let count = reached.2 in
    omega arith
