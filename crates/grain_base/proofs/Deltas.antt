-- The deltas among the numbers of entries, and the addresses that they lead to.
use Rattle.std.proofs.Common.{◌≡◌, ℕ, zero, suc, ◌+◌, ◌*◌, ◌^◌, ◌<◌, List, [], ◌∷◌, ◌++◌, length, drop, All, Option, Some, None, sum, refl, sym, ap, subst, ◌∙◌, arith}
use Rattle.std.proofs.lemmas.List.Elements.{All-head, All-tail, All-push, All-nil}
use Rattle.std.proofs.lemmas.List.Sums.{sum_by-cons, sum_by-append}
use Rattle.grain_base.specs.AddressTable.{deltas, Ascend}

pub sum-cons : (n : ℕ) (ns : List ℕ) → sum (n ∷ ns) ≡ n + sum ns
sum-cons n ns = sum_by-cons (λ x. x) n ns

-- a delta leads on from the address before it, if there is one
abbrev pub Follows : Option ℕ → ℕ → Type 0
Follows None delta = delta < 2 ^ 32
Follows (Some address) delta = (0 < delta) × (address + delta < 2 ^ 32)

-- to this address
abbrev pub led_to : Option ℕ → ℕ → ℕ
led_to None delta = delta
led_to (Some address) delta = address + delta

-- from an address on, or from none, the numbers of entries lead on
abbrev pub LeadOn : Option ℕ → List ℕ → Type 0
LeadOn previous [] = Unit {0}
LeadOn previous (delta ∷ []) = Follows previous delta
LeadOn previous (delta ∷ line ∷ []) = Follows previous delta
LeadOn previous (delta ∷ line ∷ column ∷ numbers) = Follows previous delta × LeadOn (Some (led_to previous delta)) numbers

-- where they lead in the end
abbrev pub last_from : Option ℕ → List ℕ → Option ℕ
last_from previous [] = previous
last_from previous (delta ∷ []) = previous
last_from previous (delta ∷ line ∷ []) = previous
last_from previous (delta ∷ line ∷ column ∷ numbers) = last_from (Some (led_to previous delta)) numbers

lead_on_from : (address : ℕ) (numbers : List ℕ) → All (λ delta. 0 < delta) (deltas numbers) → address + sum (deltas numbers) < 2 ^ 32 → LeadOn (Some address) numbers
lead_on_from address [] some fits = tt
lead_on_from address (d ∷ []) some fits = (All-head (λ delta. 0 < delta) d [] some, omega (arith, sum-cons d []))
lead_on_from address (d ∷ l ∷ []) some fits = (All-head (λ delta. 0 < delta) d [] some, omega (arith, sum-cons d []))
lead_on_from address (d ∷ l ∷ c ∷ numbers) some fits = (
  (All-head (λ delta. 0 < delta) d (deltas numbers) some, omega (arith, sum-cons d (deltas numbers))),
  lead_on_from (address + d) numbers (All-tail (λ delta. 0 < delta) d (deltas numbers) some) (omega (arith, sum-cons d (deltas numbers))),
)

pub lead_on : (numbers : List ℕ) → Ascend numbers → LeadOn None numbers
lead_on [] ascend = tt
lead_on (d ∷ []) ascend = omega (arith, sum-cons d [], ascend.1)
lead_on (d ∷ l ∷ []) ascend = omega (arith, sum-cons d [], ascend.1)
lead_on (d ∷ l ∷ c ∷ numbers) ascend =
    (omega (arith, sum-cons d (deltas numbers), ascend.1), lead_on_from d numbers ascend.0 (omega (arith, sum-cons d (deltas numbers), ascend.1)))

-- behind whole entries the sum of the deltas is the last address
last_sum_from : (address entries : ℕ) (numbers : List ℕ) → length numbers ≡ 3 * entries → last_from (Some address) numbers ≡ Some (address + sum (deltas numbers))
last_sum_from address entries [] whole = ap Some (omega arith)
last_sum_from address entries (d ∷ []) whole = absurd (omega arith)
last_sum_from address entries (d ∷ l ∷ []) whole = absurd (omega arith)
last_sum_from address zero (d ∷ l ∷ c ∷ numbers) whole = absurd (omega arith)
last_sum_from address (suc entries) (d ∷ l ∷ c ∷ numbers) whole = last_sum_from (address + d) entries numbers (omega arith) ∙ ap Some (omega (arith, sum-cons d (deltas numbers)))

pub last_sum : (entries : ℕ) (numbers : List ℕ) → length numbers ≡ 3 * entries → 0 < length numbers → last_from None numbers ≡ Some (sum (deltas numbers))
last_sum entries [] whole some = absurd (omega arith)
last_sum entries (d ∷ []) whole some = absurd (omega arith)
last_sum entries (d ∷ l ∷ []) whole some = absurd (omega arith)
last_sum zero (d ∷ l ∷ c ∷ numbers) whole some = absurd (omega arith)
last_sum (suc entries) (d ∷ l ∷ c ∷ numbers) whole some = last_sum_from d entries numbers (omega arith) ∙ ap Some (omega (arith, sum-cons d (deltas numbers)))

-- the deltas of whole entries and of what follows them
pub deltas-append : (entries : ℕ) (numbers more : List ℕ) → length numbers ≡ 3 * entries → deltas (numbers ++ more) ≡ deltas numbers ++ deltas more
deltas-append entries [] more whole = refl
deltas-append entries (d ∷ []) more whole = absurd (omega arith)
deltas-append entries (d ∷ l ∷ []) more whole = absurd (omega arith)
deltas-append zero (d ∷ l ∷ c ∷ numbers) more whole = absurd (omega arith)
deltas-append (suc entries) (d ∷ l ∷ c ∷ numbers) more whole = ap (λ ns. d ∷ ns) (deltas-append entries numbers more (omega arith))

-- lists of deltas that ascend
abbrev Rise : List ℕ → Type 0
Rise xs = All (λ delta. 0 < delta) (drop 1 xs) × (sum xs < 2 ^ 32)

-- one more delta behind whole entries, whether its entry is finished or not
pub ascend_more : (entries delta : ℕ) (numbers more : List ℕ) → length numbers ≡ 3 * entries → deltas more ≡ delta ∷ [] → Ascend numbers → (0 < entries → 0 < delta)
    → sum (deltas numbers) + delta < 2 ^ 32 → Ascend (numbers ++ more)
ascend_more entries delta [] more whole one ascend later fits =
    subst Rise (sym one) (All-nil (λ d. 0 < d), omega (arith, sum-cons delta []))
ascend_more entries delta (d ∷ []) more whole one ascend later fits = absurd (omega arith)
ascend_more entries delta (d ∷ l ∷ []) more whole one ascend later fits = absurd (omega arith)
ascend_more entries delta (d ∷ l ∷ c ∷ numbers) more whole one ascend later fits =
    let front = d ∷ l ∷ c ∷ numbers in
    let all : deltas (front ++ more) ≡ deltas front ++ delta ∷ [] = deltas-append entries front more whole ∙ ap (λ (ns : List ℕ). deltas front ++ ns) one in
    subst Rise (sym all) (All-push (λ x. 0 < x) (deltas numbers) delta ascend.0 (later (omega arith)), omega (arith, sum_by-append (λ x. x) (deltas front) (delta ∷ []), sum-cons delta []))

-- the sum of the deltas with one more
pub sum_more : (entries delta : ℕ) (numbers more : List ℕ) → length numbers ≡ 3 * entries → deltas more ≡ delta ∷ [] → sum (deltas (numbers ++ more)) ≡ sum (deltas numbers) + delta
sum_more entries delta numbers more whole one =
    ap sum (deltas-append entries numbers more whole ∙ ap (λ (ns : List ℕ). deltas numbers ++ ns) one) ∙ omega (arith, sum_by-append (λ x. x) (deltas numbers) (delta ∷ []), sum-cons delta [])
