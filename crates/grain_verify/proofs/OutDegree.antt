-- No instruction sends its state to more places than all switches have targets, and one.
use Rattle.std.proofs.Common.{◌≡◌, ℕ, ◌+◌, ◌*◌, ◌-◌, ◌<◌, ◌≤◌, inl, inr, Bool, true, false, cond, Option, List, [], ◌∷◌, ◌++◌, length, get_or, map, Some, Vec, ap, subst, sym, ◌∙◌, arith}
use Rattle.std.specs.Option.{option_to_list}
use Rattle.std.proofs.Math.Nat.{mul-le-mul_left}
use Rattle.std.proofs.lemmas.List.{length-append, length-map, length_push, get_or_past}
use Rattle.std.proofs.lemmas.List.Sums.{count_by-le-length, get_or-le-sum_by}
use Rattle.std.proofs.lemmas.Bool.{cases_lt}
use Rattle.std.specs.Option.{is_some}
use Rattle.std.specs.declared.alloc.Global.{Global}
use Rattle.grain_code.specs.Span.{Span}
use Rattle.grain_verify.specs.Arrivals.{Sends, Underway, all_underway, underway}
use Rattle.grain_verify.specs.Walk.{Walked}
use Rattle.grain_rules.specs.Flow.{Flow, Switches}
use Rattle.grain_rules.specs.FlowFields.{falls_for, targets_for}
use Rattle.grain_verify.specs.FlowView.{IsFollowed, fallen, jumped, next_to}
use Rattle.grain_verify.specs.Progress.{all_targets, visits_in, weight}
use Rattle.grain_verify.specs.Visits.{IsVisited}
use Rattle.grain_verify.specs.declared.lists.Lists.{Lists}
use Rattle.grain_verify.specs.declared.state.Arrival.{Arrival}
use Rattle.grain_verify.specs.declared.state.State.{State}
use Rattle.grain_verify.specs.declared.walk.Traversal.{Traversal}

few_by : (switches : List (List ℕ)) (f : Flow) → length (targets_for switches f) ≤ all_targets switches + 1
few_by switches (Switches w) = elim (cases_lt w (length switches)) [
  | inl l ↦ let h = get_or-le-sum_by (λ (ts : List ℕ). length ts) switches w [] l in omega arith
  | inr g ↦ let e : length (get_or switches w []) ≡ 0 = ap (λ (ts : List ℕ). length ts) (get_or_past switches w [] g) in omega arith
]
few_by switches f = omega arith

-- what is sent makes the worklist longer by no more
sends_few : (starts : List ℕ) (chunk : Span) (switches : List (List ℕ)) (f : Flow) (after : State) (sent new_sent : List (Option State)) (old new : List Arrival)
    → Sends starts chunk switches f after sent new_sent (map underway old) (map underway new) → length new ≤ length old + (all_targets switches + 1)
sends_few starts chunk switches f after sent new_sent old new (inl all) =
    let e : length (map underway new) ≡ length (map underway old) + length (all_underway after (targets_for switches f)) = ap (λ (xs : List Underway). length xs) all.added
    ∙ length-append (map underway old) (all_underway after (targets_for switches f)) in
    let a = length-map new underway in
    let b = length-map old underway in
    let d : length (all_underway after (targets_for switches f)) ≡ length (targets_for switches f) = length-map (targets_for switches f) (λ (t : ℕ). record { at = t; state = after }) in
    let few = few_by switches f in
    omega (arith, e, a, b, d, few)
sends_few starts chunk switches f after sent new_sent old new (inr none) =
    let e : length (map underway new) ≡ length (map underway old) = ap (λ (xs : List Underway). length xs) none.added in
    let a = length-map new underway in
    let b = length-map old underway in
    omega (arith, e, a, b)

-- and what falls through by one
falls_few : (work : List Arrival) (b : Bool) (a : Arrival) → length (work ++ cond b (a ∷ []) []) ≤ length work + 1
falls_few work true a = let e = length-append work (a ∷ []) in omega (arith, e)
falls_few work false a = let e = length-append work [] in omega (arith, e)

pub followed_few : (starts : List ℕ) (chunk : Span) (switches : List (List ℕ)) (f : Flow) (left : ℕ) (here : Arrival) (width : ℕ) (old new : Lists) (sent new_sent : List (Option State)) (work on_way : List Arrival)
    → IsFollowed starts chunk switches f left here width old new sent new_sent work on_way → length on_way ≤ length work + (all_targets switches + 2)
followed_few starts chunk switches f left here width old new sent new_sent work on_way followed =
    let sent_few = sends_few starts chunk switches f (jumped f left followed.list here.state) sent new_sent work followed.pushed followed.sends in
    let fall_few = falls_few followed.pushed (falls_for f) (next_to here width (fallen f left followed.list here.state)) in
    let e = ap (λ (xs : List Arrival). length xs) followed.all in
    omega (arith, sent_few, fall_few, e)

-- fewer that weren't visited outweigh what is sent
pub outweighs : (most before later news olds : ℕ) → later < before → news ≤ olds + most → (most + 1) * later + news < (most + 1) * before + olds
outweighs most before later news olds l few =
    let less = mul-le-mul_left (most + 1) (let h : later + 1 ≤ before = omega (arith, l) in h) in
    omega (arith, few, less)

-- where more was visited, and no more was sent than one instruction sends, less may still come
pub lighter_on : (p : Walked) (t new : Traversal) (news olds : ℕ) → length new.states ≡ length t.states → visits_in t.states < visits_in new.states
    → visits_in new.states ≤ length new.states → news ≤ olds + (all_targets p.code.switches + 2) → weight p new news < weight p t olds
lighter_on p t new news olds long further most few =
    outweighs (all_targets p.code.switches + 2) (length t.states - visits_in t.states) (length new.states - visits_in new.states) news olds (omega (arith, long, further, most)) few

-- once an instruction is marked, fewer are left that weren't visited
pub fewer_left : (old marked new : List (Option State)) → visits_in marked ≡ visits_in old + 1 → length marked ≡ length old → new ≡ marked
    → length new - visits_in new < length old - visits_in old
fewer_left old marked new more long same =
    let most : visits_in marked ≤ length marked = count_by-le-length (λ (o : Option State). is_some o) marked in
    let left : length marked - visits_in marked < length old - visits_in old = omega (arith, more, long, most) in
    subst (λ (xs : List (Option State)). length xs - visits_in xs < length old - visits_in old) (sym same) left

-- once an instruction is marked and what it leads to is on its way, less may still come than before
pub lighter_still : (p : Walked) (t marked new : Traversal) (n first : ℕ) → visits_in marked.states ≡ visits_in t.states + 1 → length marked.states ≡ length t.states
    → marked.work ≡ t.work → new.states ≡ marked.states → n ≤ length marked.work.items + (all_targets p.code.switches + 2) → weight p t (length t.work.items + 1) ≤ first
    → weight p new n < first
lighter_still p t marked new n first more long work states few lighter =
    let seen : visits_in new.states ≡ visits_in marked.states = ap visits_in states in
    let same : length new.states ≡ length t.states = ap (λ (s : List (Option State)). length s) states ∙ long in
    let kept : length marked.work.items ≡ length t.work.items = ap (λ (v : Vec Arrival Global). length v.items) work in
    let less = lighter_on p t new n (length t.work.items + 1) same (omega (arith, seen, more)) (count_by-le-length is_some new.states) (omega (arith, kept, few)) in
    omega (arith, less, lighter)

-- so it is where the instruction was visited
pub lighter_visited : (p : Walked) (chunk : Span) (lists new_lists : Lists) (t marked new : Traversal) (here next : Arrival) (first : ℕ)
    → visits_in marked.states ≡ visits_in t.states + 1 → length marked.states ≡ length t.states → marked.work ≡ t.work
    → IsVisited p chunk lists new_lists marked new here (next ∷ []) → weight p t (length t.work.items + 1) ≤ first → weight p new (length new.work.items + 1) ≤ first
lighter_visited p chunk lists new_lists t marked new here next first more long work visited lighter =
    let one = length_push new.work.items next in
    let less = lighter_still p t marked new (length new.work.items + 1) first more long work visited.states (omega (arith, visited.few, one)) lighter in
    omega (arith, less)

-- what is known of what comes next, where it is this arrival
pub next_visited : (p : Walked) (chunk : Span) (old new : Lists) (before after : Traversal) (here a : Arrival) (o : Option Arrival)
    → o ≡ Some a → IsVisited p chunk old new before after here (option_to_list o) → IsVisited p chunk old new before after here (a ∷ [])
next_visited p chunk old new before after here a o is visited =
    subst (λ (x : Option Arrival). IsVisited p chunk old new before after here (option_to_list x)) is visited
