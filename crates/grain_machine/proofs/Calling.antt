-- Frames that wait, and what turns do to the outermost one.
use Rattle.std.proofs.Common.{◌≡◌, ℕ, ◌+◌, ◌≤◌, ◌⊎◌, inl, inr, List, [], ◌∷◌, ◌++◌, length, map, reverse, Option, Some, None, false, true, refl, sym, ap, ◌∙◌, subst, arith}
use Rattle.std.specs.Prelude.{◌==◌, IsSome, get_or}
use Rattle.std.specs.List.{All}
use Rattle.std.specs.Option.{option_map_or}
use Rattle.std.proofs.lemmas.List.{length-map, length-reverse, map-append, reverse-append}
use Rattle.std.proofs.lemmas.List.Elements.{All-nil, All-cons, All-head, All-tail, All-map}
use mathlib.Core.List.{reverse_aux}
use Rattle.grain_code.specs.Span.{Span}
use Rattle.grain_rules.specs.Machine.{Handler, IsKeptRun, Machine, Moves, innermost}
use Rattle.grain.specs.Program.{Program}
use Rattle.grain_machine.specs.Asked.{program_code}
use Rattle.grain_machine.specs.Calls.{Activation, CallStack, MovesOn, IsRunOfCalls, Turns, begins, catcher, outermost_from, outermost_of}
use Rattle.grain_machine.specs.Standing.{activation_of, waiting_of}
use Rattle.grain_machine.specs.Values.{ValueMachine, counted}
use Rattle.grain_machine.specs.declared.frames.Caller.{Caller}

-- the last that called comes first
pub last_called : {V I : Type 0} (rest : List (Caller V I)) (c : Caller V I) → waiting_of (rest ++ c ∷ []) ≡ activation_of c ∷ waiting_of rest
last_called rest c = ap (map activation_of) (reverse-append rest (c ∷ []))

all_reversed : {X : Type 0} (P : X → Type 0) (xs acc : List X) → All P xs → All P acc → All P (reverse_aux xs acc)
all_reversed P [] acc h k = k
all_reversed P (x ∷ xs) acc h k = all_reversed P xs (x ∷ acc) (All-tail P x xs h) (All-cons P x acc (All-head P x xs h) k)

-- what holds of each frame that waits
pub all_waiting : {V I : Type 0} (P : Activation V I → Type 0) (all : List (Caller V I)) → All (λ c. P (activation_of c)) all → All P (waiting_of all)
all_waiting P all h = All-map P activation_of (reverse all) (all_reversed (λ c. P (activation_of c)) all [] h (All-nil _))

-- the outermost of some frames is the first that called
last_of : {V I : Type 0} (x : Activation V I) (ys : List (Activation V I)) (a : Activation V I) → outermost_from x (ys ++ a ∷ []) ≡ a
last_of x [] a = refl
last_of x (y ∷ ys) a = last_of y ys a

first_last : {V I : Type 0} (cs : List (Caller V I)) (c : Caller V I) → waiting_of (c ∷ cs) ≡ waiting_of cs ++ activation_of c ∷ []
first_last cs c = ap (map activation_of) (reverse-append (c ∷ []) cs) ∙ map-append activation_of (reverse cs) (c ∷ [])

pub first_called : {V I : Type 0} (x : Activation V I) (c : Caller V I) (cs : List (Caller V I)) → outermost_from x (waiting_of (c ∷ cs)) ≡ activation_of c
first_called x c cs =
    let e : waiting_of (c ∷ cs) ≡ waiting_of cs ++ activation_of c ∷ [] = first_last cs c in
    ap (outermost_from x) e ∙ last_of x (waiting_of cs) (activation_of c)

pub first_is : {V I : Type 0} (x : Activation V I) (all : List (Caller V I)) (c : Caller V I) → (length all == 0) ≡ false → c ≡ get_or all 0 c
    → outermost_from x (waiting_of all) ≡ activation_of c
first_is x [] c h e = absurd (let f : true ≡ false = h in cc)
first_is x (d ∷ ds) c h e = first_called x d ds ∙ ap activation_of (sym e)

-- the frame that catches stands among these
by_catcher : {V I : Type 0} (o : Option (Handler × List Handler)) (a : Activation V I) (outer : List (Activation V I)) (caller : Activation V I) (rest : List (Activation V I))
    → (catcher outer ≡ Some (caller, rest) → outermost_from a outer ≡ outermost_from caller rest)
    → option_map_or (λ _. Some (a, outer)) o (catcher outer) ≡ Some (caller, rest) → outermost_from a outer ≡ outermost_from caller rest
by_catcher None a outer caller rest further e = further e
by_catcher {V} {I} (Some h) a outer caller rest further e = ap (λ (o : Option (Activation V I × List (Activation V I))). option_map_or (λ p. outermost_from p.0 p.1) o a) e

pub outer_caught : {V I : Type 0} (x : Activation V I) (outer : List (Activation V I)) (caller : Activation V I) (rest : List (Activation V I)) → catcher outer ≡ Some (caller, rest)
    → outermost_from x outer ≡ outermost_from caller rest
outer_caught x [] caller rest e = absurd (let k : None ≡ Some (caller, rest) = e in cc)
outer_caught x (a ∷ outer) caller rest e = by_catcher (innermost a.machine.handlers) a outer caller rest (outer_caught a outer caller rest) e

-- the frame stays in the same chunk with the same counts
pub record Stays {V I : Type 0} (a b : Activation V I) : Type 0 where
  pub chunk : b.chunk ≡ a.chunk
  pub counts : counted b.machine ≡ counted a.machine

-- the frame stays, or makes a move
abbrev pub StaysOrGoes : {V I : Type 0} → Program → Activation V I → Activation V I → Type 0
StaysOrGoes p a b = Stays a b ⊎ MovesOn p a b

outer_goes : {V I : Type 0} (p : Program) (a b : Activation V I) (callers : List (Activation V I)) → MovesOn p a b → StaysOrGoes p (outermost_from a callers) (outermost_from b callers)
outer_goes p a b [] goes = inr goes
outer_goes p a b (c ∷ cs) goes = inl (record { chunk = refl; counts = refl })

onto : {V I : Type 0} (p : Program) (o a b : Activation V I) (rest : List (Activation V I)) → o ≡ outermost_from a rest → MovesOn p a b → StaysOrGoes p o (outermost_from b rest)
onto {V} {I} p o a b rest e goes = subst (λ (x : Activation V I). StaysOrGoes p x (outermost_from b rest)) (sym e) (outer_goes p a b rest goes)

outer_stays : {V I : Type 0} (a b : Activation V I) (callers : List (Activation V I)) → Stays a b → Stays (outermost_from a callers) (outermost_from b callers)
outer_stays a b [] h = h
outer_stays a b (c ∷ cs) h = record { chunk = refl; counts = refl }

pub outer_turn : {V I : Type 0} (p : Program) (depth : ℕ) (s t : CallStack V I) → Turns p depth s t → StaysOrGoes p (outermost_of s) (outermost_of t)
outer_turn p depth s t (inl (inl moved)) = onto p (outermost_of s) s.top t.top t.callers (ap (outermost_from s.top) (sym moved.callers)) moved.goes
outer_turn p depth s t (inl (inr left)) = onto p (outermost_of s) left.caught.caller t.top t.callers (outer_caught s.top s.callers left.caught.caller t.callers left.caught.catches) left.caught.goes
outer_turn {V} {I} p depth s t (inr (inl called)) =
    let stays : Stays s.top called.caller = record { chunk = called.waits.chunk; counts = called.waits.counts } in
    inl (subst (λ (x : Activation V I). Stays (outermost_of s) x) (sym (ap (outermost_from t.top) called.callers)) (outer_stays s.top called.caller s.callers stays))
outer_turn p depth s t (inr (inr back)) = onto p (outermost_of s) back.back.caller t.top t.callers (ap (outermost_from s.top) back.back.called) back.back.goes

-- the outermost frame is on a kept run of the chunk, which has made no more moves than there were turns
pub record OuterRuns {V I : Type 0} (p : Program) (chunk : Span) (a : Activation V I) (turns : ℕ) : Type 0 where
  pub same : a.chunk ≡ chunk
  pub earlier : List Machine
  pub run : IsKeptRun (program_code p) chunk (counted a.machine) earlier
  pub few : length earlier ≤ turns

one_more : {V I : Type 0} (p : Program) (chunk : Span) (a b : Activation V I) (turns : ℕ) → OuterRuns p chunk a turns → StaysOrGoes p a b → OuterRuns p chunk b (turns + 1)
one_more p chunk a b turns h (inl stays) =
    let l = h.few in
    let run = subst (λ (m : Machine). IsKeptRun (program_code p) chunk m h.earlier) (sym stays.counts) h.run in
    record { same = stays.chunk ∙ h.same; earlier = h.earlier; run = run; few = omega arith }
one_more p chunk a b turns h (inr goes) =
    let l = h.few in
    let move = subst (λ (x : Span). Moves (program_code p) x (counted a.machine) (counted b.machine)) h.same goes.moves in
    record { same = goes.chunk ∙ h.same; earlier = counted a.machine ∷ h.earlier; run = (move, h.run); few = omega arith }

pub outer_runs : {V I : Type 0} (p : Program) (depth : ℕ) (chunk : Span) (s : CallStack V I) (earlier : List (CallStack V I)) → IsRunOfCalls p depth chunk s earlier → OuterRuns p chunk (outermost_of s) (length earlier)
outer_runs {V} {I} p depth chunk s [] h =
    let e : outermost_of s ≡ begins chunk = ap outermost_of h in
    record { same = ap (λ (a : Activation V I). a.chunk) e; earlier = []; run = ap (λ (a : Activation V I). counted a.machine) e; few = omega arith }
outer_runs p depth chunk s (before ∷ earlier) h =
    let more = one_more p chunk (outermost_of before) (outermost_of s) (length earlier) (outer_runs p depth chunk before earlier h.1) (outer_turn p depth before s h.0) in
    let l = more.few in
    record { same = more.same; earlier = more.earlier; run = more.run; few = omega arith }

-- which frame catches
pub caught_first : {V I : Type 0} (a : Activation V I) (rest : List (Activation V I)) (x : Handler × List Handler) → innermost a.machine.handlers ≡ Some x → catcher (a ∷ rest) ≡ Some (a, rest)
caught_first a rest x e = ap (λ (o : Option (Handler × List Handler)). option_map_or (λ _. Some (a, rest)) o (catcher rest)) e

pub uncaught_first : {V I : Type 0} (a : Activation V I) (rest : List (Activation V I)) → innermost a.machine.handlers ≡ None → catcher (a ∷ rest) ≡ catcher rest
uncaught_first a rest e = ap (λ (o : Option (Handler × List Handler)). option_map_or (λ _. Some (a, rest)) o (catcher rest)) e

some_so : {V I : Type 0} (o : Option (Handler × List Handler)) (a : Activation V I) (rest : List (Activation V I)) → IsSome o → IsSome (option_map_or (λ _. Some (a, rest)) o (catcher rest))
some_so None a rest h = absurd (let f : false ≡ true = h in cc)
some_so (Some x) a rest h = refl

pub caught_here : {V I : Type 0} (a : Activation V I) (rest : List (Activation V I)) → IsSome (innermost a.machine.handlers) → IsSome (catcher (a ∷ rest))
caught_here a rest h = some_so (innermost a.machine.handlers) a rest h

-- as many wait as were told
pub waiting_long : {V I : Type 0} (all : List (Caller V I)) → length (waiting_of all) ≡ length all
waiting_long all = length-map (reverse all) activation_of ∙ length-reverse all

pub same_activation : {V I : Type 0} (chunk chunk' : Span) (m m' : ValueMachine V I) → chunk ≡ chunk' → m ≡ m'
    → (let a : Activation V I = record { chunk = chunk; machine = m } in a) ≡ (record { chunk = chunk'; machine = m' })
same_activation chunk chunk' m m' e k = λ i. record { chunk = e i; machine = k i }
