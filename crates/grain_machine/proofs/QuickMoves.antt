-- What quick operations leave.
use Rattle.std.proofs.Common.{◌≡◌, ℕ, ◌-◌, inl, Bool, true, false, List, length, take, refl, sym, ap, ◌∙◌, subst, arith}
use Rattle.std.specs.Bool.{OnFalse, OnTrue}
use Rattle.std.proofs.lemmas.List.{take_all, take-take}
use Rattle.grain_machine.specs.Calls.{Activation, Turns}
use Rattle.grain_machine.specs.State.{FrameState, IsUnderWay, MakesMove, Runs, state_of}
use Rattle.grain_machine.specs.Values.{below}
use Rattle.grain_machine.proofs.Keeping.{length-below}
use Rattle.grain_machine.proofs.Lending.{frame_of}
use Rattle.grain_machine.proofs.Moves.{ready_again}

-- what holds where a test succeeds, and it does
pub on_true : {P : Type 0} (b : Bool) → b ≡ true → OnTrue b P → P
on_true {P} b e h = subst (λ (x : Bool). OnTrue x P) e h

-- what holds where a test fails, and it does
pub on_false : {P : Type 0} (b : Bool) → b ≡ false → OnFalse b P → P
on_false {P} b e h = subst (λ (x : Bool). OnFalse x P) e h

-- none is taken
pub below_none : {X : Type 0} (xs : List X) → below 0 xs ≡ xs
below_none xs = take_all (length xs - 0) xs (omega arith)

-- one is taken after another
pub below_twice : {X : Type 0} (xs : List X) → below 1 (below 1 xs) ≡ below 2 xs
below_twice {X} xs =
    let both : length xs - 1 - 1 ≡ length xs - 2 = omega arith in
    ap (λ (n : ℕ). take (n - 1) (below 1 xs)) (length-below 1 xs)
    ∙ take-take (length xs - 1 - 1) (length xs - 1) xs (omega arith)
    ∙ ap (λ (n : ℕ). take n xs) both

-- whether it moved or not, the run is under way
pub under_way_still : {V I : Type 0} (r : Runs) (f g : FrameState V I) (b : Bool) → IsUnderWay r (state_of f) → OnTrue b (MakesMove r f g) → OnFalse b (g ≡ f)
    → IsUnderWay r (state_of g)
under_way_still r f g true ready moves stays = ready_again r (state_of f) (state_of g) ready moves.goes
under_way_still {V} {I} r f g false ready moves stays = subst (λ (x : FrameState V I). IsUnderWay r (state_of x)) (sym stays) ready

-- a move of the frame on top is a turn of all
pub turns_by_move : {V I : Type 0} (r : Runs) (f g : FrameState V I) (callers : List (Activation V I)) (b : Bool) → OnTrue b (MakesMove r f g)
    → OnTrue b ((depth : ℕ) → Turns r.program depth (record { top = frame_of r f; callers = callers }) (record { top = frame_of r g; callers = callers }))
turns_by_move r f g callers true moves = λ depth. inl (inl (record { goes = record { chunk = refl; moves = moves.goes.0; passes = moves.passes }; callers = refl }))
turns_by_move r f g callers false moves = tt
