-- Handlers, the last that was armed first.
use Rattle.std.proofs.Common.{◌≡◌, ℕ, List, [], ◌∷◌, ◌++◌, Bool, false, cond, map, Some, ap}
use Rattle.std.proofs.lemmas.List.{reverse-append}
use Rattle.grain_rules.specs.Machine.{Handler, innermost}
use Rattle.grain_machine.specs.State.{handler_of, innermost_first}
use Rattle.grain_machine.specs.Values.{ValueMachine}
use Rattle.grain_machine.specs.declared.frame.Armed.{Armed}

pub last_first : (rest : List Armed) (h : Armed) → innermost_first (rest ++ h ∷ []) ≡ handler_of h ∷ innermost_first rest
last_first rest h = ap (map handler_of) (reverse-append rest (h ∷ []))

pub innermost_is : (h : Handler) (hs : List Handler) → h.spent ≡ false → innermost (h ∷ hs) ≡ Some (h, hs)
innermost_is h hs e = ap (λ (b : Bool). cond b (innermost hs) (Some (h, hs))) e

pub same_machine : {V I : Type 0} (a a' : ℕ) (xs xs' : List V) (its its' : List I) (hs hs' : List Handler) → a ≡ a' → xs ≡ xs' → its ≡ its' → hs ≡ hs'
    → (let m : ValueMachine V I = record { address = a; operands = xs; iterators = its; handlers = hs } in m) ≡ (record { address = a'; operands = xs'; iterators = its'; handlers = hs' })
same_machine a a' xs xs' its its' hs hs' ea ex ey eh = λ i. record { address = ea i; operands = ex i; iterators = ey i; handlers = eh i }
