-- Groups behind a group.
use Rattle.std.proofs.Common.{◌≡◌, ◌+◌, ◌-◌, ◌/◌, ◌%◌, ◌≤◌, ℕ, suc, List, [], ◌∷◌, ◌++◌, Err, refl, arith, append_assoc}
use Rattle.std.proofs.lemmas.Bool.{le-ltb}
use Rattle.grain_format.specs.declared.error.FieldFault.{FieldFault}
use Rattle.grain_format.specs.Numbers.{groups, groups_at}

stop : (less byte : ℕ) (rest : List ℕ) (fault : FieldFault) → 128 ≤ byte → groups_at less rest ≡ Err fault → groups_at (suc less) (byte ∷ rest) ≡ Err fault
unfolding groups_at
stop less byte rest fault le e = rw (le-ltb byte 128 le, e) refl

pub groups_stop : (more less byte : ℕ) (bytes rest : List ℕ) (fault : FieldFault) → bytes ≡ byte ∷ rest → 128 ≤ byte → (1 ≤ more) × (less ≡ more - 1) → groups_at less rest ≡ Err fault → groups_at more bytes ≡ Err fault
groups_stop more less byte bytes rest fault is le m e =
    let up : more ≡ suc less = omega arith in
    rw (up, is) (stop less byte rest fault le e)

push : (old : List ℕ) (less n : ℕ) → 128 ≤ n → (old ++ (n % 128 + 128) ∷ []) ++ groups less (n / 128) ≡ old ++ groups (suc less) n
unfolding groups
push old less n le = rw (le-ltb n 128 le) (append_assoc old ((n % 128 + 128) ∷ []) (groups less (n / 128)))

pub groups_pushed : (old mid new : List ℕ) (more less n : ℕ) → new ≡ mid ++ groups less (n / 128) → mid ≡ old ++ (n % 128 + 128) ∷ [] → (1 ≤ more) × (less ≡ more - 1) → 128 ≤ n → new ≡ old ++ groups more n
groups_pushed old mid new more less n e f m le =
    let up : more ≡ suc less = omega arith in
    rw (up, e, f) (push old less n le)
