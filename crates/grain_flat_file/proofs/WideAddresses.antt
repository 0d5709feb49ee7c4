-- An address that is too wide for a table is one that doesn't fit.
use Rattle.std.proofs.Common.{◌<◌, ◌≤◌, ◌^◌, subst, arith}
use Rattle.std.specs.Prelude.{Any}
use Rattle.grain.specs.Program.{Program, places_of}
use Rattle.grain_base.specs.AddressTable.{Entry}
use Rattle.grain_bytecode.specs.Positions.{entries_at_places}
use Rattle.grain_flat_file.specs.Changed.{AddressesFit}

pub too_wide : (p : Program) → Any (λ (entry : Entry). 2 ^ 32 ≤ entry.0) (entries_at_places (places_of p)) → AddressesFit p → ⊥
too_wide p found fit =
    let small : found.1.0 < 2 ^ 32 = subst (λ (entry : Entry). entry.0 < 2 ^ 32) found.3 (fit found.0 found.1 found.2) in
    let big = found.4 in
    omega arith
