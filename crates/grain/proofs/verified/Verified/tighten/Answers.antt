use Rattle.std.proofs.Common.{◌∙◌, List, ℕ, length, ap, sym, subst}
use Rattle.std.proofs.lemmas.Slice.Zip.{AllZip-long}
use Rattle.grain_rules.specs.Code.{coded}
use Rattle.grain_rules.specs.Typing.{IsDeepest}
use Rattle.grain.specs.Program.{Program, chunks_of, input_of}
use Rattle.grain.specs.Tightened.{IsTightened}
use Rattle.grain.specs.Verified.{Verified}
use Rattle.grain.proofs.RedeclaredPrograms.{tightened}
use Rattle.grain.proofs.VerifiedPrograms.{tightened_verified}
use Rattle.grain.proofs.verified.Verified.tighten.Goals as goal

-- what declaring the depths makes of the program
declares : (c : goal.After-declare) → IsTightened c.self.inside.program c.declare.new.self
declares c =
    let v = c.self.invariant in
    tightened c.self.inside.program c.declare.new.self c.self.inside.depths.items v.accepted v.deepest v.typed (c.declare.ensures.declared ∙ c.deref.ensures.value) c.declare.ensures.rest

pub declare-requires : goal.declare-requires
declare-requires c =
    ap (λ (depths : List ℕ). length depths) c.deref.ensures.value
    ∙ AllZip-long (IsDeepest (coded (input_of c.self.inside.program).code)) (chunks_of c.self.inside.program) c.self.inside.depths.items c.self.invariant.deepest

pub invariant_of-self : goal.invariant_of-self
invariant_of-self c = tightened_verified c.self.inside.program c.declare.new.self c.self.inside.depths.items (declares c) (c.declare.ensures.declared ∙ c.deref.ensures.value)

pub returns-clause-tightened : goal.returns-clause-tightened
returns-clause-tightened c = subst (λ (p : Program). IsTightened p c.declare.new.self) (ap (λ (v : Verified). v.program) c.self.view_is) (declares c)

pub returns-clause-verified : goal.returns-clause-verified
returns-clause-verified c = invariant_of-self c
