use Rattle.std.proofs.Common.{ℕ, subst}
use Rattle.std.specs.Prelude.{slice_index}
use Rattle.grain_rules.specs.ByIndex.{code_by_index}
use Rattle.grain_rules.specs.Typing.{Reached}
use Rattle.grain_rules.proofs.Offsets.{apart}
use Rattle.grain_rules.proofs.Transport.{deepest_here, deepest_there, reached_here, reached_there, typed_here, typed_there}
use Rattle.grain_rules.proofs.laws.indices_are_addresses.Goals as goal

pub returns-clause-typed : goal.returns-clause-typed
returns-clause-typed h s all switches code offsets made can fit cut m part =
    (typed_there s all switches code offsets made can fit cut m part.inside, typed_here s all switches code offsets made can fit cut m part)

pub returns-clause-reached : goal.returns-clause-reached
returns-clause-reached h s all switches code offsets made can fit cut i c part l = (
  reached_there s all switches code offsets made can fit cut part.inside i c,
  λ r. (
      let k = reached_here s all switches code offsets made can fit cut part (slice_index offsets i) c r in
      subst (λ (j : ℕ). Reached (code_by_index s all switches) cut j c) (apart all code offsets made k.0 i k.1 l k.2) k.3
      ),
)

pub returns-clause-nowhere : goal.returns-clause-nowhere
returns-clause-nowhere h s all switches code offsets made can fit cut b c part r =
    let k = reached_here s all switches code offsets made can fit cut part b c r in
    (k.0, k.1, k.2)

pub returns-clause-deepest : goal.returns-clause-deepest
returns-clause-deepest h s all switches code offsets made can fit cut n part =
    (deepest_there s all switches code offsets made can fit cut n part, deepest_here s all switches code offsets made can fit cut n part)
