use Rattle.grain_code.proofs.Canonical.{canon_same, canon_twice}
use Rattle.grain_bytecode.proofs.laws.canonical_forms_stay.Goals as goal

pub returns-clause-twice : goal.returns-clause-twice
returns-clause-twice c = canon_twice

pub returns-clause-own : goal.returns-clause-own
returns-clause-own c bytes op is = canon_same op is.unwritten
