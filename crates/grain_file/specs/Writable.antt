-- Which programs have a file.
use Rattle.std.specs.Prelude.{◌≡◌, true, None}
use Rattle.std.specs.List.{AllByRecursion, list_all}
use Rattle.grain_pools.specs.Dispatch.{arms, listed}
use Rattle.grain.specs.Program.{Program}
use Rattle.grain_format.specs.Cases.{is_keyed}
use Rattle.grain_format.specs.Form.{forms, value_refusal}

-- No constant has a value of the host, at any depth, the key of each case is its constant, and no fragment of syntax is left.
pub record IsWritableProgram (p : Program) : Type 0 where
  pub constants : AllByRecursion (λ v. value_refusal v ≡ None) (forms p.consts)
  pub cases : AllByRecursion (λ s. list_all (is_keyed p.consts) (listed (arms s).cases) ≡ true) p.switches
  pub residuals : p.residuals ≡ 0
