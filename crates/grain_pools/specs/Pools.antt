-- The pools of a program as lists, as look-ups see them.
use Rattle.std.specs.Prelude.{ℕ, List}
use Rattle.grain_base.specs.declared.token.Token.{Token}
use Rattle.grain_base.specs.declared.value.Dynamic.{Dynamic}
use Rattle.grain_pools.specs.declared.assign_op.AssignOp.{AssignOp}
use Rattle.grain_pools.specs.declared.chain.Chain.{Chain}
use Rattle.grain_pools.specs.declared.switch.Switch.{Switch}

pub record Pools : Type 0 where
  -- the texts of the names
  pub names : List (List ℕ)
  pub constants : List Dynamic
  pub tokens : List Token
  pub assign_ops : List AssignOp
  pub chains : List Chain
  pub switches : List Switch
