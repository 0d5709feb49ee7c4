-- A program as it is assembled of operations, before it is verified.
use Rattle.std.specs.Prelude.{◌≡◌, List}
use Rattle.grain_base.specs.declared.caps.Caps.{Caps}
use Rattle.grain_code.specs.declared.op.Op.{Op}
use Rattle.grain_rules.specs.Accepted.{AreIndexed}
use Rattle.grain.specs.Build.{CanLay, IsLaid, draft}
use Rattle.grain.specs.Program.{Program, setting_of}
use Rattle.grain.specs.declared.builder.Cut.{Cut}
use Rattle.grain.specs.declared.builder.Head.{Head}
use Rattle.grain.specs.declared.program.Parts.{Parts}
use Rattle.rhai_compile.specs.Capabilities.{every_capability}

-- It is laid of these, with every capability, and each index of its code leads into its pool.
pub record IsLaidOut (ops : List Op) (cuts : List Cut) (heads : List Head) (parts : Parts) (p : Program) : Type 0 where
  pub caps : Caps
  pub every : caps.0 ≡ every_capability
  pub lays : CanLay (draft caps ops cuts heads parts)
  pub laid : IsLaid (draft caps ops cuts heads parts) p
  pub indexed : AreIndexed (setting_of p) p.code
