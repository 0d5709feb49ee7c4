-- The tag of an instruction is the byte at which it stands.
use Rattle.std.proofs.Common.{◌≡◌, ℕ, List, take, drop, get_or, ap, arith}
use Rattle.std.proofs.lemmas.Grind.{common_steps}
use Rattle.grain_code.specs.InstructionTable.{form, width_of}
use Rattle.grain_code.specs.Split.{StandsAt}
use Rattle.grain_code.specs.declared.op.Op.{Op}

pub tag_is : (code : List ℕ) (at : ℕ) (op : Op) → StandsAt code at op → get_or code at 0 ≡ (form op).0
tag_is code at op h =
    let first : get_or (take (width_of op) (drop at code)) 0 0 ≡ (form op).0 = ap (λ xs. get_or xs 0 0) h.spelled in
    grind (arith, common_steps, first)
