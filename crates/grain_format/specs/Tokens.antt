-- What of operators and op-assignments is kept: all.
use Rattle.std.specs.Prelude.{ℕ, ◌^◌, ◌++◌, List}
use Rattle.std.proofs.Common.{◌<◌, arith}
use Rattle.std.proofs.lemmas.Bool.{ne_eqb}
use Rattle.grain_base.specs.Tokens.{TokenParts, token_parts}
use Rattle.grain_pools.specs.declared.assign_op.AssignOp.{AssignOp}
use Rattle.grain_format.specs.Lists.{BeginsOtherwise}
use Rattle.grain_format.specs.TextLaws.{one_byte}
use Rattle.grain_format.specs.Formats.{Format, number_below, text, both, tag_below, alternative}

pub plain_apart : (tag : ℕ) (rest : List ℕ) → tag < 39 → BeginsOtherwise 39 (one_byte tag ++ rest)
plain_apart tag rest small = ne_eqb tag 39 (λ same. omega arith)

abbrev pub token_format : Format TokenParts
token_format = alternative 39 text (tag_below 39) plain_apart

abbrev pub AssignOpParts : Type 0
AssignOpParts = TokenParts × (ℕ × (TokenParts × ℕ))

abbrev pub assign_op_parts : AssignOp → AssignOpParts
assign_op_parts a = (token_parts a.op_assign, (a.op_assign_name, (token_parts a.op, a.op_name)))

abbrev pub assign_op_format : Format AssignOpParts
assign_op_format = both token_format (both (number_below (2 ^ 32)) (both token_format (number_below (2 ^ 32))))
