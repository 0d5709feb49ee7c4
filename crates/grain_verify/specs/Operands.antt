-- What an operation needs of the operand stack, takes from it and gives, as one value.
use Rattle.std.specs.Prelude.{ℕ}
use Rattle.grain_code.specs.declared.op.Op.{Op}
use Rattle.grain_rules.specs.Rows.{gives, needs, takes}
use Rattle.grain_rules.specs.Setting.{Setting}

abbrev pub stack_effect : Setting → Op → ℕ × ℕ × ℕ
stack_effect s op = (needs s op, takes s op, gives s op)
