-- The table of tags tells which operations are quiet.
use Rattle.std.proofs.Common.{rules, ◌≡◌, ℕ, ap, get_or, subst, ◌∙◌}
use Rattle.grain_code.specs.InstructionTable.{form}
use Rattle.grain_code.specs.declared.op.Op.{Op}
use Rattle.grain_code.specs.declared.tag_table.TagRow.{TagRow}
use Rattle.grain_code.specs.declared.tag_table.TheConstants.{TAG_ROWS}
use Rattle.grain_rules.specs.Rows.{is_quiet}

by_row : (d : TagRow) (op : Op) → (get_or TAG_ROWS (form op).0 d).is_quiet ≡ is_quiet op
by_row d op = search rules

-- whatever operation has the tag
pub quiet_by : (tag : ℕ) (r : TagRow) (op : Op) → ((d : TagRow) → r ≡ get_or TAG_ROWS tag d) → (form op).0 ≡ tag → r.is_quiet ≡ is_quiet op
quiet_by tag r op is e = ap (λ (row : TagRow). row.is_quiet) (is r) ∙ subst (λ n. (get_or TAG_ROWS n r).is_quiet ≡ is_quiet op) e (by_row r op)
