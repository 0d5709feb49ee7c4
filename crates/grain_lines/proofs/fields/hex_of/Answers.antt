use Rattle.std.proofs.Common.{ap, Some, subst, sym, true, false, ◌≡◌, ◌∙◌}
use Rattle.std.specs.Str.{bytes_eq}
use Rattle.grain_lines.proofs.FieldLaws.{hex_of-dash, hex_of-empty, spells_bytes}
use Rattle.grain_lines.proofs.fields.hex_of.Goals as goal
use Rattle.grain_lines.proofs.fields.hex_of.Goals.{then-is_empty-via-then-is_empty, then-is_empty-via-else-is_empty+then-eq}

pub returns-then-is_empty-clause-ok : goal.returns-then-is_empty-clause-ok
returns-then-is_empty-clause-ok c = ap Some c.new.ensures.items ∙ sym (elim c.then-is_empty.branch [
  | then-is_empty-via-then-is_empty w ↦ hex_of-empty c.args.word.now w.if-is_empty.ensures
  | then-is_empty-via-else-is_empty+then-eq w ↦
      hex_of-dash c.args.word.now (subst (λ dash. true ≡ bytes_eq c.args.word.now dash) w.as_slice.ensures w.if-eq.ensures)
])

pub returns-in-Err-OutOfMemory-clause-memory : goal.returns-in-Err-OutOfMemory-clause-memory
returns-in-Err-OutOfMemory-clause-memory c =
    spells_bytes c.args.word.now c.if-is_empty.ensures (subst (λ dash. false ≡ bytes_eq c.args.word.now dash) c.as_slice.ensures c.if-eq.ensures) c.if-is_hex.ensures
