use Rattle.std.proofs.Common.{◌≡◌, ℕ, List, ◌∷◌, ◌++◌, map, ap, sym, subst, ◌∙◌}
use Rattle.std.specs.Prelude.{slice_index}
use Rattle.std.specs.List.{flat_map, AllByRecursion}
use Rattle.std.proofs.lemmas.Result.{on_ok_weaker}
use Rattle.grain_code.specs.declared.field.Field.{Field}
use Rattle.grain_code.specs.InstructionTable.{decoded, form, bytes_of, FieldFits}
use Rattle.grain_code.specs.Fields.{moved}
use Rattle.grain_code.proofs.Canonical.{form_decoded}
use Rattle.grain_bytecode.proofs.assembler.put.Goals as goal

pub returns-clause-ok : goal.returns-clause-ok
returns-clause-ok c =
    let g = slice_index c.args.offsets.now in
    let e : (c.layout-tag.result.0, map (moved g) c.as_slice.result.now) ≡ form (decoded g c.args.op.now) =
    ap (λ fields. (c.layout-tag.result.0, map (moved g) fields)) c.as_slice.ensures
    ∙ ap (λ (p : ℕ × List Field). (p.0, map (moved g) p.1)) c.layout-tag.ensures ∙ sym (form_decoded g c.args.op.now) in
    on_ok_weaker c.put_fields.result (λ h. h ∙ ap (λ (p : ℕ × List Field). c.args.code.now.items ++ (p.0 ∷ flat_map bytes_of p.1)) e) c.put_fields.ensures.ok

pub returns-clause-fits : goal.returns-clause-fits
returns-clause-fits c =
    let g = slice_index c.args.offsets.now in
    let e : (c.layout-tag.result.0, map (moved g) c.as_slice.result.now) ≡ form (decoded g c.args.op.now) =
    ap (λ fields. (c.layout-tag.result.0, map (moved g) fields)) c.as_slice.ensures
    ∙ ap (λ (p : ℕ × List Field). (p.0, map (moved g) p.1)) c.layout-tag.ensures ∙ sym (form_decoded g c.args.op.now) in
    on_ok_weaker c.put_fields.result (λ h. subst (λ (p : ℕ × List Field). AllByRecursion FieldFits p.1) e h) c.put_fields.ensures.fits
