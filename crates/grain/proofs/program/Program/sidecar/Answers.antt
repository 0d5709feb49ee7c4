use Rattle.std.proofs.Common.{◌≡◌, ◌∙◌, ◌≤◌, ◌^◌, Err, Option, List, ap, sym, subst}
use Rattle.std.specs.List.{Any}
use Rattle.std.proofs.lemmas.Result.{err_from_is_err_and}
use Rattle.grain_bytecode.specs.Positions.{Place, entries_at_places}
use Rattle.grain_bytecode.specs.declared.positions.StripError.TheVariants as strip_error
use Rattle.grain.specs.Program.{places_of}
use Rattle.grain.proofs.AttachedPositions.{places_listed}
use Rattle.grain.proofs.program.Program.sidecar.Goals as goal

pub returns-in_err-to_table-clause-wide : goal.returns-in_err-to_table-clause-wide
returns-in_err-to_table-clause-wide c =
    let p = err_from_is_err_and c.from_residual.result c.from_residual.ensures.1 in
    let was : c.to_table.result ≡ Err c.in_err-to_table.field-0.0 = c.in_err-to_table.was in
    let is : c.from_residual.result ≡ Err c.in_err-to_table.field-0.0 = cc (p.1, p.2) in
    let own = places_listed c.self.inside.parts.positions ∙ ap places_of c.self.view_is in
    let IsWide : Option (List Place) → Type 0 = λ listed. Any (λ entry. 2 ^ 32 ≤ entry.0) (entries_at_places listed) in (
      λ wide. (let e : c.to_table.result ≡ Err strip_error.AddressTooWide = cc (was, is, wide) in subst IsWide own (c.to_table.ensures.wide.0 e)),
      λ any. (let e : c.to_table.result ≡ Err strip_error.AddressTooWide = c.to_table.ensures.wide.1 (subst IsWide (sym own) any) in cc (was, is, e)),
    )
