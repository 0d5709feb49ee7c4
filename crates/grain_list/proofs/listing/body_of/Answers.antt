use Rattle.std.proofs.Common.{IfSome, Some, refl, subst}
use Rattle.std.specs.Option.{option_map}
use Rattle.grain_lines.specs.LineCase.{as_asked}
use Rattle.grain_list.specs.Listed.{Explains, of_code, of_none, of_program, of_site}
use Rattle.grain_list.proofs.listing.body_of.Goals as goal

pub returns-in-None : goal.returns-in-None
returns-in-None c = rw c.in-None.is (of_none c.of.result)

pub returns-in-Some-Site : goal.returns-in-Some-Site
returns-in-Some-Site c = rw (c.in-Some-Site.is, c.in-Some-Site.field-0-is) (of_site _ _)

pub returns-in-Some-Code : goal.returns-in-Some-Code
returns-in-Some-Code c = rw (c.in-Some-Code.is, c.in-Some-Code.field-0-is) (of_code c.in_ok-of-in-Some-Code.ensures)

pub returns : goal.returns
returns c =
    let found = subst (λ o. IfSome o (Explains (option_map as_asked c.args.case))) c.in-Some.is c.requires.explained in
    let of_case = subst (λ k. Explains (option_map as_asked k) c.in-Some.explained) c.in-Some-Verify.is found in
    let explains = subst (λ k. Explains (Some (as_asked k)) c.in-Some.explained) c.in-Some-Verify.field-0-is of_case in
    let new = c.in_ok-new-in-Some-Verify.ensures in
    rw (c.in-Some-Verify.is, c.in-Some-Verify.field-0-is)
    (of_program {caps = c.in-Some-Verify.field-0-0.0} {chunks = c.in-Some-Verify.chunks.items} {p = c.in_ok-new-in-Some-Verify.field-0} new.code (rw new.chunks refl) (rw new.explained explains))
