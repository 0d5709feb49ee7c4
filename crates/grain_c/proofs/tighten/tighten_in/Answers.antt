use Rattle.std.proofs.Common.{refl, subst}
use Rattle.grain_flat.specs.Tightening.{AreDeclaring}
use Rattle.grain_flat.proofs.Redeclared.{tightens}
use Rattle.grain_c.proofs.tighten.tighten_in.Goals as goal

pub returns-in-Ok-clause-tightened : goal.returns-in-Ok-clause-tightened
returns-in-Ok-clause-tightened c =
    let p = c.args.program.now in
    let written = c.tighten.ensures in
    let declaring = subst (AreDeclaring p.chunks.now written.0) c.deref.ensures.value written.2 in record {
      accepted = λ is. (
        written.0,
        written.3,
        written.1,
        tightens c.args.caps p.code.now p.chunks.now written.0 p.pools c.in-Ok.found.items c.in-Ok.ensures.accepted declaring,
      );
      kept = λ other. absurd (other refl);
    }
