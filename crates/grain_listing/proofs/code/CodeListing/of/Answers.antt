use Rattle.std.proofs.Common.{refl, subst}
use Rattle.grain_code.specs.Disassembly.{IsDisassembly}
use Rattle.grain_listing.proofs.code.CodeListing.of.Goals as goal

pub returns : goal.returns
returns c = record {
  same = refl;
  items = subst (λ xs. IsDisassembly 0 xs c.in_ok-items.items.items) c.deref.ensures.value c.in_ok-items.ensures;
}
