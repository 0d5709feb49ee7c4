use Rattle.std.proofs.Common.{◌≡◌, ◌∙◌, ◌++◌, ℕ, List, ap, drop, length, map, min, subst, sym, take, arith}
use Rattle.std.specs.List.{AllZip}
use Rattle.std.specs.Prelude.{Option}
use Rattle.std.proofs.lemmas.List.{length-take-le}
use Rattle.std.proofs.lemmas.Slice.Zip.{AllZip-long}
use Rattle.grain_code.specs.Span.{Span}
use Rattle.grain_flat.specs.Slots.{row_slot}
use Rattle.grain_needs.specs.Slots.{AreSlots}
use Rattle.grain_flat.proofs.SlotRows.{row_slots, take_few}
use Rattle.grain_flat.proofs.slots.write_slots.Goals as goal

pub returns : goal.returns
returns c =
    let program = c.args.program.now in
    let chunks = program.chunks.now in
    let old = c.args.slots.now in
    let found = c.write_each.new.slots in
    let few : c.min-count.result ≡ min (length chunks) (length old) = c.min-count.ensures in
    let R : Span → ℕ → Type 0 = AreSlots (map row_slot program.pools.chains.now) program.code.now in
    let long : length found ≡ c.min-count.result = AllZip-long R (take c.min-count.result chunks) found c.write_each.ensures ∙ length-take-le c.min-count.result chunks (omega arith) in
    record {
      found = found;
      written = ap (λ (n : ℕ). found ++ drop n old) (sym long);
      counts = λ chains are.
          subst (λ (slots : List (Option ℕ)). AllZip (AreSlots slots program.code.now) (take (length old) chunks) found) (row_slots program.pools.chains.now program.pools.steps.now chains are)
          (subst (λ (cs : List Span). AllZip R cs found) (take_few chunks (length old) c.min-count.result few) c.write_each.ensures);
    }
