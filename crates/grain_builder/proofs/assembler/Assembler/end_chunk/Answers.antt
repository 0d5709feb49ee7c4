use Rattle.std.proofs.Common.{◌≡◌, false, length, sym, subst, rules, ◌∙◌}
use Rattle.std.proofs.lemmas.List.{length-map}
use Rattle.grain_builder.specs.Assembled.{op_in, workings_of}
use Rattle.grain_builder.specs.Sound.{Workings}
use Rattle.grain_builder.specs.Unfinished.{Unfinished}
use Rattle.grain_builder.proofs.Marks.{one_chunk}
use Rattle.grain_builder.proofs.assembler.Assembler.end_chunk.Goals as goal

pub invariant_of-self-2 : goal.invariant_of-self-2
invariant_of-self-2 c =
    let k : Workings = workings_of c.self.inside in
    let loose : k.fixed ≡ false = subst (λ (w : Unfinished). w.fixed ≡ false) (sym c.self.view_is) c.requires.loose in
    let entry : c.in-Ok.entry ≡ k.level.home = search rules in
    let many : length c.self.inside.ops.items ≡ length k.ops = sym (length-map c.self.inside.ops.items op_in) in
    let end : c.in-Ok-try_from.end ≡ length k.ops = (let h : c.in-Ok-try_from.end ≡ length c.self.inside.ops.items = search rules in h) ∙ many in
    let next : c.len-next.result ≡ length k.ops = (let h : c.len-next.result ≡ length c.self.inside.ops.items = search rules in h) ∙ many in
    let cut : c.new.result ≡ record { entry = k.level.home; end = length k.ops; max_stack = 65535 } = c.new.ensures ∙ (λ i. record { entry = entry i; end = end i; max_stack = 65535 }) in
    rw (c.in_ok-push.ensures.items, c.outermost-level.ensures, next) (one_chunk k c.self.invariant loose c.new.result cut)
