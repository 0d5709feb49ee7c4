use Rattle.std.proofs.Common.{◌≡◌, ◌+◌, ◌-◌, ◌≤◌, length, sym, subst, arith, rules}
use Rattle.std.proofs.lemmas.List.{map-append}
use Rattle.grain_pools.specs.Chain.{consumed}
use Rattle.grain_builder.specs.Assembled.{workings_of}
use Rattle.grain_builder.specs.Sound.{Workings}
use Rattle.grain_builder.specs.Unfinished.{Unfinished}
use Rattle.grain_builder.proofs.Marks.{one_chain}
use Rattle.grain_builder.proofs.Frames.{chained_new}
use Rattle.grain_builder.proofs.assembler.Assembler.chain.Goals as goal

pub invariant_of-self-in_err-push-2 : goal.invariant_of-self-in_err-push-2
invariant_of-self-in_err-push-2 c =
    let same : c.push-2.new.self.items ≡ c.self.inside.ops.items = search rules in
    rw (same, c.in_ok-push.ensures.items) (one_chain (workings_of c.self.inside) c.self.invariant c.args.chain)

pub invariant_of-self-2 : goal.invariant_of-self-2
invariant_of-self-2 c =
    let k : Workings = workings_of c.self.inside in
    let room : k.level.floor + consumed c.args.chain ≤ k.operands = subst (λ (w : Unfinished). w.level.floor + consumed c.args.chain ≤ w.operands) (sym c.self.view_is) c.requires in
    let first : c.from-index.result ≡ length c.self.inside.chains.items = search rules in
    let few : k.operands - consumed c.args.chain + 1 ≤ 65535 = let e = c.consumes-takes.ensures.value in omega arith in
    rw (c.in_ok-push-2.ensures.items, c.in_ok-push.ensures.items, map-append, c.consumes-takes.ensures.value) (chained_new k c.self.invariant c.from-index.result c.args.chain first room few)
