use Rattle.std.proofs.Common.{◌≡◌, ◌≢◌, ◌∙◌, List, [], ap, length, subst, sym}
use Rattle.grain_code.specs.declared.function.Function.{Function}
use Rattle.grain.specs.Program.{Program, input_of}
use Rattle.grain_needs.proofs.LeastCapabilities.{least_alike}
use Rattle.grain_rules.specs.Accepted.{input_beside}
use Rattle.grain_rules.specs.Facts.{facts_of, facts_with}
use Rattle.grain.proofs.program.Program.least_caps.Goals as goal

pub returns : goal.returns
returns c =
    let p : Program = c.args.self.now in
    let pools = c.pools-pools.ensures in
    let facts : facts_of c.pools-pools.result ≡ facts_with (length p.consts) p.names (length p.tokens) (length p.assign_ops) p.residuals p.chains p.switches =
    λ i. facts_with (pools.consts i) (pools.names i) (pools.tokens i) (pools.assign_ops i) (pools.residuals i) (pools.chains i) (pools.switches i) in
    let consts : c.deref.result.now ≡ p.consts = c.deref.ensures.value ∙ ap (λ (q : Program). q.consts) c.self.view_is in
    let code : c.deref-2.result.now ≡ p.code = c.deref-2.ensures.value ∙ ap (λ (q : Program). q.code) c.self.view_is in
    let functions : c.deref-3.result.now ≡ p.functions = c.deref-3.ensures.value ∙ ap (λ (q : Program). q.functions) c.self.view_is in
    least_alike (input_beside 0 c.deref.result.now c.deref-2.result.now c.deref-3.result.now [] (facts_of c.pools-pools.result) []) (input_of p) c.least_caps.result.0 code facts consts
    (λ has. subst (λ (fs : List Function). fs ≢ []) (sym functions) has)
    (λ has. subst (λ (fs : List Function). fs ≢ []) functions has)
    (c.least_caps.ensures 0 [] [])
