use Rattle.std.proofs.Common.{◌≡◌, ◌+◌, ℕ, IfOk, length, refl, subst, arith}
use Rattle.grain_base.specs.Tokens.{token_parts}
use Rattle.grain_parse.proofs.PoolEntries.{put_last}
use Rattle.grain_parse.proofs.pools.Pools.token_index.Goals as goal

pub returns-in_ok-push-in-None : goal.returns-in_ok-push-in-None
returns-in_ok-push-in-None c =
    let long : c.len.result ≡ length c.push.new.self.items = omega (arith, c.len.ensures, c.push.new.self.ok.0) in
    put_last (λ other. token_parts other ≡ token_parts c.args.token) _ _ c.args.token c.last.result refl c.in_ok-push-in-None.ensures.items
    (subst (λ (n : ℕ). IfOk c.last.result (λ last. last + 1 ≡ n)) long c.last.ensures)
