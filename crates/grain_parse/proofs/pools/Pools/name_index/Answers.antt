use Rattle.std.proofs.Common.{◌≡◌, ◌+◌, ℕ, IfOk, length, refl, subst, string_bytes, arith}
use Rattle.grain_parse.proofs.PoolEntries.{put_last}
use Rattle.grain_parse.proofs.pools.Pools.name_index.Goals as goal

pub returns-in_ok-push-in-None-clause-entered : goal.returns-in_ok-push-in-None-clause-entered
returns-in_ok-push-in-None-clause-entered c =
    let long : c.len.result ≡ length c.push.new.self.items = omega (arith, c.len.ensures, c.push.new.self.ok.0) in
    put_last (λ other. string_bytes other ≡ string_bytes c.args.name) _ _ c.args.name c.last.result refl c.in_ok-push-in-None.ensures.items
    (subst (λ (n : ℕ). IfOk c.last.result (λ last. last + 1 ≡ n)) long c.last.ensures)
