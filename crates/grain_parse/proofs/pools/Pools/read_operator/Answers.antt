use Rattle.grain_parse.proofs.PoolEntries.{operator_entered}
use Rattle.grain_parse.proofs.pools.Pools.read_operator.Goals as goal

pub returns : goal.returns
returns c =
    operator_entered c.args.cursor.now.left.now c.index.new.self.left.now c.read_token.new.cursor.left.now c.in_ok-token.token
    c.args.self.now.tokens.items c.token_index.new.self.tokens.items c.token_index.result (rw c.in_default.is at c.in_ok-index.ensures) c.in_ok-token.ensures c.token_index.ensures
