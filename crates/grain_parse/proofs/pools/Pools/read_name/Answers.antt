use Rattle.std.proofs.Common.{string_bytes}
use Rattle.grain_parse.proofs.PoolEntries.{named}
use Rattle.grain_parse.proofs.pools.Pools.read_name.Goals as goal

pub returns : goal.returns
returns c =
    named c.args.cursor.now.left.now c.index.new.self.left.now (string_bytes c.in_ok-name.name) c.read_text_or_word.new.cursor.left.now
    c.args.self.now.names.items c.name_index.new.self.names.items c.name_index.result (rw c.in_default.is at c.in_ok-index.ensures) c.in_ok-name.ensures c.name_index.ensures.entered
