use Rattle.std.proofs.Common.{◌<◌, ap, sym, arith}
use Rattle.grain_rules.specs.Counts.{without_last}
use Rattle.grain_verify.proofs.SharedLists.{named_read}
use Rattle.grain_verify.proofs.lists.Lists.without_last.Goals as goal

pub returns-clause-list : goal.returns-clause-list
returns-clause-list c =
    let some : 0 < c.args.list = let f = c.if-list-eq0.false in omega arith in
    sym (ap without_last (named_read c.args.self.now.nodes.items c.args.list c.index.result.now c.requires.shared.sharing.parents some c.requires.list c.index.ensures))
