use Rattle.std.proofs.Common.{◌≡◌, ◌+◌, length, ap, ◌∙◌, arith}
use Rattle.grain_pools.specs.Names.{names_in}
use Rattle.grain_pools.proofs.Tables.{length-starts_of}
use Rattle.grain_pools.proofs.strings.Strings.len.Goals as goal

pub returns : goal.returns
returns c =
    let names = names_in c.self.inside.blob.items c.self.inside.starts.items in
    let more : length c.self.inside.starts.items ≡ length names + 1 = ap length c.self.invariant.starts_are ∙ length-starts_of 0 names in
    rw (← c.self.view_is) (omega arith)
