use Rattle.std.proofs.Common.{◌≡◌, map, take, length}
use Rattle.std.specs.List.{concat}
use Rattle.grain_pools.proofs.strings.total_len.Given as goal

-- how many bytes the names so far have
abbrev pub invariant-loop-name : goal.invariant-loop-name
invariant-loop-name l = l.len ≡ length (concat (map (λ n. n.now) (take l.name-index l.names)))
