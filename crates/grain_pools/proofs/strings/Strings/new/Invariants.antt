use Rattle.std.proofs.Common.{◌≡◌, map, take, true}
use Rattle.std.specs.List.{concat, list_all}
use Rattle.std.specs.Str.{is_utf8}
use Rattle.grain_pools.specs.Names.{starts_of}
use Rattle.grain_pools.proofs.strings.Strings.new.Given as goal

-- the table of the names so far
abbrev pub invariant-loop-name : goal.invariant-loop-name
invariant-loop-name l = record {
  blob_is : l.blob.items ≡ concat (map (λ n. n.now) (take l.name-index l.names));
  starts_are : l.starts.items ≡ starts_of 0 (map (λ n. n.now) (take l.name-index l.names));
  texts : list_all is_utf8 (map (λ n. n.now) (take l.name-index l.names)) ≡ true;
}
