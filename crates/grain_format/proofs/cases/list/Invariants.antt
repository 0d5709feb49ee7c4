use Rattle.std.proofs.Common.{◌≡◌, ◌++◌, map}
use Rattle.std.specs.List.{list_all}
use Rattle.grain_format.specs.Cases.{case_parts, case_view, is_keyed}
use Rattle.grain_format.proofs.cases.list.Given as goal

abbrev pub invariant-loop-key : goal.invariant-loop-key
invariant-loop-key l = record {
  listed : map case_view l.listed.items ++ map case_parts l.key-iterator ≡ map case_parts l.cases.entries;
  keyed : list_all (is_keyed l.constants) l.cases.entries ≡ list_all (is_keyed l.constants) l.key-iterator;
}
