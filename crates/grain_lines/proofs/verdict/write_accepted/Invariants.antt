use Rattle.std.proofs.Common.{◌≡◌, ◌++◌, codes, take, string_bytes}
use Rattle.std.specs.Prelude.{decimal, flat_map}
use Rattle.grain_lines.proofs.verdict.write_accepted.Given as goal

abbrev pub invariant-loop-number : goal.invariant-loop-number
invariant-loop-number l =
    string_bytes l.text ≡ string_bytes l.fn.text ++ codes "accepted" ++ flat_map (λ number. codes " " ++ decimal number) (take l.number-index l.numbers)
