use Rattle.std.proofs.Common.{◌≡◌, ◌-◌, ◌<◌, ℕ, min, inr, List, ◌++◌, length, set, drop, ap, ◌∙◌, arith}
use Rattle.grain_c.proofs.Printing.{ended}
use Rattle.grain_c.proofs.text.print.Goals as goal

pub returns-in-Some-clause-printed : goal.returns-in-Some-clause-printed
returns-in-Some-clause-printed c =
    let text = c.args.text.now in
    let room = c.args.room.now in
    let count = c.min-count.result in
    let most = c.in-Some.ensures in
    let least = c.min-count.ensures in
    let copied = c.copy_from_slice.ensures.after in
    let some : 0 < length room = omega (arith, most) in
    let is : count ≡ min (length text) (length room - 1) = omega (arith, most, least) in
    inr (some, ap (λ (front : List ℕ). set (front ++ drop count room) count 0) copied ∙ ended text room count some is)
