-- The longest front of code that splits.
use Rattle.std.proofs.Common.{◌≡◌, List, ℕ, length, subst, ap, arith}
use Rattle.std.proofs.lemmas.List.{length-drop, take_all}
use Rattle.grain_code.specs.Split.{Split}
use Rattle.grain_code.specs.Starts.{Front, IsLongestFront}
use Rattle.grain_code.proofs.Splits.{front_is_whole, one_split}

-- where the whole code splits, it is all of it
pub whole_front : (code starts : List ℕ) (front : Front) → IsLongestFront code front → Split code starts → front ≡ record { end = length code; starts = starts }
whole_front code starts front longest split =
    let none = front_is_whole code front.end starts (front.starts, longest.splits, longest.longest) split in
    let end : front.end ≡ length code = omega (arith, longest.inside, length-drop front.end code, ap length none) in
    let whole : Split code front.starts = subst (λ (b : List ℕ). Split b front.starts) (take_all front.end code (omega (arith, end))) longest.splits in
    let same : front.starts ≡ starts = one_split code front.starts starts whole split in
    (λ i. record { end = end i; starts = same i })
