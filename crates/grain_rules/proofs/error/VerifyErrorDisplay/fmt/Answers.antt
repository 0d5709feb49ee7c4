use Rattle.grain_rules.proofs.FourDigits.{padded_to_four}
use Rattle.grain_rules.proofs.error.VerifyErrorDisplay.fmt.Goals as goal

pub returns-in-MissingCaps-clause-writes : goal.returns-in-MissingCaps-clause-writes
returns-in-MissingCaps-clause-writes g c plain ok =
    let written = rw c.laid_out.ensures at c.write.ensures.writes in
    let digits = rw c.in_radix.ensures at written in
    let padded = rw (padded_to_four c.bits.result) at digits in
    let named = rw c.bits.ensures at padded in
    rw c.in-MissingCaps.is (named plain ok)
