-- What each way of writing a verdict adds.
use Rattle.std.proofs.Common.{◌≡◌, ℕ, List, ◌++◌, Option, Result, Ok, Err, refl, ap}
use Rattle.grain_base.specs.AddressTable.{Entry, LongestFront, site_at}
use Rattle.grain_code.specs.Split.{IsCount}
use Rattle.grain_base.specs.declared.pos.Site.{Site}
use Rattle.grain_rules.specs.Accepted.{Input}
use Rattle.grain_rules.specs.declared.error.VerifyError.{VerifyError}
use Rattle.grain_lines.specs.Verdict.{Adds, IsJudged, VerifyVerdict, accepted_text, refused_text, code_text, site_text, CodeVerdict, SiteVerdict}

pub adds_count : (bytes old new : List ℕ) (counted : Result ℕ ℕ) → IsCount bytes counted → new ≡ old ++ code_text counted → Adds (CodeVerdict bytes) old new
adds_count bytes old new counted count is = record { added = code_text counted; kind = record { counted = counted; count = count; is = refl }; text = is }

pub adds_found : (table old new : List ℕ) (address : ℕ) (entries : List Entry) (found : Option Site) → LongestFront table entries → found ≡ site_at entries address
    → new ≡ old ++ site_text found → Adds (SiteVerdict table address) old new
adds_found table old new address entries found front found_is is = record {
  added = site_text found;
  kind = record { entries = entries; front = front; is = ap site_text found_is };
  text = is;
}

pub adds_accepted : (judged : Input) (numbers old new : List ℕ) → IsJudged judged (Ok numbers) → new ≡ old ++ accepted_text numbers
    → Adds (VerifyVerdict judged) old new
adds_accepted judged numbers old new right is = record { added = accepted_text numbers; kind = record { found = Ok numbers; right = right; is = refl }; text = is }

pub adds_refused : (judged : Input) (error : VerifyError) (old new : List ℕ) → IsJudged judged (Err error) → new ≡ old ++ refused_text error
    → Adds (VerifyVerdict judged) old new
adds_refused judged error old new right is = record { added = refused_text error; kind = record { found = Err error; right = right; is = refl }; text = is }
