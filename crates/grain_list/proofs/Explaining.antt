-- The verdict that an explanation has.
use Rattle.std.proofs.Common.{◌≡◌, ◌≢◌, ℕ, List, ◌++◌, Option, None, Some, Ok, Err, Vec, inl, inr, subst}
use Rattle.std.specs.declared.alloc.Global.{Global}
use Rattle.grain_verify.specs.Refusals.{without_chunk}
use Rattle.grain_rules.specs.Verdict.{IsVerdict}
use Rattle.grain.specs.declared.explanation.Explained.{Explained}
use Rattle.grain_verify.specs.declared.refusal.Refusal.{Refusal}
use Rattle.grain_rules.specs.declared.error.VerifyError.TheVariants.{OutOfMemory}
use Rattle.grain_lines.specs.LineCase.{Asked, code, site, verify}
use Rattle.grain_lines.specs.Verdict.{Adds, IsVerdictOn, accepted_text, program, refused_text}
use Rattle.grain_lines.proofs.VerdictLaws.{adds_accepted, adds_refused}
use Rattle.grain_list.specs.Listed.{Explains}

pub adds_numbers : (question : Option Asked) (x : Explained) (numbers : Vec ℕ Global) (old new : List ℕ) → Explains question x → x.verdict ≡ Ok numbers
    → new ≡ old ++ accepted_text numbers.items → Adds (IsVerdictOn question) old new
adds_numbers None x numbers old new h was text = absurd h
adds_numbers (Some (code bytes)) x numbers old new h was text = absurd h
adds_numbers (Some (site table address)) x numbers old new h was text = absurd h
adds_numbers (Some (verify caps bytes chunks)) x numbers old new h was text =
    let v : IsVerdict (program caps bytes chunks) (Ok numbers) = subst (λ v. IsVerdict (program caps bytes chunks) (without_chunk v)) was h.verdict in
    adds_accepted (program caps bytes chunks) numbers.items old new (v.accepted, v.deepest) text

pub adds_refusal : (question : Option Asked) (x : Explained) (r : Refusal) (old new : List ℕ) → Explains question x → x.verdict ≡ Err r
    → r.error ≢ OutOfMemory → new ≡ old ++ refused_text r.error → Adds (IsVerdictOn question) old new
adds_refusal None x r old new h was not text = absurd h
adds_refusal (Some (code bytes)) x r old new h was not text = absurd h
adds_refusal (Some (site table address)) x r old new h was not text = absurd h
adds_refusal (Some (verify caps bytes chunks)) x r old new h was not text =
    let v : IsVerdict (program caps bytes chunks) (Err r.error) = subst (λ v. IsVerdict (program caps bytes chunks) (without_chunk v)) was h.verdict in
    adds_refused (program caps bytes chunks) r.error old new
    ((λ a. not (v.accepts a)), elim v.flaws [ inl memory ↦ absurd (not memory) | inr flaw ↦ flaw ]) text
