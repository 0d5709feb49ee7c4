-- What a handle keeps of a new session.
use Rattle.std.proofs.Common.{◌≡◌, ℕ, None, [], subst, sym}
use Rattle.rhai_engine.specs.Session.{idle}
use Rattle.rhai_session.specs.Shown.{Shown, shown_of}

pub kept_new : (content made : Shown) (calls runs c r : ℕ) → content ≡ made → made ≡ shown_of (idle made.state.program c r) None [] [] 0 [] None → c ≡ calls → r ≡ runs
    → content ≡ shown_of (idle content.state.program calls runs) None [] [] 0 [] None
kept_new content made calls runs c r is new same_calls same_runs =
    subst (λ (m : Shown). m ≡ shown_of (idle m.state.program calls runs) None [] [] 0 [] None) (sym is)
    (subst (λ (b : ℕ). made ≡ shown_of (idle made.state.program calls b) None [] [] 0 [] None) same_runs
    (subst (λ (a : ℕ). made ≡ shown_of (idle made.state.program a r) None [] [] 0 [] None) same_calls new))
