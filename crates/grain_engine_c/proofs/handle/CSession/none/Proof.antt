-- `none` makes a handle that keeps nothing.
use Rattle.grain_engine_c.proofs.Words.{word, ◌≡◌, emp, fact, keep, [], ◌∷◌, refl, lit<, false, proved, leaves, ftrue, ‵, raw, ◌⊛◌, ◌$◌, ◌∵◌, !, qed, by, split, enter, lit, false_lit, no_more, and_then, returns, alloc_all}
use Rattle.grain_engine_c.proofs.Words.{pass_all, free_all, look_at, sets, agg, null_ptr, nothing, alive}
use Rattle.grain_engine_c.proofs.SessionWords.{makes_handle}
use contract.Monad.{fact_i}
use types.Kit.{use0}
use Rattle.grain_engine_c.specs.Holds.{no_session}
use Rattle.grain_engine_c.specs.contracts.handle.CSession.none.{ended, clauses}
use Rattle.grain_engine_c.specs.contracts.handle.CSession.none.Key.{name}
use Rattle.grain_engine_c.proofs.handle.CSession.none.Statement.{statement}
use Rattle.grain_engine_c.proofs.handle.CSession.none.Code as code

pub none_spec : {M : Type 1} → statement M
none_spec 𝓤 𝓛 𝓜 𝓡 wired =
    let c = clauses 𝓛 𝓜.mem 𝓡.returns in
    proved 𝓛 ended tt c 𝓜 𝓡 tt name code.function (code.unfolded 𝓤 𝓛.H 𝓜 𝓡 wired) (λ κs. tt) (λ κs. tt) (λ κs qs bounds a gh are.
    qed 𝓛 ((raw (alive 𝓛 ended.signature κs qs) ⊛ ‵ ftrue) ∷ raw ((c κs a).requires gh) ∷ []) ∵ split ! $
    enter ! _ _ _ _ _ $ alloc_all ! (λ l. pass_all ! refl tt $
    sets ! (agg ! (and_then ! (false_lit !) (and_then ! (lit ! tt) (no_more !)))) refl (tt, (tt, (record { fits = lit< tt }, tt))) $
    returns ! (look_at ! 0 refl) $ free_all ! refl $ nothing ! $ makes_handle ! false null_ptr no_session $
    use0 𝓛 (raw (fact 𝓤 (false ≡ false))) (fact_i 𝓤 (false ≡ false) (emp 𝓤) refl) $ keep ! (2 ∷ 3 ∷ 1 ∷ 0 ∷ []) $ by ! (leaves 𝓛 ended tt c ((κs, qs, bounds, a, tt), gh) (word false null_ptr) (record { made = false; block = null_ptr; content = no_session }) tt tt)))
