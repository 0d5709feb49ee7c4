-- `of` takes the box apart, and forgets its allocator and its type.
use contract.Monad.{fact_i}
use types.Kit.{use0}
use Rattle.grain_engine_c.proofs.Words.{word, ◌≡◌, keep, Heap, Heap-laws, no_drop, static, passes, List, [], ◌∷◌, ◌++◌, refl, true, ap, Goes-blank, proved_at, leaves, ftrue}
use Rattle.grain_engine_c.proofs.Words.{full_share, emp, id⊢, fact, tables, Dict, impl, tnil, dnil, method, no_args, Val, ‵, raw, ◌⊛◌, some, later, prop, Sq, ◌$◌, ◌∵◌, !, qed}
use Rattle.grain_engine_c.proofs.Words.{by, move, drop, split, join, fsplit, fjoin, feq_l, pick, use1, await, enter, of_opd, true_lit, no_more, and_then, returns, alloc_all, pass_all}
use Rattle.grain_engine_c.proofs.Words.{free_all, look_at, get, sets, lands_as, agg, RawPtr, no, layout, glues, owns, Ptr, rawptr_Lawful, types_at, plain, nothing, only, calls_at, alive, triple_of, framed}
use Rattle.grain_engine_c.proofs.Words.{widened, Stays, stay_dropped, walk_of, ghosts, dict, passed}
use Rattle.grain_engine_c.proofs.SessionWords.{Kept, Kept-laws, Boxed, Boxed-typed, makes_handle}
use Rattle.grain_engine_c.proofs.DropGlue.{drop_glue}
use Rattle.std.proofs.ResultValues.{and_tt}
use Rattle.std.specs.Box.Ownership.{box_owns}
use Rattle.std.proofs.boxed.Box.into_raw.Met.{met}
use Rattle.grain_engine_c.proofs.rhai_session++session++Session+Destruct.drop.Met.{met as drop_met}
use Rattle.grain_engine_c.proofs.rhai_session++session++Session+Destruct.drop.Symbol.{as_method}
use Rattle.grain_engine_c.specs.contracts.handle.CSession.of.{ended, clauses}
use Rattle.grain_engine_c.specs.contracts.handle.CSession.of.Key.{name}
use Rattle.grain_engine_c.proofs.handle.CSession.of.Statement.{statement}
use prog.{Wp.WpFn}
use denote.{Param.Steps.one_value, Triple.Clauses.Lasts, Triple.Clauses.lasts}
use Rattle.std.specs.contracts.boxed.Box.into_raw as callee
use Rattle.rhai_session.specs.contracts.session.Session as session
use Rattle.grain_engine_c.specs.contracts.rhai_session++session++Session+Destruct.drop as dropped
use Rattle.grain_engine_c.proofs.handle.CSession.of.Code as code

-- the drop of a session
abbrev drops : Dict
drops = impl (dropped.Key.symbol ∷ []) tnil dnil

abbrev stayed : Stays ended.signature.params ended.kept
stayed = (stay_dropped (plain (λ _. Boxed)) no, tt)

pub of_spec : {M : Type 1} → statement M
of_spec {M = M} 𝓤 𝓛 𝓜 𝓡 wired =
    let c = clauses 𝓛 𝓜.mem 𝓡.returns in let 𝓣 = tables 𝓤 𝓛.H 𝓜 𝓡 𝓡.env in let γ = 𝓡.env in let of_callee = callee.ended Kept Heap ghosts dict no_drop drops in
    let goes_to = triple_of 𝓛 of_callee.signature (callee.spec Kept Heap ghosts dict no_drop drops 𝓛 𝓜.mem 𝓡.returns) in
    let allocates = passed γ (code.calls-std_heap::GlobalAllocator::allocate γ wired) (code.calls-std_heap::GlobalAllocator::deallocate γ wired)
    (code.calls-std_heap::GlobalAllocator::grow γ wired) (code.calls-std_heap::GlobalAllocator::shrink γ wired) M 𝓤 𝓛 𝓜 𝓡 in
    let heap_drops = glues γ (code.calls-grain_engine_c::Destruct++none::drop γ wired) Heap Heap-laws M 𝓤 𝓛 𝓜 𝓡 in
    let drops_wired = code.calls-grain_engine_c::rhai_session++session++Session+Destruct::drop γ wired in
    let dropped_met = widened 𝓤 𝓛.H (triple_of 𝓛 dropped.signature (dropped.spec 𝓛 𝓜.mem 𝓡.returns)) 𝓜 𝓡 𝓡.env (𝓡.env dropped.Key.name) (𝓡.env (method drops 0 no_args)) (as_method 𝓡.env drops_wired (method drops 0 no_args) refl) (drop_met 𝓤 𝓛 𝓜 𝓡 drops_wired) in
    let kept_drops = drop_glue 𝓛 session.the_row 𝓜 𝓡 drops (λ x r. (dropped.spec 𝓛 𝓜.mem 𝓡.returns tt (x, tt)).ensures tt r) dropped_met in
    let calls = met 𝓤 𝓛 𝓜 𝓡 (code.calls-std_alloc::boxed::Box::into_raw γ wired) Kept Heap Kept-laws Heap-laws ghosts dict no_drop drops allocates heap_drops kept_drops in
    proved_at 𝓛 ended stayed c 𝓜 𝓡 (Goes-blank 𝓛 0 (plain (λ _. Boxed)) no (λ κs x f. tt), tt)
    name code.function (code.unfolded 𝓤 𝓛.H 𝓜 𝓡 wired) (λ y are.
    let v = y.0.3.0 in let lives = raw (alive 𝓛 ended.signature y.0.0 y.0.1) in let asked = raw ((c y.0.0 y.0.3).requires y.1) in
    let Run = λ (vs : List Val). prop (WpFn 𝓤 𝓛.H 𝓣.C 𝓣.Λ code.function (vs ++ []) ((walk_of 𝓛 ended stayed c).post y)) in
    qed 𝓛 ((lives ⊛ ‵ (owns (types_at ended.signature.params y.0.0) y.0.3 y.0.4)) ∷ asked ∷ []) ∵ split ! $ move ! (1 ∷ []) $ fsplit ! $
    one_value (layout Boxed) (λ us. Sq 𝓛 (‵ (Boxed.own_val v us) ∷ ‵ ftrue ∷ lives ∷ asked ∷ []) (Run us)) y.0.4.0 (Boxed-typed 𝓛 v y.0.4.0 are.0) (λ w fits.
    let z : goes_to.Ghost = ((([], ([], tt)), (full_share, (full_share, tt)), tt, (v, tt), (w ∷ [], tt)), tt) in
    join ! $ nothing ! $ move ! (1 ∷ []) $ passes ! $ use1 𝓛 (raw (goes_to.pre z)) (id⊢ 𝓤 _) $
    enter ! _ _ _ _ _ $ alloc_all ! (λ l. pass_all ! refl (fits, tt) $ sets ! (of_opd ! (get ! refl)) refl fits $
    calls_at ! (framed 𝓤 𝓛.H 𝓜 𝓣) goes_to calls z (and_then ! (get ! refl) (no_more !)) (λ u.
    use1 𝓛 (later (some (λ (r : Ptr). (static ⊛ ‵ (RawPtr.own_val r (u ∷ []))) ⊛ some (λ (ws : Lasts of_callee z.0.0 z.0.3).
    ‵ (lasts of_callee z.0.0 z.0.3 ws) ⊛ ‵ (box_owns (ghosts.dealloc_token v.alloc) session.the_row r v.value))))) (id⊢ 𝓤 (goes_to.post z u)) $
    await ! tt $ pick ! (λ r. let p_typed = ((rawptr_Lawful 𝓛).typed r _ refl).0 in split ! $ split ! $ drop ! $ feq_l ! (λ e. pick ! (λ ws. split ! $ drop ! $
    lands_as ! (ap only e) refl p_typed $ sets ! (of_opd ! (get ! refl)) refl p_typed $
    sets ! (agg ! (and_then ! (true_lit !) (and_then ! (get ! refl) (no_more !)))) refl (and_tt _ p_typed.0, (tt, (p_typed.1, tt))) $
    returns ! (look_at ! 0 refl) $ free_all ! refl $
    makes_handle ! true r v.value $ use0 𝓛 (raw (fact 𝓤 ((true ≡ true) × (v.value ≡ v.value)))) (fact_i 𝓤 ((true ≡ true) × (v.value ≡ v.value)) (emp 𝓤) (refl, refl)) $
    nothing ! $ nothing ! $ fjoin ! $ keep ! (3 ∷ 0 ∷ 2 ∷ 1 ∷ []) $ by ! (leaves 𝓛 ended stayed c y (word true r) (record { made = true; block = r; content = v.value }) (tt, tt) (tt, tt)))))))))
