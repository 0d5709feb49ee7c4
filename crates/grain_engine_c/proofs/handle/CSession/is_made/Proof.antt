-- `is_made` reads the first word behind the reference, and leaves the handle as it was.
use Rattle.grain_engine_c.proofs.Words.{[], ◌∷◌, List, refl, proved, ftrue, flft, full_share, named, Val, vbool, ‵, ◌⊛◌, ◌$◌, ◌∵◌, !, qed, done, move, keep, split, join, fsplit3, rewrite, suffices, frame, group, enter}
use Rattle.grain_engine_c.proofs.Words.{of_opd, load, fld, stop, returns, alloc_all, pass_all, free_all, look_at, through, sets, whole, sub, look_in, bool, shows, plain, nothing, owned, opens, closes, peeks, Stays, stay_ref}
use Rattle.grain_engine_c.proofs.Words.{Goes-ref, says, ends_at}
use denote.{Memory.cell_at, Plain.bool_Makes, Ref.MutRef, Ref.mut_vals, Ref.mut_Tells}
use Rattle.grain_engine_c.specs.contracts.handle.CSession.{the_row as R}
use Rattle.grain_engine_c.proofs.handle.CSession.TheLaws.{lowers}
use Rattle.grain_engine_c.specs.contracts.handle.CSession.is_made.{ended, clauses}
use Rattle.grain_engine_c.specs.contracts.handle.CSession.is_made.Key.{name}
use Rattle.grain_engine_c.proofs.handle.CSession.is_made.Statement.{statement}
use Rattle.grain_engine_c.proofs.handle.CSession.is_made.Code as code

abbrev stayed : Stays ended.signature.params ended.kept
stayed = (stay_ref (0 ∷ []) tt (plain (λ _. R)), tt)

pub is_made_spec : {M : Type 1} → statement M
is_made_spec 𝓤 𝓛 𝓜 𝓡 wired =
    let c = clauses 𝓛 𝓜.mem 𝓡.returns in
    proved 𝓛 ended stayed c 𝓜 𝓡 (Goes-ref 𝓛 1 0 tt (plain (λ _. R)), tt) name code.function (code.unfolded 𝓤 𝓛.H 𝓜 𝓡 wired)
    (λ κs. (mut_vals, tt)) (λ κs. (mut_Tells (named 0) κs.0 R, tt)) (λ κs qs bounds a gh are.
    let b = a.0.ref_ptr.0 in let o = a.0.ref_ptr.1 in let d = a.0.now in let Cell = λ (ws : List Val). ‵ (cell_at full_share R.mir ws b o) in
    qed 𝓛 (((‵ (flft κs.0 qs.0) ⊛ ‵ ftrue) ⊛ ‵ ((MutRef (named 0) κs.0 R).own_val a.0 (mut_vals a.0)) ⊛ ‵ ftrue) ∷ ‵ ftrue ∷ []) ∵
    split ! $ split ! $ move ! (2 ∷ []) $ split ! $ keep ! (0 ∷ 2 ∷ []) $
    enter ! _ _ _ _ _ $ alloc_all ! (λ l. pass_all ! refl ((tt, tt), tt) $ fsplit3 ! $ move ! (1 ∷ 2 ∷ 3 ∷ []) $ opens ! tt R b o (λ us.
    move ! (1 ∷ []) $ peeks ! R _ (shows 𝓛 R) d us (λ is. rewrite ! 1 Cell (lowers.val_is d us is) refl $
    sets ! (of_opd ! (load ! (through ! refl (fld ! refl (stop !))) (look_in ! 1 (sub ! 0 refl (whole !))))) refl (tt, tt) $
    rewrite ! 0 (λ (ws : List Val). ‵ (R.own_val d ws)) (lowers.val_is d us is) refl $ move ! (1 ∷ []) $ closes ! tt R d (lowers.lowered d ∷ []) b o $
    returns ! (look_at ! 0 refl) $ free_all ! refl $ suffices ! _ (ends_at 𝓛 ended stayed c ((κs, qs, bounds, a, (mut_vals a.0, tt)), gh) (vbool d.made) d.made (d, tt) (tt, tt)) $ says ! (refl, refl) $
    move ! (3 ∷ []) $ group ! 3 $ nothing ! $ move ! (1 ∷ 0 ∷ []) $ join ! $ nothing ! $ move ! (2 ∷ 0 ∷ []) $ join ! $ frame ! $ frame ! $ owned ! bool _ (bool_Makes 𝓛) d.made _ refl $ done !))))
