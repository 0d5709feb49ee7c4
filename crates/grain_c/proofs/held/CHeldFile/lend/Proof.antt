-- `lend` reads the pointer behind the reference, and lends what the handle keeps.
use Rattle.std.proofs.Common.{◌≡◌, ℕ, Bool, true, List, [], ◌∷◌, ap, ◌∙◌, sym, refl}
use base.Fml.{Lft, Share, GName, Fml, ftrue, fsep, flft}
use base.Fraction.{full_share}
use base.Logic.{SProp, ent, sep, emp, fst∗, never}
use contract.Monad.{fact, fact_i}
use contract.Running.{tables}
use mir.Raw.{raw as bare}
use mir.Syntax.{named}
use mir.Val.{Val, vptr}
use seplogic.Ra.Ura.{Ura}
use types.Kit.{at_ret, ‵, raw, ◌⊛◌, some, later, await, pick, use0, use1, ◌$◌, ◌∵◌, !, qed, by, move, keep, split, join, group, fsplit, fsplit3, split3, fjoin, fpack, rewrite, done}
use types.Logic.{Logic, sem}
use types.Part.{sub, whole, look_in}
use types.Run.{stop, addr, fld, load, of_opd, first, blocks, exec, returns, enter}
use types.ByLocal.{alloc_all, pass_all, free_all, look_at, get, through, sets, sets_last, env}
use denote.Exit.{no}
use denote.Follow.{follows, lends_Part}
use denote.Laws.{Is, shows}
use denote.Memory.{cell_at, lone, mem, part_at, part_of}
use denote.RawPtr.{Ptr, block_ptr, null_ptr, in_a_block}
use denote.Ref.{MutRef, mut_vals, mut_Tells}
use denote.Signature.{plain, mut_ref_to}
use denote.Steps.{nothing, heard, opens, peeks}
use denote.Triple.Walked.{Stays, stay_dropped, walk_of, Goes-spent_ref}
use Rattle.std.proofs.raw_atomic.Walks.{proved, leaves}
use Rattle.std.specs.Box.Ownership.{box_owns}
use Rattle.std.specs.contracts.impls.GlobalAllocator.TheImpl.{ghosts}
use Rattle.grain_flat_file.specs.contracts.contents.FlatFile.{the_row as T}
use Rattle.grain_c.proofs.HeldData.{words, Data, told}
use Rattle.grain_c.specs.Holds.{heap, holds}
use Rattle.grain_c.specs.contracts.held.CHeldFile.{the_row as R}
use Rattle.grain_c.specs.contracts.held.CHeldFile.lend.{ended, clauses}
use Rattle.grain_c.specs.contracts.held.CHeldFile.lend.Key.{name}
use Rattle.grain_c.proofs.held.CHeldFile.lend.Statement.{statement}
use Rattle.grain_c.proofs.held.CHeldFile.lend.Code as code

abbrev stayed : Stays ended.signature.params ended.kept
stayed = (stay_dropped (mut_ref_to (0 ∷ []) tt (plain (λ _. R))) no, tt)

abbrev token : Ptr → Fml
token p = ghosts.dealloc_token heap (bare (lone T.mir)) p

-- the handle, with another content
abbrev with : R.Denot → T.Denot → R.Denot
with d w = record d { content = w }

module _ {M : Type 1} {𝓤 : Ura M} (𝓛 : Logic 𝓤) (b o : ℕ) (d : R.Denot) (kb kc : ℕ) where
  -- all of the handle but its content
  abbrev Rest : Fml
  Rest = fsep (fsep (token (block_ptr kb kc)) (Data.own_val (d.made, (d.block, tt)) (words d.made (block_ptr kb kc) ∷ []))) (cell_at full_share R.mir (words d.made (block_ptr kb kc) ∷ []) b o)

  back : d.made ≡ true → d.block ≡ block_ptr kb kc → (w : T.Denot) → ent 𝓤 (sep 𝓤 (sem 𝓛 ((mem T).own_at w kb kc)) (sem 𝓛 Rest)) (sem 𝓛 ((mem R).own_at (with d w) b o))
  unfolding part_of
  back full at w =
      qed 𝓛 (‵ (part_at T full_share w kb kc) ∷ ‵ Rest ∷ []) ∵ move ! (1 ∷ []) $ fsplit ! $ fsplit ! $ move ! (3 ∷ 0 ∷ []) $ fjoin ! $
      rewrite ! 0 (λ (p : Ptr). ‵ (box_owns (ghosts.dealloc_token heap) T p w)) (sym at) refl $ rewrite ! 0 (λ (y : Bool). ‵ (holds y d.block w)) (sym full) refl $ move ! (1 ∷ 0 ∷ 2 ∷ []) $ fjoin ! $
      move ! (1 ∷ 0 ∷ []) $ fjoin ! $ fpack ! (List Val) (λ us. fsep (cell_at full_share R.mir us b o) (R.own_val (with d w) us)) (words d.made (block_ptr kb kc) ∷ []) $ done !

pub lend_spec : {M : Type 1} → statement M
lend_spec 𝓤 𝓛 𝓜 𝓡 wired =
    let 𝓣 = tables 𝓤 𝓛.H 𝓜 𝓡 𝓡.env in let c = clauses 𝓛 𝓜.mem 𝓡.returns in
    proved 𝓛 ended stayed c 𝓜 𝓡 (Goes-spent_ref 𝓛 1 (0 ∷ []) tt (plain (λ _. R)), tt) name code.function (code.unfolded 𝓤 𝓛.H 𝓜 𝓡 wired)
    (λ κs. (mut_vals, tt)) (λ κs. (mut_Tells (named 0) κs.0 R, tt)) (λ κs qs bounds a gh are.
    let b : ℕ = a.0.ref_ptr.0 in let o : ℕ = a.0.ref_ptr.1 in let κ : Lft = κs.0 in let q : Share = qs.0 in let γ : GName = a.0.ghost_name in let d : R.Denot = a.0.now in let p : Ptr = d.block in let x : T.Denot = d.content in
    let y : (walk_of 𝓛 ended stayed c).Ghost = ((κs, qs, bounds, a, (vptr b o ∷ [], tt)), gh) in let Post : Val → SProp 𝓤 = (walk_of 𝓛 ended stayed c).post y in let fields : Data.Denot = (d.made, (p, tt)) in
    qed 𝓛 (((‵ (flft κ q) ⊛ ‵ ftrue) ⊛ ‵ ((MutRef (named 0) κ R).own_val a.0 (mut_vals a.0)) ⊛ ‵ ftrue) ∷ raw (fact 𝓤 (d.made ≡ true)) ∷ []) ∵
    move ! (1 ∷ []) $ heard ! (d.made ≡ true) (λ full. split ! $ split ! $ move ! (2 ∷ []) $ split ! $ keep ! (0 ∷ 2 ∷ []) $
    enter ! _ _ _ _ _ $ alloc_all ! (λ l. pass_all ! refl ((tt, tt), tt) $ let Ev = env code.function.locals l in
    fsplit3 ! $ move ! (1 ∷ 2 ∷ 3 ∷ []) $ opens ! tt R b o (λ us. move ! (1 ∷ []) $ fsplit ! $ move ! (1 ∷ []) $
    rewrite ! 0 (λ (y : Bool). ‵ (holds y p x)) full refl $ in_a_block ! p (λ r. box_owns (ghosts.dealloc_token heap) T r x) (fst∗ 𝓤 (never 𝓤) (sem 𝓛 (token null_ptr))) (λ kb kc at. fsplit ! $
    move ! (2 ∷ []) $ peeks ! Data (Is Data) (shows 𝓛 Data) fields us (λ so.
    let ev : us ≡ words d.made (block_ptr kb kc) ∷ [] = told d.made p us so ∙ ap (λ (r : Ptr). words d.made r ∷ []) at in
    rewrite ! 0 (λ (ws : List Val). ‵ (Data.own_val fields ws)) ev refl $ rewrite ! 3 (λ (ws : List Val). ‵ (cell_at full_share R.mir ws b o)) ev refl $ first ! $ blocks ! $
    sets ! (of_opd ! (load ! (through ! refl (fld ! refl (stop !))) (look_in ! 3 (sub ! 1 refl (whole !))))) refl (tt, tt) $
    sets ! (of_opd ! (get ! refl)) refl (tt, tt) $ sets_last ! (addr ! (through ! refl (stop !))) refl (tt, tt) $
    exec ! 𝓣.C 𝓣.Λ Ev code.Mir.t-2 (at_ret Ev Post) $ sets ! (of_opd ! (get ! refl)) refl (tt, tt) $
    move ! (2 ∷ 0 ∷ []) $ fjoin ! $ move ! (0 ∷ 2 ∷ []) $ fjoin ! $ move ! (2 ∷ 3 ∷ 4 ∷ 1 ∷ 0 ∷ []) $ group ! 5 $
    use1 𝓛 (later (some (λ (δ : GName). ‵ ((MutRef (named 0) κ T).own_val (record { ref_ptr = (kb, kc); ghost_name = δ; now = x }) (vptr kb kc ∷ [])) ⊛ ‵ (flft κ q) ⊛ ‵ (follows R T γ δ (with d)))))
    (lends_Part 𝓛 R T (with d) (named 0) κ q b o kb kc γ (sem 𝓛 (Rest 𝓛 b o d kb kc)) (back 𝓛 b o d kb kc full at) (R.coded.code d) (R.coded.code d) x) $ await ! tt $ pick ! (λ δ. split3 ! $
    use0 𝓛 (raw (fact 𝓤 (x ≡ x))) (fact_i 𝓤 (x ≡ x) (emp 𝓤) refl) $ nothing ! $ nothing ! $ fjoin ! $ nothing ! $ move ! (4 ∷ 0 ∷ []) $ join ! $
    returns ! (look_at ! 0 refl) $ free_all ! refl $ keep ! (0 ∷ 1 ∷ 3 ∷ 2 ∷ []) $
    by ! (leaves 𝓛 ended stayed c y (vptr kb kc) (record { ref_ptr = (kb, kc); ghost_name = δ; now = x }) (tt, tt) (tt, tt)))))))))
