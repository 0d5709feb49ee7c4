-- `into_box` makes the box again of the block that a full handle keeps.
use Rattle.grain_engine_c.proofs.Words.{Heap, Heap-laws, no_drop, static, passes, ◌≡◌, List, [], ◌∷◌, Bool, refl, true, Goes-blank, proved, leaves, ftrue, full_share, id⊢, fact, tables}
use Rattle.grain_engine_c.proofs.Words.{Val, ‵, raw, ◌⊛◌, some, later, at_ret, ◌$◌, ◌∵◌, !, qed, by, move, keep, drop, split, join, fsplit, fjoin, pick, use1, await, rewrite, feq_i, enter, of_opd, fld, stop, no_more}
use Rattle.grain_engine_c.proofs.Words.{and_then, first, blocks, exec, returns, alloc_all, pass_all, free_all, look_at, get, get_in, sets, lands_last, env, sub, whole, yes, shows, glues, ptr_val, rawptr_Lawful, plain}
use Rattle.grain_engine_c.proofs.Words.{nothing, heard, peeks, calls_at_last, alive, triple_of, framed, Stays, stay_dropped, walk_of, ghosts, dict, passed}
use Rattle.grain_engine_c.proofs.SessionWords.{Kept, Kept-laws, Boxed, Boxed-typed}
use denote.Struct.OwningLaws.{lawful}
use Rattle.std.proofs.boxed.Box.from_raw.Met.{met}
use base.Logic.{emp}
use denote.{Triple.Clauses.Lasts, Triple.Clauses.lasts}
use contract.Monad.{fact_i}
use types.Kit.{use0}
use Rattle.std.specs.Box.{box_allocator}
use Rattle.grain_engine_c.specs.Holds.{holds_session}
use Rattle.grain_engine_c.specs.contracts.handle.CSession.into_box.{ended, clauses}
use Rattle.grain_engine_c.specs.contracts.handle.CSession.into_box.Key.{name}
use Rattle.grain_engine_c.proofs.handle.CSession.into_box.Statement.{statement}
use Rattle.std.specs.contracts.alloc.Global as heap
use Rattle.std.proofs.alloc.Global.TheLaws as heap_laws
use Rattle.std.specs.contracts.boxed.Box.from_raw as callee
use Rattle.grain_engine_c.specs.contracts.handle.CSession as handle
use Rattle.grain_engine_c.proofs.handle.CSession.TheLaws as handle_laws
use Rattle.grain_engine_c.proofs.handle.CSession.into_box.Code as code

abbrev stayed : Stays ended.signature.params ended.kept
stayed = (stay_dropped (plain (λ _. handle.the_row)) yes, (stay_dropped (plain (λ _. heap.the_row)) yes, tt))

abbrev words : handle.the_row.Denot → List Val
words d = handle_laws.lowers.lowered d ∷ []

abbrev heap_words : heap.the_row.Denot → List Val
heap_words a = heap_laws.lowers.lowered a ∷ []

pub into_box_spec : {M : Type 1} → statement M
into_box_spec {M = M} 𝓤 𝓛 𝓜 𝓡 wired =
    let c = clauses 𝓛 𝓜.mem 𝓡.returns in let 𝓣 = tables 𝓤 𝓛.H 𝓜 𝓡 𝓡.env in let γ = 𝓡.env in
    let from_callee = callee.ended Kept Heap ghosts dict no_drop in let said = callee.spec Kept Heap ghosts dict no_drop 𝓛 𝓜.mem 𝓡.returns in let goes_to = triple_of 𝓛 (callee.signature Kept Heap ghosts dict no_drop) said in
    let allocates = passed γ (code.calls-std_heap::GlobalAllocator::allocate γ wired) (code.calls-std_heap::GlobalAllocator::deallocate γ wired)
    (code.calls-std_heap::GlobalAllocator::grow γ wired) (code.calls-std_heap::GlobalAllocator::shrink γ wired) M 𝓤 𝓛 𝓜 𝓡 in
    let drops = glues γ (code.calls-grain_engine_c::Destruct++none::drop γ wired) Heap Heap-laws M 𝓤 𝓛 𝓜 𝓡 in
    let calls = met 𝓤 𝓛 𝓜 𝓡 (code.calls-std_alloc::boxed::Box::from_raw γ wired) Kept Heap Kept-laws Heap-laws ghosts dict no_drop allocates drops in
    proved 𝓛 ended stayed c 𝓜 𝓡 (Goes-blank 𝓛 0 (plain (λ _. handle.the_row)) yes (λ κs x f. tt), (Goes-blank 𝓛 0 (plain (λ _. heap.the_row)) yes (λ κs x f. tt), tt))
    name code.function (code.unfolded 𝓤 𝓛.H 𝓜 𝓡 wired) (λ κs. (words, (heap_words, tt))) (λ κs. (handle_laws.lowers.val_is, (heap_laws.lowers.val_is, tt))) (λ κs qs bounds d gh are.
    let self = d.0 in let a = d.1.0 in let y : (walk_of 𝓛 ended stayed c).Ghost = ((κs, qs, bounds, d, (words self, (heap_words a, tt))), gh) in
    let typed = (lawful handle.the_type handle_laws.the_laws 𝓛).typed self _ are.0 in let p_typed = (rawptr_Lawful 𝓛).typed self.block _ refl in
    qed 𝓛 ((raw (alive 𝓛 ended.signature κs qs) ⊛ ‵ (handle.the_row.own_val self (words self)) ⊛ ‵ (heap.the_row.own_val a (heap_words a)) ⊛ ‵ ftrue) ∷ raw (fact 𝓤 (self.made ≡ true)) ∷ []) ∵
    move ! (1 ∷ []) $ heard ! (self.made ≡ true) (λ full. split ! $ move ! (1 ∷ []) $ split ! $ fsplit ! $ drop ! $
    rewrite ! 0 (λ (b : Bool). ‵ (holds_session b self.block self.content)) full refl $
    let z : goes_to.Ghost = ((([], ([], tt)), (full_share, (full_share, tt)), tt, (a, (self.block, tt)), (heap_words a, (ptr_val self.block ∷ [], tt))), self.content) in
    -- [what is kept; the allocator and nothing]
    move ! (1 ∷ []) $ split ! $ move ! (1 ∷ []) $ feq_i ! _ (ptr_val self.block ∷ []) _ refl $ join ! $ move ! (1 ∷ 0 ∷ []) $ join ! $ passes ! $ use1 𝓛 (raw (goes_to.pre z)) (id⊢ 𝓤 _) $
    enter ! _ _ _ _ _ $ alloc_all ! (λ l. pass_all ! refl (typed.0, ((tt, ((tt, tt), tt)), tt)) $
    sets ! (of_opd ! (get_in ! (fld ! refl (stop !)) (sub ! 1 refl (whole !)))) refl p_typed.0 $ first ! $ blocks ! $ sets ! (of_opd ! (get ! refl)) refl p_typed.0 $
    calls_at_last ! (framed 𝓤 𝓛.H 𝓜 𝓣) goes_to calls z (and_then ! (get ! refl) (and_then ! (get ! refl) (no_more !))) (λ u.
    use1 𝓛 (later (some (λ (r : Boxed.Denot). (static ⊛ ‵ (Boxed.own_val r (u ∷ []))) ⊛ raw ((said z.0.0 z.0.3).ensures z.1 r)))) (id⊢ 𝓤 (goes_to.post z u)) $
    await ! tt $ pick ! (λ r. split ! $ split ! $ drop ! $ move ! (1 ∷ []) $ use1 𝓛 (some (λ (ws : Lasts from_callee z.0.0 z.0.3). ‵ (lasts from_callee z.0.0 z.0.3 ws) ⊛ (raw (fact 𝓤 (r.value ≡ self.content)) ⊛ raw (fact 𝓤 (box_allocator r ≡ a))))) (id⊢ 𝓤 _) $
    pick ! (λ ws. split ! $ drop ! $ split ! $ heard ! (r.value ≡ self.content) (λ told. drop ! $ peeks ! Boxed _ (shows 𝓛 Boxed) r (u ∷ []) (λ is. let fits = (Boxed-typed 𝓛 r (u ∷ []) is).0 in
    lands_last ! refl fits $ exec ! 𝓣.C 𝓣.Λ (env code.Mir.locals l) code.Mir.t-3 (at_ret _ ((walk_of 𝓛 ended stayed c).post y)) $ sets ! (of_opd ! (get ! refl)) refl fits $
    use0 𝓛 (raw (fact 𝓤 (r.value ≡ self.content))) (fact_i 𝓤 (r.value ≡ self.content) (emp 𝓤) told) $ returns ! (look_at ! 0 refl) $ free_all ! refl $ nothing ! $ nothing ! $ nothing ! $ fjoin ! $ nothing ! $ fjoin ! $
    keep ! (4 ∷ 0 ∷ 3 ∷ 2 ∷ []) $ by ! (leaves 𝓛 ended stayed c y u r (tt, (tt, tt)) (tt, (tt, tt)))))))))))
