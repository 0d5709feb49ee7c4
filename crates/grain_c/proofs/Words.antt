-- What the walks of handles share: the names that they cite, a handle as two machine words, a box as one machine value, and what a call at its type and the heap wants. Assumes `Logic`.
use contract.{BorrowLft.⊑_static, Monad.fact_i}
use mir.{Syntax.tcons, Val.vstruct, Val.vcons, Val.vnil, Raw.raw as bare}
use types.Kit.{Item, Goal, Step, step, use0}
use denote.{Laws.Is, Laws.Typed, Param.arg, RattleType.RattleType, Param.Laws.Laws, Param.Laws.arg_laws, Param.Laws.param_laws}
use Rattle.grain_c.proofs.Destruct++none.drop.Symbol.{symbol}
pub use Rattle.std.proofs.Common.{[], ◌∷◌, refl, lit<, false, List, ◌≡◌, Bool, true, ◌++◌, ap}
pub use Rattle.std.proofs.raw_atomic.Walks.{proved, leaves, proved_at}
pub use Rattle.std.proofs.alloc.Calls.{Goes-blank}
pub use Rattle.grain_c.proofs.Destruct++none.drop.Symbol.{glues}
pub use Rattle.std.specs.contracts.impls.GlobalAllocator.TheImpl.{ghosts, dict}
pub use Rattle.std.proofs.impls.GlobalAllocator.TheImpl.Met.{passed}
pub use base.Logic.{id⊢, sep, emp, via, mono_l}
pub use base.{Fml.ftrue, Fml.flft, Fraction.full_share}
pub use types.Kit.{‵, raw, ◌⊛◌, ◌$◌, ◌∵◌, !, qed, by, move, split, done, keep, join, fsplit3, rewrite, suffices, frame, group, some, later, at_ret, drop, fsplit, fjoin, fpick, pick, use1, await, feq_i, prop, Sq}
pub use types.Kit.{fpack, feq_l, show, updating, now}
pub use types.Run.{enter, lit, false_lit, no_more, and_then, returns, of_opd, load, fld, stop, first, blocks, exec, true_lit}
pub use types.ByLocal.{alloc_all, pass_all, free_all, look_at, sets, through, get, get_in, lands_last, env, lands_as}
pub use types.{Part.agg, Part.whole, Part.sub, Part.look_in, Logic.Logic, Logic.sem}
pub use denote.Steps.{nothing, owned, opens, closes, peeks, heard, only}
pub use denote.Triple.Walked.{Stays, stay_ref, Goes-ref, says, ends_at, stay_dropped, walk_of}
pub use denote.{RawPtr.null_ptr, RawPtr.ptr_val, RawPtr.rawptr_Lawful, RawPtr.Ptr, Triple.Entry.alive, Builtin.bool, Builtin.unit, Builtin.RawPtr, Laws.shows, Signature.plain, Signature.types_at, Exit.yes, Exit.no}
pub use denote.{Triple.Call.calls_at_last, Triple.Call.calls_at, Triple.Spec.triple_of, Triple.Spec.Back, Triple.Table.framed, Triple.Table.widened, Triple.Table.run_framed, Param.layout, RattleType.owns}
pub use mir.Val.{Val, vbool}
pub use mir.Syntax.{named, Dict, impl, tnil, dnil, method, no_args}
pub use contract.{Monad.fact, Running.tables, Running.Running, BorrowLft.◌⊑◌}
pub use seplogic.Ra.Ura.{Ura}
use Rattle.std.specs.contracts.alloc.Global as heap
use Rattle.std.specs.contracts.boxed.Box as boxed
use Rattle.std.proofs.alloc.Global.TheLaws as heap_laws
use Rattle.std.proofs.boxed.Box.TheLaws as box_laws

-- the machine value of a handle
abbrev pub word : Bool → Ptr → Val
word y p = vstruct (vcons (vbool y) (vcons (ptr_val p) vnil))

module _ (T : RattleType) where
  -- a type argument
  abbrev pub argument : RattleType
  argument = arg (bare (layout T)) no T

  -- a box of one, which is one machine value of its type
  abbrev pub box_of : RattleType
  box_of = boxed.the_row T heap.the_row ghosts

  module _ (laws : Laws T) where
    abbrev pub argument_laws : bare (bare (layout T)) ≡ bare (layout T) → Laws argument
    argument_laws same = arg_laws (bare (layout T)) no T laws same

    pub box_typed : {M : Type 1} {𝓤 : Ura M} (𝓛 : Logic 𝓤) (r : box_of.Denot) (vs : List Val) → Is box_of r vs → Typed (layout box_of ∷ []) vs
    box_typed 𝓛 = ((param_laws 0 box_of (box_laws.the_row_laws T heap.the_row ghosts laws heap_laws.the_row_laws)).lawful 𝓛).typed

abbrev pub Heap : RattleType
Heap = argument heap.the_row

abbrev pub Heap-laws : Laws Heap
Heap-laws = argument_laws heap.the_row heap_laws.the_row_laws refl

-- the heap's drop, which does nothing
abbrev pub no_drop : Dict
no_drop = impl (symbol ∷ []) (tcons (layout Heap) tnil) dnil

-- the tokens of two lifetimes that are 'static
abbrev pub static : {M : Type 1} {𝓤 : Ura M} → Item 𝓤
static = ‵ (flft [] full_share) ⊛ ‵ (flft [] full_share) ⊛ ‵ ftrue

module _ {M : Type 1} {𝓤 : Ura M} {𝓛 : Logic 𝓤} {K : Type 0} {Γ : List (Item 𝓤)} {G : Goal 𝓤 𝓛.H} where
  -- what a call at two type arguments wants, of what its parameters own, i, and of what its `requires` asks, j: both lifetimes are 'static, whose tokens are free
  pub passes : K → {i j : Item 𝓤} → Step K 𝓛 (((static ⊛ i) ⊛ raw (fact 𝓤 ([] ⊑ [])) ⊛ raw (fact 𝓤 ([] ⊑ [])) ⊛ j) ∷ Γ) G (i ∷ j ∷ Γ) G
  passes t = step (λ s. let free = 𝓛.lfts.lft-nil full_share in let within = fact_i 𝓤 ([] ⊑ []) (emp 𝓤) (⊑_static []) in
      nothing t $ use0 𝓛 (‵ (flft [] full_share)) free $ join t $ use0 𝓛 (‵ (flft [] full_share)) free $ join t $ join t $
      move t (1 ∷ []) $ use0 𝓛 (raw (fact 𝓤 ([] ⊑ []))) within $ join t $ use0 𝓛 (raw (fact 𝓤 ([] ⊑ []))) within $ join t $ move t (1 ∷ 0 ∷ []) $ join t $ s)
