-- A handle with a session in it. Assumes `Logic`.
use types.Kit.{Item, Goal, Step, step}
use denote.{Laws.Is, Laws.Typed, RattleType.RattleType, Param.Laws.Laws, Struct.Owning.shape, Struct.Struct.Struct, Struct.Struct.Struct-Makes}
use Rattle.grain_engine_c.proofs.Words.{Bool, List, [], ◌∷◌, refl, argument, argument_laws, box_of, box_typed, fjoin, layout, owned, ptr_val, vbool, word, Logic, Ptr, Ura, Val, ‵, ◌$◌}
use Rattle.grain_engine_c.specs.Holds.{holds_session}
use Rattle.rhai_session.specs.contracts.session.Session as session
use Rattle.rhai_session.proofs.session.Session.TheLaws as session_laws
use Rattle.grain_engine_c.specs.contracts.handle.CSession as handle

-- a session as a type argument, and in a box
abbrev pub Kept : RattleType
Kept = argument session.the_row

abbrev pub Kept-laws : Laws Kept
Kept-laws = argument_laws session.the_row session_laws.the_row_laws refl

abbrev pub Boxed : RattleType
Boxed = box_of session.the_row

pub Boxed-typed : {M : Type 1} {𝓤 : Ura M} (𝓛 : Logic 𝓤) (r : Boxed.Denot) (vs : List Val) → Is Boxed r vs → Typed (layout Boxed ∷ []) vs
Boxed-typed 𝓛 = box_typed session.the_row session_laws.the_row_laws 𝓛

module _ {M : Type 1} {𝓤 : Ura M} {𝓛 : Logic 𝓤} {K : Type 0} {Γ : List (Item 𝓤)} {G : Goal 𝓤 𝓛.H} where
  -- two words with what they keep are a handle
  pub makes_handle : K → (y : Bool) (p : Ptr) (x : session.the_row.Denot) → Step K 𝓛 (‵ (handle.the_row.own_val (record { made = y; block = p; content = x }) (word y p ∷ [])) ∷ Γ) G (‵ (holds_session y p x) ∷ Γ) G
  makes_handle t y p x = step (λ s.
      owned t (Struct (shape handle.the_type)) _ (Struct-Makes 𝓛 (shape handle.the_type) ((λ x vs. tt), ((λ x vs. tt), tt))) (y, (p, tt)) (word y p ∷ [])
      ((vbool y ∷ [], (ptr_val p ∷ [], tt)), (refl, (refl, (refl, tt)))) $ fjoin t $ s)
