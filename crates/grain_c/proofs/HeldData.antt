-- The two words of a file's handle, read through a `&`. Assumes `Logic`.
use Rattle.std.proofs.Common.{◌≡◌, Bool, List, [], ◌∷◌, ◌++◌, ap, ◌∙◌}
use mir.Val.{Val, vbool, vstruct, vcons, vnil, of_list}
use denote.RattleType.{RattleType}
use denote.Laws.{Is}
use denote.RawPtr.{Ptr, ptr_val}
use denote.Struct.Struct.{Struct}
use denote.Struct.Owning.{shape}
use Rattle.grain_c.specs.contracts.held.CHeldFile as file

abbrev pub words : Bool → Ptr → Val
words y p = vstruct (vcons (vbool y) (vcons (ptr_val p) vnil))

abbrev pub Data : RattleType
Data = Struct (shape file.the_type)

pub told : (y : Bool) (p : Ptr) (vs : List Val) → Is Data (y, (p, tt)) vs → vs ≡ words y p ∷ []
told y p vs is =
    is.1.0 ∙ ap (λ (ws : List Val). vstruct (of_list (ws ++ (is.0.1.0 ++ []))) ∷ []) is.1.1.0 ∙ ap (λ (ws : List Val). vstruct (of_list (vbool y ∷ (ws ++ []))) ∷ []) is.1.1.1.0
