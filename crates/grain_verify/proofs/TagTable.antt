-- The table of tags tells what operations do.
use Rattle.std.proofs.Common.{◌≡◌, ℕ, ◌+◌, ◌<◌, ◌≤◌, ◌&&◌, Bool, nat_le, arith, true, false, [], ◌∷◌, List, get_or, length, Some, None, refl, sym, ap, ◌∙◌, subst}
use Rattle.std.specs.Prelude.{sum_by}
use Rattle.std.specs.List.{list_all}
use Rattle.std.proofs.lemmas.Bool.{false≢true}
use Rattle.std.proofs.lemmas.Bool.Decides.{nat_tests}
use Rattle.std.proofs.lemmas.List.Sums.{AllPass-from_list_all, sum_by-cons}
use Rattle.grain_code.specs.InstructionTable.{Instr, form, size_of}
use Rattle.grain_code.specs.declared.field.Field.{Field}
use Rattle.grain_code.specs.declared.field.Field.TheVariants.{Index, Slot, Target}
use Rattle.grain_code.specs.declared.field.Pool.TheVariants.{Names}
use Rattle.grain_code.specs.declared.op.Op.{Op}
use Rattle.grain_code.specs.declared.op.Op.TheVariants as ops
use Rattle.grain_code.specs.declared.op.Receiver.TheVariants as receiver
use Rattle.grain_code.proofs.Instructions.{instr_width}
use Rattle.grain_rules.specs.Flow as flows
use Rattle.grain_rules.specs.Rows.{flow_of}
use Rattle.grain_rules.specs.EffectView.{flow}
use Rattle.grain_code.specs.Flows.{HasTarget, fixes}
use Rattle.grain_verify.specs.TagRows.{IsLeftBy, Tells}
use Rattle.grain_code.specs.declared.flow.Flow.{Flow}
use Rattle.grain_code.specs.declared.flow.Flow.TheVariants as ways
use Rattle.grain_code.specs.declared.tag_table.TheConstants.{TAG_ROWS}
use Rattle.grain_code.specs.declared.tag_table.TagRow.{TagRow}

-- a line for each operation whose row isn't plain, and for each whose tag depends on its fields
told : (d : TagRow) (op : Op) → Tells (get_or TAG_ROWS (form op).0 d) op
told d (ops.Bool false) = record { left = refl; fixed = λ e. record { operands = λ s. refl; caps = λ s. refl }; plain = λ e. (refl, refl) }
told d (ops.Bool true) = record { left = refl; fixed = λ e. record { operands = λ s. refl; caps = λ s. refl }; plain = λ e. (refl, refl) }
told d (ops.StoreLocal s false) = record { left = refl; fixed = λ e. record { operands = λ s. refl; caps = λ s. refl }; plain = λ e. (refl, refl) }
told d (ops.StoreLocal s true) = record { left = refl; fixed = λ e. record { operands = λ s. refl; caps = λ s. refl }; plain = λ e. (refl, refl) }
told d (ops.AssignLocal s n None) = record { left = refl; fixed = λ e. record { operands = λ s. refl; caps = λ s. refl }; plain = λ e. (refl, refl) }
told d (ops.AssignLocal s n (Some o)) = record { left = refl; fixed = λ e. record { operands = λ s. refl; caps = λ s. refl }; plain = λ e. (refl, refl) }
told d (ops.DeclareLocal n false is_global) = record { left = refl; fixed = λ e. record { operands = λ s. refl; caps = λ s. refl }; plain = λ e. (refl, refl) }
told d (ops.DeclareLocal n true false) = record { left = refl; fixed = λ e. record { operands = λ s. refl; caps = λ s. refl }; plain = λ e. (refl, refl) }
told d (ops.DeclareLocal n true true) = record { left = refl; fixed = λ e. record { operands = λ s. refl; caps = λ s. refl }; plain = λ e. (refl, refl) }
told d (ops.Jump j) = record { left = (j, [], refl, refl); fixed = λ e. record { operands = λ s. refl; caps = λ s. refl }; plain = λ e. absurd (false≢true e) }
told d (ops.JumpIfTrue j) = record { left = (j, [], refl, refl); fixed = λ e. record { operands = λ s. refl; caps = λ s. refl }; plain = λ e. absurd (false≢true e) }
told d (ops.JumpIfFalse j) = record { left = (j, [], refl, refl); fixed = λ e. record { operands = λ s. refl; caps = λ s. refl }; plain = λ e. absurd (false≢true e) }
told d (ops.Call n a None capture) = record { left = refl; fixed = λ e. absurd (false≢true e); plain = λ e. absurd (false≢true e) }
told d (ops.Call n a (Some o) capture) = record { left = refl; fixed = λ e. absurd (false≢true e); plain = λ e. absurd (false≢true e) }
told d (ops.EvalAst r true) = record { left = refl; fixed = λ e. record { operands = λ s. refl; caps = λ s. refl }; plain = λ e. (refl, refl) }
told d (ops.EvalAst r false) = record { left = refl; fixed = λ e. record { operands = λ s. refl; caps = λ s. refl }; plain = λ e. (refl, refl) }
told d (ops.Chain h) = record { left = refl; fixed = λ e. absurd (false≢true e); plain = λ e. absurd (false≢true e) }
told d (ops.MakeArray s) = record { left = refl; fixed = λ e. absurd (false≢true e); plain = λ e. absurd (false≢true e) }
told d (ops.Switch w) = record { left = (w, refl); fixed = λ e. absurd (false≢true e); plain = λ e. absurd (false≢true e) }
told d (ops.LoadNamed n) = record { left = refl; fixed = λ e. absurd (false≢true e); plain = λ e. absurd (false≢true e) }
told d (ops.AssignNamed n None) = record { left = refl; fixed = λ e. record { operands = λ s. refl; caps = λ s. refl }; plain = λ e. (refl, refl) }
told d (ops.AssignNamed n (Some o)) = record { left = refl; fixed = λ e. record { operands = λ s. refl; caps = λ s. refl }; plain = λ e. (refl, refl) }
told d (ops.IterNext j None) = record { left = (j, [], refl, refl); fixed = λ e. record { operands = λ s. refl; caps = λ s. refl }; plain = λ e. absurd (false≢true e) }
told d (ops.IterNext j (Some s)) = record { left = (j, Slot s ∷ [], refl, refl); fixed = λ e. record { operands = λ s. refl; caps = λ s. refl }; plain = λ e. absurd (false≢true e) }
told d (ops.PushHandler j None) = record { left = (j, [], refl, refl); fixed = λ e. record { operands = λ s. refl; caps = λ s. refl }; plain = λ e. absurd (false≢true e) }
told d (ops.PushHandler j (Some n)) = record { left = (j, Index Names n ∷ [], refl, refl); fixed = λ e. record { operands = λ s. refl; caps = λ s. refl }; plain = λ e. absurd (false≢true e) }
told d ops.MakeFnPtr = record { left = refl; fixed = λ e. absurd (false≢true e); plain = λ e. absurd (false≢true e) }
told d (ops.Curry a) = record { left = refl; fixed = λ e. absurd (false≢true e); plain = λ e. absurd (false≢true e) }
told d (ops.CallFnPtr a false false None) = record { left = refl; fixed = λ e. absurd (false≢true e); plain = λ e. absurd (false≢true e) }
told d (ops.CallFnPtr a true capture None) = record { left = refl; fixed = λ e. absurd (false≢true e); plain = λ e. absurd (false≢true e) }
told d (ops.CallFnPtr a false true None) = record { left = refl; fixed = λ e. absurd (false≢true e); plain = λ e. absurd (false≢true e) }
told d (ops.CallFnPtr a is_method capture (Some (receiver.Local s))) = record { left = refl; fixed = λ e. absurd (false≢true e); plain = λ e. absurd (false≢true e) }
told d (ops.CallFnPtr a is_method capture (Some (receiver.Named n))) = record { left = refl; fixed = λ e. absurd (false≢true e); plain = λ e. absurd (false≢true e) }
told d (ops.CallFnPtr a is_method capture (Some receiver.This)) = record { left = refl; fixed = λ e. absurd (false≢true e); plain = λ e. absurd (false≢true e) }
told d (ops.Share s) = record { left = refl; fixed = λ e. absurd (false≢true e); plain = λ e. absurd (false≢true e) }
told d (ops.ShareNamed n) = record { left = refl; fixed = λ e. absurd (false≢true e); plain = λ e. absurd (false≢true e) }
told d (ops.MakeClosure n) = record { left = refl; fixed = λ e. absurd (false≢true e); plain = λ e. absurd (false≢true e) }
told d ops.IsShared = record { left = refl; fixed = λ e. absurd (false≢true e); plain = λ e. absurd (false≢true e) }
told d (ops.CheckSize s false) = record { left = refl; fixed = λ e. record { operands = λ s. refl; caps = λ s. refl }; plain = λ e. (refl, refl) }
told d (ops.CheckSize s true) = record { left = refl; fixed = λ e. record { operands = λ s. refl; caps = λ s. refl }; plain = λ e. (refl, refl) }
told d (ops.MakeMap s) = record { left = refl; fixed = λ e. absurd (false≢true e); plain = λ e. absurd (false≢true e) }
told d (ops.CallRef n a (receiver.Local s) capture) = record { left = refl; fixed = λ e. absurd (false≢true e); plain = λ e. absurd (false≢true e) }
told d (ops.CallRef n a (receiver.Named m) capture) = record { left = refl; fixed = λ e. absurd (false≢true e); plain = λ e. absurd (false≢true e) }
told d (ops.CallRef n a receiver.This capture) = record { left = refl; fixed = λ e. absurd (false≢true e); plain = λ e. absurd (false≢true e) }
told d (ops.Rotate a) = record { left = refl; fixed = λ e. absurd (false≢true e); plain = λ e. absurd (false≢true e) }
told d ops.LoadThis = record { left = refl; fixed = λ e. absurd (false≢true e); plain = λ e. absurd (false≢true e) }
told d ops.LoadThisShared = record { left = refl; fixed = λ e. absurd (false≢true e); plain = λ e. absurd (false≢true e) }
told d ops.RequireThis = record { left = refl; fixed = λ e. absurd (false≢true e); plain = λ e. absurd (false≢true e) }
told d (ops.AssignThis None) = record { left = refl; fixed = λ e. absurd (false≢true e); plain = λ e. absurd (false≢true e) }
told d (ops.AssignThis (Some o)) = record { left = refl; fixed = λ e. absurd (false≢true e); plain = λ e. absurd (false≢true e) }
told d (ops.SkipIfNotUnit j) = record { left = (j, [], refl, refl); fixed = λ e. record { operands = λ s. refl; caps = λ s. refl }; plain = λ e. absurd (false≢true e) }
told d (ops.CustomSyntax y) = record { left = refl; fixed = λ e. absurd (false≢true e); plain = λ e. absurd (false≢true e) }
told d (ops.ExportLocal s n) = record { left = refl; fixed = λ e. absurd (false≢true e); plain = λ e. absurd (false≢true e) }
told d (ops.ExportNamed n m) = record { left = refl; fixed = λ e. absurd (false≢true e); plain = λ e. absurd (false≢true e) }
told d (ops.Import n) = record { left = refl; fixed = λ e. absurd (false≢true e); plain = λ e. absurd (false≢true e) }
told d ops.Return = record { left = refl; fixed = λ e. record { operands = λ s. refl; caps = λ s. refl }; plain = λ e. absurd (false≢true e) }
told d ops.Throw = record { left = refl; fixed = λ e. record { operands = λ s. refl; caps = λ s. refl }; plain = λ e. absurd (false≢true e) }
told d ops.IterInit = record { left = refl; fixed = λ e. record { operands = λ s. refl; caps = λ s. refl }; plain = λ e. absurd (false≢true e) }
told d ops.IterDrop = record { left = refl; fixed = λ e. record { operands = λ s. refl; caps = λ s. refl }; plain = λ e. absurd (false≢true e) }
told d ops.PopHandler = record { left = refl; fixed = λ e. record { operands = λ s. refl; caps = λ s. refl }; plain = λ e. absurd (false≢true e) }
told d op = record { left = refl; fixed = λ e. record { operands = λ s. refl; caps = λ s. refl }; plain = λ e. (refl, refl) }

-- the flow of a row that says all is that of the operation, with its first field as the target
pub left_by : (f : Flow) (plain : Bool) (op : Op) (target : ℕ) → fixes f plain ≡ true → (HasTarget f → (t : ℕ) (others : List Field) → (form op).1 ≡ Target t ∷ others → target ≡ t)
    → IsLeftBy f op → flow f target ≡ flow_of op
left_by ways.Falls plain op target fixed first is = sym is
left_by ways.Ends plain op target fixed first is = sym is
left_by ways.Jumps plain op target fixed first (t, others, first_is, is) = ap flows.Jumps (first tt t others first_is) ∙ sym is
left_by ways.Branches plain op target fixed first (t, others, first_is, is) = ap flows.Branches (first tt t others first_is) ∙ sym is
left_by ways.Switches plain op target fixed first h = absurd (false≢true fixed)
left_by ways.BeginsIterator plain op target fixed first is = sym is
left_by ways.AdvancesIterator plain op target fixed first (t, others, first_is, is) = ap flows.AdvancesIterator (first tt t others first_is) ∙ sym is
left_by ways.EndsIterator plain op target fixed first is = sym is
left_by ways.PushesHandler plain op target fixed first (t, others, first_is, is) = ap flows.PushesHandler (first tt t others first_is) ∙ sym is
left_by ways.PopsHandler plain op target fixed first is = sym is

-- an operation whose flow has a target begins with it
begins_with : (f : Flow) (op : Op) → HasTarget f → IsLeftBy f op → (t : ℕ) × (others : List Field) × ((form op).1 ≡ Target t ∷ others)
begins_with ways.Falls op has h = absurd has
begins_with ways.Ends op has h = absurd has
begins_with ways.Jumps op has (t, others, first, is) = (t, others, first)
begins_with ways.Branches op has (t, others, first, is) = (t, others, first)
begins_with ways.Switches op has h = absurd has
begins_with ways.BeginsIterator op has h = absurd has
begins_with ways.AdvancesIterator op has (t, others, first, is) = (t, others, first)
begins_with ways.EndsIterator op has h = absurd has
begins_with ways.PushesHandler op has (t, others, first, is) = (t, others, first)
begins_with ways.PopsHandler op has h = absurd has

-- its fields have room for the target
pub target_fits : (f : Flow) (op : Op) (tag : ℕ) (fields : List ℕ) → HasTarget f → IsLeftBy f op → Instr (tag ∷ fields) op → 4 ≤ length fields
target_fits f op tag fields has left is =
    let (t, others, first) = begins_with f op has left in
    omega (arith, instr_width (tag ∷ fields) op is, ap (sum_by size_of) first, sum_by-cons size_of (Target t) others)

-- whatever operation has the tag
pub told_by : (tag : ℕ) (r : TagRow) (op : Op) → ((d : TagRow) → r ≡ get_or TAG_ROWS tag d) → (form op).0 ≡ tag → Tells r op
told_by tag r op is e = subst (λ (row : TagRow). Tells row op) (sym (is r)) (subst (λ n. Tells (get_or TAG_ROWS n r) op) e (told r op))

-- no row takes more than it needs, or gives more than one more than it takes
sound : TagRow → Bool
sound t = nat_le t.takes t.needs && nat_le t.gives (t.takes + 1)

all_sound : list_all sound TAG_ROWS ≡ true
unfolding sound
all_sound = refl

pub sound_at : (tag : ℕ) (r : TagRow) → tag < 256 → ((d : TagRow) → r ≡ get_or TAG_ROWS tag d) → (r.takes ≤ r.needs) × (r.gives ≤ r.takes + 1)
unfolding sound
sound_at tag r small is =
    let h = AllPass-from_list_all sound TAG_ROWS all_sound tag r small in
    let t = get_or TAG_ROWS tag r in
    subst (λ (row : TagRow). (row.takes ≤ row.needs) × (row.gives ≤ row.takes + 1)) (sym (is r)) (grind (arith, nat_tests, h), grind (arith, nat_tests, h))
