-- What of chains is kept: all of it, with the places that its positions name.
use Rattle.std.specs.Prelude.{ℕ, Bool, nat_lt, ◌^◌, ◌++◌, ◌⊎◌, List, map, Option, Some, None, Result, Ok, refl}
use Rattle.grain_format.specs.Reading.{LocatedFault, ◌>>=◌}
use Rattle.std.proofs.Common.{inl, inr}
use Rattle.grain_base.specs.Place.{place_of}
use Rattle.grain_bytecode.specs.Positions.{Place}
use Rattle.grain_pools.specs.declared.chain.Chain.{Chain}
use Rattle.grain_pools.specs.declared.chain.Root.{Root}
use Rattle.grain_pools.specs.declared.chain.Root.TheVariants.{Local, Named, This, Temporary}
use Rattle.grain_pools.specs.declared.chain.Step.{Step}
use Rattle.grain_pools.specs.declared.chain.Step.TheVariants.{Index, Property, Method}
use Rattle.grain_pools.specs.declared.chain.Tail.{Tail}
use Rattle.grain_pools.specs.declared.chain.Tail.TheVariants.{Read, Assign}
use Rattle.grain_format.specs.declared.error.FieldFault.TheVariants.{NoLine, UnknownTag}
use Rattle.grain_format.specs.Lists.{BeginsOtherwise}
use Rattle.grain_format.specs.Formats.{Format, number_below, byte, no_bytes, both, checked, counted_list, optional, alternative, headed}

abbrev pub has_line : ℕ × ℕ → Bool
has_line place = nat_lt 0 place.0

abbrev pub line_and_column : Format (ℕ × ℕ)
line_and_column = checked has_line NoLine (both (number_below (2 ^ 16)) (number_below (2 ^ 16)))

-- what reading a line and a column gives, as a place
abbrev pub placed_at : List ℕ → Result (Place × List ℕ) LocatedFault
placed_at bytes = line_and_column.reading bytes >>= λ place. Ok (Some place.0, place.1)

-- 0 for no place, or 1, a line above 0 and a column
abbrev pub place_format : Format Place
place_format = optional line_and_column

abbrev pub RootParts : Type 0
RootParts = (ℕ × ℕ) ⊎ ((ℕ × Place) ⊎ (Place ⊎ Unit {0}))

abbrev pub root_parts : Root → RootParts
root_parts (Local slot name) = inl (slot, name)
root_parts (Named name pos) = inr (inl (name, place_of pos))
root_parts (This pos) = inr (inr (inl (place_of pos)))
root_parts Temporary = inr (inr (inr tt))

abbrev this_or_temporary : Format (Place ⊎ Unit {0})
this_or_temporary = alternative 2 place_format (headed 3 UnknownTag no_bytes) (λ y rest fits. refl)

pub this_apart : (y : Place ⊎ Unit {0}) (rest : List ℕ) → this_or_temporary.Fits y → BeginsOtherwise 1 (this_or_temporary.spelling y ++ rest)
this_apart (inl u) rest fits = refl
this_apart (inr u) rest fits = refl

abbrev named_or_those : Format ((ℕ × Place) ⊎ (Place ⊎ Unit {0}))
named_or_those = alternative 1 (both (number_below (2 ^ 32)) place_format) this_or_temporary this_apart

pub named_apart : (y : (ℕ × Place) ⊎ (Place ⊎ Unit {0})) (rest : List ℕ) → named_or_those.Fits y → BeginsOtherwise 0 (named_or_those.spelling y ++ rest)
named_apart (inl n) rest fits = refl
named_apart (inr (inl u)) rest fits = refl
named_apart (inr (inr u)) rest fits = refl

-- 0, a slot and a name; 1, a name and its place; 2 and the place of `this`; or 3 for a temporary value
abbrev pub root_format : Format RootParts
root_format = alternative 0 (both (number_below (2 ^ 16)) (number_below (2 ^ 32))) named_or_those named_apart

abbrev pub IndexParts : Type 0
IndexParts = ℕ × (ℕ × (Place × Place))

abbrev pub PropertyParts : Type 0
PropertyParts = ℕ × (ℕ × (ℕ × (ℕ × Place)))

abbrev pub MethodParts : Type 0
MethodParts = ℕ × (ℕ × (ℕ × (ℕ × Place)))

abbrev pub StepParts : Type 0
StepParts = IndexParts ⊎ (PropertyParts ⊎ MethodParts)

abbrev pub step_parts : Step → StepParts
step_parts (Index operand flags pos bracket) = inl (operand, (flags.0, (place_of pos, place_of bracket)))
step_parts (Property name getter setter flags pos) = inr (inl (name, (getter, (setter, (flags.0, place_of pos)))))
step_parts (Method name argc operand flags pos) = inr (inr (name, (argc, (operand, (flags.0, place_of pos)))))

abbrev pub index_format : Format IndexParts
index_format = both (number_below (2 ^ 16)) (both byte (both place_format place_format))

abbrev pub property_format : Format PropertyParts
property_format = both (number_below (2 ^ 32)) (both (number_below (2 ^ 32)) (both (number_below (2 ^ 32)) (both byte place_format)))

abbrev pub method_format : Format MethodParts
method_format = both (number_below (2 ^ 32)) (both byte (both (number_below (2 ^ 16)) (both byte place_format)))

abbrev property_or_method : Format (PropertyParts ⊎ MethodParts)
property_or_method = alternative 1 property_format (headed 2 UnknownTag method_format) (λ y rest fits. refl)

pub property_apart : (y : PropertyParts ⊎ MethodParts) (rest : List ℕ) → property_or_method.Fits y → BeginsOtherwise 0 (property_or_method.spelling y ++ rest)
property_apart (inl y) rest fits = refl
property_apart (inr y) rest fits = refl

-- 0 and an index, 1 and a property, or 2 and a method
abbrev pub step_format : Format StepParts
step_format = alternative 0 index_format property_or_method property_apart

abbrev pub tail_parts : Tail → Option (Option ℕ)
tail_parts Read = None
tail_parts (Assign op) = Some op

abbrev pub tail_format : Format (Option (Option ℕ))
tail_format = optional (optional (number_below (2 ^ 32)))

abbrev pub ChainParts : Type 0
ChainParts = RootParts × (List StepParts × (Option (Option ℕ) × ℕ))

abbrev pub chain_parts : Chain → ChainParts
chain_parts c = (root_parts c.root, (map step_parts c.steps.items, (tail_parts c.tail, c.operands)))

abbrev pub chain_format : Format ChainParts
chain_format = both root_format (both (counted_list step_format) (both tail_format (number_below (2 ^ 16))))
