-- Entries of pools, and the indices that name them.
use Rattle.std.specs.Prelude.{◌≡◌, ◌⊎◌, ℕ, List, String, Some, [], ◌∷◌, ◌++◌, option_map, slice_get, string_bytes, IsSomeAnd}
use Rattle.std.specs.Global.{Global}
use Rattle.std.proofs.Common.{inr}
use Rattle.grain_base.specs.Operators.{base_operator_of, text_of}
use Rattle.grain_base.specs.Tokens.{token_parts}
use Rattle.grain_base.specs.View.{content}
use Rattle.grain_base.specs.declared.token.Token.{Token}
use Rattle.grain_base.specs.declared.value.Dynamic.{Dynamic}
use Rattle.grain_pools.specs.declared.assign_op.AssignOp.{AssignOp}
use Rattle.grain_print.specs.Spellings.{spelling_of}
use Rattle.grain_lexer.specs.Blanks.{ReadsText}
use Rattle.grain_lexer.specs.Literals.{ReadsName}
use Rattle.grain_lexer.specs.Numbers.{ReadsIndex}
use Rattle.grain_lexer.specs.Operators.{ReadsOperator}

-- an entry with the property is at the index
abbrev pub HasEntryAt : {A : Type 0} → (A → Type 0) → List A → ℕ → Type 0
HasEntryAt P entries index = IsSomeAnd (slice_get entries index) P

-- the index leads to an entry with the property, and each entry that was there is where it was
pub record Enters {A : Type 0} (P : A → Type 0) (old new : List A) (index : ℕ) : Type 0 where
  pub leads : HasEntryAt P new index
  pub stays : (new ≡ old) ⊎ ((entry : A) × (new ≡ old ++ entry ∷ []))

-- the old list is the beginning of the new one
abbrev pub GrowsTo : {A : Type 0} → List A → List A → Type 0
GrowsTo {A} old new = (more : List A) × (new ≡ old ++ more)

-- an index comes, or a name that is entered there
abbrev pub ReadsNameIndex : List ℕ → List (String Global) → List (String Global) → ℕ → List ℕ → Type 0
ReadsNameIndex line old new index left =
    (ReadsIndex line index left × (new ≡ old))
    ⊎ ((name : List ℕ) × ReadsName line name left × Enters (λ entry. string_bytes entry ≡ name) old new index)

-- an index comes, or a constant that is entered there
abbrev pub ReadsConstantIndex : List ℕ → List Dynamic → List Dynamic → ℕ → List ℕ → Type 0
ReadsConstantIndex line old new index left =
    (ReadsIndex line index left × (new ≡ old))
    ⊎ ((value : Dynamic) × Enters (λ entry. content entry ≡ content value) old new index)

-- an index comes, or an operator that is entered there
abbrev pub ReadsOperatorIndex : List ℕ → List Token → List Token → ℕ → List ℕ → Type 0
ReadsOperatorIndex line old new index left =
    (ReadsIndex line index left × (new ≡ old))
    ⊎ ((token : Token) × ReadsOperator line token left × Enters (λ entry. token_parts entry ≡ token_parts token) old new index)

-- two op-assignments have the same operators and the same indices of names
pub record AreSameAssignOps (one other : AssignOp) : Type 0 where
  pub op_assign : token_parts one.op_assign ≡ token_parts other.op_assign
  pub op_assign_name : one.op_assign_name ≡ other.op_assign_name
  pub op : token_parts one.op ≡ token_parts other.op
  pub op_name : one.op_name ≡ other.op_name

-- the op-assignment has this text and applies the operator, and both have their texts as their names
pub record IsMadeOf (spelling : List ℕ) (names : List (String Global)) (assign_op : AssignOp) : Type 0 where
  pub op_assign : spelling_of assign_op.op_assign ≡ Some spelling
  pub op_assign_name : HasEntryAt (λ name. string_bytes name ≡ spelling) names assign_op.op_assign_name
  pub op : Some (token_parts assign_op.op) ≡ option_map (λ number. inr number) (base_operator_of (token_parts assign_op.op_assign))
  pub op_name : HasEntryAt (λ name. string_bytes name ≡ text_of (token_parts assign_op.op)) names assign_op.op_name

-- the spelling of an op-assignment comes, and one that is made of it is entered
pub record ReadsAssignOp (line : List ℕ) (names : List (String Global)) (old new : List AssignOp) (index : ℕ) (left : List ℕ) : Type 0 where
  pub spelling : List ℕ
  pub reads : ReadsText line spelling left
  pub enters : Enters (IsMadeOf spelling names) old new index

-- an index comes, or the spelling of an op-assignment that is entered there
abbrev pub ReadsAssignOpIndex : List ℕ → List (String Global) → List AssignOp → List AssignOp → ℕ → List ℕ → Type 0
ReadsAssignOpIndex line names old new index left =
    (ReadsIndex line index left × (new ≡ old)) ⊎ ReadsAssignOp line names old new index left

-- The operator of an op-assignment comes and its name, and then the operator that it applies and the name of that.
pub record ReadsAssignOpEntry (line : List ℕ) (old new : List (String Global)) (entry : AssignOp) (left : List ℕ) : Type 0 where
  pub after_op_assign : List ℕ
  pub op_assign : ReadsOperator line entry.op_assign after_op_assign
  pub names : List (String Global)
  pub before_op : List ℕ
  pub op_assign_name : ReadsNameIndex after_op_assign old names entry.op_assign_name before_op
  pub after_op : List ℕ
  pub op : ReadsOperator before_op entry.op after_op
  pub op_name : ReadsNameIndex after_op names new entry.op_name left
