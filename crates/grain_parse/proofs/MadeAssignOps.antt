-- Op-assignments that are made of their spellings, and entered.
use Rattle.std.proofs.Common.{◌≡◌, ◌∙◌, ◌++◌, ◌∷◌, ◌<◌, [], ℕ, List, Global, String, Option, Some, None, Result, Ok, Err, IfOk, ap, inl, inr, sym, subst, option_map, string_bytes, slice_get, length, length-append, arith}
use Rattle.std.specs.Option.{IsSomeAnd}
use Rattle.std.proofs.lemmas.Option.{slice_get-get_or, slice_get_cases}
use Rattle.std.proofs.Math.ListN.{get_or-append}
use Rattle.grain_pools.specs.declared.assign_op.AssignOp.{AssignOp}
use Rattle.grain_lexer.specs.Blanks.{ReadsText, unblanked}
use Rattle.grain_parse.specs.Entries.{AreSameAssignOps, Enters, HasEntryAt, IsMadeOf, ReadsAssignOpIndex}
use Rattle.grain_base.specs.Operators.{base_operator_of, text_of}
use Rattle.grain_lexer.proofs.ReadNumbers.{text_again}
use Rattle.grain_print.specs.Spellings.{spelling_at}

weaker : {A : Type 0} (P Q : A → Type 0) (o : Option A) → ((x : A) → P x → Q x) → IsSomeAnd o P → IsSomeAnd o Q
weaker P Q None f has = has
weaker P Q (Some x) f has = f x has

-- what has one property and is entered has each that follows
pub enters_weaker : {A : Type 0} (P Q : A → Type 0) (old new : List A) (index : ℕ) → ((x : A) → P x → Q x) → Enters P old new index → Enters Q old new index
enters_weaker P Q old new index f enters = record {
  leads = weaker P Q (slice_get new index) f enters.leads;
  stays = enters.stays;
}

before : {A : Type 0} (P : A → Type 0) (old more : List A) (index : ℕ) → HasEntryAt P old index → HasEntryAt P (old ++ more) index
before P old more index has =
    elim (slice_get_cases old index).1 [
      | inl there ↦
          let inside : index < length (old ++ more) = omega (arith, length-append old more, there.1) in
          let read : slice_get (old ++ more) index ≡ Some there.0 =
          slice_get-get_or (old ++ more) index there.0 inside
          ∙ ap Some (get_or-append old more there.0 index there.1 ∙ there.3) in
          subst (λ o. IsSomeAnd o P) (there.2 ∙ sym read) has
      | inr past ↦ absurd (subst (λ o. IsSomeAnd o P) past.1 has)
    ]

-- an entry that was there is where it was
pub leads_still : {A : Type 0} (P Q : A → Type 0) (old new : List A) (index other : ℕ) → HasEntryAt P old index → Enters Q old new other → HasEntryAt P new index
leads_still P Q old new index other has enters =
    elim enters.stays [
      | inl same ↦ subst (λ xs. HasEntryAt P xs index) (sym same) has
      | inr more ↦ subst (λ xs. HasEntryAt P xs index) (sym more.1) (before P old (more.0 ∷ []) index has)
    ]

-- one that is the same is made of the same spellings
pub made_alike : (spelling : List ℕ) (names : List (String Global)) (one other : AssignOp) → IsMadeOf spelling names other → AreSameAssignOps one other → IsMadeOf spelling names one
made_alike spelling names one other made same = record {
  op_assign = ap spelling_at same.op_assign ∙ made.op_assign;
  op_assign_name = subst (HasEntryAt _ names) (sym same.op_assign_name) made.op_assign_name;
  op = ap Some same.op ∙ made.op ∙ ap (λ parts. option_map (λ number. inr number) (base_operator_of parts)) (sym same.op_assign);
  op_name = subst (λ parts. HasEntryAt (λ name. string_bytes name ≡ text_of parts) names one.op_name) (sym same.op) (subst (HasEntryAt _ names) (sym same.op_name) made.op_name);
}

-- one that is made of the spelling that was read behind blanks, and is entered
pub assign_op_entered : {E : Type 0} (line mid spelling left : List ℕ) (assign_op : AssignOp) (names later : List (String Global)) (first old new : List AssignOp) (r : Result ℕ E)
    → mid ≡ unblanked line → ReadsText mid spelling left
    → IsMadeOf spelling names assign_op → later ≡ names → old ≡ first
    → IfOk r (Enters (λ other. AreSameAssignOps other assign_op) old new) → IfOk r (λ index. ReadsAssignOpIndex line later first new index left)
assign_op_entered line mid spelling left assign_op names later first old new (Ok index) e read made same stays enters = inr (record {
  spelling = spelling;
  reads = text_again line mid spelling left e read;
  enters =
      subst (λ xs. Enters (IsMadeOf spelling later) xs new index) stays
      (subst (λ xs. Enters (IsMadeOf spelling xs) old new index) (sym same)
      (enters_weaker (λ other. AreSameAssignOps other assign_op) (IsMadeOf spelling names) old new index (λ other is. made_alike spelling names other assign_op made is) enters));
})
assign_op_entered line mid spelling left assign_op names later first old new (Err _) e read made same stays enters = tt
