-- Entries that are found, and entries that are put behind the others.
use Rattle.std.proofs.Common.{◌≡◌, ◌+◌, ◌<◌, ◌++◌, ◌∷◌, [], ℕ, List, Global, String, Option, Some, None, Result, Ok, Err, IfOk, length, slice_get, sym, ap, ◌∙◌, subst, inl, inr, refl, arith, length-append, string_bytes, MatchOption}
use Rattle.std.specs.Option.{IfSome, IsSomeAnd}
use Rattle.std.specs.List.{AllWithin, HoldsAt}
use Rattle.std.proofs.lemmas.Option.{slice_get-get_or}
use Rattle.std.proofs.Math.Seq.{get_or-append_seam}
use Rattle.grain_lexer.specs.Blanks.{unblanked}
use Rattle.grain_base.specs.Tokens.{token_parts}
use Rattle.grain_base.specs.declared.token.Token.{Token}
use Rattle.grain_parse.specs.Entries.{Enters, HasEntryAt, ReadsNameIndex, ReadsOperatorIndex}
use Rattle.grain_lexer.specs.Literals.{ReadsName}
use Rattle.grain_lexer.specs.Operators.{ReadsOperator}
use Rattle.grain_lexer.proofs.ReadNumbers.{name_again, operator_again}

-- what holds at a place is of the entry there
leads_there : {A : Type 0} (P : A → Type 0) (entries : List A) (place : ℕ) → place < length entries → HoldsAt P entries place → HasEntryAt P entries place
leads_there P [] place inside holds = absurd (omega arith)
leads_there P (entry ∷ entries) place inside holds =
    subst (λ o. IsSomeAnd o P) (sym (slice_get-get_or (entry ∷ entries) place entry inside)) (holds entry)

-- what a search found is an entry with the property
pub first_leads : {A : Type 0} (P No : A → Type 0) (entries : List A) (r : Option ℕ)
    → MatchOption r (AllWithin No entries 0 (length entries)) (λ i. (i < length entries) × HoldsAt P entries i × AllWithin No entries 0 i)
    → IfSome r (HasEntryAt P entries)
first_leads P No entries None m = tt
first_leads P No entries (Some place) m = leads_there P entries place m.0 m.1

-- an entry that was there is entered as it is
pub found : {A : Type 0} (P : A → Type 0) (entries : List A) (place index : ℕ) → HasEntryAt P entries place → index ≡ place → Enters P entries entries index
found P entries place index there same = record {
  leads = subst (HasEntryAt P entries) (sym same) there;
  stays = inl refl;
}

-- the last index leads to the entry that was put there
pub put : {A : Type 0} (P : A → Type 0) (old new : List A) (entry : A) (index : ℕ)
    → P entry → new ≡ old ++ entry ∷ [] → index + 1 ≡ length new → Enters P old new index
put P old new entry index has is last =
    let long : length new ≡ length old + 1 = ap length is ∙ length-append old (entry ∷ []) in
    let place : index ≡ length old = omega (arith, long) in
    let inside : length old < length (old ++ entry ∷ []) = omega (arith, length-append old (entry ∷ [])) in
    let read : slice_get new index ≡ Some entry =
    ap (λ xs. slice_get xs index) is
    ∙ ap (λ (n : ℕ). slice_get (old ++ entry ∷ []) n) place
    ∙ slice_get-get_or (old ++ entry ∷ []) (length old) entry inside
    ∙ ap Some (get_or-append_seam old entry [] entry) in
    record {
      leads = subst (λ o. IsSomeAnd o P) (sym read) has;
      stays = inr (entry, is);
    }

-- the same of the last index, if there is one
pub put_last : {A E : Type 0} (P : A → Type 0) (old new : List A) (entry : A) (r : Result ℕ E)
    → P entry → new ≡ old ++ entry ∷ [] → IfOk r (λ last. last + 1 ≡ length new) → IfOk r (Enters P old new)
put_last P old new entry (Ok index) has is last = put P old new entry index has is last
put_last P old new entry (Err _) has is last = tt

-- a name that was read behind blanks and is entered
pub named : {E : Type 0} (line mid name left : List ℕ) (old new : List (String Global)) (r : Result ℕ E) → mid ≡ unblanked line → ReadsName mid name left
    → IfOk r (Enters (λ entry. string_bytes entry ≡ name) old new) → IfOk r (λ index. ReadsNameIndex line old new index left)
named line mid name left old new (Ok index) e read enters = inr (name, name_again line mid name left e read, enters)
named line mid name left old new (Err _) e read enters = tt

-- the same of an operator
pub operator_entered : {E : Type 0} (line mid left : List ℕ) (token : Token) (old new : List Token) (r : Result ℕ E) → mid ≡ unblanked line → ReadsOperator mid token left
    → IfOk r (Enters (λ entry. token_parts entry ≡ token_parts token) old new) → IfOk r (λ index. ReadsOperatorIndex line old new index left)
operator_entered line mid left token old new (Ok index) e read enters = inr (token, operator_again line mid token left e read, enters)
operator_entered line mid left token old new (Err _) e read enters = tt
