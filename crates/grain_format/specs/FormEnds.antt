-- If reading a value fails, what is wrong stands in the bytes.
use Rattle.std.proofs.Common.{◌≡◌, ℕ, zero, suc, ◌^◌, cond, List, [], ◌∷◌, ◌++◌, Option, Some, None, Result, Ok, Err, inl, inr}
use Rattle.std.proofs.Math.Utf8.{scalar}
use Rattle.grain_base.specs.Varint.{zigzag}
use Rattle.grain_format.specs.declared.error.FieldFault.{FieldFault}
use Rattle.grain_format.specs.declared.error.FieldFault.TheVariants.{KeyOrder, NotCharacter, UnknownTag, Truncated, TooDeep}
use Rattle.grain_format.specs.Reading.{LocatedFault, ◌>>=◌, AreBytes, Takes, IsEnd, Ends}
use Rattle.grain_format.specs.Laws.{chosen, tail_are_bytes}
use Rattle.grain_format.specs.Ends.{err_is, bind_err, at_whole, after, end_moved, number_ends, below_ends, bytes_ends, text_ends, both_ends, seen_ends, checked_ends, counted_ends}
use Rattle.grain_format.specs.Numbers.{number, number_at, below_at}
use Rattle.grain_format.specs.NumberLaws.{number_takes}
use Rattle.grain_format.specs.Texts.{counted_bytes, bytes_at, text_at}
use Rattle.grain_format.specs.TextLaws.{TextFits, text_takes}
use Rattle.grain_format.specs.Lists.{both_at, counted_at}
use Rattle.grain_format.specs.ListLaws.{left_are_bytes, regroup}
use Rattle.grain_format.specs.Form.{Form, integer, character, text, range, range_inclusive, array, blob, object_map, fn_ptr, shared, float, forms_of, form_entries_of, spelled, comes_after, IntegerFits, FitsWithin}
use Rattle.grain_format.specs.FormLaws.{integer_takes, value_takes}
use Rattle.grain_format.specs.FormAt.{signed, integer_at, character_at, entries_at, counted_entries_at, behind_tag, value_at}

pub integer_ends : Ends integer_at
integer_ends = seen_ends signed number_at number_ends

character_ends : Ends character_at
character_ends = checked_ends (below_at (2 ^ 32)) scalar NotCharacter (below_ends (2 ^ 32))

integers_end : Ends (both_at integer_at integer_at)
integers_end = both_ends (λ z. number (zigzag z)) IntegerFits integer_at integer_at integer_takes integer_ends integer_ends

module _ (value : List ℕ → Result (Form × List ℕ) LocatedFault) (Inner : Form → Type 0) (takes : Takes spelled Inner value) (ends : Ends value) where
  entries_end : (n : ℕ) (last : Option (List ℕ)) → Ends (entries_at value n last)
  unfolding entries_at
  entries_end zero last bytes fault left are e = absurd cc
  entries_end (suc n) last bytes fault left are e =
      elim (bind_err (text_at bytes) (λ key. cond (comes_after last key.0) (value key.1 >>= λ x. (entries_at value n (Some key.0) x.1 >>= λ fs. Ok ((key.0, x.0) ∷ fs.0, fs.1))) (Err (KeyOrder, bytes))) (fault, left) e) [
        | inl p ↦ text_ends bytes fault left are p
        | inr a ↦ elim (chosen (comes_after last a.0.0) (value a.0.1 >>= λ x. (entries_at value n (Some a.0.0) x.1 >>= λ fs. Ok ((a.0.0, x.0) ∷ fs.0, fs.1))) (Err (KeyOrder, bytes)) (Err (fault, left)) a.2) [
          | inl p ↦
              let t = text_takes bytes a.0.0 a.0.1 are a.1 in
              let key_are = left_are_bytes bytes (counted_bytes a.0.0) a.0.1 are t.0 in
              elim (bind_err (value a.0.1) (λ x. (entries_at value n (Some a.0.0) x.1 >>= λ fs. Ok ((a.0.0, x.0) ∷ fs.0, fs.1))) (fault, left) p.1) [
                | inl q ↦ end_moved bytes (counted_bytes a.0.0) a.0.1 left t.0 (ends a.0.1 fault left key_are q)
                | inr b ↦ elim (bind_err (entries_at value n (Some a.0.0) b.0.1) (λ fs. Ok ((a.0.0, b.0.0) ∷ fs.0, fs.1)) (fault, left) b.2) [
                  | inl r ↦
                      let u = takes a.0.1 b.0.0 b.0.1 key_are b.1 in
                      let one = regroup bytes (counted_bytes a.0.0) a.0.1 (spelled b.0.0) b.0.1 t.0 u.0 in
                      end_moved bytes (counted_bytes a.0.0 ++ spelled b.0.0) b.0.1 left one
                      (entries_end n (Some a.0.0) b.0.1 fault left (left_are_bytes bytes (counted_bytes a.0.0 ++ spelled b.0.0) b.0.1 are one) r)
                  | inr d ↦ absurd (let q = d.2 in cc)
                ]
              ]
          | inr p ↦ at_whole bytes KeyOrder fault left (err_is {A = List (List ℕ × Form) × List ℕ} {E = LocatedFault} (KeyOrder, bytes) (fault, left) p.1)
        ]
      ]

  map_ends : Ends (counted_entries_at value)
  map_ends bytes fault left are e =
      elim (bind_err (number_at bytes) (λ n. entries_at value n.0 None n.1) (fault, left) e) [
        | inl p ↦ number_ends bytes fault left are p
        | inr a ↦
            let t = number_takes bytes a.0.0 a.0.1 are a.1 in
            end_moved bytes (number a.0.0) a.0.1 left t.0 (entries_end a.0.0 None a.0.1 fault left (left_are_bytes bytes (number a.0.0) a.0.1 are t.0) a.2)
      ]

  pub behind_ends : (tag : ℕ) (bytes : List ℕ) (fault : FieldFault) (left : List ℕ) → AreBytes bytes → behind_tag value tag bytes ≡ Err (fault, left) → IsEnd left (tag ∷ bytes)
  unfolding behind_tag
  behind_ends zero bytes fault left are e = absurd cc
  behind_ends (suc zero) bytes fault left are e = absurd cc
  behind_ends (suc (suc zero)) bytes fault left are e = absurd cc
  behind_ends (suc (suc (suc zero))) bytes fault left are e = after (3 ∷ []) bytes left (seen_ends integer integer_at integer_ends bytes fault left are e)
  behind_ends (suc (suc (suc (suc zero)))) bytes fault left are e = after (4 ∷ []) bytes left (seen_ends character character_at character_ends bytes fault left are e)
  behind_ends (suc (suc (suc (suc (suc zero))))) bytes fault left are e = after (5 ∷ []) bytes left (seen_ends text text_at text_ends bytes fault left are e)
  behind_ends (suc (suc (suc (suc (suc (suc zero)))))) bytes fault left are e = after (6 ∷ []) bytes left (seen_ends (λ r. range r.0 r.1) (both_at integer_at integer_at) integers_end bytes fault left are e)
  behind_ends (suc (suc (suc (suc (suc (suc (suc zero))))))) bytes fault left are e = after (7 ∷ []) bytes left (seen_ends (λ r. range_inclusive r.0 r.1) (both_at integer_at integer_at) integers_end bytes fault left are e)
  behind_ends (suc (suc (suc (suc (suc (suc (suc (suc zero)))))))) bytes fault left are e = after (8 ∷ []) bytes left (seen_ends (λ xs. array (forms_of xs)) (counted_at value) (counted_ends spelled Inner value takes ends) bytes fault left are e)
  behind_ends (suc (suc (suc (suc (suc (suc (suc (suc (suc zero))))))))) bytes fault left are e = after (9 ∷ []) bytes left (seen_ends blob bytes_at bytes_ends bytes fault left are e)
  behind_ends (suc (suc (suc (suc (suc (suc (suc (suc (suc (suc zero)))))))))) bytes fault left are e = after (10 ∷ []) bytes left (seen_ends (λ es. object_map (form_entries_of es)) (counted_entries_at value) map_ends bytes fault left are e)
  behind_ends (suc (suc (suc (suc (suc (suc (suc (suc (suc (suc (suc zero))))))))))) bytes fault left are e = after (11 ∷ []) bytes left (seen_ends (λ r. fn_ptr r.0 (forms_of r.1)) (both_at text_at (counted_at value)) (both_ends counted_bytes TextFits text_at (counted_at value) text_takes text_ends (counted_ends spelled Inner value takes ends)) bytes fault left are e)
  behind_ends (suc (suc (suc (suc (suc (suc (suc (suc (suc (suc (suc (suc zero)))))))))))) bytes fault left are e = after (12 ∷ []) bytes left (seen_ends shared value ends bytes fault left are e)
  behind_ends (suc (suc (suc (suc (suc (suc (suc (suc (suc (suc (suc (suc (suc zero))))))))))))) bytes fault left are e = after (13 ∷ []) bytes left (seen_ends float number_at number_ends bytes fault left are e)
  behind_ends (suc (suc (suc (suc (suc (suc (suc (suc (suc (suc (suc (suc (suc (suc n)))))))))))))) bytes fault left are e = at_whole ((suc (suc (suc (suc (suc (suc (suc (suc (suc (suc (suc (suc (suc (suc n)))))))))))))) ∷ bytes) UnknownTag fault left (err_is {A = Form × List ℕ} {E = LocatedFault} (UnknownTag, (suc (suc (suc (suc (suc (suc (suc (suc (suc (suc (suc (suc (suc (suc n)))))))))))))) ∷ bytes) (fault, left) e)

pub value_ends : (depth : ℕ) → Ends (value_at depth)
unfolding value_at
value_ends zero bytes fault left are e = at_whole bytes TooDeep fault left (err_is {A = Form × List ℕ} {E = LocatedFault} (TooDeep, bytes) (fault, left) e)
value_ends (suc depth) [] fault left are e = at_whole [] Truncated fault left (err_is {A = Form × List ℕ} {E = LocatedFault} (Truncated, []) (fault, left) e)
value_ends (suc depth) (tag ∷ bytes) fault left are e =
    behind_ends (value_at depth) (FitsWithin depth) (value_takes depth) (value_ends depth) tag bytes fault left (tail_are_bytes tag bytes are) e
