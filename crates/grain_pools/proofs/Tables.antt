-- A table of names, read by index.
use Rattle.std.proofs.Common.{◌≡◌, ℕ, zero, suc, ◌+◌, ◌-◌, ◌≤◌, List, [], ◌∷◌, ◌++◌, Bool, true, false, length, drop, slice_get}
use Rattle.std.proofs.Common.{Option, Some, None, Result, Ok, Err, MatchResult, refl, sym, ap, ◌∙◌, arith, add-one, cond, ◌||◌, nat_lt, nat_eq}
use Rattle.std.specs.Cmp.{first_so, second_so}
use Rattle.std.specs.List.{concat, list_all}
use Rattle.std.specs.Str.{IsUtf8, is_utf8}
use Rattle.std.proofs.Math.Seq.{drop-append_seam, take-append_seam}
use Rattle.std.proofs.lemmas.Grind.{common_steps}
use Rattle.std.proofs.lemmas.List.{drop-drop, drop_all, take-append-drop}
use Rattle.std.proofs.lemmas.Bool.Decides.{nat_tests}
use Rattle.std.specs.Option.{option_or}
use Rattle.std.specs.Result.{is_ok}
use Rattle.grain_pools.specs.declared.strings.BadTable.{BadTable}
use Rattle.grain_pools.specs.declared.strings.BadTable.TheVariants.{NoTerminator, SpanOutOfRange, NotUtf8, TrailingBytes}
use Rattle.std.proofs.lemmas.Str.{IsUtf8-from_is_utf8, is_utf8-from_IsUtf8}
use Rattle.grain_pools.specs.Names.{span, span_flaw, flaw_from, first_flaw, names_from, names_in, starts_of, IsTable}

pub length-starts_of : (n : ℕ) (xs : List (List ℕ)) → length (starts_of n xs) ≡ length xs + 1
length-starts_of n [] = refl
length-starts_of n (x ∷ xs) = omega (arith, length-starts_of (n + length x) xs)

first_start : (n : ℕ) (xs : List (List ℕ)) → slice_get (starts_of n xs) 0 ≡ Some n
first_start n [] = refl
first_start n (x ∷ xs) = refl

-- two starts in a row, and the name between them
pub record IsSpan (blob : List ℕ) (xs : List (List ℕ)) (i from to : ℕ) : Type 0 where
  pub in_order : from ≤ to
  pub inside : to ≤ length blob
  pub name : slice_get xs i ≡ Some (span blob from to)

pub here : (blob x ys : List ℕ) (n : ℕ) → n ≤ length blob → drop n blob ≡ x ++ ys → span blob n (n + length x) ≡ x
here blob x ys n h e = let m : n + length x - n ≡ length x = omega arith in rw (m, e, take-append_seam)

pub rest_is : (blob x ys : List ℕ) (n : ℕ) → drop n blob ≡ x ++ ys → drop (n + length x) blob ≡ ys
rest_is blob x ys n e = sym (drop-drop (length x) n blob) ∙ rw (e, drop-append_seam)

pub longer : (blob x ys : List ℕ) (n : ℕ) → n ≤ length blob → drop n blob ≡ x ++ ys → n + length x ≤ length blob
longer blob x ys n h e = let k : length (drop n blob) ≡ length (x ++ ys) = ap length e in grind (arith, common_steps)

span_after : (blob : List ℕ) (n : ℕ) (xs : List (List ℕ)) (i from to : ℕ) → n ≤ length blob → drop n blob ≡ concat xs
    → slice_get (starts_of n xs) i ≡ Some from → slice_get (starts_of n xs) (suc i) ≡ Some to → IsSpan blob xs i from to
span_after blob n [] zero from to h e p q = absurd (cc)
span_after blob n [] (suc i) from to h e p q = absurd (cc)
span_after blob n (x ∷ xs) zero from to h e p q =
    let a : n ≡ from = cc in
    let b : n + length x ≡ to = cc (first_start (n + length x) xs) in
    record {
      in_order = omega arith;
      inside = rw (← b) (longer blob x (concat xs) n h e);
      name = rw (← a, ← b) (ap (λ (y : List ℕ). Some y) (sym (here blob x (concat xs) n h e)));
    }
span_after blob n (x ∷ xs) (suc i) from to h e p q =
    let k = span_after blob (n + length x) xs i from to (longer blob x (concat xs) n h e) (rest_is blob x (concat xs) n e) p q in
    record { in_order = k.in_order; inside = k.inside; name = k.name }

pub span_of : (blob starts : List ℕ) → IsTable blob starts → (i from to : ℕ) → slice_get starts i ≡ Some from → slice_get starts (i + 1) ≡ Some to → IsSpan blob (names_in blob starts) i from to
span_of blob starts t i from to p q =
    span_after blob 0 (names_in blob starts) i from to (omega arith) t.blob_is (rw t.starts_are at p) (rw (t.starts_are, add-one) at q)

-- past the last name there is no second start
past_after : (n : ℕ) (xs : List (List ℕ)) (i : ℕ) → slice_get (starts_of n xs) (suc i) ≡ None → slice_get xs i ≡ None
past_after n [] i h = refl
past_after n (x ∷ xs) zero h = absurd (cc (first_start (n + length x) xs))
past_after n (x ∷ xs) (suc i) h = past_after (n + length x) xs i h

pub past_of : (blob starts : List ℕ) → IsTable blob starts → (i : ℕ) → slice_get starts (i + 1) ≡ None → slice_get (names_in blob starts) i ≡ None
past_of blob starts t i h = past_after 0 (names_in blob starts) i (rw (t.starts_are, add-one) at h)

-- where there is no start at i, there is none after it
none_later : (ss : List ℕ) (i : ℕ) → slice_get ss i ≡ None → slice_get ss (suc i) ≡ None
none_later [] i h = refl
none_later (s ∷ ss) zero h = absurd (cc)
none_later (s ∷ ss) (suc i) h = none_later ss i h

pub past_before : (blob starts : List ℕ) → IsTable blob starts → (i : ℕ) → slice_get starts i ≡ None → slice_get (names_in blob starts) i ≡ None
past_before blob starts t i h = past_of blob starts t i (rw add-one (none_later starts i h))

utf8_at : (xs : List (List ℕ)) (i : ℕ) (y : List ℕ) → list_all is_utf8 xs ≡ true → slice_get xs i ≡ Some y → is_utf8 y ≡ true
utf8_at [] i y h e = absurd (cc)
utf8_at (x ∷ xs) zero y h e = let same : x ≡ y = cc in rw (← same) (first_so (is_utf8 x) (list_all is_utf8 xs) h)
utf8_at (x ∷ xs) (suc i) y h e = utf8_at xs i y (second_so (is_utf8 x) (list_all is_utf8 xs) h) e

pub text_of : (blob starts : List ℕ) → IsTable blob starts → (i from to : ℕ) → IsSpan blob (names_in blob starts) i from to → IsUtf8 (span blob from to)
text_of blob starts t i from to s = IsUtf8-from_is_utf8 (span blob from to) (utf8_at (names_in blob starts) i (span blob from to) t.texts s.name)

-- the answer of the kit's reader, as a test
pub is_ok-text : {T E : Type 0} (A : T → Type 0) (B : E → Type 0) (bs : List ℕ) (r : Result T E) → MatchResult r (λ s. A s × IsUtf8 bs) (λ e. ¬ (IsUtf8 bs) × B e) → is_ok r ≡ is_utf8 bs
is_ok-text A B bs (Ok s) h = sym (is_utf8-from_IsUtf8 bs h.1)
is_ok-text A B bs (Err e) h = at (is_utf8 bs) refl
  where
    at : (b : Bool) → is_utf8 bs ≡ b → false ≡ is_utf8 bs
    at true e = absurd (h.0 (IsUtf8-from_is_utf8 bs e))
    at false e = sym e

or_none : (f g : Option BadTable) → option_or f g ≡ None → (f ≡ None) × (g ≡ None)
or_none None g h = (refl, h)
or_none (Some x) g h = absurd (cc)

flawless : (out text : Bool) (a b : BadTable) → cond out (Some a) (cond text None (Some b)) ≡ None → (out ≡ false) × (text ≡ true)
flawless true text a b h = absurd (cc)
flawless false true a b h = (refl, refl)
flawless false false a b h = absurd (cc)

neither : (a b : Bool) → (a || b) ≡ false → (a ≡ false) × (b ≡ false)
neither true b h = absurd (cc)
neither false b h = (refl, h)

pub record IsGoodSpan (blob : List ℕ) (from to : ℕ) : Type 0 where
  pub in_order : from ≤ to
  pub inside : to ≤ length blob
  pub text : is_utf8 (span blob from to) ≡ true

good_span : (blob : List ℕ) (from to : ℕ) → span_flaw blob from to ≡ None → IsGoodSpan blob from to
good_span blob from to h =
    let f = flawless (nat_lt to from || nat_lt (length blob) to) (is_utf8 (span blob from to)) (SpanOutOfRange from to) (NotUtf8 from) h in
    let n = neither (nat_lt to from) (nat_lt (length blob) to) f.0 in
    record { in_order = grind (arith, nat_tests, n.0); inside = grind (arith, nat_tests, n.1); text = f.1 }

-- what the starts from one on make of the rest of the blob
pub record IsTableFrom (blob : List ℕ) (from : ℕ) (starts : List ℕ) : Type 0 where
  pub starts_are : from ∷ starts ≡ starts_of from (names_from blob from starts)
  pub blob_is : drop from blob ≡ concat (names_from blob from starts)
  pub texts : list_all is_utf8 (names_from blob from starts) ≡ true

ends : (blob : List ℕ) (from : ℕ) (b : Bool) → nat_eq from (length blob) ≡ b → cond b None (Some TrailingBytes) ≡ None → from ≡ length blob
ends blob from true e h = grind (arith, nat_tests)
ends blob from false e h = absurd (cc)

table_from : (blob : List ℕ) (from : ℕ) (starts : List ℕ) → flaw_from blob from starts ≡ None → IsTableFrom blob from starts
table_from blob from [] h =
    let e : from ≡ length blob = ends blob from (nat_eq from (length blob)) refl h in
    record { starts_are = refl; blob_is = drop_all from blob (omega arith); texts = refl }
table_from blob from (to ∷ starts) h =
    let f = or_none (span_flaw blob from to) (flaw_from blob to starts) h in
    let g = good_span blob from to f.0 in
    let t = table_from blob to starts f.1 in
    let long : length (span blob from to) ≡ to - from = (let l : length blob - from ≡ length (drop from blob) = grind (arith, common_steps) in grind (arith, common_steps, g.in_order, g.inside)) in
    let next : from + length (span blob from to) ≡ to = omega (arith, g.in_order, long) in
    let cut : drop from blob ≡ span blob from to ++ drop to blob =
    sym (take-append-drop (to - from) (drop from blob)) ∙ ap (λ (r : List ℕ). span blob from to ++ r) (drop-drop (to - from) from blob ∙ ap (λ (k : ℕ). drop k blob) (omega (arith, g.in_order)))
    in record {
      starts_are = rw next (ap (λ (r : List ℕ). from ∷ r) t.starts_are);
      blob_is = cut ∙ ap (λ (r : List ℕ). span blob from to ++ r) t.blob_is;
      texts = rw g.text t.texts;
    }

begins : (n : ℕ) (b : Bool) (o : Option BadTable) → nat_eq n 0 ≡ b → cond b o (Some NoTerminator) ≡ None → n ≡ 0
begins n true o e h = grind (arith, nat_tests)
begins n false o e h = absurd (cc)

pub table_of : (blob starts : List ℕ) → first_flaw blob starts ≡ None → IsTable blob starts
table_of blob [] h = absurd (cc)
table_of blob (zero ∷ starts) h =
    let t = table_from blob 0 starts h in
    record { starts_are = t.starts_are; blob_is = t.blob_is; texts = t.texts }
table_of blob (suc n ∷ starts) h = let e : suc n ≡ 0 = begins (suc n) (nat_eq (suc n) 0) (flaw_from blob (suc n) starts) refl h in absurd (omega arith)
