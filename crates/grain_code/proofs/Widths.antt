-- The width of a tag is that of each instruction with it, and as many bytes behind a tag are an instruction.
use Rattle.std.proofs.Common.{◌≡◌, ◌≢◌, ℕ, zero, suc, ◌+◌, ◌-◌, ◌<◌, ◌≤◌, ◌⊎◌, inl, inr, List, [], ◌∷◌, length, take, drop, get_or, map, Option, Some, None, refl, sym, ap, subst, ◌∙◌, arith, add-one, drop-cons}
use Rattle.std.specs.Prelude.{sum_by, replicate}
use Rattle.std.specs.List.{AllByRecursion, Contains, flat_map}
use Rattle.std.specs.Option.{option_map_or}
use Rattle.std.proofs.lemmas.Bool.{eqb-true}
use Rattle.std.proofs.lemmas.List.{get_or-map, length-take, length-drop, length-replicate}
use Rattle.std.proofs.lemmas.List.FromFn.{get_or-map-range_with_len}
use Rattle.std.proofs.lemmas.List.Sums.{sum_by-cons}
use Rattle.std.proofs.lemmas.Map.Views.{Contains-from_lookup}
use Rattle.grain_code.specs.declared.op.Op.{Op}
use Rattle.grain_code.specs.declared.field.Field.{Field}
use Rattle.grain_code.specs.declared.field.Field.TheVariants.{Index, Slot, Count, Target}
use Rattle.grain_code.specs.declared.tag_table.TagRow.{TagRow}
use Rattle.grain_code.specs.declared.tag_table.TheConstants.{TAG_ROWS}
use Rattle.grain_code.specs.InstructionTable.{FieldFits, IsDecoded, bytes_of, encoding, size_of, form, canon, spelling, width_of, Instr}
use Rattle.grain_code.specs.Split.{StandsAt, NoneStandsAt}
use Rattle.grain_code.proofs.Canonical.{flags_decoded}
use Rattle.grain_code.proofs.Rows.{letter_of, letter_size, fields, Row, rows, row_of, IsRowOf, again, written, canonical, row_width, tag_width, widths}
use Rattle.grain_code.proofs.Instructions.{instr_width, instr_along, begins_fits}
use Rattle.grain_code.proofs.FieldBytes.{IsBytes, bytes_taken, bytes_dropped, values, spelled_all, found_row}

letter_sizes : (fs : List Field) → sum_by letter_size (map letter_of fs) ≡ sum_by size_of fs
letter_sizes [] = refl
letter_sizes (f ∷ fs) =
    sum_by-cons letter_size (letter_of f) (map letter_of fs) ∙ ap (λ n. letter_size (letter_of f) + n) (letter_sizes fs) ∙ ap (λ n. n + sum_by size_of fs) (same f) ∙ sym (sum_by-cons size_of f fs) where
      same : (f : Field) → letter_size (letter_of f) ≡ size_of f
      same (Index pool x) = refl
      same (Slot x) = refl
      same (Count x) = refl
      same (Target x) = refl

pub width_is : (op : Op) → tag_width (form op).0 ≡ width_of op
width_is op =
    let row = found_row (row_of (form op).0) (IsRowOf op) (again op) in
    ap (λ o. option_map_or row_width o 0) row.1 ∙ ap (λ letters. sum_by letter_size letters + 1) row.2.0 ∙ ap (λ n. n + 1) (letter_sizes (form op).1)

table_is : (tag : ℕ) (d : TagRow) → tag < 256 → (get_or TAG_ROWS tag d).width ≡ tag_width tag
table_is tag d small =
    sym (get_or-map (λ (r : TagRow). r.width) TAG_ROWS tag d 0 small) ∙ ap (λ xs. get_or xs tag 0) widths ∙ get_or-map-range_with_len tag_width 0 256 tag tag 0 small (omega arith)

-- a row of the table has the width of its tag
pub row_is : (tag : ℕ) (r : TagRow) → tag < 256 → ((d : TagRow) → r ≡ get_or TAG_ROWS tag d) → r.width ≡ tag_width tag
row_is tag r small is = ap (λ (row : TagRow). row.width) (is r) ∙ table_is tag r small

-- what two functions alike on a list give of its elements
alike : {X Y : Type 0} (f g : X → Y) (xs : List X) (x : X) → map f xs ≡ map g xs → Contains xs x → f x ≡ g x
alike f g xs x e at =
    let here : get_or xs at.0 x ≡ x = at.2 in
    sym (get_or-map f xs at.0 x (f x) at.1 ∙ ap f here) ∙ ap (λ ys. get_or ys at.0 (f x)) e ∙ get_or-map g xs at.0 x (f x) at.1 ∙ ap g here

in_rows : (tag : ℕ) (r : Row) → row_of tag ≡ Some r → Contains rows (tag, r)
in_rows tag r e = Contains-from_lookup eqb-true tag r rows e

wide_row : (tag n : ℕ) (o : Option Row) → option_map_or row_width o 0 ≡ n + 1 → (r : Row) × (o ≡ Some r) × (sum_by letter_size r.letters ≡ n)
wide_row tag n None e = absurd (omega arith)
wide_row tag n (Some r) e = (r, refl, omega arith)

-- a tag and as many bytes as belong to it are an instruction
pub is_instruction : (tag : ℕ) (operands : List ℕ) → IsBytes operands → tag_width tag ≡ length operands + 1 → (op : Op) × Instr (tag ∷ operands) op
is_instruction tag operands all wide =
    let row = wide_row tag (length operands) (row_of tag) wide in
    let at = in_rows tag row.0 row.1 in
    let v = values row.0.letters operands in
    let there = spelled_all row.0.letters operands all (sym row.2) in
    let form_is : form (row.0.op v) ≡ (tag, fields row.0.letters v) = alike (λ (e : ℕ × Row). form (e.1.op v)) (λ e. (e.0, fields e.1.letters v)) rows (tag, row.0) (written v) at in (
      row.0.op v,
      record {
        unwritten = subst (λ (o : Op). AllByRecursion IsDecoded (encoding o).2) (alike (λ (e : ℕ × Row). canon (e.1.op v)) (λ e. e.1.op v) rows (tag, row.0) (canonical v) at) (flags_decoded (λ t. t) (row.0.op v));
        fit = subst (λ (p : ℕ × List Field). AllByRecursion FieldFits p.1) (sym form_is) there.1;
        spelled = ap (λ xs. tag ∷ xs) there.0 ∙ ap (λ (p : ℕ × List Field). p.0 ∷ flat_map bytes_of p.1) (sym form_is);
      },
    )

zeros_are_bytes : (n : ℕ) → IsBytes (replicate n 0)
zeros_are_bytes zero i = omega arith
zeros_are_bytes (suc n) zero = omega arith
zeros_are_bytes (suc n) (suc i) = zeros_are_bytes n i

-- a tag that no operation has is no bytes wide
pub untaken_width : (tag : ℕ) → ((op : Op) → (form op).0 ≢ tag) → tag_width tag ≡ 0
untaken_width tag none = of_width (tag_width tag) refl
  where
    of_width : (w : ℕ) → tag_width tag ≡ w → w ≡ 0
    of_width zero is = refl
    of_width (suc n) is =
        let long : suc n ≡ length (replicate n 0) + 1 = omega (arith, length-replicate {A = ℕ} n 0) in
        let it = is_instruction tag (replicate n 0) (zeros_are_bytes n) (is ∙ long) in
        absurd (none it.0 (sym (ap (λ (bytes : List ℕ). get_or bytes 0 0) it.1.spelled)))

front_is : (tag n : ℕ) (rest : List ℕ) → take (n + 1) (tag ∷ rest) ≡ tag ∷ take n rest
front_is tag n rest = rw add-one refl

-- the instruction that a tag at an address and the bytes behind it are stands there
stands_of : (code : List ℕ) (at n : ℕ) (op : Op) → at < length code → length (take n (drop (suc at) code)) ≡ n → Instr (get_or code at 0 ∷ take n (drop (suc at) code)) op → StandsAt code at op × (suc n ≡ width_of op)
stands_of code at n op inside long is =
    let tag = get_or code at 0 in
    let rest = drop (suc at) code in
    let wide : suc n ≡ width_of op = omega (arith, instr_width (tag ∷ take n rest) op is) in
    let bytes : tag ∷ take n rest ≡ take (width_of op) (drop at code) = ap (take (suc n)) (sym (drop-cons code at 0 inside)) ∙ ap (λ k. take k (drop at code)) wide in
    (instr_along (tag ∷ take n rest) (take (width_of op) (drop at code)) op bytes is, wide)

-- an instruction as wide as its tag says stands at an address
pub stands_at : (code : List ℕ) (at w : ℕ) → IsBytes code → at < length code → w ≡ tag_width (get_or code at 0) → 0 < w → w ≤ length code - at → (op : Op) × StandsAt code at op × (w ≡ width_of op)
stands_at code at zero all inside e some fits = absurd (omega arith)
stands_at code at (suc n) all inside e some fits =
    let tag = get_or code at 0 in
    let rest = drop (suc at) code in
    let long : length (take n rest) ≡ n = omega (arith, length-take n rest, length-drop (suc at) code) in
    let is = is_instruction tag (take n rest) (bytes_taken n rest (bytes_dropped (suc at) code all)) (sym e ∙ omega arith) in
    let there = stands_of code at n is.0 inside long is.1 in
    (is.0, there.0, there.1)

-- the tag of the instruction that stands at an address is the byte there
pub tag_is : (code : List ℕ) (at : ℕ) (op : Op) → at < length code → StandsAt code at op → get_or code at 0 ≡ (form op).0
tag_is code at op inside h =
    let bytes : take (width_of op) (drop at code) ≡ get_or code at 0 ∷ take (sum_by size_of (form op).1) (drop (suc at) code) =
    ap (take (width_of op)) (drop-cons code at 0 inside) ∙ front_is (get_or code at 0) (sum_by size_of (form op).1) (drop (suc at) code) in
    let same : get_or code at 0 ∷ take (sum_by size_of (form op).1) (drop (suc at) code) ≡ spelling op = sym bytes ∙ h.spelled in
    cc

-- none stands at an address whose byte is no tag, or from which on there are too few bytes
pub none_at : (code : List ℕ) (at : ℕ) → IsBytes code → at < length code → (tag_width (get_or code at 0) ≡ 0) ⊎ (length code - at < tag_width (get_or code at 0)) → NoneStandsAt code at
none_at code at all inside why op h =
    let wide : tag_width (get_or code at 0) ≡ width_of op = ap tag_width (tag_is code at op inside h) ∙ width_is op in
    let fits = begins_fits (drop at code) op h in
    elim why [ inl none ↦ absurd (omega arith) | inr short ↦ absurd (omega (arith, length-drop at code)) ]

-- an instruction that stands in code ends in it
pub standing_fits : (code : List ℕ) (at : ℕ) (op : Op) → StandsAt code at op → (0 < width_of op) × (at < length code) × (at + width_of op ≤ length code)
standing_fits code at op h = let fits = begins_fits (drop at code) op h in let l = length-drop at code in (omega arith, omega arith, omega arith)

-- the width of the tag is that of the instruction that stands there
pub standing_wide : (code : List ℕ) (at : ℕ) (op : Op) → StandsAt code at op → tag_width (get_or code at 0) ≡ width_of op
standing_wide code at op h = ap tag_width (tag_is code at op (standing_fits code at op h).1 h) ∙ width_is op
