-- Fields read from bytes. A tag and the bytes of its fields are an instruction, and bytes begin with one at most.
use Rattle.std.proofs.Common.{◌≡◌, ℕ, zero, suc, ◌<◌, ◌≤◌, ◌^◌, List, [], ◌∷◌, ◌++◌, length, take, drop, get_or, map, Option, Some, None, refl, sym, ap, ◌∙◌, arith, append_assoc}
use Rattle.std.specs.Prelude.{sum_by, MatchOption}
use Rattle.std.specs.Option.{option_map}
use Rattle.std.specs.Int.{w16, w32, from_le_bytes, to_le_bytes}
use Rattle.std.specs.List.{flat_map, AllByRecursion}
use Rattle.std.proofs.Math.Path.{fun_ext}
use Rattle.std.proofs.lemmas.Nat.{le_bytes_2, le_bytes_4, from_le_bytes-to_le_bytes_2, from_le_bytes-to_le_bytes_4}
use Rattle.std.proofs.lemmas.List.{length-drop, take-append-drop, drop_at}
use Rattle.std.proofs.lemmas.List.Concat.{flat_map-cons}
use Rattle.std.proofs.lemmas.List.Sums.{sum_by-cons}
use Rattle.grain_code.specs.declared.op.Op.{Op}
use Rattle.grain_code.specs.declared.field.Field.{Field}
use Rattle.grain_code.specs.declared.field.Field.TheVariants.{Index, Slot, Count, Target}
use Rattle.grain_code.specs.InstructionTable.{bytes_of, FieldFits, form, canon, spelling, Instr}
use Rattle.grain_code.proofs.Rows.{Letter, index, slot, count, target, field, letter_of, value_of, letter_size, fields, Row, row_of, values_of, IsRowOf, again}
use Rattle.grain_code.proofs.Canonical.{canon_same}

-- every element is a byte
abbrev pub IsBytes : List ℕ → Type 0
IsBytes xs = (i : ℕ) → get_or xs i 0 < 256

pub bytes_taken : (n : ℕ) (xs : List ℕ) → IsBytes xs → IsBytes (take n xs)
bytes_taken zero xs all i = omega arith
bytes_taken (suc n) [] all i = omega arith
bytes_taken (suc n) (x ∷ xs) all zero = all 0
bytes_taken (suc n) (x ∷ xs) all (suc i) = bytes_taken n xs (λ j. all (suc j)) i

pub bytes_dropped : (n : ℕ) (xs : List ℕ) → IsBytes xs → IsBytes (drop n xs)
bytes_dropped zero xs all = all
bytes_dropped (suc n) [] all = all
bytes_dropped (suc n) (x ∷ xs) all = bytes_dropped n xs (λ i. all (suc i))

-- the value of a field that begins the bytes
abbrev value : Letter → List ℕ → ℕ
value (index pool) bytes = from_le_bytes w16 bytes
value slot bytes = from_le_bytes w16 bytes
value count bytes = get_or bytes 0 0
value target bytes = from_le_bytes w32 bytes

abbrev in_front : ℕ → (ℕ → ℕ) → ℕ → ℕ
in_front x v zero = x
in_front x v (suc i) = v i

-- the values of fields, one after another
abbrev pub values : List Letter → List ℕ → ℕ → ℕ
values [] bytes = λ i. 0
values (letter ∷ letters) bytes = in_front (value letter bytes) (values letters (drop (letter_size letter) bytes))

two : (bytes : List ℕ) → IsBytes bytes → 2 ≤ length bytes → (to_le_bytes w16 (from_le_bytes w16 bytes) ≡ take 2 bytes) × (from_le_bytes w16 bytes < 2 ^ 16)
two [] all long = absurd (omega arith)
two (a ∷ []) all long = absurd (omega arith)
two (a ∷ b ∷ rest) all long = (le_bytes_2 (a ∷ b ∷ []) (from_le_bytes w16 (a ∷ b ∷ rest)) refl (bytes_taken 2 (a ∷ b ∷ rest) all) refl, omega (arith, all 0, all 1))

four : (bytes : List ℕ) → IsBytes bytes → 4 ≤ length bytes → (to_le_bytes w32 (from_le_bytes w32 bytes) ≡ take 4 bytes) × (from_le_bytes w32 bytes < 2 ^ 32)
four [] all long = absurd (omega arith)
four (a ∷ []) all long = absurd (omega arith)
four (a ∷ b ∷ []) all long = absurd (omega arith)
four (a ∷ b ∷ c ∷ []) all long = absurd (omega arith)
four (a ∷ b ∷ c ∷ d ∷ rest) all long = (le_bytes_4 (a ∷ b ∷ c ∷ d ∷ []) (from_le_bytes w32 (a ∷ b ∷ c ∷ d ∷ rest)) refl (bytes_taken 4 (a ∷ b ∷ c ∷ d ∷ rest) all) refl, omega (arith, all 0, all 1, all 2, all 3))

one : (bytes : List ℕ) → IsBytes bytes → 1 ≤ length bytes → (get_or bytes 0 0 ∷ [] ≡ take 1 bytes) × (get_or bytes 0 0 < 2 ^ 8)
one [] all long = absurd (omega arith)
one (a ∷ rest) all long = (refl, all 0)

-- the value that is read is spelled by the bytes that it was read from
spelled_there : (letter : Letter) (bytes : List ℕ) → IsBytes bytes → letter_size letter ≤ length bytes
    → (bytes_of (field letter (value letter bytes)) ≡ take (letter_size letter) bytes) × FieldFits (field letter (value letter bytes))
spelled_there (index pool) = two
spelled_there slot = two
spelled_there count = one
spelled_there target = four

-- as many bytes as fields take spell the values that are read from them
pub spelled_all : (letters : List Letter) (bytes : List ℕ) → IsBytes bytes → length bytes ≡ sum_by letter_size letters
    → (bytes ≡ flat_map bytes_of (fields letters (values letters bytes))) × AllByRecursion FieldFits (fields letters (values letters bytes))
spelled_all [] [] all long = (refl, tt)
spelled_all [] (x ∷ xs) all long = absurd (omega arith)
spelled_all (letter ∷ letters) bytes all long =
    let n = letter_size letter in
    let sizes = sum_by-cons letter_size letter letters in
    let here = spelled_there letter bytes all (omega arith) in
    let more = spelled_all letters (drop n bytes) (bytes_dropped n bytes all) (omega (arith, length-drop n bytes)) in (
      sym (take-append-drop n bytes) ∙ ap (λ front. front ++ drop n bytes) (sym here.0) ∙ ap (λ rest. bytes_of (field letter (value letter bytes)) ++ rest) more.0 ∙ sym (flat_map-cons bytes_of _ _),
      (here.1, more.1),
    )

-- the value that was written is read again
value_again : (f : Field) (rest : List ℕ) → FieldFits f → value (letter_of f) (bytes_of f ++ rest) ≡ value_of f
value_again (Index pool x) rest fits = from_le_bytes-to_le_bytes_2 x fits
value_again (Slot x) rest fits = from_le_bytes-to_le_bytes_2 x fits
value_again (Count x) rest fits = refl
value_again (Target x) rest fits = from_le_bytes-to_le_bytes_4 x fits

-- a field takes as many bytes as its size says
pub bytes_size : (f : Field) → length (bytes_of f) ≡ letter_size (letter_of f)
bytes_size (Index pool x) = refl
bytes_size (Slot x) = refl
bytes_size (Count x) = refl
bytes_size (Target x) = refl

behind : (f : Field) (rest : List ℕ) → drop (letter_size (letter_of f)) (bytes_of f ++ rest) ≡ rest
behind f rest = drop_at (bytes_of f) rest (letter_size (letter_of f)) (bytes_size f)

pub values_again : (fs : List Field) (rest : List ℕ) → AllByRecursion FieldFits fs → (i : ℕ) → values (map letter_of fs) (flat_map bytes_of fs ++ rest) i ≡ get_or (map value_of fs) i 0
values_again [] rest fits i = refl
values_again (f ∷ fs) rest fits zero = rw (flat_map-cons bytes_of f fs, append_assoc) (value_again f (flat_map bytes_of fs ++ rest) fits.0)
values_again (f ∷ fs) rest fits (suc i) =
    rw (flat_map-cons bytes_of f fs, append_assoc (bytes_of f) (flat_map bytes_of fs) rest, behind f (flat_map bytes_of fs ++ rest)) (values_again fs rest fits.1 i)

abbrev read : List ℕ → Option Op
read [] = None
read (tag ∷ rest) = option_map (λ r. r.op (values r.letters rest)) (row_of tag)

pub found_row : (o : Option Row) (P : Row → Type 0) → MatchOption o ⊥ P → (r : Row) × (o ≡ Some r) × P r
found_row None P h = absurd h
found_row (Some r) P h = (r, refl, h)

-- what was written is read again, whatever follows it
read_again : (op : Op) (rest : List ℕ) → AllByRecursion FieldFits (form op).1 → read (spelling op ++ rest) ≡ Some (canon op)
read_again op rest fits =
    let row = found_row (row_of (form op).0) (IsRowOf op) (again op) in
    let bytes = flat_map bytes_of (form op).1 ++ rest in
    let same : values row.0.letters bytes ≡ values_of op = ap (λ letters. values letters bytes) row.2.0 ∙ fun_ext (values_again (form op).1 rest fits) in
    ap (option_map (λ (r : Row). r.op (values r.letters bytes))) row.1 ∙ ap (λ v. Some (row.0.op v)) same ∙ ap Some row.2.1

-- no instruction begins another
pub one_instruction : (a b x y : List ℕ) (op other : Op) → Instr a op → Instr b other → a ++ x ≡ b ++ y → (a ≡ b) × (op ≡ other)
one_instruction a b x y op other h h' e =
    let here : read (a ++ x) ≡ Some op = ap (λ s. read (s ++ x)) h.spelled ∙ read_again op x h.fit ∙ ap Some (canon_same op h.unwritten) in
    let there : read (b ++ y) ≡ Some other = ap (λ s. read (s ++ y)) h'.spelled ∙ read_again other y h'.fit ∙ ap Some (canon_same other h'.unwritten) in
    let same : op ≡ other = let both : Some op ≡ Some other = sym here ∙ ap read e ∙ there in cc in
    (h.spelled ∙ ap spelling same ∙ sym h'.spelled, same)

-- bytes are one instruction at most
pub same_instruction : (bytes : List ℕ) (op other : Op) → Instr bytes op → Instr bytes other → op ≡ other
same_instruction bytes op other h k = (one_instruction bytes bytes [] [] op other h k refl).1
