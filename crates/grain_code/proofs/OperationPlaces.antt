-- Where assembled operations stand.
use Rattle.std.proofs.Common.{◌≡◌, ℕ, zero, suc, ◌+◌, List, [], ◌∷◌, ◌++◌, length, map, drop, get_or, Some, refl, sym, ap, subst, ◌∙◌, append_assoc, add-zero, arith}
use Rattle.std.specs.Prelude.{sum_by, slice_get, slice_index}
use Rattle.std.specs.List.{flat_map, AllByRecursion}
use Rattle.std.proofs.lemmas.List.{length-append, map-append, append-nil, drop_at}
use Rattle.std.proofs.lemmas.List.Sums.{sum_by-cons}
use Rattle.std.proofs.lemmas.List.Concat.{flat_map-cons}
use Rattle.std.proofs.lemmas.Grind.{flat_map-append}
use Rattle.grain_code.specs.declared.op.Op.{Op}
use Rattle.grain_code.specs.InstructionTable.{FieldFits, form, spelling, width_of}
use Rattle.grain_code.specs.Split.{Begins, IsInstruction, AreInstructions, starts_from, Split, StandsAt}
use Rattle.grain_code.specs.Assembly.{assembled, offsets_from, IsAssembly}
use Rattle.grain_code.proofs.Instructions.{spelling_width, begins_spelling}
use Rattle.grain_code.proofs.Canonical.{flags_decoded, width_assembled}
use Rattle.grain_code.proofs.Splits.{each_more}

-- the offsets are the starts of what is assembled, and the end
offsets_are : (table : List ℕ) (at : ℕ) (ops : List Op) → offsets_from at ops ≡ starts_from at (map (assembled table) ops) ++ (at + sum_by width_of ops) ∷ []
offsets_are table at [] = ap (λ n. n ∷ []) (sym (add-zero at))
offsets_are table at (op ∷ ops) =
    let more = offsets_are table (at + width_of op) ops in
    let end : (at + width_of op) + sum_by width_of ops ≡ at + sum_by width_of (op ∷ ops) = omega (arith, sum_by-cons width_of op ops) in
    ap (λ xs. at ∷ xs) (more ∙ ap (λ n. starts_from (at + width_of op) (map (assembled table) ops) ++ n ∷ []) end
    ∙ ap (λ n. starts_from (at + n) (map (assembled table) ops) ++ (at + sum_by width_of (op ∷ ops)) ∷ []) (sym (width_assembled table op)))

code_length : (table : List ℕ) (ops : List Op) → length (flat_map spelling (map (assembled table) ops)) ≡ sum_by width_of ops
code_length table [] = refl
code_length table (op ∷ ops) =
    let here = assembled table op in
    ap length (flat_map-cons spelling here (map (assembled table) ops))
    ∙ omega (arith, length-append (spelling here) (flat_map spelling (map (assembled table) ops)), spelling_width here, width_assembled table op, code_length table ops, sum_by-cons width_of op ops)

-- an operation that was assembled stands at its offset
placed : (table pre : List ℕ) (ops : List Op) (i : ℕ) (op : Op) → AllByRecursion IsInstruction (map (assembled table) ops) → slice_get ops i ≡ Some op
    → StandsAt (pre ++ flat_map spelling (map (assembled table) ops)) (get_or (offsets_from (length pre) ops) i 0) (assembled table op)
placed table pre [] i op all e = absurd cc
placed table pre (o ∷ os) zero op all e =
    let same : o ≡ op = cc in
    let rest = flat_map spelling (map (assembled table) os) in
    let bytes : drop (length pre) (pre ++ flat_map spelling (map (assembled table) (o ∷ os))) ≡ spelling (assembled table o) ++ rest =
    drop_at pre _ (length pre) refl ∙ flat_map-cons spelling (assembled table o) (map (assembled table) os) in
    subst (λ p. StandsAt (pre ++ flat_map spelling (map (assembled table) (o ∷ os))) (length pre) (assembled table p)) same
    (subst (λ (b : List ℕ). Begins b (assembled table o)) (sym bytes) (begins_spelling (assembled table o) rest all.0))
placed table pre (o ∷ os) (suc i) op all e =
    let here = spelling (assembled table o) in
    let wide : length (pre ++ here) ≡ length pre + width_of o = omega (arith, length-append pre here, spelling_width (assembled table o), width_assembled table o) in
    let bytes : (pre ++ here) ++ flat_map spelling (map (assembled table) os) ≡ pre ++ flat_map spelling (map (assembled table) (o ∷ os)) =
    append_assoc pre here (flat_map spelling (map (assembled table) os)) ∙ ap (λ b. pre ++ b) (sym (flat_map-cons spelling (assembled table o) (map (assembled table) os))) in
    subst (λ at. StandsAt (pre ++ flat_map spelling (map (assembled table) (o ∷ os))) (get_or (offsets_from at os) i 0) (assembled table op)) wide
    (subst (λ (b : List ℕ). StandsAt b (get_or (offsets_from (length (pre ++ here)) os) i 0) (assembled table op)) bytes (placed table (pre ++ here) os i op all.1 e))

pub stands_there : (ops : List Op) (code offsets : List ℕ) → IsAssembly ops code offsets → (i : ℕ) (op : Op) → slice_get ops i ≡ Some op → StandsAt code (slice_index offsets i) (assembled offsets op)
stands_there ops code offsets is i op e =
    subst (λ (xs : List ℕ). StandsAt code (get_or xs i 0) (assembled offsets op)) (sym is.placed)
    (subst (λ (b : List ℕ). StandsAt b (get_or (offsets_from 0 ops) i 0) (assembled offsets op)) (sym is.written.whole) (placed offsets [] ops i op is.written.each e))

pub split_there : (ops : List Op) (code offsets : List ℕ) → IsAssembly ops code offsets → (starts : List ℕ) × Split code starts × (offsets ≡ starts ++ length code ∷ [])
split_there ops code offsets is =
    let long : length code ≡ sum_by width_of ops = ap length is.written.whole ∙ code_length offsets ops in
    let end : 0 + sum_by width_of ops ≡ length code = omega arith in
    let made = map (assembled offsets) ops in
    (starts_from 0 made, (made, is.written, refl), is.placed ∙ offsets_are offsets 0 ops ∙ ap (λ n. starts_from 0 made ++ n ∷ []) end)

pub length-offsets_from : (at : ℕ) (ops : List Op) → length (offsets_from at ops) ≡ length ops + 1
length-offsets_from at [] = refl
length-offsets_from at (op ∷ ops) = ap suc (length-offsets_from (at + width_of op) ops) ∙ omega arith

-- one more operation, written behind those before it
pub one_more_written : (offsets code front_code : List ℕ) (front : List Op) (op : Op) → AreInstructions front_code (map (assembled offsets) front)
    → AllByRecursion FieldFits (form (assembled offsets op)).1 → code ≡ front_code ++ spelling (assembled offsets op)
    → AreInstructions code (map (assembled offsets) (front ++ op ∷ []))
one_more_written offsets code front_code front op are fit e =
    let made = assembled offsets op in
    let is : IsInstruction made = record { unwritten = flags_decoded (slice_index offsets) op; fit = fit; spelled = refl } in
    rw (map-append (assembled offsets) front (op ∷ [])) (record {
      each = each_more (map (assembled offsets) front) made are.each is;
      whole = e ∙ ap (λ b. b ++ spelling made) are.whole
          ∙ ap (λ b. flat_map spelling (map (assembled offsets) front) ++ b) (sym (append-nil (spelling made))) ∙ sym (flat_map-append spelling (map (assembled offsets) front) (made ∷ []));
    })
