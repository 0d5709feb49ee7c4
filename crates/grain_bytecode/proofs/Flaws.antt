-- The first flaw of what is to be assembled.
use Rattle.std.proofs.Common.{◌≡◌, ℕ, zero, suc, ◌-◌, ◌<◌, ◌^◌, List, [], ◌∷◌, ◌++◌, length, take, drop, get_or, append_assoc, refl, sym, ap, subst, ◌∙◌, arith, drop-cons}
use Rattle.std.specs.Prelude.{true, false, ◌==◌, if◌then◌else◌}
use Rattle.std.proofs.lemmas.List.{take-append-drop, length-take}
use Rattle.grain_code.specs.declared.op.Op.{Op}
use Rattle.grain_code.specs.declared.field.Field.{Field}
use Rattle.grain_code.specs.declared.tag.TheConstants.{CALL_NAMED_REF}
use Rattle.grain_bytecode.specs.declared.assemble_error.AssembleError.{AssembleError}
use Rattle.grain_bytecode.specs.declared.assemble_error.AssembleError.TheVariants.{PoolTooLarge, JumpOutOfRange, SwitchTargetOutOfRange, ChunkTooLarge, OutOfMemory}
use Rattle.grain_code.specs.InstructionTable.{form}
use Rattle.grain_code.specs.Assembly.{IsWritable, AreWritable, EachWritable, HasShortCode, CanAssemble}
use Rattle.grain_bytecode.specs.AssemblyFlaws.{Accuses, AccusesFirst, AccusesFirstOf, IsAssemblyFlaw, named_receiver, tested}

-- a list, cut round one of its elements
pub cut_round : {X : Type 0} (xs : List X) (i : ℕ) (d : X) → i < length xs → xs ≡ take i xs ++ get_or xs i d ∷ drop (suc i) xs
cut_round xs i d inside = sym (take-append-drop i xs) ∙ ap (λ rest. take i xs ++ rest) (drop-cons xs i d inside)

-- the first flaw is that of the field at an index, where those before it can be written
pub first_at : (n at i : ℕ) (fields : List Field) (d : Field) → i < length fields → AreWritable n (take i fields) → (error : AssembleError)
    → (IsWritable n (get_or fields i d) → ⊥) × Accuses at (get_or fields i d) error → AccusesFirst n at fields error
first_at n at i fields d inside passed error flaw = record {
  earlier = take i fields;
  bad = get_or fields i d;
  later = drop (suc i) fields;
  order = cut_round fields i d inside;
  passed = passed;
  fails = flaw.0;
  named = flaw.1;
}

-- the first flaw of a front is that of all
pub in_front : (n at : ℕ) (front rest : List Field) (error : AssembleError) → AccusesFirst n at front error → AccusesFirst n at (front ++ rest) error
in_front n at front rest error first = record {
  earlier = first.earlier;
  bad = first.bad;
  later = first.later ++ rest;
  order = ap (λ fields. fields ++ rest) first.order ∙ append_assoc first.earlier (first.bad ∷ first.later) rest;
  passed = first.passed;
  fails = first.fails;
  named = first.named;
}

writable_append : (n : ℕ) (front rest : List Field) → AreWritable n front → AreWritable n rest → AreWritable n (front ++ rest)
writable_append n [] rest all others = others
writable_append n (x ∷ front) rest all others = (all.0, writable_append n front rest all.1 others)

-- where a front can be written the first flaw of the rest is that of all
pub behind_front : (n at : ℕ) (front rest : List Field) (error : AssembleError) → AreWritable n front → AccusesFirst n at rest error → AccusesFirst n at (front ++ rest) error
behind_front n at front rest error passed first = record {
  earlier = front ++ first.earlier;
  bad = first.bad;
  later = first.later;
  order = ap (λ fields. front ++ fields) first.order ∙ sym (append_assoc front first.earlier (first.bad ∷ first.later));
  passed = writable_append n front first.earlier passed first.passed;
  fails = first.fails;
  named = first.named;
}

-- what can't be written is a flaw of no operations that can be assembled
fields_pass : (n at : ℕ) (fields : List Field) (error : AssembleError) → AreWritable n fields → AccusesFirst n at fields error → ⊥
fields_pass n at fields error all first = first.fails (of_each first.earlier first.bad first.later (subst (AreWritable n) first.order all)) where
  of_each : (earlier : List Field) (bad : Field) (later : List Field) → AreWritable n (earlier ++ bad ∷ later) → IsWritable n bad
  of_each [] bad later all = all.0
  of_each (x ∷ earlier) bad later all = of_each earlier bad later all.1

two_less : (n : ℕ) (fields : List Field) → AreWritable n fields → AreWritable n (drop 2 fields)
two_less n [] all = tt
two_less n (x ∷ []) all = tt
two_less n (x ∷ y ∷ fields) all = all.1.1

receiver_pass : (n tag : ℕ) (fields : List Field) → AreWritable n fields → AreWritable n (named_receiver tag fields)
receiver_pass n tag fields all = elim (tag == CALL_NAMED_REF) as (λ b. AreWritable n (if b then drop 2 fields else [])) [ true ↦ two_less n fields all | false ↦ tt ]

tested_pass : (n : ℕ) (op : Op) → AreWritable n (form op).1 → AreWritable n (tested op)
tested_pass n op all = writable_append n (named_receiver (form op).0 (form op).1) (form op).1 (receiver_pass n (form op).0 (form op).1 all) all

-- an operation of some whose fields can be written is one of them
pub writable_at : (n : ℕ) (ops : List Op) (i : ℕ) (d : Op) → i < length ops → EachWritable n ops → AreWritable n (form (get_or ops i d)).1
writable_at n [] i d inside all = absurd (omega arith)
writable_at n (op ∷ ops) zero d inside all = all.0
writable_at n (op ∷ ops) (suc i) d inside all = writable_at n ops i d (omega arith) all.1

-- a field of some that can be written is one of them
pub field_at : (n : ℕ) (fields : List Field) (i : ℕ) (d : Field) → i < length fields → AreWritable n fields → IsWritable n (get_or fields i d)
field_at n [] i d inside all = absurd (omega arith)
field_at n (field ∷ fields) zero d inside all = all.0
field_at n (field ∷ fields) (suc i) d inside all = field_at n fields i d (omega arith) all.1

op_writable : (n : ℕ) (before : List Op) (op : Op) (after : List Op) → EachWritable n (before ++ op ∷ after) → AreWritable n (form op).1
op_writable n [] op after all = all.0
op_writable n (o ∷ before) op after all = op_writable n before op after all.1

none_accused : (all : List Op) (error : AssembleError) → CanAssemble all → AccusesFirstOf all error → ⊥
none_accused all error can first =
    let n = length all in
    fields_pass n (length first.before) (tested first.op) error
    (tested_pass n first.op (op_writable n first.before first.op first.after (subst (EachWritable n) first.order can.writable))) first.named

-- operations that can be assembled have no flaw
pub flawless : (all : List Op) (error : AssembleError) → CanAssemble all → IsAssemblyFlaw all error → ⊥
flawless all OutOfMemory can flaw = flaw
flawless all (ChunkTooLarge bytes) can flaw = flaw.0 can.short
flawless all (PoolTooLarge what entries) can flaw = none_accused all _ can flaw.1
flawless all (JumpOutOfRange at target) can flaw = none_accused all _ can flaw.1
flawless all (SwitchTargetOutOfRange table target) can flaw = flaw

-- the widths' sum is the first flaw
pub too_long : (all : List Op) (error : AssembleError) → (HasShortCode all → ⊥) × (error ≡ ChunkTooLarge (2 ^ 64 - 1)) → IsAssemblyFlaw all error
too_long all error (long, same) = subst (IsAssemblyFlaw all) (sym same) (long, refl)

-- the operation at an index has the first flaw of the fields, where those before it can be written
pub first_op : (all : List Op) (i : ℕ) (d : Op) → i < length all → EachWritable (length all) (take i all) → (error : AssembleError)
    → AccusesFirst (length all) i (tested (get_or all i d)) error → AccusesFirstOf all error
first_op all i d inside passed error first =
    let long : length (take i all) ≡ i = omega (arith, length-take i all) in
    record {
      before = take i all;
      op = get_or all i d;
      after = drop (suc i) all;
      order = cut_round all i d inside;
      passed = passed;
      named = subst (λ n. AccusesFirst (length all) n (tested (get_or all i d)) error) (sym long) first;
    }

-- a field is the first flaw where the widths' sum isn't
pub field_flaw : (all : List Op) (error : AssembleError) → HasShortCode all → AccusesFirstOf all error → IsAssemblyFlaw all error
field_flaw all OutOfMemory short flaw = flaw.named.named
field_flaw all (ChunkTooLarge bytes) short flaw = absurd flaw.named.named
field_flaw all (PoolTooLarge what entries) short flaw = (short, flaw)
field_flaw all (JumpOutOfRange at target) short flaw = (short, flaw)
field_flaw all (SwitchTargetOutOfRange table target) short flaw = flaw.named.named

pub each_writable_more : (n : ℕ) (front : List Op) (op : Op) → EachWritable n front → AreWritable n (form op).1 → EachWritable n (front ++ op ∷ [])
each_writable_more n [] op all here = (here, tt)
each_writable_more n (o ∷ front) op all here = (all.0, each_writable_more n front op all.1 here)
