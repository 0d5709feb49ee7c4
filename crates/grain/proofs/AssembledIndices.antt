-- The indices of operations pass exactly where those of the code that is assembled of them do.
use Rattle.std.proofs.Common.{flat_map, ◌≡◌, ◌<◌, ℕ, List, [], ◌∷◌, ◌++◌, map, refl, sym, ap, subst, ◌∙◌}
use Rattle.std.specs.Prelude.{slice_index}
use Rattle.std.specs.List.{All, AllByRecursion}
use Rattle.grain_code.specs.Assembly.{IsAssembly, assembled}
use Rattle.grain_code.specs.Fields as fields
use Rattle.grain_code.specs.InstructionTable.{form}
use Rattle.grain_code.specs.declared.field.Field.{Field}
use Rattle.grain_code.specs.declared.field.Field.TheVariants.{Index, Slot, Count, Target}
use Rattle.grain_code.specs.declared.op.Op.{Op}
use Rattle.grain_code.proofs.Canonical.{form_decoded}
use Rattle.grain_code.proofs.Instructions.{begins_none_nil}
use Rattle.grain_code.proofs.Splits.{one_front}
use Rattle.grain_rules.specs.Accepted.{AreIndexed}
use Rattle.grain_rules.specs.Facts.{Mention, Entry}
use Rattle.grain_rules.specs.Indices.{Indexed, IsPassed, case_constants, cases_of, field_mentions, further, own_mentions, test_of, tests_of}
use Rattle.grain_rules.specs.Setting.{Setting}
use Rattle.grain.proofs.AssembledParts.{All-before_map}

-- mapped targets leave what fields name as it is
mentions_moved : (g : ℕ → ℕ) (fs : List Field) → flat_map field_mentions (map (fields.moved g) fs) ≡ flat_map field_mentions fs
mentions_moved g [] = refl
mentions_moved g (Index pool x ∷ fs) = ap (λ (rest : List Mention). Entry pool x ∷ rest) (mentions_moved g fs)
mentions_moved g (Slot x ∷ fs) = mentions_moved g fs
mentions_moved g (Count x ∷ fs) = mentions_moved g fs
mentions_moved g (Target t ∷ fs) = mentions_moved g fs

-- so an operation's indices pass exactly where they pass once it is assembled
module _ (s : Setting) (offsets : List ℕ) (op : Op) where
  mentions_same : own_mentions (assembled offsets op) ≡ own_mentions op
  mentions_same = ap (λ (p : ℕ × List Field). flat_map field_mentions p.1) (form_decoded (slice_index offsets) op) ∙ mentions_moved (slice_index offsets) (form op).1

  tests_same : tests_of s (assembled offsets op) ≡ tests_of s op
  tests_same = ap (λ (own : List Mention). map (test_of s) (own ++ flat_map (further s) own)) mentions_same

  cases_same : cases_of s (assembled offsets op) ≡ cases_of s op
  cases_same = ap (flat_map (case_constants s)) mentions_same

  pub indexed_assembled : Indexed s op → Indexed s (assembled offsets op)
  indexed_assembled h = record {
    tests = subst (AllByRecursion IsPassed) (sym tests_same) h.tests;
    cases = subst (AllByRecursion (λ c. c < s.facts.consts)) (sym cases_same) h.cases;
  }

  indexed_here : Indexed s (assembled offsets op) → Indexed s op
  indexed_here h = record {
    tests = subst (AllByRecursion IsPassed) tests_same h.tests;
    cases = subst (AllByRecursion (λ c. c < s.facts.consts)) cases_same h.cases;
  }

-- the operations of code whose indices pass
pub indexed_ops : (s : Setting) (ops : List Op) (code offsets : List ℕ) → IsAssembly ops code offsets → AreIndexed s code → All (Indexed s) ops
indexed_ops s ops code offsets assembly are k op l =
    let one = (one_front are.0 (map (assembled offsets) ops) [] [] are.1.each assembly.written.each begins_none_nil begins_none_nil
    (ap (λ (b : List ℕ). b ++ []) (sym are.1.whole ∙ assembly.written.whole))).0 in
    let indexed : All (Indexed s) (map (assembled offsets) ops) = subst (All (Indexed s)) one are.2 in
    indexed_here s offsets _ (All-before_map (Indexed s) (assembled offsets) ops indexed k op l)
