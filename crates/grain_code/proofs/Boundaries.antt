-- Where code that splits can be cut.
use Rattle.std.proofs.Common.{◌≡◌, ℕ, zero, suc, ◌+◌, ◌≤◌, List, [], ◌∷◌, ◌++◌, length, take, drop, refl, sym, ap, subst, ◌∙◌, arith, inl, inr}
use Rattle.std.proofs.Math.Seq.{drop-length}
use Rattle.std.specs.Prelude.{sum_by}
use Rattle.std.specs.List.{flat_map, AllByRecursion, Contains}
use Rattle.std.proofs.lemmas.List.{take_at, drop_at, take_all, take-append-drop, length-append, length-take, length-take-le}
use Rattle.std.proofs.lemmas.List.Concat.{flat_map-cons}
use Rattle.std.proofs.lemmas.List.Sums.{sum_by-cons}
use Rattle.std.proofs.lemmas.Grind.{flat_map-append}
use Rattle.grain_code.specs.declared.op.Op.{Op}
use Rattle.grain_code.specs.InstructionTable.{spelling, width_of}
use Rattle.grain_code.specs.Split.{IsInstruction, AreInstructions, StandsAt, starts_from, Split, IsSplitBoundary, FrontEnds}
use Rattle.grain_code.proofs.Instructions.{spelling_width}
use Rattle.grain_code.proofs.Splits.{one_front, one_more}

pub spellings_width : (ops : List Op) → length (flat_map spelling ops) ≡ sum_by width_of ops
spellings_width [] = refl
spellings_width (op ∷ ops) =
    omega (arith, ap length (flat_map-cons spelling op ops), sum_by-cons width_of op ops, length-append (spelling op) (flat_map spelling ops), spelling_width op, spellings_width ops)

-- the operations before a start and those from it on
before_start : (n at : ℕ) (ops : List Op) → Contains (starts_from n ops) at → (front : List Op) × (back : List Op) × (ops ≡ front ++ back) × (at ≡ n + sum_by width_of front)
before_start n at [] (k, inside, e) = absurd (omega arith)
before_start n at (op ∷ ops) (zero, inside, e) = ([], op ∷ ops, refl, sym e ∙ omega arith)
before_start n at (op ∷ ops) (suc k, inside, e) =
    let more = before_start (n + width_of op) at ops (k, omega arith, e) in
    (op ∷ more.0, more.1, ap (λ os. op ∷ os) more.2, omega (arith, more.3, sum_by-cons width_of op more.0))

each_of : (front back : List Op) → AllByRecursion IsInstruction (front ++ back) → AllByRecursion IsInstruction front × AllByRecursion IsInstruction back
each_of [] back all = (tt, all)
each_of (op ∷ front) back all = let more = each_of front back all.1 in ((all.0, more.0), more.1)

-- the code is cut behind its first operations
cut_behind : (code : List ℕ) (front back : List Op) → AreInstructions code (front ++ back) → AreInstructions (take (sum_by width_of front) code) front × AreInstructions (drop (sum_by width_of front) code) back
cut_behind code front back are =
    let e : code ≡ flat_map spelling front ++ flat_map spelling back = are.whole ∙ flat_map-append spelling front back in
    let each = each_of front back are.each in (
      record { each = each.0; whole = ap (take (sum_by width_of front)) e ∙ take_at _ _ _ (spellings_width front) },
      record { each = each.1; whole = ap (drop (sum_by width_of front)) e ∙ drop_at _ _ _ (spellings_width front) },
    )

pub boundary_cuts : (code starts : List ℕ) (at : ℕ) → Split code starts → IsSplitBoundary code starts at
    → ((front : List ℕ) × Split (take at code) front) × ((back : List ℕ) × Split (drop at code) back)
boundary_cuts code starts at split (inl start) =
    let found = before_start 0 at split.0 (subst (λ xs. Contains xs at) split.2 start) in
    let here : sum_by width_of found.0 ≡ at = omega (arith, found.3) in
    let cut = cut_behind code found.0 found.1 (subst (AreInstructions code) found.2 split.1) in (
      (starts_from 0 found.0, (found.0, subst (λ n. AreInstructions (take n code) found.0) here cut.0, refl)),
      (starts_from 0 found.1, (found.1, subst (λ n. AreInstructions (drop n code) found.1) here cut.1, refl)),
    )
boundary_cuts code starts at split (inr end) = rw end ((starts, subst (λ b. Split b starts) (sym (take_all (length code) code (omega arith))) split), ([], ([], record { each = tt; whole = drop-length code }, refl)))

-- the longest front that splits ends in one place
pub one_end : (code : List ℕ) (at at' : ℕ) → at ≤ length code → at' ≤ length code → FrontEnds code at → FrontEnds code at' → at ≡ at'
one_end code at at' inside inside' front front' =
    let ops = front.1.0 in
    let ops' = front'.1.0 in
    let e : flat_map spelling ops ++ drop at code ≡ flat_map spelling ops' ++ drop at' code =
    ap (λ b. b ++ drop at code) (sym front.1.1.whole) ∙ take-append-drop at code ∙ sym (take-append-drop at' code) ∙ ap (λ b. b ++ drop at' code) front'.1.1.whole in
    let same = one_front ops ops' (drop at code) (drop at' code) front.1.1.each front'.1.1.each front.2 front'.2 e in
    let long : length (take at code) ≡ length (take at' code) = ap length (front.1.1.whole ∙ ap (flat_map spelling) same.0 ∙ sym front'.1.1.whole) in
    omega (arith, long, length-take at code, length-take at' code)

-- where operations end
starts-push : (n : ℕ) (ops : List Op) (op : Op) → starts_from n (ops ++ op ∷ []) ≡ starts_from n ops ++ (n + sum_by width_of ops) ∷ []
starts-push n [] op = let end : n ≡ n + 0 = omega arith in ap (λ k. k ∷ []) end
starts-push n (o ∷ ops) op =
    let end : n + width_of o + sum_by width_of ops ≡ n + sum_by width_of (o ∷ ops) = omega (arith, sum_by-cons width_of o ops) in
    ap (λ starts. n ∷ starts) (starts-push (n + width_of o) ops op ∙ ap (λ k. starts_from (n + width_of o) ops ++ k ∷ []) end)

pub next_start : (code : List ℕ) (at : ℕ) (ops : List Op) (op : Op) → at ≤ length code → AreInstructions (take at code) ops → starts_from 0 (ops ++ op ∷ []) ≡ starts_from 0 ops ++ at ∷ []
next_start code at ops op inside are =
    let long : 0 + sum_by width_of ops ≡ at = omega (arith, length-take-le at code inside, ap length are.whole, spellings_width ops) in
    starts-push 0 ops op ∙ ap (λ n. starts_from 0 ops ++ n ∷ []) long

-- a front that splits, and the instruction that stands behind it
pub split_more : (code starts : List ℕ) (at next : ℕ) (op : Op) → at ≤ length code → Split (take at code) starts → StandsAt code at op → next ≡ at + width_of op → Split (take next code) (starts ++ at ∷ [])
split_more code starts at next op inside split stands is = (
  split.0 ++ op ∷ [],
  subst (λ n. AreInstructions (take n code) (split.0 ++ op ∷ [])) (sym is) (one_more code at split.0 op split.1 stands),
  ap (λ xs. xs ++ at ∷ []) split.2 ∙ sym (next_start code at split.0 op inside split.1),
)
