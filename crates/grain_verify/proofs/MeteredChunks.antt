-- What a meter counts of one chunk after another.
use Rattle.std.proofs.Common.{◌≡◌, ℕ, ◌+◌, ◌<◌, ◌≤◌, List, [], ◌∷◌, ◌++◌, length, get_or, take, Ok, Err, Result, Vec, refl, sym, ap, subst, ◌∙◌, arith}
use Rattle.std.specs.List.{sum_by}
use Rattle.std.specs.declared.alloc.Global.{Global}
use Rattle.std.proofs.lemmas.List.{take_all, take_more}
use Rattle.std.proofs.lemmas.List.Sums.{sum_by_push, sum_by-take-le}
use Rattle.grain_code.specs.Span.{Span}
use Rattle.grain_code.specs.Split.{Split}
use Rattle.grain_code.proofs.Splits.{one_split}
use Rattle.grain_rules.specs.Accepted.{Input}
use Rattle.grain_rules.specs.Code.{Bytecode, coded}
use Rattle.grain_verify.specs.Meter.{IsMetered, starts_within}
use Rattle.grain_verify.specs.Progress.{AreCounted, AreMeteredChunks, IsMeteredChunk}
use Rattle.grain_rules.specs.Typing.{IsReachedCount}
use Rattle.grain_rules.specs.declared.error.VerifyError.{VerifyError}
use Rattle.grain_verify.specs.Refusals.{without_chunk}
use Rattle.grain_verify.specs.declared.refusal.Refusal.{Refusal}
use Rattle.grain_verify.proofs.ChunkInduction.{number_more}
use Rattle.grain_verify.proofs.MeterArithmetic.{counted_both, counted_nothing}

sum_more : (starts : List ℕ) (chunks : List Span) (i : ℕ) (x : Span) → i < length chunks → x ≡ get_or chunks i x
    → sum_by (starts_within starts) (take (i + 1) chunks) ≡ sum_by (starts_within starts) (take i chunks) + starts_within starts x
sum_more starts chunks i x l is =
    ap (sum_by (starts_within starts)) (take_more chunks i x l)
    ∙ sum_by_push (starts_within starts) (take i chunks) (get_or chunks i x)
    ∙ ap (λ (y : Span). sum_by (starts_within starts) (take i chunks) + starts_within starts y) (sym is)

module _ (code : Bytecode) (starts : List ℕ) (chunks : List Span) (i : ℕ) (x : Span) (old mid new : ℕ) (l : i < length chunks) (is : x ≡ get_or chunks i x) (before : AreCounted code starts (take i chunks) old mid) where
  -- a chunk was walked to the end
  pub counted_more : (n : ℕ) → IsMeteredChunk {A = ℕ} code starts x mid new (Ok n) → AreCounted code starts (take (i + 1) chunks) old new
  counted_more n m = record {
    visits = before.visits + m.visits;
    within = let a = before.within in let b = m.within in let e = sum_more starts chunks i x l is in omega arith;
    counted = counted_both old mid new before.visits m.visits before.counted m.counted;
    reached =
        let (numbers, zip, sum) = before.reached in
        (numbers ++ m.visits ∷ [], number_more (IsReachedCount (coded code)) chunks numbers i x m.visits l is zip m.reached, (let e = sum_by_push (λ (y : ℕ). y) numbers m.visits in omega arith));
  }

  -- a chunk was refused
  pub counted_refused : {A E : Type 0} (e : VerifyError) → IsMeteredChunk {A = ℕ} code starts x mid new (Err e) → (refusal : E) → AreMeteredChunks {A = A} code starts chunks old new (Err refusal)
  counted_refused e m refusal = record {
    visits = before.visits + m.visits;
    within =
        let a = before.within in
        let b = m.within in
        let s = sum_more starts chunks i x l is in
        let all = sum_by-take-le (starts_within starts) chunks (i + 1) in
        omega arith;
    counted = counted_both old mid new before.visits m.visits before.counted m.counted;
    reached = tt;
  }

-- all were walked
pub counted_all : {A E : Type 0} (code : Bytecode) (starts : List ℕ) (chunks : List Span) (i old new : ℕ) (numbers : A) → length chunks ≤ i → AreCounted code starts (take i chunks) old new
    → AreMeteredChunks {A = A} {E = E} code starts chunks old new (Ok numbers)
counted_all code starts chunks i old new numbers past before =
    let all = take_all i chunks past in
    let c = subst (λ (cs : List Span). AreCounted code starts cs old new) all before in
    record { visits = c.visits; within = c.within; counted = c.counted; reached = c.reached }

-- what was counted of the chunks was counted of the whole
pub metered_located : (i : Input) (old new : ℕ) (result : Result (Vec ℕ Global) Refusal) → (starts : List ℕ) → Split i.code.bytes starts
    → AreMeteredChunks i.code starts i.chunks old new result → IsMetered i old new (without_chunk result)
metered_located i old new (Ok numbers) starts split m = record { accepted = (m.visits, m.reached, m.counted); refused = tt }
metered_located i old new (Err r) starts split m = record {
  accepted = tt;
  refused = (
    m.visits,
    record {
      starts = λ others other. subst (λ (ss : List ℕ). m.visits ≤ sum_by (starts_within ss) i.chunks) (one_split i.code.bytes starts others split other) m.within;
      nowhere = λ none. absurd (none starts split);
    },
    m.counted,
  );
}

-- nothing was counted before the chunks
pub metered_before : (i : Input) (count : ℕ) (e : VerifyError) → IsMetered i count count (Err e)
metered_before i count e = record {
  accepted = tt;
  refused = (0, record { starts = λ starts split. omega arith; nowhere = λ none. refl }, counted_nothing count);
}
