-- From one chunk to the next.
use Rattle.std.proofs.Common.{◌≡◌, ◌≢◌, ◌⊎◌, inl, inr, None, Some, ℕ, ◌+◌, ◌<◌, List, [], ◌∷◌, ◌++◌, length, get_or, take, sym, subst, ◌∙◌}
use Rattle.std.specs.List.{All, AllWithin, AllZip, HoldsAt}
use Rattle.std.proofs.lemmas.List.{get_or_default, take_more}
use Rattle.std.proofs.lemmas.List.Elements.{AllWithin-more}
use Rattle.grain_code.specs.Span.{Span}
use Rattle.grain_rules.specs.Accepted.{ChunkPasses}
use Rattle.grain_rules.specs.Code.{Bytecode}
use Rattle.grain_rules.specs.Flaw.{ChunkFlaw, IsFirstFlaw}
use Rattle.grain_rules.specs.declared.error.VerifyError.{VerifyError}
use Rattle.grain_rules.specs.declared.error.VerifyError.TheVariants.{OutOfMemory}
use Rattle.grain_verify.specs.Refusals.{IsChunkRefusal}
use Rattle.grain_verify.specs.declared.refusal.Refusal.{Refusal}

-- what holds of the chunk at a place, which was read there
holds_at : {X : Type 0} (P : X → Type 0) (xs : List X) (i : ℕ) (x : X) → i < length xs → x ≡ get_or xs i x → P x → HoldsAt P xs i
holds_at P xs i x l e h = λ d. subst P (e ∙ get_or_default xs i x d l) h

pub passes_more : (code : Bytecode) (chunks : List Span) (i : ℕ) (x : Span) → i < length chunks → x ≡ get_or chunks i x → AllWithin (ChunkPasses code) chunks 0 i
    → ChunkPasses code x → AllWithin (ChunkPasses code) chunks 0 (i + 1)
passes_more code chunks i x l e before h = AllWithin-more (ChunkPasses code) chunks 0 i before (holds_at (ChunkPasses code) chunks i x l e h)

pub passes_there : (code : Bytecode) (chunks : List Span) (i : ℕ) (x : Span) → i < length chunks → x ≡ get_or chunks i x → All (ChunkPasses code) chunks → ChunkPasses code x
passes_there code chunks i x l e all = subst (ChunkPasses code) (sym e) (all i x l)

-- a refusal of the chunk with an index, each before which passes
pub refused_at : (code : Bytecode) (chunks : List Span) (i : ℕ) (x : Span) (e : VerifyError) (r : Refusal) → i < length chunks → x ≡ get_or chunks i x → AllWithin (ChunkPasses code) chunks 0 i
    → r.error ≡ e → (e ≢ OutOfMemory → r.chunk ≡ Some i) → (e ≡ OutOfMemory → r.chunk ≡ None) → (e ≡ OutOfMemory) ⊎ ChunkFlaw code x e → IsChunkRefusal code chunks r
refused_at code chunks i x e r l is before same chunk memory (inl m) = inl (record { error = same ∙ m; chunk = memory m })
refused_at code chunks i x e r l is before same chunk memory (inr h) =
    let flaw : IsFirstFlaw code chunks r.error = record {
      place = i;
      inside = l;
      earlier = before;
      here = holds_at (λ (chunk : Span). ChunkFlaw code chunk r.error) chunks i x l is (subst (ChunkFlaw code x) (sym same) h);
    } in
    inr (flaw, chunk (λ m. subst (ChunkFlaw code x) m h))

zip_push : {A B : Type 0} (R : A → B → Type 0) (xs : List A) (ys : List B) (x : A) (y : B) → AllZip R xs ys → R x y → AllZip R (xs ++ x ∷ []) (ys ++ y ∷ [])
zip_push R [] [] x y h r = (r, tt)
zip_push R [] (v ∷ vs) x y h r = absurd h
zip_push R (u ∷ us) [] x y h r = absurd h
zip_push R (u ∷ us) (v ∷ vs) x y h r = (h.0, zip_push R us vs x y h.1 r)

-- a number of one more chunk
pub number_more : (R : Span → ℕ → Type 0) (chunks : List Span) (numbers : List ℕ) (i : ℕ) (x : Span) (n : ℕ) → i < length chunks → x ≡ get_or chunks i x
    → AllZip R (take i chunks) numbers → R x n → AllZip R (take (i + 1) chunks) (numbers ++ n ∷ [])
number_more R chunks numbers i x n l e h r =
    subst (λ (zs : List Span). AllZip R zs (numbers ++ n ∷ [])) (sym (take_more chunks i x l)) (zip_push R (take i chunks) numbers (get_or chunks i x) n h (subst (λ (y : Span). R y n) e r))
