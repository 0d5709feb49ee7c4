-- What chunks declare.
use Rattle.std.proofs.Common.{◌≡◌, ℕ, ◌+◌, ◌-◌, ◌<◌, ◌≤◌, zero, suc, inl, inr, max, List, [], ◌∷◌, ◌++◌, length, take, drop, get_or, map, slice_set, sym, ap, subst, ◌∙◌, arith}
use Rattle.std.specs.List.{All, Contains}
use Rattle.std.proofs.Math.Seq.{take-length}
use Rattle.std.proofs.lemmas.Bool.{cases_lt}
use Rattle.std.proofs.lemmas.List.{map-append, take_more, take_more_set}
use Rattle.std.proofs.lemmas.List.Elements.{All-append, Contains-append_left, Contains-push}
use Rattle.std.proofs.lemmas.Simd.{map-map}
use Rattle.grain_code.specs.Span.{Span}
use Rattle.grain_code.specs.declared.function.Function.{Function}
use Rattle.grain.specs.Program.{IsGreatest}

one_below : (m n : ℕ) → m ≤ n → All (λ k. k ≤ n) (m ∷ [])
one_below m n h zero d l = h
one_below m n h (suc k) d l = absurd (omega arith)

greatest_push : (xs : List ℕ) (n m : ℕ) → IsGreatest xs n → IsGreatest (xs ++ m ∷ []) (max n m)
greatest_push xs n m h = record {
  among = elim (cases_lt n m) [
    | inl l ↦ subst (λ k. Contains (xs ++ m ∷ []) k) (let e : m ≡ max n m = omega arith in e) (Contains-push xs m)
    | inr g ↦ subst (λ k. Contains (xs ++ m ∷ []) k) (let e : n ≡ max n m = omega arith in e) (Contains-append_left xs (m ∷ []) n h.among)
  ];
  most = All-append (λ k. k ≤ max n m) xs (m ∷ []) (λ k d l. let a = h.most k d l in omega arith) (one_below m (max n m) (omega arith));
}

-- the greatest that the main chunk and one function more declare
pub greatest_more : (main : Span) (functions : List Function) (i : ℕ) (f : Function) (n : ℕ) → i < length functions → f ≡ get_or functions i f
    → IsGreatest (map (λ chunk. chunk.max_stack) (main ∷ map (λ g. g.chunk) (take i functions))) n
    → IsGreatest (map (λ chunk. chunk.max_stack) (main ∷ map (λ g. g.chunk) (take (i + 1) functions))) (max n f.chunk.max_stack)
greatest_more main functions i f n l e h =
    let more : map (λ chunk. chunk.max_stack) (main ∷ map (λ g. g.chunk) (take (i + 1) functions)) ≡ map (λ chunk. chunk.max_stack) (main ∷ map (λ g. g.chunk) (take i functions)) ++ f.chunk.max_stack ∷ [] =
    simp (take_more functions i f l, map-append) (ap (λ (g : Function). main.max_stack ∷ (map (λ chunk. chunk.max_stack) (map (λ g. g.chunk) (take i functions)) ++ g.chunk.max_stack ∷ [])) (sym e)) in
    rw more (greatest_push (map (λ chunk. chunk.max_stack) (main ∷ map (λ g. g.chunk) (take i functions))) n f.chunk.max_stack h)

-- one function more declares its number
pub declared_next : (functions : List Function) (numbers : List ℕ) (i : ℕ) (f : Function) (d : ℕ) → i < length functions → i < length numbers → f.chunk.max_stack ≡ get_or numbers i d
    → map (λ g. g.chunk.max_stack) (take i functions) ≡ take i numbers → map (λ g. g.chunk.max_stack) (take (i + 1) (slice_set functions i f)) ≡ take (i + 1) numbers
declared_next functions numbers i f d l m e h =
    ap (map (λ (g : Function). g.chunk.max_stack)) (take_more_set functions i f l)
    ∙ map-append (λ (g : Function). g.chunk.max_stack) (take i functions) (f ∷ [])
    ∙ (λ k. h k ++ e k ∷ [])
    ∙ sym (take_more numbers i d m)

-- each chunk declares its number
pub all_declared : (numbers : List ℕ) (main : ℕ) (functions items : List Function) → items ≡ functions → main ≡ get_or numbers 0 0
    → map (λ g. g.chunk.max_stack) functions ≡ take (length numbers - 1) (drop 1 numbers) → 0 < length numbers
    → main ∷ map (λ chunk. chunk.max_stack) (map (λ g. g.chunk) items) ≡ numbers
all_declared [] main functions items same e h l = absurd (omega arith)
all_declared (n ∷ ns) main functions items same e h l =
    let k : suc (length ns) - 1 ≡ length ns = omega arith in
    let others : map (λ chunk. chunk.max_stack) (map (λ g. g.chunk) items) ≡ ns =
    map-map (λ (chunk : Span). chunk.max_stack) (λ (g : Function). g.chunk) items
    ∙ ap (map (λ (g : Function). g.chunk.max_stack)) same
    ∙ h ∙ ap (λ i. take i ns) k ∙ take-length ns in
    λ i. e i ∷ others i
