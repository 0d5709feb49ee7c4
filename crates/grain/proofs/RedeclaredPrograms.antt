-- Programs that differ in what their chunks declare alone.
use Rattle.std.proofs.Common.{◌≡◌, ℕ, ◌≤◌, suc, List, [], ◌∷◌, length, map, refl, sym, ap, subst, ◌∙◌, arith}
use Rattle.std.specs.List.{All, AllZip}
use Rattle.std.proofs.lemmas.List.{length-map}
use Rattle.grain_base.specs.CapBits.{FUNCTION}
use Rattle.grain_code.specs.Span.{Span, undeclared_chunk}
use Rattle.grain_code.specs.declared.function.Function.{Function}
use Rattle.grain_rules.specs.Accepted.{AreDeepest, AreTyped, ChunkPasses, CodePasses, ConstantsPass, IsAccepted}
use Rattle.grain_rules.specs.Capabilities.{Allows}
use Rattle.grain_rules.specs.Code.{Bytecode, coded}
use Rattle.grain.specs.Program.{Program, chunks_of, declared_by, input_of}
use Rattle.grain.specs.Tightened.{IsTightened, undeclared, undeclared_function}
use Rattle.grain_rules.specs.Typing.{IsDeepest}
use Rattle.grain_rules.proofs.Redeclared.{all_alike, all_deepest, all_pass, no_less, redeclared}

chunks_undeclared : (functions : List Function) → map (λ f. f.chunk) (map undeclared_function functions) ≡ map undeclared_chunk (map (λ f. f.chunk) functions)
chunks_undeclared [] = refl
chunks_undeclared (f ∷ fs) = ap (λ cs. undeclared_chunk f.chunk ∷ cs) (chunks_undeclared fs)

same_chunks : (p q : Program) → undeclared p ≡ undeclared q → map undeclared_chunk (chunks_of p) ≡ map undeclared_chunk (chunks_of q)
same_chunks p q e =
    ap (λ cs. undeclared_chunk p.main ∷ cs) (sym (chunks_undeclared p.functions))
    ∙ ap chunks_of e
    ∙ ap (λ cs. undeclared_chunk q.main ∷ cs) (chunks_undeclared q.functions)

same_code : (p q : Program) → undeclared p ≡ undeclared q → (input_of p).code ≡ (input_of q).code
same_code p q e = ap (λ (r : Program). (input_of r).code) e

no_functions : (functions : List Function) → map undeclared_function functions ≡ [] → functions ≡ []
no_functions [] e = refl
no_functions (f ∷ fs) e = absurd (let l : suc (length (map undeclared_function fs)) ≡ 0 = ap (λ (gs : List Function). length gs) e in omega arith)

length_numbers : {A B : Type 0} (R : A → B → Type 0) (xs : List A) (ys : List B) → AllZip R xs ys → length ys ≡ length xs
length_numbers R [] [] h = refl
length_numbers R [] (y ∷ ys) h = absurd h
length_numbers R (x ∷ xs) [] h = absurd h
length_numbers R (x ∷ xs) (y ∷ ys) h = ap suc (length_numbers R xs ys h.1)

length_chunks : (p q : Program) → undeclared p ≡ undeclared q → length (declared_by p) ≡ length (chunks_of q)
length_chunks p q e =
    length-map (chunks_of p) (λ chunk. chunk.max_stack)
    ∙ sym (length-map (chunks_of p) undeclared_chunk)
    ∙ ap (λ (cs : List Span). length cs) (same_chunks p q e)
    ∙ length-map (chunks_of q) undeclared_chunk

-- an accepted program whose chunks declare their numbers now is tightened
pub tightened : (old new : Program) (numbers : List ℕ) → IsAccepted (input_of old) → AreDeepest (input_of old) numbers → AreTyped (input_of old) numbers → declared_by new ≡ numbers
    → undeclared new ≡ undeclared old → IsTightened old new
tightened old new numbers accepted deepest typed declared rest =
    let code = same_code new old rest in
    let chunks : chunks_of new ≡ redeclared (chunks_of old) numbers = all_alike (chunks_of old) (chunks_of new) (same_chunks new old rest) ∙ ap (redeclared (chunks_of old)) declared in
    let deepest_now : AllZip (IsDeepest (coded (input_of old).code)) (redeclared (chunks_of old) numbers) numbers = all_deepest (coded (input_of old).code) (chunks_of old) numbers numbers refl deepest in
    let again : IsAccepted (input_of new) = record {
      constants = subst (λ (p : Program). ConstantsPass (input_of p)) (sym rest) accepted.constants;
      code = subst (λ (p : Program). CodePasses (input_of p)) (sym rest) accepted.code;
      functions = λ some. subst (λ (c : Bytecode). Allows c.setting.caps FUNCTION) (sym code)
          (accepted.functions (λ none. some (no_functions new.functions (ap (λ (p : Program). p.functions) rest ∙ ap (map undeclared_function) none))));
      chunks = λ k d l. (subst (λ (c : Bytecode). All (ChunkPasses c) (chunks_of new)) (sym code)
          (subst (All (ChunkPasses (input_of old).code)) (sym chunks) (all_pass (input_of old).code (chunks_of old) numbers accepted.chunks typed))) k d l;
    } in
    record {
      accepted = accepted;
      numbers = subst (AreDeepest (input_of old)) (sym declared) deepest;
      rest = rest;
      again = again;
      same = subst (AreDeepest (input_of new)) (sym declared)
          (subst (λ (c : Bytecode). AllZip (IsDeepest (coded c)) (chunks_of new) numbers) (sym code) (subst (λ (cs : List Span). AllZip (IsDeepest (coded (input_of old).code)) cs numbers) (sym chunks) deepest_now));
      least = λ p e accepts.
          let whole = e ∙ rest in
          let spans = all_alike (chunks_of old) (chunks_of p) (same_chunks p old whole) in
          let long = length_chunks p old whole ∙ sym (length_numbers (IsDeepest (coded (input_of old).code)) (chunks_of old) numbers deepest) in
          subst (λ (ns : List ℕ). AllZip (λ n m. n ≤ m) ns (declared_by p)) (sym declared)
          (no_less (input_of old).code (chunks_of old) numbers (declared_by p) long deepest
          (subst (All (ChunkPasses (input_of old).code)) spans (subst (λ (c : Bytecode). All (ChunkPasses c) (chunks_of p)) (same_code p old whole) accepts.chunks)));
    }
