-- A program is accepted as each of which as much is kept, and has the same depths.
use Rattle.std.proofs.Common.{◌≡◌, ℕ, List, [], ◌∷◌, map, refl, subst, sym, ap, ◌∙◌}
use Rattle.std.specs.List.{All, AllZip}
use Rattle.std.proofs.lemmas.List.Elements.{All-map}
use Rattle.grain.proofs.AssembledParts.{All-before_map}
use Rattle.grain_base.specs.CapBits.{FUNCTION}
use Rattle.grain_code.specs.Span.{Span}
use Rattle.grain_code.specs.Split.{AreInstructions}
use Rattle.grain_code.specs.declared.function.Function.{Function}
use Rattle.grain_format.specs.Functions.{FunctionParts, function_parts}
use Rattle.grain_format.specs.Form.{value_form}
use Rattle.grain_rules.specs.Accepted.{AllowsConst, AreDeepest, ChunkPasses, CodePasses, ConstantsPass, FunctionsPass, IsAccepted}
use Rattle.grain_rules.specs.Capabilities.{Allows}
use Rattle.grain_rules.specs.Code.{Bytecode, coded, switch_targets}
use Rattle.grain_rules.specs.ConstCaps.{const_caps}
use Rattle.grain_rules.specs.Typing.{IsDeepest}
use Rattle.grain_rules.proofs.Alike.{chunk_passes, code, deepest}
use Rattle.grain_rules.proofs.Members.{map_by_rows}
use Rattle.grain_rules.proofs.TestedAlike.{indexed}
use Rattle.grain.specs.Program.{Program, chunks_of, input_of, setting_of}
use Rattle.grain_file.specs.Loading.{IsLoadable}
use Rattle.grain_file.specs.ProgramFile.{Kept, kept}
use Rattle.grain_file.proofs.FormCaps.{caps_read, form_caps}
use Rattle.grain_file.proofs.KeptAlike.{kept_alike, kept_tested, same_caps}

none_of : {A X : Type 0} (f : A → X) (xs : List A) → map f xs ≡ [] → xs ≡ []
none_of f [] e = refl
none_of f (x ∷ xs) e = absurd cc

zip_each : {A X : Type 0} (P Q : A → X → Type 0) → ((a : A) (x : X) → P a x → Q a x) → (items : List A) (xs : List X) → AllZip P items xs → AllZip Q items xs
zip_each P Q onward [] [] h = tt
zip_each P Q onward [] (x ∷ xs) h = absurd h
zip_each P Q onward (a ∷ items) [] h = absurd h
zip_each P Q onward (a ∷ items) (x ∷ xs) h = (onward a x h.0, zip_each P Q onward items xs h.1)

module _ (p q : Program) (same : kept p ≡ kept q) where
  same_code : p.code ≡ q.code
  same_code = ap (λ (k : Kept). k.0.1.1.0) same

  same_functions : map function_parts p.functions ≡ map function_parts q.functions
  same_functions = ap (λ (k : Kept). k.0.1.1.1.1) same

  abbrev chunk_of : FunctionParts → Span
  chunk_of f = f.1.1.1.1

  same_chunks : chunks_of p ≡ chunks_of q
  same_chunks =
      let main : p.main ≡ q.main = ap (λ (k : Kept). k.0.1.1.1.0) same in
      let others : map (λ (f : Function). f.chunk) p.functions ≡ map (λ (f : Function). f.chunk) q.functions =
      map_by_rows (λ (f : Function). f.chunk) function_parts chunk_of (λ f. refl) p.functions ∙ ap (map chunk_of) same_functions
      ∙ sym (map_by_rows (λ (f : Function). f.chunk) function_parts chunk_of (λ f. refl) q.functions) in
      λ i. main i ∷ others i

  same_needs : map const_caps p.consts ≡ map const_caps q.consts
  same_needs =
      map_by_rows const_caps value_form form_caps (λ v. sym (caps_read v)) p.consts ∙ ap (λ (k : Kept). map form_caps k.1.0.1.0) same
      ∙ sym (map_by_rows const_caps value_form form_caps (λ v. sym (caps_read v)) q.consts)

  constants : ConstantsPass (input_of p) → ConstantsPass (input_of q)
  constants h =
      All-before_map (AllowsConst q.caps.0) const_caps q.consts
      (subst (λ needs. All (AllowsConst q.caps.0) needs) same_needs
      (subst (λ n. All (AllowsConst n) (map const_caps p.consts)) (same_caps p q same) (All-map (AllowsConst p.caps.0) const_caps p.consts h)))

  instructions : CodePasses (input_of p) → CodePasses (input_of q)
  instructions h = (
    h.0,
    subst (λ b. AreInstructions b h.0) same_code h.1,
    λ k d inside. indexed (setting_of p) (setting_of q) (kept_tested p q same) _ (h.2 k d inside),
  )

  functions : FunctionsPass (input_of p) → FunctionsPass (input_of q)
  functions h some =
      subst (λ n. Allows n FUNCTION) (same_caps p q same)
      (h (λ none. some (none_of function_parts q.functions (sym same_functions ∙ ap (map function_parts) none))))

  abbrev other : List ℕ → Bytecode
  other bytes = code bytes (setting_of q) (map switch_targets q.switches)

  chunks : All (ChunkPasses (input_of p).code) (chunks_of p) → All (ChunkPasses (input_of q).code) (chunks_of q)
  chunks h =
      let here : All (ChunkPasses (other p.code)) (chunks_of p) = λ k d inside. chunk_passes p.code (kept_alike p q same) _ (h k d inside) in
      subst (λ spans. All (ChunkPasses (other q.code)) spans) same_chunks (subst (λ b. All (ChunkPasses (other b)) (chunks_of p)) same_code here)

  pub accepted_alike : IsAccepted (input_of p) → IsAccepted (input_of q)
  accepted_alike h = record {
    constants = constants h.constants;
    code = instructions h.code;
    functions = functions h.functions;
    chunks = chunks h.chunks;
  }

  pub depths_alike : (numbers : List ℕ) → AreDeepest (input_of p) numbers → AreDeepest (input_of q) numbers
  depths_alike numbers h =
      let here : AllZip (IsDeepest (coded (other p.code))) (chunks_of p) numbers =
      zip_each (IsDeepest (coded (input_of p).code)) (IsDeepest (coded (other p.code))) (λ chunk n is. deepest p.code (kept_alike p q same) chunk n is) (chunks_of p) numbers h in
      subst (λ spans. AllZip (IsDeepest (coded (other q.code))) spans numbers) same_chunks
      (subst (λ b. AllZip (IsDeepest (coded (other b))) (chunks_of p) numbers) same_code here)

  pub loadable_alike : (host : ℕ) → IsLoadable host p → IsLoadable host q
  loadable_alike host h = record {
    allowed = subst (λ n. Allows host n) (same_caps p q same) h.allowed;
    accepted = accepted_alike h.accepted;
  }
