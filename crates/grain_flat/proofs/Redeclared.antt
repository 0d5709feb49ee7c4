-- Chunks that declare their numbers: all that was accepted is accepted again.
use Rattle.std.proofs.Common.{◌≡◌, ℕ, ◌+◌, ◌<◌, List, [], ◌∷◌, ◌++◌, length, get_or, slice_set, take, refl, sym, ap, subst, ◌∙◌}
use Rattle.std.specs.List.{All, AllZip}
use Rattle.std.proofs.lemmas.List.{map-append, take_more, take_more_set}
use Rattle.grain_rules.specs.Accepted.{ChunkPasses, Input, IsAccepted}
use Rattle.grain_rules.specs.Code.{coded}
use Rattle.grain_code.specs.Span.{Span}
use Rattle.grain_rules.specs.Typing.{HasTyping}
use Rattle.grain_rules.proofs.Redeclared.{all_alike, all_pass, redeclared}
use Rattle.grain_flat.specs.Answers.{Accepts}
use Rattle.grain_flat.specs.Flat.{flat_input, rest_input}
use Rattle.grain_flat.specs.Tightening.{AreDeclaring, Tightens, declared}
use Rattle.grain_flat.specs.declared.records.CPools.{CPools}

-- what is accepted with some chunks is so with those that declare their numbers
accepted_again : (i : Input) (new : List Span) (numbers : List ℕ) → IsAccepted i → AllZip (HasTyping (coded i.code)) i.chunks numbers → new ≡ redeclared i.chunks numbers → IsAccepted (record i { chunks = new })
accepted_again i new numbers h typed is = record {
  constants = h.constants;
  code = h.code;
  functions = h.functions;
  chunks = subst (All (ChunkPasses i.code)) (sym is) (all_pass i.code i.chunks numbers h.chunks typed);
}

-- one chunk more declares its number
pub declared_next : (chunks : List Span) (numbers : List ℕ) (i : ℕ) (chunk : Span) (d : ℕ) → i < length chunks → i < length numbers → chunk.max_stack ≡ get_or numbers i d
    → declared (take i chunks) ≡ take i numbers → declared (take (i + 1) (slice_set chunks i chunk)) ≡ take (i + 1) numbers
declared_next chunks numbers i chunk d l m e h =
    ap declared (take_more_set chunks i chunk l)
    ∙ map-append (λ (c : Span). c.max_stack) (take i chunks) (chunk ∷ [])
    ∙ (λ k. h k ++ e k ∷ [])
    ∙ sym (take_more numbers i d m)

-- all with the flat form is tightened
pub tightens : (caps : ℕ) (bytes : List ℕ) (old new : List Span) (p : CPools) (numbers : List ℕ) → Accepts caps bytes old p numbers → AreDeclaring old new numbers → Tightens caps bytes old new p
tightens caps bytes old new p numbers h d =
    let is : new ≡ redeclared old numbers = all_alike old new d.rest ∙ ap (redeclared old) d.numbers_are in
    record {
      accepts = subst (Accepts caps bytes old p) (sym d.numbers_are) h;
      declaring = record { numbers_are = refl; rest = d.rest };
      again = λ whole. accepted_again (flat_input caps bytes old p whole) new numbers (h.accepted whole) (h.typed whole.rest) is;
      rest_again = λ rest. accepted_again (rest_input caps bytes old p rest) new numbers (h.rest rest) (h.typed rest) is;
    }
