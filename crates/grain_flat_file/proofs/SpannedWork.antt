-- What the chunks of a program span is what is kept of it, and no verification visits more.
use Rattle.std.proofs.Common.{◌≡◌, ℕ, ◌+◌, ◌≤◌, List, [], ◌∷◌, map, refl, sym, ap, ◌∙◌, arith}
use Rattle.grain.specs.Program.{Program, chunks_of, input_of}
use Rattle.grain_code.specs.Span.{Span}
use Rattle.grain_code.specs.declared.function.Function.{Function}
use Rattle.grain_format.specs.Functions.{FunctionParts, function_parts}
use Rattle.grain_file.specs.ProgramFile.{Kept, kept}
use Rattle.grain_flat.specs.Work.{work_of}
use Rattle.grain_flat.proofs.VisitBounds.{all_reached_few, refused_within}
use Rattle.grain_flat_file.specs.Changed.{program_work}
use Rattle.grain_rules.specs.Accepted.{IsAccepted}
use Rattle.grain_verify.specs.Meter.{AreReached, HasCounted, IsWithinAll}

-- the chunks that are kept
abbrev kept_chunks : Kept → List Span
kept_chunks k = k.0.1.1.1.0 ∷ map (λ (f : FunctionParts). f.1.1.1.1) k.0.1.1.1.1

chunks_kept : (functions : List Function) → map (λ (f : FunctionParts). f.1.1.1.1) (map function_parts functions) ≡ map (λ (f : Function). f.chunk) functions
chunks_kept [] = refl
chunks_kept (f ∷ fs) = ap (λ (chunks : List Span). f.chunk ∷ chunks) (chunks_kept fs)

all_kept : (p : Program) → kept_chunks (kept p) ≡ chunks_of p
all_kept p = ap (λ (chunks : List Span). p.main ∷ chunks) (chunks_kept p.functions)

pub same_span : (p q : Program) → kept q ≡ kept p → program_work q ≡ program_work p
same_span p q same =
    ap (work_of q.code) (sym (all_kept q)) ∙ ap (λ (k : Kept). work_of k.0.1.1.0 (kept_chunks k)) same ∙ ap (work_of p.code) (all_kept p)

-- a meter shows no more than the limit above what it showed
shows_most : (old new n limit : ℕ) → HasCounted old new n → n ≤ limit → new ≤ old + limit
shows_most old new n limit counted most = omega arith

pub accepted_visits : (p : Program) (old new limit : ℕ) → IsAccepted (input_of p) → (n : ℕ) × AreReached (input_of p).code (chunks_of p) n × HasCounted old new n → program_work p ≤ limit → new ≤ old + limit
accepted_visits p old new limit accepted h within =
    let reached = h.1 in
    let few = all_reached_few (input_of p).code (chunks_of p) reached.0 accepted.chunks reached.1 in
    let count = reached.2 in
    shows_most old new h.0 limit h.2 (omega arith)

pub refused_visits : (p : Program) (old new limit : ℕ) → (n : ℕ) × IsWithinAll (input_of p) n × HasCounted old new n → program_work p ≤ limit → new ≤ old + limit
refused_visits p old new limit h within =
    let few = refused_within p.code (chunks_of p) h.0 (record { starts = h.1.starts; nowhere = h.1.nowhere }) in
    shows_most old new h.0 limit h.2 (omega arith)
