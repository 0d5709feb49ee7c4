-- A program that is tightened or stripped has a file where it had one before, and that is no longer.
use Rattle.std.proofs.Common.{◌≡◌, ℕ, ◌≤◌, ◌^◌, inl, inr, List, [], ◌∷◌, ◌++◌, length, map, Option, None, refl, sym, ap, subst, ◌∙◌, arith, lit<}
use Rattle.std.specs.List.{AllByRecursion, AllZip}
use Rattle.std.proofs.lemmas.List.Concat.{flat_map-cons}
use Rattle.std.proofs.lemmas.List.Elements.{recursion_from_All}
use Rattle.grain_base.specs.Place.{place_of}
use Rattle.grain_base.specs.declared.position.Position.{Position}
use Rattle.grain_bytecode.specs.ChainStream.{all_positions}
use Rattle.grain_bytecode.specs.Positions.{Place}
use Rattle.grain_code.specs.Span.{Span, undeclared_chunk}
use Rattle.grain_code.specs.declared.function.Function.{Function}
use Rattle.grain_pools.specs.Chain.{positions, root_positions, root_shape, shape, step_positions, step_shape, steps_positions}
use Rattle.grain_pools.specs.declared.chain.Chain.{Chain}
use Rattle.grain_pools.specs.declared.chain.Root.{Root}
use Rattle.grain_pools.specs.declared.chain.Root.TheVariants as roots
use Rattle.grain_pools.specs.declared.chain.Step.{Step}
use Rattle.grain_pools.specs.declared.chain.Step.TheVariants as steps
use Rattle.grain.specs.Program.{Program}
use Rattle.grain.specs.Sidecars.{IsStripped}
use Rattle.grain.specs.Tightened.{IsTightened, undeclared_function}
use Rattle.grain_format.specs.Chains.{chain_format, chain_parts, root_format, root_parts, step_format, step_parts, place_format, line_and_column, tail_format, tail_parts}
use Rattle.grain_format.specs.Formats.{any_number, blob, both, byte, counted_list, depending, number_below, only, optional, tag_below, text}
use Rattle.grain_format.specs.Functions.{chunk_format, function_format, function_parts}
use Rattle.grain_format.proofs.NoLonger.{NoLonger, both_no_longer, depending_no_longer, list_no_longer, none_no_longer, same, smaller}
use Rattle.grain_format.specs.Names.{names_format}
use Rattle.grain_format.specs.Switches.{switch_format}
use Rattle.grain_format.specs.Tokens.{assign_op_format, token_format}
use Rattle.grain_pools.specs.declared.chain.Tail.{Tail}
use Rattle.grain_file.specs.Loading.{IsFileOf}
use Rattle.grain_file.specs.ProgramFile.{Bounds, Kept, body_format, bounds_of, code_format, file_format, kept, pools_format, positions_format, residuals_refusal, rest_format, value_format, versioned_format}
use Rattle.grain_file.specs.declared.file.Limits.{Limits}

-- ---- whole files

module _ (bounds : Bounds) (old new : Kept) where
  whole_no_longer : NoLonger code_format old.0 new.0 → NoLonger (pools_format bounds) old.1.0 new.1.0 → NoLonger rest_format old.1.1 new.1.1 → NoLonger (file_format bounds) old new
  unfolding file_format versioned_format body_format
  whole_no_longer code pools rest =
      let body = both_no_longer code_format (both (pools_format bounds) rest_format) old.0 new.0 old.1 new.1 code
      (both_no_longer (pools_format bounds) rest_format old.1.0 new.1.0 old.1.1 new.1.1 pools rest) in
      record { fits = body.fits; short = let short = body.short in omega arith }

-- how a program is encoded for readers with these limits
abbrev pub spelled_for : Limits → Program → List ℕ
spelled_for limits p = (file_format (bounds_of limits)).spelling (kept p)

-- that is a file of it within the limits, and no longer than these bytes
pub record HasShorterFile (limits : Limits) (bytes : List ℕ) (p : Program) : Type 0 where
  pub is : IsFileOf limits (spelled_for limits p) p
  pub shorter : length (spelled_for limits p) ≤ length bytes

file_no_longer : (limits : Limits) (bytes : List ℕ) (old new : Program) → IsFileOf limits bytes old → NoLonger (file_format (bounds_of limits)) (kept old) (kept new)
    → HasShorterFile limits bytes new
file_no_longer limits bytes old new file h =
    let shorter : length (spelled_for limits new) ≤ length bytes = let short = h.short in let long = ap (λ (b : List ℕ). length b) file.file.spelled in omega arith in
    record {
      is = record {
        shallow = file.shallow;
        short = (let before = file.short in omega arith);
        file = record { spelled = refl; fits = h.fits file.file.fits };
      };
      shorter = shorter;
    }

-- ---- chunks that declare less

chunk_no_longer : (old new : Span) → undeclared_chunk new ≡ undeclared_chunk old → new.max_stack ≤ old.max_stack → NoLonger chunk_format old new
chunk_no_longer old new e less =
    let h = both_no_longer (number_below (2 ^ 32)) (both (number_below (2 ^ 32)) (number_below (2 ^ 16))) old.entry new.entry (old.end, old.max_stack) (new.end, new.max_stack)
    (same (number_below (2 ^ 32)) old.entry new.entry (ap (λ (s : Span). s.entry) e))
    (both_no_longer (number_below (2 ^ 32)) (number_below (2 ^ 16)) old.end new.end old.max_stack new.max_stack
    (same (number_below (2 ^ 32)) old.end new.end (ap (λ (s : Span). s.end) e)) (smaller (2 ^ 16) old.max_stack new.max_stack less)) in
    record { fits = h.fits; short = h.short }

function_no_longer : (old new : Function) → undeclared_function new ≡ undeclared_function old → new.chunk.max_stack ≤ old.chunk.max_stack
    → NoLonger function_format (function_parts old) (function_parts new)
function_no_longer old new e less =
    let a = function_parts old in let b = function_parts new in
    let of_this = optional (number_below (2 ^ 32)) in let of_params = counted_list (number_below (2 ^ 32)) in
    both_no_longer (number_below (2 ^ 32)) (both of_params (both (tag_below 2) (both of_this chunk_format))) a.0 b.0 a.1 b.1
    (same (number_below (2 ^ 32)) a.0 b.0 (ap (λ (f : Function). (function_parts f).0) e))
    (both_no_longer of_params (both (tag_below 2) (both of_this chunk_format)) a.1.0 b.1.0 a.1.1 b.1.1
    (same of_params a.1.0 b.1.0 (ap (λ (f : Function). (function_parts f).1.0) e))
    (both_no_longer (tag_below 2) (both of_this chunk_format) a.1.1.0 b.1.1.0 a.1.1.1 b.1.1.1
    (same (tag_below 2) a.1.1.0 b.1.1.0 (ap (λ (f : Function). (function_parts f).1.1.0) e))
    (both_no_longer of_this chunk_format a.1.1.1.0 b.1.1.1.0 a.1.1.1.1 b.1.1.1.1
    (same of_this a.1.1.1.0 b.1.1.1.0 (ap (λ (f : Function). (function_parts f).1.1.1.0) e))
    (chunk_no_longer old.chunk new.chunk (ap (λ (f : Function). f.chunk) e) less))))

functions_no_longer : (old new : List Function) → map undeclared_function new ≡ map undeclared_function old
    → AllZip (λ n m. n ≤ m) (map (λ (s : Span). s.max_stack) (map (λ (f : Function). f.chunk) new)) (map (λ (s : Span). s.max_stack) (map (λ (f : Function). f.chunk) old))
    → AllZip (NoLonger function_format) (map function_parts old) (map function_parts new)
functions_no_longer [] [] e less = tt
functions_no_longer [] (g ∷ new) e less = absurd less
functions_no_longer (f ∷ old) [] e less = absurd less
functions_no_longer (f ∷ old) (g ∷ new) e less =
    let first : undeclared_function g ≡ undeclared_function f = cc in
    let rest : map undeclared_function new ≡ map undeclared_function old = cc in
    (function_no_longer f g first less.0, functions_no_longer old new rest less.1)

-- a tightened program
pub tight_file : (limits : Limits) (bytes : List ℕ) (old new : Program) → IsFileOf limits bytes old → IsTightened old new → HasShorterFile limits bytes new
unfolding code_format
tight_file limits bytes old new file h =
    let a = (kept old).0 in let b = (kept new).0 in
    let less = h.least old (sym h.rest) h.accepted in
    let of_rest = both chunk_format (counted_list function_format) in
    let of_id = both any_number any_number in
    let of_code = both blob of_rest in
    let code : NoLonger code_format a b = both_no_longer (number_below (2 ^ 16)) (both of_id of_code) a.0 b.0 a.1 b.1
    (same (number_below (2 ^ 16)) a.0 b.0 (ap (λ (p : Program). (kept p).0.0) h.rest))
    (both_no_longer of_id of_code a.1.0 b.1.0 a.1.1 b.1.1
    (same of_id a.1.0 b.1.0 (ap (λ (p : Program). (kept p).0.1.0) h.rest))
    (both_no_longer blob of_rest a.1.1.0 b.1.1.0 a.1.1.1 b.1.1.1
    (same blob a.1.1.0 b.1.1.0 (ap (λ (p : Program). (kept p).0.1.1.0) h.rest))
    (both_no_longer chunk_format (counted_list function_format) old.main new.main (map function_parts old.functions) (map function_parts new.functions)
    (chunk_no_longer old.main new.main (ap (λ (p : Program). p.main) h.rest) less.0)
    (list_no_longer function_format (map function_parts old.functions) (map function_parts new.functions)
    (functions_no_longer old.functions new.functions (ap (λ (p : Program). p.functions) h.rest) less.1))))) in
    file_no_longer limits bytes old new file (whole_no_longer (bounds_of limits) (kept old) (kept new) code
    (same (pools_format (bounds_of limits)) (kept old).1.0 (kept new).1.0 (ap (λ (p : Program). (kept p).1.0) h.rest))
    (same rest_format (kept old).1.1 (kept new).1.1 (ap (λ (p : Program). (kept p).1.1) h.rest)))

-- ---- chains without positions

abbrev Bare : Position → Type 0
Bare p = place_of p ≡ None

place_no_longer : (old new : Position) → Bare new → NoLonger place_format (place_of old) (place_of new)
place_no_longer old new bare = subst (λ (place : Place). NoLonger place_format (place_of old) place) (sym bare) (none_no_longer line_and_column (place_of old))

no_position : Position
no_position = record { line = 0; column = 0; line_fits = lit< tt; column_fits = lit< tt; no_place = λ e. refl }

root_no_longer : (old new : Root) → root_shape no_position new ≡ root_shape no_position old → AllByRecursion Bare (root_positions new) → NoLonger root_format (root_parts old) (root_parts new)
root_no_longer (roots.Local slot name) (roots.Local slot' name') e bare = same root_format (inl (slot, name)) (inl (slot', name')) cc
root_no_longer (roots.Named name pos) (roots.Named name' pos') e bare =
    let h = both_no_longer (number_below (2 ^ 32)) place_format name name' (place_of pos) (place_of pos') (same (number_below (2 ^ 32)) name name' cc) (place_no_longer pos pos' bare.0) in
    record { fits = h.fits; short = let short = h.short in omega arith }
root_no_longer (roots.This pos) (roots.This pos') e bare = let h = place_no_longer pos pos' bare.0 in record { fits = h.fits; short = let short = h.short in omega arith }
root_no_longer roots.Temporary roots.Temporary e bare = same root_format (inr (inr (inr tt))) (inr (inr (inr tt))) refl
root_no_longer old new e bare = absurd cc

step_no_longer : (old new : Step) → step_shape no_position new ≡ step_shape no_position old → AllByRecursion Bare (step_positions new) → NoLonger step_format (step_parts old) (step_parts new)
step_no_longer (steps.Index operand flags pos bracket) (steps.Index operand' flags' pos' bracket') e bare =
    let places = both place_format place_format in
    let h = both_no_longer (number_below (2 ^ 16)) (both byte places) operand operand' (flags.0, (place_of pos, place_of bracket)) (flags'.0, (place_of pos', place_of bracket'))
    (same (number_below (2 ^ 16)) operand operand' cc)
    (both_no_longer byte places flags.0 flags'.0 (place_of pos, place_of bracket) (place_of pos', place_of bracket') (same byte flags.0 flags'.0 cc)
    (both_no_longer place_format place_format (place_of pos) (place_of pos') (place_of bracket) (place_of bracket') (place_no_longer pos pos' bare.0) (place_no_longer bracket bracket' bare.1.0))) in
    record { fits = h.fits; short = let short = h.short in omega arith }
step_no_longer (steps.Property name getter setter flags pos) (steps.Property name' getter' setter' flags' pos') e bare =
    let of_flags = both byte place_format in let of_setter = both (number_below (2 ^ 32)) of_flags in
    let h = both_no_longer (number_below (2 ^ 32)) (both (number_below (2 ^ 32)) of_setter) name name' (getter, (setter, (flags.0, place_of pos))) (getter', (setter', (flags'.0, place_of pos')))
    (same (number_below (2 ^ 32)) name name' cc)
    (both_no_longer (number_below (2 ^ 32)) of_setter getter getter' (setter, (flags.0, place_of pos)) (setter', (flags'.0, place_of pos')) (same (number_below (2 ^ 32)) getter getter' cc)
    (both_no_longer (number_below (2 ^ 32)) of_flags setter setter' (flags.0, place_of pos) (flags'.0, place_of pos') (same (number_below (2 ^ 32)) setter setter' cc)
    (both_no_longer byte place_format flags.0 flags'.0 (place_of pos) (place_of pos') (same byte flags.0 flags'.0 cc) (place_no_longer pos pos' bare.0)))) in
    record { fits = h.fits; short = let short = h.short in omega arith }
step_no_longer (steps.Method name argc operand flags pos) (steps.Method name' argc' operand' flags' pos') e bare =
    let of_flags = both byte place_format in let of_operand = both (number_below (2 ^ 16)) of_flags in
    let h = both_no_longer (number_below (2 ^ 32)) (both byte of_operand) name name' (argc, (operand, (flags.0, place_of pos))) (argc', (operand', (flags'.0, place_of pos')))
    (same (number_below (2 ^ 32)) name name' cc)
    (both_no_longer byte of_operand argc argc' (operand, (flags.0, place_of pos)) (operand', (flags'.0, place_of pos')) (same byte argc argc' cc)
    (both_no_longer (number_below (2 ^ 16)) of_flags operand operand' (flags.0, place_of pos) (flags'.0, place_of pos') (same (number_below (2 ^ 16)) operand operand' cc)
    (both_no_longer byte place_format flags.0 flags'.0 (place_of pos) (place_of pos') (same byte flags.0 flags'.0 cc) (place_no_longer pos pos' bare.0)))) in
    record { fits = h.fits; short = let short = h.short in omega arith }
step_no_longer old new e bare = absurd cc

-- of each element of two lists one after another
apart : {X : Type 0} (P : X → Type 0) (xs ys : List X) → AllByRecursion P (xs ++ ys) → AllByRecursion P xs × AllByRecursion P ys
apart P [] ys all = (tt, all)
apart P (x ∷ xs) ys all = let rest = apart P xs ys all.1 in ((all.0, rest.0), rest.1)

steps_no_longer : (old new : List Step) → map (step_shape no_position) new ≡ map (step_shape no_position) old → AllByRecursion Bare (steps_positions new)
    → AllZip (NoLonger step_format) (map step_parts old) (map step_parts new)
steps_no_longer [] [] e bare = tt
steps_no_longer [] (t ∷ new) e bare = absurd cc
steps_no_longer (s ∷ old) [] e bare = absurd cc
steps_no_longer (s ∷ old) (t ∷ new) e bare =
    let first : step_shape no_position t ≡ step_shape no_position s = cc in
    let rest : map (step_shape no_position) new ≡ map (step_shape no_position) old = cc in
    let all = apart Bare (step_positions t) (steps_positions new) (rw (flat_map-cons step_positions t new) at bare) in
    (step_no_longer s t first all.0, steps_no_longer old new rest all.1)

chain_no_longer : (old new : Chain) → shape no_position new ≡ shape no_position old → AllByRecursion Bare (positions new) → NoLonger chain_format (chain_parts old) (chain_parts new)
chain_no_longer old new e bare =
    let a = chain_parts old in let b = chain_parts new in
    let all = apart Bare (root_positions new.root) (steps_positions new.steps.items) bare in
    let end = both tail_format (number_below (2 ^ 16)) in
    both_no_longer root_format (both (counted_list step_format) end) a.0 b.0 a.1 b.1
    (root_no_longer old.root new.root (ap (λ (s : Root × List Step × Tail × ℕ). s.0) e) all.0)
    (both_no_longer (counted_list step_format) end a.1.0 b.1.0 a.1.1 b.1.1
    (list_no_longer step_format a.1.0 b.1.0 (steps_no_longer old.steps.items new.steps.items (ap (λ (s : Root × List Step × Tail × ℕ). s.1) e) all.1))
    (both_no_longer tail_format (number_below (2 ^ 16)) a.1.1.0 b.1.1.0 a.1.1.1 b.1.1.1
    (same tail_format a.1.1.0 b.1.1.0 (ap (λ (s : Root × List Step × Tail × ℕ). tail_parts s.2) e))
    (same (number_below (2 ^ 16)) old.operands new.operands (ap (λ (s : Root × List Step × Tail × ℕ). s.3) e))))

chains_no_longer : (old new : List Chain) → map (shape no_position) new ≡ map (shape no_position) old → AllByRecursion Bare (all_positions new)
    → AllZip (NoLonger chain_format) (map chain_parts old) (map chain_parts new)
chains_no_longer [] [] e bare = tt
chains_no_longer [] (d ∷ new) e bare = absurd cc
chains_no_longer (c ∷ old) [] e bare = absurd cc
chains_no_longer (c ∷ old) (d ∷ new) e bare =
    let first : shape no_position d ≡ shape no_position c = cc in
    let rest : map (shape no_position) new ≡ map (shape no_position) old = cc in
    let all = apart Bare (positions d) (all_positions new) (rw (flat_map-cons positions d new) at bare) in
    (chain_no_longer c d first all.0, chains_no_longer old new rest all.1)

-- the program with these chains, and without positions
abbrev with_chains : Program → List Chain → Program
with_chains p chains = record p { positions = None; chains = chains }

-- a stripped program
pub bare_file : (limits : Limits) (bytes : List ℕ) (old new : Program) → IsFileOf limits bytes old → IsStripped old new → HasShorterFile limits bytes new
unfolding pools_format rest_format
bare_file limits bytes old new file h =
    let bounds = bounds_of limits in
    let is : with_chains old new.chains ≡ new =
    sym (ap (λ (p : Program). record p { chains = new.chains }) h.rest.rest) ∙ ap (λ (o : Option (List Position)). record new { positions = o }) (sym h.positions) in
    let mid = with_chains old new.chains in
    let a = (kept old).1.0 in let b = (kept mid).1.0 in
    let chains = list_no_longer chain_format (map chain_parts old.chains) (map chain_parts new.chains)
    (chains_no_longer old.chains new.chains (h.rest.chains no_position) (recursion_from_All Bare (all_positions new.chains) h.chains)) in
    let of_switches = counted_list (switch_format bounds.cases a.1.0) in
    let of_chains = both (counted_list chain_format) of_switches in
    let of_ops = both (counted_list assign_op_format) of_chains in
    let of_names = depending (counted_list (value_format bounds.depth)) (λ constants. both (counted_list token_format) (both (counted_list assign_op_format) (both (counted_list chain_format) (counted_list (switch_format bounds.cases constants))))) in
    let pools : NoLonger (pools_format bounds) a b = both_no_longer names_format of_names a.0 b.0 a.1 b.1 (same names_format a.0 b.0 refl)
    (depending_no_longer (counted_list (value_format bounds.depth)) (λ constants. both (counted_list token_format) (both (counted_list assign_op_format) (both (counted_list chain_format) (counted_list (switch_format bounds.cases constants))))) a.1.0 a.1.1 b.1.1
    (both_no_longer (counted_list token_format) of_ops a.1.1.0 b.1.1.0 a.1.1.1 b.1.1.1 (same (counted_list token_format) a.1.1.0 b.1.1.0 refl)
    (both_no_longer (counted_list assign_op_format) of_chains a.1.1.1.0 b.1.1.1.0 a.1.1.1.1 b.1.1.1.1 (same (counted_list assign_op_format) a.1.1.1.0 b.1.1.1.0 refl)
    (both_no_longer (counted_list chain_format) of_switches a.1.1.1.1.0 b.1.1.1.1.0 a.1.1.1.1.1 b.1.1.1.1.1 chains (same of_switches a.1.1.1.1.1 b.1.1.1.1.1 refl))))) in
    let rest : NoLonger rest_format (kept old).1.1 (kept mid).1.1 =
    both_no_longer (optional text) (both positions_format (only 0 residuals_refusal refl)) old.source old.source (kept old).1.1.1 (kept mid).1.1.1 (same (optional text) old.source old.source refl)
    (both_no_longer positions_format (only 0 residuals_refusal refl) (kept old).1.1.1.0 None old.residuals old.residuals (none_no_longer (counted_list place_format) (kept old).1.1.1.0)
    (same (only 0 residuals_refusal refl) old.residuals old.residuals refl)) in
    subst (HasShorterFile limits bytes) is
    (file_no_longer limits bytes old mid file (whole_no_longer bounds (kept old) (kept mid) (same code_format (kept old).0 (kept old).0 refl) pools rest))
