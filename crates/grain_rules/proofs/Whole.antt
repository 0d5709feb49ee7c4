-- What passes the tests before the chunks has none of their flaws.
use Rattle.std.proofs.Common.{◌≡◌, ℕ, ◌<◌, inl, inr, suc, List, [], ◌∷◌, ◌++◌, length, drop, get_or, refl, sym, ap, subst, ◌∙◌, arith}
use Rattle.std.specs.List.{All, AllByRecursion, AllZip, Contains, flat_map}
use Rattle.std.proofs.lemmas.List.{append-nil, append_cancel_left, take-append-drop}
use Rattle.std.proofs.lemmas.List.Elements.{All-contains}
use Rattle.grain_base.specs.declared.value.Dynamic.{Dynamic}
use Rattle.grain_base.specs.declared.value.Dynamic.TheVariants as values
use Rattle.grain_code.specs.Span.{Span}
use Rattle.grain_code.specs.Split.{Begins, IsInstruction, starts_from}
use Rattle.grain_code.specs.InstructionTable.{spelling}
use Rattle.grain_code.specs.declared.op.Op.{Op}
use Rattle.grain_code.proofs.Instructions.{begins_fits}
use Rattle.grain_code.proofs.Splits.{begins_cons, no_front_inside}
use Rattle.grain_rules.specs.Accepted.{AllowsConst, AreIndexed, ChunkPasses, CodePasses, ConstantPasses, ConstantsPass, FunctionsPass, Input, IsSafe}
use Rattle.grain_rules.specs.Code.{Bytecode, coded}
use Rattle.grain_rules.specs.Flaw.{ChunkFlaw, CodeFlaw, Flaw, IsFirstFlaw, ConstantAsks, bad_index, of_chunk, of_code, of_constant, of_functions, undecodable}
use Rattle.grain_rules.specs.Indices.{Indexed, IsOut, IsPassed, cases_of}
use Rattle.grain_rules.specs.Setting.{Setting}
use Rattle.grain_rules.specs.Typing.{IsDeepest}
use Rattle.grain_rules.specs.declared.error.VerifyError.{VerifyError}
use Rattle.grain_rules.specs.declared.error.VerifyError.TheVariants as errors
use Rattle.grain_rules.proofs.Exact.{deepest_safe}
use Rattle.grain_rules.proofs.OperationUniqueness.{stands_once}
use Rattle.grain_rules.proofs.Splits.{in_nil, in_cons, in_head, in_tail, width_pos}

-- constants that all pass lack nothing
pub none_asks : (caps : ℕ) (consts : List Dynamic) (asked : ℕ) → All (ConstantPasses caps) consts → ConstantAsks caps consts asked → ⊥
none_asks caps consts asked all h =
    h.refused (subst (AllowsConst caps) (h.here values.Unit) (all h.place values.Unit h.inside))

-- bytes begin with one instruction at most
begins_once : (bytes : List ℕ) (op other : Op) → Begins bytes op → Begins bytes other → op ≡ other
begins_once bytes op other h k = stands_once bytes 0 op other h k

-- an instruction that stands behind a front of instructions is one of them all
stands_among : (bytes rest : List ℕ) (ops front : List Op) (op : Op) → AllByRecursion IsInstruction ops → AllByRecursion IsInstruction front → bytes ≡ flat_map spelling ops
    → bytes ≡ flat_map spelling front ++ rest → Begins rest op → Contains ops op
stands_among bytes rest [] [] op all all' e e' h = absurd (let f = begins_fits rest op h in let w = width_pos op in let l : length rest ≡ 0 = ap (λ (b : List ℕ). length b) (sym e' ∙ e) in omega arith)
stands_among bytes rest [] (o' ∷ os') op all all' e e' h =
    absurd (let b = (begins_cons o' os' rest bytes all'.0 e').1 in let f = begins_fits bytes o' b in let w = width_pos o' in let l : length bytes ≡ 0 = ap (λ (b : List ℕ). length b) e in omega arith)
stands_among bytes rest (o ∷ os) [] op all all' e e' h =
    let b = (begins_cons o os [] bytes all.0 (e ∙ sym (append-nil (flat_map spelling (o ∷ os))))).1 in
    subst (λ (x : Op). Contains (o ∷ os) x) (begins_once bytes o op b (subst (λ (x : List ℕ). Begins x op) (sym e') h)) (in_head o os)
stands_among bytes rest (o ∷ os) (o' ∷ os') op all all' e e' h =
    let c = begins_cons o os [] bytes all.0 (e ∙ sym (append-nil (flat_map spelling (o ∷ os)))) in
    let c' = begins_cons o' os' rest bytes all'.0 e' in
    let same : o ≡ o' = begins_once bytes o o' c.1 c'.1 in
    let both : spelling o ++ (flat_map spelling os ++ []) ≡ spelling o ++ (flat_map spelling os' ++ rest) = sym c.0 ∙ (c'.0 ∙ ap (λ (x : Op). spelling x ++ (flat_map spelling os' ++ rest)) (sym same)) in
    let cut = append_cancel_left (spelling o) (flat_map spelling os ++ []) (flat_map spelling os' ++ rest) both in
    in_tail o os op (stands_among (flat_map spelling os) rest os os' op all.1 all'.1 refl (sym (append-nil (flat_map spelling os)) ∙ cut) h)

in_all : {A : Type 0} (P : A → Type 0) (xs : List A) (x : A) → AllByRecursion P xs → Contains xs x → P x
in_all P [] x all c = absurd (in_nil x c)
in_all P (y ∷ ys) x all c = elim (in_cons y ys x c) [
  | inl e ↦ subst P e all.0
  | inr k ↦ in_all P ys x all.1 k
]

in_middle : {A : Type 0} (xs : List A) (x : A) (ys : List A) → Contains (xs ++ x ∷ ys) x
in_middle [] x ys = in_head x ys
in_middle (z ∷ xs) x ys = in_tail z (xs ++ x ∷ ys) x (in_middle xs x ys)

-- an operation whose indices are in bounds has none out of bounds
none_out : (s : Setting) (op : Op) (what : List ℕ) (index : ℕ) → Indexed s op → IsOut s op what index → ⊥
none_out s op what index h (inl o) =
    let k : o.bad.index < o.bad.bound = in_all IsPassed (o.earlier ++ o.bad ∷ o.later) o.bad (subst (AllByRecursion IsPassed) o.order h.tests) (in_middle o.earlier o.bad o.later) in
    let g = o.fails in
    omega arith
none_out s op what index h (inr o) =
    let k : index < s.facts.consts = in_all (λ c. c < s.facts.consts) (cases_of s op) index h.cases o.case in
    let g = o.fails in
    omega arith

-- code that passes has no flaw
pub no_code_flaw : (s : Setting) (bytes : List ℕ) (e : VerifyError) → AreIndexed s bytes → CodeFlaw s bytes e → ⊥
no_code_flaw s bytes e (ops, are, all) (undecodable {at} p none) =
    no_front_inside bytes at (starts_from 0 ops) p.inside (starts_from 0 p.front.0, (p.front.0, p.front.1, refl), none) (ops, are, refl)
no_code_flaw s bytes e (ops, are, all) (bad_index {at} {what} {index} op p stands out) =
    let same : bytes ≡ flat_map spelling p.front.0 ++ drop at bytes = sym (take-append-drop at bytes) ∙ ap (λ (b : List ℕ). b ++ drop at bytes) p.front.1.whole in
    let c = stands_among bytes (drop at bytes) ops p.front.0 op are.each p.front.1.each are.whole same stands in
    none_out s op what.now index (All-contains (Indexed s) ops op all c) out

-- the numbers of chunks that pass say what their kept runs do
pub safe_all : (code : Bytecode) (chunks : List Span) (numbers : List ℕ) → All (ChunkPasses code) chunks → AllZip (IsDeepest (coded code)) chunks numbers → AllZip (IsSafe code) chunks numbers
safe_all code [] [] all z = tt
safe_all code [] (n ∷ ns) all z = absurd z
safe_all code (c ∷ cs) [] all z = absurd z
safe_all code (c ∷ cs) (n ∷ ns) all z =
    (deepest_safe code c n c.max_stack (all 0 c (omega arith)).typed z.0, safe_all code cs ns (λ k d l. all (suc k) d (omega arith)) z.1)

abbrev no_chunk : Span
no_chunk = record { entry = 0; end = 0; max_stack = 0 }

-- a lack of memory is no flaw
memory_no_code_flaw : (s : Setting) (bytes : List ℕ) (e : VerifyError) → e ≡ errors.OutOfMemory → CodeFlaw s bytes e → ⊥
memory_no_code_flaw s bytes e m (undecodable p none) = cc
memory_no_code_flaw s bytes e m (bad_index op p stands out) = cc

pub memory_no_flaw : (i : Input) (e : VerifyError) → e ≡ errors.OutOfMemory → Flaw i e → ⊥
memory_no_flaw i e m (of_constant is asks) = cc
memory_no_flaw i e m (of_code pass f) = memory_no_code_flaw i.code.setting i.code.bytes e m f
memory_no_flaw i e m (of_functions is asks) = cc
memory_no_flaw i e m (of_chunk f) = subst (ChunkFlaw i.code (get_or i.chunks f.chunk.place no_chunk)) m (f.chunk.here no_chunk)

-- the first flaw of a chunk is one of what was verified, where the tests before the chunks pass
pub chunk_flawed : (i : Input) (e : VerifyError) → ConstantsPass i → CodePasses i → FunctionsPass i → IsFirstFlaw i.code i.chunks e → Flaw i e
chunk_flawed i e p q r f = of_chunk (record { constants = p; code = q; functions = r; chunk = f })
