-- Chunks that differ in what they declare alone.
use Rattle.std.proofs.Common.{◌≡◌, ℕ, ◌≤◌, zero, suc, List, [], ◌∷◌, length, map, refl, ap, subst, arith}
use Rattle.std.specs.List.{All, AllZip}
use Rattle.grain_code.specs.Span.{Span, undeclared_chunk}
use Rattle.grain_code.specs.declared.op.Op.{Op}
use Rattle.grain_rules.specs.Accepted.{ChunkPasses, IsFramed}
use Rattle.grain_rules.specs.Code.{Bytecode, Code, coded}
use Rattle.grain_rules.specs.Counts.{Counts}
use Rattle.grain_rules.specs.Typing.{HasTyping, IsDeepest, Passes, Reached, begin, onward}
use Rattle.grain_rules.proofs.Law.{typing_covers}

-- the chunk, declaring a number
abbrev pub declaring : ℕ → Span → Span
declaring n chunk = record chunk { max_stack = n }

passes_again : (code : Code) (chunk : Span) (n at : ℕ) (c : Counts) (op : Op) → Passes code chunk at c op → Passes code (declaring n chunk) at c op
passes_again code chunk n at c op p = record {
  stands = record { within = record { entry = p.stands.within.entry; end = p.stands.within.end; place = p.stands.within.place }; is = p.stands.is };
  meets = p.meets;
  allowed = p.allowed;
  stays = p.stays;
}

reached_again : (code : Code) (chunk : Span) (n at : ℕ) (c : Counts) → Reached code chunk at c → Reached code (declaring n chunk) at c
reached_again code chunk n at c begin = begin
reached_again code chunk n b d (onward {at} {c} {op} r p e) = onward (reached_again code chunk n at c r) (passes_again code chunk n at c op p) e

typed_again : (code : Code) (chunk : Span) (n m : ℕ) → HasTyping code chunk m → HasTyping code (declaring n chunk) m
typed_again code chunk n m (typing, h) = (
  typing,
  record {
    entry = h.entry;
    shallow = h.shallow;
    met = λ at c e. let p = h.met at c e in (p.0, passes_again code chunk n at c p.0 p.1);
    closed = h.closed;
  },
)

framed_again : (code : Bytecode) (chunk : Span) (n : ℕ) → IsFramed code chunk → IsFramed code (declaring n chunk)
framed_again code chunk n h = record { ordered = h.ordered; inside = h.inside; entry = h.entry; end = h.end }

deepest_again : (code : Code) (chunk : Span) (n m : ℕ) → IsDeepest code chunk m → IsDeepest code (declaring n chunk) m
deepest_again code chunk n m h = record {
  most = λ at c r. h.most at c (reached_again code (declaring n chunk) chunk.max_stack at c r);
  attained = let a = h.attained in (a.0, (a.1.0, reached_again code chunk n a.0 a.1.0 a.1.1, a.1.2));
}

-- a typing holds whatever is reached
deepest_within : (code : Code) (chunk : Span) (n m : ℕ) → IsDeepest code chunk n → HasTyping code chunk m → n ≤ m
deepest_within code chunk n m h (typing, t) =
    let a = h.attained in
    let covered = typing_covers code chunk m typing t a.0 a.1.0 a.1.1 in
    subst (λ k. k ≤ m) a.1.2 (t.shallow a.0 a.1.0 covered)

-- the chunks, declaring these numbers
abbrev pub redeclared : List Span → List ℕ → List Span
redeclared (chunk ∷ chunks) (n ∷ numbers) = declaring n chunk ∷ redeclared chunks numbers
redeclared (chunk ∷ chunks) [] = []
redeclared [] numbers = []

alike : (c d : Span) → undeclared_chunk d ≡ undeclared_chunk c → d ≡ declaring d.max_stack c
alike c d e = λ i. record { entry = (e i).entry; end = (e i).end; max_stack = d.max_stack }

-- chunks that are alike except for what they declare
pub all_alike : (chunks others : List Span) → map undeclared_chunk others ≡ map undeclared_chunk chunks → others ≡ redeclared chunks (map (λ chunk. chunk.max_stack) others)
all_alike [] [] e = refl
all_alike [] (d ∷ ds) e = absurd (let l : suc (length (map undeclared_chunk ds)) ≡ 0 = ap (λ (cs : List Span). length cs) e in omega arith)
all_alike (c ∷ cs) [] e = absurd (let l : 0 ≡ suc (length (map undeclared_chunk cs)) = ap (λ (cs : List Span). length cs) e in omega arith)
all_alike (c ∷ cs) (d ∷ ds) e =
    let first : undeclared_chunk d ≡ undeclared_chunk c = cc in
    let others : map undeclared_chunk ds ≡ map undeclared_chunk cs = cc in
    λ i. alike c d first i ∷ all_alike cs ds others i

pub all_pass : (code : Bytecode) (chunks : List Span) (numbers : List ℕ) → All (ChunkPasses code) chunks → AllZip (HasTyping (coded code)) chunks numbers → All (ChunkPasses code) (redeclared chunks numbers)
all_pass code [] numbers all typed k d l = absurd (omega arith)
all_pass code (c ∷ cs) [] all typed k d l = absurd (omega arith)
all_pass code (c ∷ cs) (n ∷ ns) all typed zero d l = record { framed = framed_again code c n (all 0 c (omega arith)).framed; typed = typed_again (coded code) c n n typed.0 }
all_pass code (c ∷ cs) (n ∷ ns) all typed (suc k) d l = all_pass code cs ns (λ j x m. all (suc j) x (omega arith)) typed.1 k d (omega arith)

pub all_deepest : (code : Code) (chunks : List Span) (numbers others : List ℕ) → length others ≡ length numbers → AllZip (IsDeepest code) chunks numbers → AllZip (IsDeepest code) (redeclared chunks others) numbers
all_deepest code [] [] [] e h = tt
all_deepest code [] [] (m ∷ ms) e h = absurd (omega arith)
all_deepest code [] (n ∷ ns) others e h = absurd h
all_deepest code (c ∷ cs) [] others e h = absurd h
all_deepest code (c ∷ cs) (n ∷ ns) [] e h = absurd (omega arith)
all_deepest code (c ∷ cs) (n ∷ ns) (m ∷ ms) e h = (deepest_again code c m n h.0, all_deepest code cs ns ms (omega arith) h.1)

-- chunks that pass declare no less than their numbers
pub no_less : (code : Bytecode) (chunks : List Span) (numbers others : List ℕ) → length others ≡ length numbers → AllZip (IsDeepest (coded code)) chunks numbers
    → All (ChunkPasses code) (redeclared chunks others) → AllZip (λ n m. n ≤ m) numbers others
no_less code [] [] [] e h all = tt
no_less code [] [] (m ∷ ms) e h all = absurd (omega arith)
no_less code [] (n ∷ ns) others e h all = absurd h
no_less code (c ∷ cs) [] others e h all = absurd h
no_less code (c ∷ cs) (n ∷ ns) [] e h all = absurd (omega arith)
no_less code (c ∷ cs) (n ∷ ns) (m ∷ ms) e h all =
    let deepest = deepest_again (coded code) c m n h.0 in
    (deepest_within (coded code) (declaring m c) n m deepest (all 0 c (omega arith)).typed, no_less code cs ns ms (omega arith) h.1 (λ j x l. all (suc j) x (omega arith)))
