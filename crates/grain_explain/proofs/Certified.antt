-- Rows that are a typing are not refused.
use Rattle.std.proofs.Common.{◌≡◌, inl, inr, ℕ, ◌≤◌, List, Some, length, slice_get, sym, ap, subst, ◌∙◌, arith}
use Rattle.std.proofs.lemmas.Option.{get_or_from_slice_get, slice_get_within}
use Rattle.grain_code.specs.Span.{Span}
use Rattle.grain_code.specs.declared.op.Op.{Op}
use Rattle.grain_code.proofs.Splits.{no_front_inside}
use Rattle.grain_rules.specs.Accepted.{ChunkPasses}
use Rattle.grain_rules.specs.Code.{Bytecode, coded}
use Rattle.grain_rules.specs.Counts.{Base, Counts, last_base, nothing}
use Rattle.grain_rules.specs.Effects.{Edge}
use Rattle.grain_rules.specs.Layout.{IsBoundary}
use Rattle.grain_rules.specs.Sinking.{FallsShortOf, ReachesUpTo, untouched}
use Rattle.grain_rules.specs.Typing.{IsInChunk, Passes}
use Rattle.grain_rules.proofs.OperationUniqueness.{stands_once}
use Rattle.grain_explain.specs.Certificate.{IsCertificate, RowLacks, RowsFlaw}
use Rattle.grain_explain.specs.Claimed.{ArePlaced, AreSound, Claimed, IsWellFormed, span_claimed}
use Rattle.grain_explain.specs.Lacking.{FindsLacking}
use Rattle.grain_explain.specs.RowView.{counts_of, no_base, typing_of}
use Rattle.grain_explain.specs.declared.error.TypingError.{TypingError}
use Rattle.grain_explain.specs.declared.error.TypingError.TheVariants as errors
use Rattle.grain_explain.specs.declared.needs.Lack.{Lack}
use Rattle.grain_explain.specs.declared.needs.Lack.TheVariants as lacks
use Rattle.grain_explain.specs.declared.row.LinkedBase.{LinkedBase}
use Rattle.grain_explain.specs.declared.row.Row.{Row}
use Rattle.grain_explain.proofs.Typings.{row_typed, typed_by}

passes_there : (code : Bytecode) (chunk : Span) (at other : ℕ) (c d : Counts) (op : Op) → at ≡ other → c ≡ d → Passes (coded code) chunk at c op → Passes (coded code) chunk other d op
passes_there code chunk at other c d op e f p = subst (λ (x : Counts). Passes (coded code) chunk other x op) f (subst (λ n. Passes (coded code) chunk n c op) e p)

edge_there : (code : Bytecode) (at other : ℕ) (c d : Counts) (op : Op) (b : ℕ) (x : Counts) → at ≡ other → c ≡ d → Edge (coded code) op other d b x → Edge (coded code) op at c b x
edge_there code at other c d op b x e f h = subst (λ (y : Counts). Edge (coded code) op at y b x) (sym f) (subst (λ n. Edge (coded code) op n d b x) (sym e) h)

-- what passes does so whatever the chunk declares
respanned : (code : Bytecode) (chunk : Span) (m at : ℕ) (c : Counts) (op : Op) → Passes (coded code) chunk at c op → Passes (coded code) (record chunk { max_stack = m }) at c op
respanned code chunk m at c op p = record {
  stands = record { within = record { entry = p.stands.within.entry; end = p.stands.within.end; place = p.stands.within.place }; is = p.stands.is };
  meets = p.meets;
  allowed = p.allowed;
  stays = p.stays;
}

-- stacks that reach up to a base don't fall short of it
pub enough_left : (base stacks : Base) (need have : ℕ) → ReachesUpTo base stacks → FallsShortOf base stacks need have → ⊥
enough_left base stacks need have r (inl (en, eh, l)) = let k = r.operands in omega arith
enough_left base stacks need have r (inr (enough, en, eh, l)) = let k = r.iterators in omega arith

-- what passes lacks nothing
pub lacks_nothing : (code : Bytecode) (chunk : Span) (at : ℕ) (c : Counts) (op : Op) (lack : Lack) → Passes (coded code) chunk at c op → FindsLacking code.setting op c lack → ⊥
lacks_nothing code chunk at c op (lacks.Capabilities absent) p (e, ne) = ne (e ∙ p.allowed)
lacks_nothing code chunk at c op (lacks.Operands need) p (a, e, l) = let h = p.meets.operands in omega arith
lacks_nothing code chunk at c op lacks.Iterators p (a, l) = let h = p.meets.iterators in omega arith
lacks_nothing code chunk at c op lacks.Handlers p (a, l) = let h = p.meets.handlers in omega arith
lacks_nothing code chunk at c op (lacks.Reserve need have) p (a, meets, (loud, short)) = enough_left (last_base c.bases) (untouched code.setting op c) need have (p.stays loud) short

module _ (code : Bytecode) (chunk : Span) (bases : List LinkedBase) (rows : List Row) (sure : IsCertificate code chunk bases rows) where
  met_here : (k : ℕ) (r : Row) → slice_get rows k ≡ Some r → (op : Op) × Passes (coded code) chunk r.at (counts_of bases r) op
  met_here k r is = sure.typing.met r.at (counts_of bases r) (row_typed bases rows k r sure.ascending is)

  no_row_lacks : (k : ℕ) (lack : Lack) → RowLacks code bases rows k lack → ⊥
  no_row_lacks k lack h =
      let met = met_here k h.row h.here.is in
      let same = stands_once code.bytes h.row.at met.0 h.op met.1.stands.is h.here.stands in
      lacks_nothing code chunk h.row.at (counts_of bases h.row) h.op lack (subst (λ (o : Op). Passes (coded code) chunk h.row.at (counts_of bases h.row) o) same met.1) h.lacks

  pub no_rows_flaw : (e : TypingError) → RowsFlaw code chunk bases rows e → ⊥
  no_rows_flaw (errors.Undecodable at) (l, f) = no_front_inside code.bytes at sure.framed.entry.starts l f sure.framed.entry.split
  no_rows_flaw errors.ChunkOutOfRange (inl l) = let h = sure.framed.inside in omega arith
  no_rows_flaw errors.ChunkOutOfRange (inr l) = let h = sure.framed.ordered in omega arith
  no_rows_flaw errors.EndsInside h = h sure.framed.end
  no_rows_flaw (errors.Unlinked base) (here, is, l) =
      let inside = slice_get_within bases base here is in
      let same = ap (λ (b : LinkedBase). b.next) (get_or_from_slice_get bases base here no_base is) in
      let p = sure.linked base inside in
      omega arith
  no_rows_flaw (errors.NoList row) (here, is, l) = let h = sure.listed row here is in omega arith
  no_rows_flaw (errors.NotAscending row) (before, here, k, next, eb, eh, l) = let h = sure.ascending k row before here (omega arith) eb eh in omega arith
  no_rows_flaw (errors.OutsideChunk row) (here, is, inl l) = let h = (met_here row here is).1.stands.within.entry in omega arith
  no_rows_flaw (errors.OutsideChunk row) (here, is, inr l) = let h = (met_here row here is).1.stands.within.end in omega arith
  no_rows_flaw (errors.NoStart row) (here, is, none) = none (met_here row here is).1.stands.within.place
  no_rows_flaw errors.BadEntry h = h sure.typing.entry
  no_rows_flaw (errors.TooDeep row) (here, is, l) = let h = sure.typing.shallow here.at (counts_of bases here) (row_typed bases rows row here sure.ascending is) in omega arith
  no_rows_flaw (errors.MissingCaps row absent) h = no_row_lacks row (lacks.Capabilities absent) h
  no_rows_flaw (errors.Underflow row need) h = no_row_lacks row (lacks.Operands need) h
  no_rows_flaw (errors.IteratorUnderflow row) h = no_row_lacks row lacks.Iterators h
  no_rows_flaw (errors.HandlerUnderflow row) h = no_row_lacks row lacks.Handlers h
  no_rows_flaw (errors.SinksBelowHandler row need have) h = no_row_lacks row (lacks.Reserve need have) h
  no_rows_flaw (errors.Unmatched row target) h =
      h.astray (sure.typing.closed h.row.at (counts_of bases h.row) h.op target h.counts (row_typed bases rows row h.row sure.ascending h.here.is) h.here.stands h.edge)

-- what the tests of the rows find is that they are a typing
pub certified : (g : Claimed) → g.chunk.entry ≤ g.chunk.end → g.chunk.end ≤ length g.code.bytes → IsBoundary g.code.bytes g.chunk.end → IsWellFormed g → ArePlaced g
    → typing_of g.bases g.rows g.chunk.entry ≡ Some nothing → AreSound g → IsCertificate g.code (span_claimed g) g.bases g.rows
certified g ordered inside end laid placed entry sound =
    let first = typed_by g.bases g.rows g.chunk.entry nothing entry in
    let there : IsInChunk (coded g.code) g.chunk g.chunk.entry = subst (IsInChunk (coded g.code) g.chunk) first.at_is (placed first.place first.row first.is) in
    record {
      framed = record { ordered = ordered; inside = inside; entry = there.place; end = end };
      linked = laid.linked;
      listed = laid.listed;
      ascending = laid.ascending;
      typing = record {
        entry = entry;
        shallow = λ at c e. (let h = typed_by g.bases g.rows at c e in let s = (sound h.place h.row h.is).shallow in let k = ap (λ (x : Counts). x.operands) h.counts in omega arith);
        met = λ at c e. (
            let h = typed_by g.bases g.rows at c e in
            let s = sound h.place h.row h.is in
            (s.op, respanned g.code g.chunk g.most at c s.op (passes_there g.code g.chunk h.row.at at (counts_of g.bases h.row) c s.op h.at_is h.counts s.passes))
            );
        closed = λ at c op b d e reads edge. (
            let h = typed_by g.bases g.rows at c e in
            let s = sound h.place h.row h.is in
            let p = passes_there g.code g.chunk h.row.at at (counts_of g.bases h.row) c s.op h.at_is h.counts s.passes in
            let same = stands_once g.code.bytes at op s.op reads p.stands.is in
            s.closed b d (edge_there g.code h.row.at at (counts_of g.bases h.row) c s.op b d h.at_is h.counts (subst (λ (o : Op). Edge (coded g.code) o at c b d) same edge))
            );
      };
    }

pub chunk_passes : (code : Bytecode) (chunk : Span) (bases : List LinkedBase) (rows : List Row) → IsCertificate code chunk bases rows → ChunkPasses code chunk
chunk_passes code chunk bases rows sure = record { framed = sure.framed; typed = (typing_of bases rows, sure.typing) }
