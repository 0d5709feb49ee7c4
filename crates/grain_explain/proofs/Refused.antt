-- What is refused is a flaw, and is shown where it is reached.
use Rattle.std.proofs.Common.{◌≡◌, inl, inr, ℕ, ◌≤◌, List, Option, Some, slice_get, refl, sym, ap, subst, arith}
use Rattle.std.specs.List.{All}
use Rattle.std.proofs.lemmas.Option.{get_or_from_slice_get, slice_get_within}
use Rattle.grain_base.specs.declared.caps.Caps.{Caps}
use Rattle.grain_code.specs.Span.{Span}
use Rattle.grain_code.specs.declared.op.Op.{Op}
use Rattle.grain_rules.specs.Accepted.{IsFramed}
use Rattle.grain_rules.specs.Code.{Bytecode, coded}
use Rattle.grain_rules.specs.Counts.{Counts}
use Rattle.grain_rules.specs.Flaw.{ChunkFlaw}
use Rattle.grain_rules.specs.Typing.{IsDeepest, IsTyping, Reached, StandsIn}
use Rattle.grain_rules.specs.declared.error.VerifyError.{VerifyError}
use Rattle.grain_rules.proofs.Law.{typing_covers}
use Rattle.grain_explain.specs.Certificate.{IsCertificate}
use Rattle.grain_explain.specs.Explaining.{IsReachedRow, IsTypedBy}
use Rattle.grain_explain.specs.Lacking.{FindsLacking}
use Rattle.grain_explain.specs.RowView.{counts_of, typing_of}
use Rattle.grain_explain.specs.Scenes.{MissesTarget, Seen, error_lacking}
use Rattle.grain_explain.specs.Ways.{NamesTarget, Shows, Stop, row_stop}
use Rattle.grain_explain.specs.declared.needs.Lack.{Lack}
use Rattle.grain_explain.specs.declared.needs.Lack.TheVariants as lacks
use Rattle.grain_explain.specs.declared.row.LinkedBase.{LinkedBase}
use Rattle.grain_explain.specs.declared.row.Row.{Row}
use Rattle.grain_explain.proofs.Typings.{typed_by}

-- what an instruction lacks is shown by the row that it finds, and is a flaw
pub lacking_shows : (s : Seen) (caps : Caps) (bases : List LinkedBase) (row : Row) (op : Op) (lack : Lack) → caps.0 ≡ s.code.setting.caps → StandsIn (coded s.code) s.chunk row.at op
    → FindsLacking s.code.setting op (counts_of bases row) lack → Shows s.code s.chunk (row_stop bases row) (error_lacking caps row lack)
lacking_shows s caps bases row op (lacks.Capabilities absent) same stands (e, ne) = (refl, same, (op, stands, e, ne))
lacking_shows s caps bases row op (lacks.Operands need) same stands (a, e, l) = (refl, (op, stands, a, e, refl, l))
lacking_shows s caps bases row op lacks.Iterators same stands (a, l) = (refl, (op, stands, a, l))
lacking_shows s caps bases row op lacks.Handlers same stands (a, l) = (refl, (op, stands, a, l))
lacking_shows s caps bases row op (lacks.Reserve need have) same stands (a, meets, sinks) = (refl, (op, stands, a, meets, sinks))

pub lacking_flaw : (s : Seen) (caps : Caps) (bases : List LinkedBase) (row : Row) (op : Op) (lack : Lack) → caps.0 ≡ s.code.setting.caps → IsFramed s.code s.chunk
    → Reached (coded s.code) s.chunk row.at (counts_of bases row) → StandsIn (coded s.code) s.chunk row.at op → FindsLacking s.code.setting op (counts_of bases row) lack
    → ChunkFlaw s.code s.chunk (error_lacking caps row lack)
lacking_flaw s caps bases row op (lacks.Capabilities absent) same f r stands (e, ne) = (f, same, (op, counts_of bases row, record { reached = r; stands = stands }, e, ne))
lacking_flaw s caps bases row op (lacks.Operands need) same f r stands (a, e, l) = (f, (op, counts_of bases row, record { comes = record { reached = r; stands = stands }; allowed = a }, e, refl, l))
lacking_flaw s caps bases row op lacks.Iterators same f r stands (a, l) = (f, (op, counts_of bases row, record { comes = record { reached = r; stands = stands }; allowed = a }, l))
lacking_flaw s caps bases row op lacks.Handlers same f r stands (a, l) = (f, (op, counts_of bases row, record { comes = record { reached = r; stands = stands }; allowed = a }, l))
lacking_flaw s caps bases row op (lacks.Reserve need have) same f r stands (a, meets, sinks) =
    (f, (op, counts_of bases row, record { comes = record { reached = r; stands = stands }; allowed = a }, meets, sinks))

-- a target that is none
pub target_flaw : (s : Seen) (x : Stop) (t : ℕ) (e : VerifyError) → IsFramed s.code s.chunk → Reached (coded s.code) s.chunk x.0 x.1 → NamesTarget s.code s.chunk x t
    → MissesTarget s x.0 t e → ChunkFlaw s.code s.chunk e
target_flaw s x t e f r n (inl (is, out)) =
    subst (ChunkFlaw s.code s.chunk) (sym is) (f, record { counts = x.1; op = n.op; reached = r; passes = n.passes; names = n.names }, out)
target_flaw s x t e f r n (inr (is, low, high, none)) =
    subst (ChunkFlaw s.code s.chunk) (sym is) (inr (f, record { counts = x.1; op = n.op; reached = r; passes = n.passes; names = n.names }, low, high, none))

pub target_shows : (s : Seen) (x : Stop) (t : ℕ) (e : VerifyError) → NamesTarget s.code s.chunk x t → MissesTarget s x.0 t e → Shows s.code s.chunk x e
target_shows s x t e n (inl (is, out)) = subst (Shows s.code s.chunk x) (sym is) (refl, n, out)
target_shows s x t e n (inr (is, low, high, none)) = subst (Shows s.code s.chunk x) (sym is) (refl, n, low, high, none)

-- what holds of all rows holds of each
pub all_at : (P : Row → Type 0) (rows : List Row) (k : ℕ) (r : Row) → All P rows → slice_get rows k ≡ Some r → P r
all_at P rows k r all is = subst P (get_or_from_slice_get rows k r r is) (all k r (slice_get_within rows k r is))

-- rows that are a typing, each of which is reached, are just what is reached
pub typed_rows : (code : Bytecode) (chunk : Span) (bases : List LinkedBase) (rows : List Row) → IsCertificate code chunk bases rows → All (IsReachedRow code chunk bases) rows → IsTypedBy code chunk bases rows
typed_rows code chunk bases rows sure all = record {
  certificate = sure;
  just = λ at c. (
    typing_covers (coded code) chunk chunk.max_stack (typing_of bases rows) sure.typing at c,
    λ e. (
        let h = typed_by bases rows at c e in
        subst (λ (x : Counts). Reached (coded code) chunk at x) h.counts (subst (λ n. Reached (coded code) chunk n (counts_of bases h.row)) h.at_is (all_at (IsReachedRow code chunk bases) rows h.place h.row all h.is))
        ),
  );
}

-- a typing of a chunk is one whatever the chunk declares
pub unspanned : (code : Bytecode) (chunk : Span) (k m : ℕ) (typing : ℕ → Option Counts) → IsTyping (coded code) (record chunk { max_stack = k }) m typing → IsTyping (coded code) chunk m typing
unspanned code chunk k m typing h = record {
  entry = h.entry;
  shallow = h.shallow;
  met = λ at c e. (let met = h.met at c e in (
    met.0,
    record {
      stands = record { within = record { entry = met.1.stands.within.entry; end = met.1.stands.within.end; place = met.1.stands.within.place }; is = met.1.stands.is };
      meets = met.1.meets;
      allowed = met.1.allowed;
      stays = met.1.stays;
    },
  ));
  closed = h.closed;
}

-- the greatest count of a row that is reached
pub deepest_row : (code : Bytecode) (chunk : Span) (k n : ℕ) (bases : List LinkedBase) (rows : List Row) → IsCertificate code (record chunk { max_stack = k }) bases rows → All (λ (r : Row). r.operands ≤ n) rows
    → (row : Row) → IsReachedRow code chunk bases row → row.operands ≡ n → IsDeepest (coded code) chunk n
deepest_row code chunk k n bases rows sure all row r is = record {
  most = λ at c reached. (
      let e = typing_covers (coded code) chunk k (typing_of bases rows) (unspanned code chunk k k (typing_of bases rows) sure.typing) at c reached in
      let h = typed_by bases rows at c e in
      let l = all_at (λ (x : Row). x.operands ≤ n) rows h.place h.row all h.is in
      let same = ap (λ (x : Counts). x.operands) h.counts in
      omega arith
      );
  attained = (row.at, (counts_of bases row, r, is));
}
