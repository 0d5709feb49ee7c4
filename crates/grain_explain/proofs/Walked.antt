-- The rows of a walk that met no flaw are a typing.
use Rattle.std.specs.Prelude.{⊤, MatchOption}
use Rattle.std.proofs.Common.{◌≡◌, ◌⊎◌, inl, inr, ℕ, ◌<◌, ◌≤◌, IfSome, [], List, length, get_or, slice_get, Option, None, Some, refl, sym, subst, arith}
use Rattle.std.specs.List.{All, AllZip, Contains}
use Rattle.std.proofs.lemmas.List.Elements.{All-weaker}
use Rattle.std.proofs.lemmas.Option.{slice_get_read}
use Rattle.grain_rules.specs.Code.{coded}
use Rattle.grain_rules.specs.Typing.{IsInChunk}
use Rattle.grain_explain.specs.Certificate.{IsCertificate}
use Rattle.grain_explain.specs.Claimed.{ArePlaced, AreSound, IsSound}
use Rattle.grain_explain.specs.Explaining.{HasPath, IsExplained, IsOrigin, IsReachedRow, IsTypedBy}
use Rattle.grain_explain.specs.Pursuits.{ArePursued, HasRows, IsRefusalShown, WasVisited, IsAhead, IsRowIn}
use Rattle.grain_explain.specs.RowView.{AreAscending, AreLinked, AreListed, typing_of}
use Rattle.grain_explain.specs.Scenes.{AreCome, IsReadyScene, Seen}
use Rattle.grain_explain.specs.Ways.{IsShownRefusal, Stop, first_stop}
use Rattle.grain_explain.specs.declared.arrival.Arrival.{Arrival}
use Rattle.grain_explain.specs.declared.refusal.ExplainedChunk.{ExplainedChunk}
use Rattle.grain_explain.specs.declared.refusal.Refusal.{Refusal}
use Rattle.grain_explain.specs.declared.row.LinkedBase.{LinkedBase}
use Rattle.grain_explain.specs.declared.row.Row.{Row}
use Rattle.grain_explain.proofs.Certified.{certified}
use Rattle.grain_explain.proofs.Refused.{all_at}
use Rattle.grain_explain.proofs.Sceneries.{held_within}
use Rattle.grain_explain.proofs.Typings.{row_typed}

-- rows of what was visited are reached
pub rows_reached : (s : Seen) (bases : List LinkedBase) (slots : List (Option Arrival)) (rows : List Row) → AreCome s bases slots → All (IsRowIn slots) rows → All (IsReachedRow s.code s.chunk bases) rows
rows_reached s bases slots rows come all =
    All-weaker (IsRowIn slots) (IsReachedRow s.code s.chunk bases) (λ r (a, (k, e), same). subst (IsReachedRow s.code s.chunk bases) same (come k a e).come.reached) rows all

module _ (s : Seen) (bases : List LinkedBase) (slots : List (Option Arrival)) (rows : List Row) (ready : IsReadyScene s) (linked : AreLinked bases) (come : AreCome s bases slots)
    (pursued : ArePursued s bases slots []) (ascending : AreAscending rows) (held : All (IsRowIn slots) rows) (whole : HasRows rows slots) where
  row_of : (k : ℕ) (r : Row) → slice_get rows k ≡ Some r → IsRowIn slots r
  row_of k r is = all_at (IsRowIn slots) rows k r held is

  -- what is ahead has its row
  ahead_typed : (x : Stop) → IsAhead bases slots [] x → typing_of bases rows x.0 ≡ Some x.1
  ahead_typed x (a, inl h, e) =
      let (k, l, is) = whole a h in
      subst (λ (y : Stop). typing_of bases rows y.0 ≡ Some y.1) e (row_typed bases rows k a.row ascending (slice_get_read rows (length rows) k a.row refl l (sym is)))
  ahead_typed x (a, inr (k, l, is), e) = absurd (omega arith)

  rows_listed : AreListed bases rows
  rows_listed k r is = let (a, (j, e), same) = row_of k r is in subst (λ (x : Row). x.bases ≤ length bases) same (come j a e).come.listed

  module _ (most : ℕ) (shallow : (a : Arrival) → WasVisited slots a → a.row.operands ≤ most) where
    rows_placed : ArePlaced (record { code = s.code; chunk = s.chunk; bases = bases; rows = rows; most = most })
    rows_placed k r is = let (a, (j, e), same) = row_of k r is in subst (λ (x : Row). IsInChunk (coded s.code) s.chunk x.at) same (come j a e).come.inside

    rows_sound : AreSound (record { code = s.code; chunk = s.chunk; bases = bases; rows = rows; most = most })
    rows_sound k r is =
        let (a, (j, e), same) = row_of k r is in
        let p = pursued.each j a e in
        subst (IsSound (record { code = s.code; chunk = s.chunk; bases = bases; rows = rows; most = most })) same (record {
          op = p.op;
          passes = p.passes;
          closed = λ b d edge. ahead_typed (b, d) (p.onward b d edge);
          shallow = shallow a (j, e);
        })

    pub walked_typing : IsCertificate s.code (record s.chunk { max_stack = most }) bases rows
    walked_typing = certified (record { code = s.code; chunk = s.chunk; bases = bases; rows = rows; most = most }) ready.framed.ordered ready.framed.inside ready.framed.end
        (record { linked = linked; listed = rows_listed; ascending = ascending }) rows_placed (ahead_typed (first_stop s.chunk) pursued.entry) rows_sound

-- a walk that has ended has visited something
pub some_held : (s : Seen) (bases : List LinkedBase) (slots : List (Option Arrival)) → ArePursued s bases slots [] → ((a : Arrival) → WasVisited slots a → ⊥) → ⊥
some_held s bases slots pursued none = elim pursued.entry.1 [ inl h ↦ none pursued.entry.0 h | inr h ↦ (let l = h.1 in omega arith) ]

-- the greater of two, where one is that of what was found before
pub deeper_holds : {B : Type 0} (now : B → Arrival) (slots : List (Option Arrival)) (o : Option B) (here found : Arrival) → WasVisited slots here → IfSome o (λ b. WasVisited slots (now b))
    → (found ≡ here) ⊎ MatchOption o ⊥ (λ b. found ≡ now b) → WasVisited slots found
deeper_holds now slots o here found h before (inl e) = subst (WasVisited slots) (sym e) h
deeper_holds now slots None here found h before (inr e) = absurd e
deeper_holds now slots (Some b) here found h before (inr e) = subst (WasVisited slots) (sym e) before

pub deeper_most : {B : Type 0} (now : B → Arrival) (o : Option B) (a found : Arrival) → MatchOption o ⊥ (λ b. a.row.operands ≤ (now b).row.operands) → MatchOption o ⊤ (λ b. (now b).row.operands ≤ found.row.operands)
    → a.row.operands ≤ found.row.operands
deeper_most now None a found h before = absurd h
deeper_most now (Some b) a found h before = omega arith

pub deepest_most : {B : Type 0} (now : B → Arrival) (slots : List (Option Arrival)) (o : Option B) (n : ℕ) → length slots ≤ n
    → ((k : ℕ) (a : Arrival) → k < n → get_or slots k None ≡ Some a → MatchOption o ⊥ (λ b. a.row.operands ≤ (now b).row.operands))
    → MatchOption o ((a : Arrival) → WasVisited slots a → ⊥) (λ b. (a : Arrival) → WasVisited slots a → a.row.operands ≤ (now b).row.operands)
deepest_most now slots None n l h = λ a (k, e). (let w = held_within slots k a e in h k a (omega arith) e)
deepest_most now slots (Some b) n l h = λ a (k, e). (let w = held_within slots k a e in h k a (omega arith) e)

-- what is said of a chunk whose refusal, if it has one, was found
pub explained_of : (s : Seen) (slots : List (Option Arrival)) (x : ExplainedChunk) → AreAscending x.rows.items → All (IsReachedRow s.code s.chunk x.bases.items) x.rows.items
    → AllZip (IsOrigin s.code s.chunk x.bases.items) x.rows.items x.origins.items → HasRows x.rows.items slots
    → MatchOption x.refusal (IsTypedBy s.code s.chunk x.bases.items x.rows.items) (IsRefusalShown s x.bases.items slots) → IsExplained s.code s.chunk x
explained_of s slots x ascending reached origins whole found =
    record { ascending = ascending; reached = reached; origins = origins; path = path_of x.refusal found; explains = shown_of x.refusal found }
  where
    path_of : (o : Option Refusal) → MatchOption o (IsTypedBy s.code s.chunk x.bases.items x.rows.items) (IsRefusalShown s x.bases.items slots) → HasPath x.rows.items o
    path_of None h = tt
    path_of (Some r) h = All-weaker (IsRowIn slots) (Contains x.rows.items) (λ row (a, held, same). subst (Contains x.rows.items) same (whole a held)) r.way.items h.visited

    shown_of : (o : Option Refusal) → MatchOption o (IsTypedBy s.code s.chunk x.bases.items x.rows.items) (IsRefusalShown s x.bases.items slots)
        → MatchOption o (IsTypedBy s.code s.chunk x.bases.items x.rows.items) (IsShownRefusal s.code s.chunk x.bases.items)
    shown_of None h = h
    shown_of (Some r) h = h.shown
