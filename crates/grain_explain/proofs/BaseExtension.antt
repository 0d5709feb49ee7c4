-- What stays where bases are added.
use Rattle.std.proofs.Common.{◌≡◌, ◌++◌, ◌∷◌, [], ℕ, ◌≤◌, List, length, length-append, get_or, Option, None, Some, sym, ap, subst, ◌∙◌, append_assoc, arith}
use Rattle.std.specs.List.{All}
use Rattle.std.specs.Prelude.{MatchOption}
use Rattle.std.proofs.lemmas.List.{append-nil}
use Rattle.std.proofs.lemmas.List.Elements.{All-weaker}
use Rattle.grain_rules.specs.Code.{coded}
use Rattle.grain_rules.specs.Counts.{Base, Counts}
use Rattle.grain_rules.specs.Typing.{Reached}
use Rattle.grain_explain.specs.OnEdges.{IsListedIn, counts_on, handlers_in}
use Rattle.grain_explain.specs.RowView.{AreLinked, plain_base, counts_of, list_in}
use Rattle.grain_explain.specs.Scenes.{AreCome, Extends, IsCome, StandsOnEdge, Seen}
use Rattle.grain_explain.specs.Ways.{Follows, Stop, arrival_stop, first_stop}
use Rattle.grain_explain.specs.declared.arrival.Arrival.{Arrival}
use Rattle.grain_explain.specs.declared.edge.Handlers.{Handlers}
use Rattle.grain_explain.specs.declared.edge.Handlers.TheVariants.{Kept, Pushed}
use Rattle.grain_explain.specs.declared.edge.OnEdge.{OnEdge}
use Rattle.grain_explain.specs.declared.row.LinkedBase.{LinkedBase}
use Rattle.grain_explain.specs.declared.row.Row.{Row}
use Rattle.grain_explain.specs.declared.stacks.Stacks.{Stacks}
use Rattle.grain_explain.proofs.SharedLists.{list_append}

pub extends_not : (bases : List LinkedBase) → AreLinked bases → Extends bases bases
extends_not bases p = record { more = []; is = sym (append-nil bases); linked = p }

pub extends_twice : (old mid new : List LinkedBase) → Extends old mid → Extends mid new → Extends old new
extends_twice old mid new a b = record {
  more = a.more ++ b.more;
  is = b.is ∙ (ap (λ (xs : List LinkedBase). xs ++ b.more) a.is ∙ append_assoc old a.more b.more);
  linked = b.linked;
}

module _ (old new : List LinkedBase) (linked : AreLinked old) (x : Extends old new) where
  pub longer : length old ≤ length new
  longer = let e = ap length x.is in let h = length-append old x.more in omega arith

  pub list_kept : (n : ℕ) → n ≤ length old → list_in new n ≡ list_in old n
  list_kept n l = ap (λ (bs : List LinkedBase). list_in bs n) x.is ∙ list_append old x.more n linked l

  pub counts_kept : (r : Row) → r.bases ≤ length old → counts_of new r ≡ counts_of old r
  counts_kept r l = let P : List Base → Counts = λ bs. record { operands = r.operands; iterators = r.iterators; bases = bs } in ap P (list_kept r.bases l)

  pub handlers_kept : (h : Handlers) → IsListedIn old h → handlers_in new h ≡ handlers_in old h
  handlers_kept (Kept list) l = list_kept list l
  handlers_kept (Pushed b) l = ap (λ (bs : List Base). plain_base b ∷ bs) (list_kept b.next l)

  pub listed_more : (h : Handlers) → IsListedIn old h → IsListedIn new h
  listed_more (Kept list) l = let m = longer in omega arith
  listed_more (Pushed b) l = let m = longer in omega arith

  pub edge_kept : (e : OnEdge) → IsListedIn old e.handlers → counts_on new e ≡ counts_on old e
  edge_kept e l = let P : List Base → Counts = λ bs. record { operands = e.operands; iterators = e.iterators; bases = bs } in ap P (handlers_kept e.handlers l)

  pub lands_more : (s : Stacks) (c : Counts) → StandsOnEdge old s c → StandsOnEdge new s c
  lands_more s c h = record {
    listed = (let m = longer in let l = h.listed in omega arith);
    is = (let P : List Base → Counts = λ bs. record { operands = s.operands; iterators = s.iterators; bases = bs } in ap P (list_kept s.bases h.listed)) ∙ h.is;
  }

  pub stop_kept : (a : Arrival) → a.row.bases ≤ length old → arrival_stop old a ≡ arrival_stop new a
  stop_kept a l = let P : Counts → Stop = λ c. (a.row.at, c) in ap P (sym (counts_kept a.row l))

  module _ (s : Seen) (slots : List (Option Arrival)) (held : AreCome s old slots) where
    origin_kept : (a : Arrival) (o : Option ℕ) → a.row.bases ≤ length old
        → MatchOption o (arrival_stop old a ≡ first_stop s.chunk) (λ k. (y : Arrival) × (get_or slots k None ≡ Some y) × Follows s.code s.chunk (arrival_stop old y) (arrival_stop old a))
        → MatchOption o (arrival_stop new a ≡ first_stop s.chunk) (λ k. (y : Arrival) × (get_or slots k None ≡ Some y) × Follows s.code s.chunk (arrival_stop new y) (arrival_stop new a))
    origin_kept a None l h = sym (stop_kept a l) ∙ h
    origin_kept a (Some k) l (y, e, f) = (
      y,
      e,
      subst (λ (z : Stop). Follows s.code s.chunk z (arrival_stop new a)) (stop_kept y (held k y e).come.listed)
          (subst (λ (z : Stop). Follows s.code s.chunk (arrival_stop old y) z) (stop_kept a l) f),
    )

    pub come_more : (a : Arrival) → IsCome s old slots a → IsCome s new slots a
    come_more a h = record {
      listed = (let m = longer in let l = h.listed in omega arith);
      inside = h.inside;
      reached = subst (Reached (coded s.code) s.chunk a.row.at) (sym (counts_kept a.row h.listed)) h.reached;
      origin = origin_kept a a.from h.listed h.origin;
      bounded = h.bounded;
    }

    pub held_more : AreCome s new slots
    held_more k a e =
        let h = held k a e in
        record { come = come_more a h.come; placed = h.placed; first = h.first; earlier = h.earlier; fewer = h.fewer; bounded = h.bounded }

    pub waits_more : (work : List Arrival) → All (IsCome s old slots) work → All (IsCome s new slots) work
    waits_more work all = All-weaker (IsCome s old slots) (IsCome s new slots) come_more work all
