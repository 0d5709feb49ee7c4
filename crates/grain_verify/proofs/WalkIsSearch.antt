-- The walk as a search of the chunk, in its own variables.
use Rattle.std.proofs.Common.{◌≡◌, ◌↔◌, ◌⊎◌, inl, inr, ℕ, ◌+◌, ◌<◌, max, nat_eq, List, [], ◌∷◌, ◌++◌, length, get_or, set, slice_get, replicate, Option, Some, None, refl, sym, ap, subst, ◌∙◌, arith}
use Rattle.std.specs.Cmp.{nat_eq_equiv}
use Rattle.std.specs.List.{Contains}
use Rattle.std.specs.Map.{keys_of, lookup}
use Rattle.std.proofs.lemmas.Bool.{cases_lt}
use Rattle.std.proofs.lemmas.List.{get_or-set_same, get_or-set_other, get_or-replicate, get_or_past, length-replicate}
use Rattle.std.proofs.lemmas.List.Elements.{Contains-append_cases, Contains-append_left, Contains-append_right, Contains-push}
use Rattle.std.proofs.lemmas.Map.Entries.{length-keys_of}
use Rattle.std.proofs.lemmas.Map.Views.{Contains-from_lookup, exact_unsigned_eq}
use Rattle.std.proofs.lemmas.Option.{none-some, same_Some, slice_get_within}
use Rattle.grain_code.specs.Span.{Span}
use Rattle.grain_code.specs.Split.{Split}
use Rattle.grain_code.specs.InstructionTable.{width_of}
use Rattle.grain_code.specs.declared.op.Op.{Op}
use Rattle.grain_rules.specs.Accepted.{IsFramed}
use Rattle.grain_rules.specs.Code.{Bytecode, coded}
use Rattle.grain_rules.specs.Counts.{Counts, nothing}
use Rattle.grain_rules.specs.Effects.{Edge, Jumps, after_fall, after_jump, falls_through, targets}
use Rattle.grain_rules.specs.Flow.{Flow, Switches}
use Rattle.grain_rules.specs.FlowFields.{targets_for}
use Rattle.grain_rules.specs.Rows.{flow_of}
use Rattle.grain_rules.specs.Typing.{IsDeepest, IsInChunk, HasTyping, IsReachedCount, IsTyping, Reached}
use Rattle.grain_rules.proofs.Law.{typing_covers}
use Rattle.grain_rules.proofs.OperationUniqueness.{stands_once}
use Rattle.grain_rules.proofs.Splits.{in_nil, in_cons, in_head, in_tail}
use Rattle.grain_verify.specs.Arrivals.{Coming, coming, falling, view}
use Rattle.grain_verify.specs.Graph.{IsSearch, Pending, at_start}
use Rattle.grain_verify.specs.Progress.{IsChunkEdge, HasState, PassesWithTargets, Walking, visits_in}
use Rattle.grain_verify.specs.States.{no_state as none}
use Rattle.grain_verify.specs.declared.lists.Lists.{Lists}
use Rattle.grain_verify.specs.declared.state.Arrival.{Arrival}
use Rattle.grain_verify.specs.declared.state.State.{State}
use Rattle.grain_verify.proofs.EdgeTargets.{falls_in, walks_reached}
use Rattle.grain_verify.proofs.Ordinals.{one_ordinal}
use Rattle.grain_verify.proofs.Places.{set_cases}
use Rattle.grain_verify.proofs.VisitCounts.{visited_more, visits_nothing}
use Rattle.grain_verify.proofs.Worklist.{search_begun, search_closed, search_places, search_skipped, search_starts, search_visited}

-- What comes along the jumps of an instruction, except for what was pending, and what is noted of a switch.
pub record JumpsTo (code : Bytecode) (op : Op) (c : Counts) (sent sent' : List (Option Counts)) (pending : Coming → Type 0) (jumped : List Coming) : Type 0 where
  pub sub : (x : Coming) → Contains jumped x → Jumps (coded code) op c x.0 x.1
  pub all : (x : Coming) → Jumps (coded code) op c x.0 x.1 → Contains jumped x ⊎ pending x
  pub noted : (v : ℕ) (d : Counts) → get_or sent' v None ≡ Some d → (get_or sent v None ≡ Some d) ⊎ ((flow_of op ≡ Switches v) × (d ≡ after_jump code.setting op c))

pub nothing_at : (n k : ℕ) → get_or (replicate n none) k None ≡ None
nothing_at n k = elim (cases_lt k n) [
  | inl l ↦ get_or-replicate n k none None l
  | inr g ↦ get_or_past (replicate n none) k None (let e : length (replicate n none) ≡ n = length-replicate n none in omega arith)
]

pub walking_start : (code : Bytecode) (chunk : Span) (starts : List ℕ) (lists : Lists) (n : ℕ) (sent : List (Option Counts))
    → IsFramed code chunk → chunk.entry < chunk.end → ((w : ℕ) → get_or sent w None ≡ None) → Walking code chunk starts lists (replicate n none) sent ((chunk.entry, nothing) ∷ []) 0
walking_start code chunk starts lists n sent framed holds unsent = record {
  marked = [];
  search = search_begun;
  listed = λ x. (λ c. absurd (in_nil x c), λ h. (let (k, s, e, f, g) = h in absurd (none-some s (sym (nothing_at n k) ∙ f))));
  count = sym (visits_nothing n);
  known = record {
    framed = framed;
    holds = holds;
    passed = λ x c. absurd (in_nil x c);
    shallow = λ x c. absurd (in_nil x c);
    attained = (0, (chunk.entry, nothing), at_start, refl);
    sent_there = λ w c e. absurd (none-some c (sym (unsent w) ∙ e));
  };
}

module _ {code : Bytecode} {chunk : Span} {starts : List ℕ} {lists : Lists} {states : List (Option State)} {sent : List (Option Counts)} {work : List Coming} {deepest : ℕ}
    (w : Walking code chunk starts lists states sent work deepest) where
  pub pending_reached : (x : Coming) → Pending w.marked work x → Reached (coded code) chunk x.0 x.1
  pending_reached x h = let (n, few, p) = w.search.reached x h in walks_reached code chunk n x p

  -- what was sent to a switch before is at each of its targets, or on its way there
  pub sent_before : (v : ℕ) (c : Counts) → get_or sent v None ≡ Some c → (t : ℕ) → Contains (get_or code.switches v []) t → IsInChunk (coded code) chunk t × Pending w.marked work (t, c)
  sent_before v c e t k =
      let s = w.known.sent_there v c e in
      let named : Contains (targets code.switches s.op) t = subst (λ (f : Flow). Contains (targets_for code.switches f) t) (sym s.flow) k in
      (s.visits.inside t named, w.search.closed s.x (t, c) s.visited (s.op, s.visits, inl (named, s.is)))

-- an arrival is taken off the worklist
module _ {code : Bytecode} {chunk : Span} {starts : List ℕ} {lists : Lists} {states : List (Option State)} {sent : List (Option Counts)} {deepest : ℕ}
    (work : List Coming) (a : Arrival) (w : Walking code chunk starts lists states sent (work ++ coming lists a ∷ []) deepest) where
  -- it is skipped where it has the state that was visited
  pub walking_skip : slice_get starts a.ordinal ≡ Some a.at → get_or states a.ordinal None ≡ Some a.state → Walking code chunk starts lists states sent work deepest
  walking_skip place same = record {
    marked = w.marked;
    search = search_skipped work (coming lists a) w.search ((w.listed (coming lists a)).1 (a.ordinal, a.state, place, same, refl));
    listed = w.listed;
    count = w.count;
    known = w.known;
  }

  here : Pending w.marked (work ++ coming lists a ∷ []) (coming lists a)
  here = inr (Contains-push work (coming lists a))

  -- it is visited for the first time
  module _ {sent' : List (Option Counts)} {jumped : List Coming} {op : Op} (split : Split code.bytes starts) (long : length states ≡ length starts)
      (place : slice_get starts a.ordinal ≡ Some a.at) (fresh : get_or states a.ordinal None ≡ None) (visits : PassesWithTargets code chunk (coming lists a) op)
      (jumps : JumpsTo code op (view lists a.state) sent sent' (Pending w.marked (work ++ coming lists a ∷ [])) jumped) where
    abbrev come : List Coming
    come = jumped ++ falling code op a.at (view lists a.state)

    within : a.ordinal < length states
    within = let l = slice_get_within starts a.ordinal a.at place in omega arith

    unseen : (k : ℕ) (s : State) → get_or states k None ≡ Some s → k ≡ a.ordinal → ⊥
    unseen k s e same = none-some s (sym fresh ∙ ap (λ n. get_or states n None) (sym same) ∙ e)

    searched : IsSearch nat_eq (chunk.entry, nothing) (IsChunkEdge code chunk) (coming lists a ∷ w.marked) (work ++ come)
    searched =
        let falls = λ (x : Coming). falls_in (falls_through op) (a.at + width_of op, after_fall code.setting op (view lists a.state)) x in
        search_visited work (coming lists a) w.search come exact_unsigned_eq
        (λ c m. (let (k, s, e, f, g) = (w.listed (a.at, c)).0 m in unseen k s f (one_ordinal code.bytes starts split k a.ordinal a.at e place)))
        (λ x c. (op, visits, elim (Contains-append_cases jumped (falling code op a.at (view lists a.state)) x c) [ inl k ↦ inl (jumps.sub x k) | inr k ↦ inr ((falls x).0 k) ]))
        (λ x g. (let (o, v, e) = g in elim (subst (λ (q : Op). Edge (coded code) q a.at (view lists a.state) x.0 x.1) (stands_once code.bytes a.at o op v.passes.stands.is visits.passes.stands.is) e) [
          | inl j ↦ elim (jumps.all x j) [ inl k ↦ inl (Contains-append_left jumped (falling code op a.at (view lists a.state)) x k) | inr h ↦ inr h ]
          | inr f ↦ inl (Contains-append_right jumped (falling code op a.at (view lists a.state)) x ((falls x).1 f))
        ]))

    listed : (x : Coming) → Contains (coming lists a ∷ w.marked) x ↔ HasState starts lists (set states a.ordinal (Some a.state)) x
    listed x = (
      λ c. elim (in_cons (coming lists a) w.marked x c) [
        | inl e ↦ (a.ordinal, a.state, place ∙ ap (λ (y : Coming). Some y.0) e, get_or-set_same states a.ordinal (Some a.state) None within, ap (λ (y : Coming). y.1) (sym e))
        | inr m ↦ let (k, s, e, f, g) = (w.listed x).0 m in (k, s, e, get_or-set_other states a.ordinal k (Some a.state) None (unseen k s f) ∙ f, g)
      ],
      λ h. (let (k, s, e, f, g) = h in elim (set_cases states a.ordinal k a.state s f) [
        | inl (same, is) ↦
            let at : a.at ≡ x.0 = same_Some a.at x.0 (sym place ∙ ap (slice_get starts) (sym same) ∙ e) in
            let counts : view lists a.state ≡ x.1 = ap (view lists) is ∙ sym g in
            subst (Contains (coming lists a ∷ w.marked)) (λ i. (at i, counts i)) (in_head (coming lists a) w.marked)
        | inr old ↦ in_tail (coming lists a) w.marked x ((w.listed x).1 (k, s, e, old, g))
      ]),
    )

    pub walking_visit : Walking code chunk starts lists (set states a.ordinal (Some a.state)) sent' (work ++ come) (max deepest a.state.operands)
    walking_visit = record {
      marked = coming lists a ∷ w.marked;
      search = searched;
      listed = listed;
      count = (let more = visited_more states a.ordinal a.state within fresh in let e = w.count in omega (arith, more));
      known = record {
        framed = w.known.framed;
        holds = w.known.holds;
        passed = λ x c. elim (in_cons (coming lists a) w.marked x c) [ inl e ↦ (op, subst (λ (y : Coming). PassesWithTargets code chunk y op) e visits) | inr m ↦ w.known.passed x m ];
        shallow = λ x c. elim (in_cons (coming lists a) w.marked x c) [
          | inl e ↦ let q : a.state.operands ≡ x.1.operands = ap (λ (y : Coming). y.1.operands) e in omega arith
          | inr m ↦ let q = w.known.shallow x m in omega arith
        ];
        attained = elim (cases_lt deepest a.state.operands) [
          | inl l ↦ let (n, few, p) = w.search.reached (coming lists a) here in (n, coming lists a, p, omega arith)
          | inr g ↦ let (n, x, p, e) = w.known.attained in (n, x, p, omega (arith, e))
        ];
        sent_there = λ v c e. elim (jumps.noted v c e) [
          | inl old ↦ let s = w.known.sent_there v c old in record { x = s.x; op = s.op; visited = in_tail (coming lists a) w.marked s.x s.visited; visits = s.visits; flow = s.flow; is = s.is }
          | inr (is, same) ↦ record { x = coming lists a; op = op; visited = in_head (coming lists a) w.marked; visits = visits; flow = is; is = same }
        ];
      };
    }

-- where nothing is coming any more, what was visited is a typing, as deep as the deepest, and is what is reached
pub walking_end : {code : Bytecode} {chunk : Span} {starts : List ℕ} {lists : Lists} {states : List (Option State)} {sent : List (Option Counts)} {deepest : ℕ}
    → Walking code chunk starts lists states sent [] deepest → HasTyping (coded code) chunk deepest × IsDeepest (coded code) chunk deepest × IsReachedCount (coded code) chunk (visits_in states)
walking_end {code} {chunk} {starts} {lists} {states} {sent} {deepest} w =
    let typing : ℕ → Option Counts = λ at. lookup (nat_eq at) w.marked in
    let marked : (at : ℕ) (c : Counts) → typing at ≡ Some c → Contains w.marked (at, c) = λ at c e. Contains-from_lookup exact_unsigned_eq at c w.marked e in
    let typed : IsTyping (coded code) chunk deepest typing = record {
      entry = search_starts nat_eq_equiv exact_unsigned_eq w.search;
      shallow = λ at c e. w.known.shallow (at, c) (marked at c e);
      met = λ at c e. (let (op, v) = w.known.passed (at, c) (marked at c e) in (op, v.passes));
      closed = λ at c op b d e i j. (
          let (o, v) = w.known.passed (at, c) (marked at c e) in
          let goes = subst (λ (q : Op). Edge (coded code) q at c b d) (stands_once code.bytes at op o i v.passes.stands.is) j in
          search_closed nat_eq_equiv exact_unsigned_eq w.search (at, c) (b, d) e (o, v, goes)
          );
    } in
    let covers = typing_covers (coded code) chunk deepest typing typed in
    let places = search_places nat_eq_equiv exact_unsigned_eq w.search in
    let (n, x, p, e) = w.known.attained in (
      (typing, typed),
      record {
        most = λ at c r. w.known.shallow (at, c) (marked at c (covers at c r));
        attained = (x.0, (x.1, walks_reached code chunk n x p, e));
      },
      record {
        places = keys_of w.marked;
        distinct = w.search.once;
        reached = λ at. (
          λ k. (let (c, n, path) = (places at).0 k in (c, walks_reached code chunk n (at, c) path)),
          λ h. (let (n, few, path) = w.search.reached (at, h.0) (inl (marked at h.0 (covers at h.0 h.1))) in (places at).1 (h.0, n, path)),
        );
        count = length-keys_of w.marked ∙ w.count;
      },
    )
