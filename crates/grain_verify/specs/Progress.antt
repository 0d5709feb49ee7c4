-- How far the walk over a chunk has come.
use Rattle.std.specs.Prelude.{◌≡◌, ◌↔◌, ℕ, ◌+◌, ◌*◌, ◌-◌, ◌<◌, ◌^◌, ◌≤◌, List, ◌∷◌, [], ◌++◌, Option, None, Some, get_or, length, map, max, nat_eq, slice_get, slice_set, sum_by, IfSome, OnOk, Result}
use Rattle.std.specs.List.{All, Contains, count_by}
use Rattle.std.specs.Option.{is_some}
use Rattle.grain_code.specs.Span.{Span}
use Rattle.grain_code.specs.declared.op.Op.{Op}
use Rattle.grain_verify.specs.Arrivals.{Coming, IsAtOrdinal, coming, sent_by, view}
use Rattle.grain_verify.specs.Walk.{Walked}
use Rattle.grain_rules.specs.Accepted.{IsFramed}
use Rattle.grain_rules.specs.Code.{Bytecode, coded}
use Rattle.grain_rules.specs.Counts.{Counts, nothing}
use Rattle.grain_rules.specs.Effects.{Edge, after_jump, targets}
use Rattle.grain_rules.specs.Flow.{Switches}
use Rattle.grain_rules.specs.Rows.{flow_of}
use Rattle.grain_verify.specs.Graph.{IsSearch, Path}
use Rattle.grain_verify.specs.Lists.{IsShared, list_count}
use Rattle.grain_verify.specs.Meter.{AreReached, HasCounted, starts_within}
use Rattle.grain_rules.specs.Typing.{IsInChunk, IsReachedCount, Passes}
use Rattle.grain_rules.specs.declared.error.VerifyError.{VerifyError}
use Rattle.grain_verify.specs.declared.lists.Lists.{Lists}
use Rattle.grain_verify.specs.declared.state.Arrival.{Arrival}
use Rattle.grain_verify.specs.declared.state.State.{State}
use Rattle.grain_verify.specs.declared.walk.Traversal.{Traversal}

-- The operation here passes, and all its targets are in the chunk.
pub record PassesWithTargets (code : Bytecode) (chunk : Span) (x : Coming) (op : Op) : Type 0 where
  pub passes : Passes (coded code) chunk x.0 x.1 op
  pub inside : (t : ℕ) → Contains (targets code.switches op) t → IsInChunk (coded code) chunk t

-- the edges of a chunk, between its addresses with their counts, and where they lead from its entry
abbrev pub IsChunkEdge : Bytecode → Span → Coming → Coming → Type 0
IsChunkEdge code chunk x y = (op : Op) × PassesWithTargets code chunk x op × Edge (coded code) op x.0 x.1 y.0 y.1

abbrev pub Walks : Bytecode → Span → ℕ → Coming → Type 0
Walks code chunk n x = Path (chunk.entry, nothing) (IsChunkEdge code chunk) n x

-- how many targets all switches have
abbrev pub all_targets : List (List ℕ) → ℕ
all_targets switches = sum_by (λ (ts : List ℕ). length ts) switches

-- how many states there are
abbrev pub visits_in : List (Option State) → ℕ
visits_in states = count_by is_some states

-- one of the starts, with the counts for which its state stands
abbrev pub HasState : List ℕ → Lists → List (Option State) → Coming → Type 0
HasState starts lists states x = (k : ℕ) × (s : State) × (slice_get starts k ≡ Some x.0) × (get_or states k None ≡ Some s) × (x.1 ≡ view lists s)

-- counts that were sent to the targets of a switch were sent by an instruction that was visited
pub record WasSent (code : Bytecode) (chunk : Span) (marked : List Coming) (switch : ℕ) (c : Counts) : Type 0 where
  pub x : Coming
  pub op : Op
  pub visited : Contains marked x
  pub visits : PassesWithTargets code chunk x op
  pub flow : flow_of op ≡ Switches switch
  pub is : c ≡ after_jump code.setting op x.1

-- The chunk is whole instructions, and what was visited in it passes, with no more operands than the deepest that is reached.
pub record AreVisited (code : Bytecode) (chunk : Span) (sent : List (Option Counts)) (marked : List Coming) (deepest : ℕ) : Type 0 where
  pub framed : IsFramed code chunk
  pub holds : chunk.entry < chunk.end
  pub passed : (x : Coming) → Contains marked x → (op : Op) × PassesWithTargets code chunk x op
  pub shallow : (x : Coming) → Contains marked x → x.1.operands ≤ deepest
  pub attained : (n : ℕ) × (x : Coming) × Walks code chunk n x × (x.1.operands ≡ deepest)
  pub sent_there : (w : ℕ) (c : Counts) → get_or sent w None ≡ Some c → WasSent code chunk marked w c

-- the walk is a search of the chunk, in which each start has a state once it was visited
pub record Walking (code : Bytecode) (chunk : Span) (starts : List ℕ) (lists : Lists) (states : List (Option State)) (sent : List (Option Counts)) (work : List Coming) (deepest : ℕ) : Type 0 where
  pub marked : List Coming
  pub search : IsSearch nat_eq (chunk.entry, nothing) (IsChunkEdge code chunk) marked work
  pub listed : (x : Coming) → Contains marked x ↔ HasState starts lists states x
  pub count : length marked ≡ visits_in states
  pub known : AreVisited code chunk sent marked deepest

-- a state names a list that there is
abbrev pub NamesList : Lists → State → Type 0
NamesList lists s = s.list ≤ list_count lists

-- so does each of these
abbrev pub NameLists : Lists → List (Option State) → Type 0
NameLists lists states = All (λ (o : Option State). IfSome o (NamesList lists)) states

-- there is room for each instruction and each switch
pub record Fits (p : Walked) (t : Traversal) : Type 0 where
  pub states : length t.states ≡ length p.starts
  pub sent : length t.sent ≡ length p.code.switches

-- equal lists of bases have equal numbers, every state names one that there is, and there are no more of them than visits
pub record KnowsLists (lists : Lists) (t : Traversal) (arrivals : List Arrival) : Type 0 where
  pub shared : IsShared lists
  pub states : NameLists lists t.states
  pub sent : NameLists lists t.sent
  pub waiting : All (λ (a : Arrival). NamesList lists a.state) arrivals
  pub few : list_count lists ≤ visits_in t.states

-- the same, in the variables of the walk
pub record IsWalking (p : Walked) (chunk : Span) (lists : Lists) (t : Traversal) (arrivals : List Arrival) (deepest : ℕ) : Type 0 where
  pub fits : Fits p t
  pub at_ordinal : All (IsAtOrdinal p.starts chunk) arrivals
  pub known : KnowsLists lists t arrivals
  pub walking : Walking p.code chunk p.starts lists t.states (sent_by lists t.sent) (map (coming lists) arrivals) deepest

-- how much may still come if this many arrivals wait: no instruction that is visited sends its state to more places
abbrev pub weight : Walked → Traversal → ℕ → ℕ
weight p t waiting = (all_targets p.code.switches + 2 + 1) * (length t.states - visits_in t.states) + waiting

-- The walk has marked an instruction as visited, and its edges are still to be followed.
pub record HaltsAt (p : Walked) (chunk : Span) (lists : Lists) (t : Traversal) (here : Arrival) (deepest : ℕ) : Type 0 where
  pub before : List (Option State)
  pub earlier : ℕ
  pub fresh : get_or before here.ordinal None ≡ None
  pub marked : t.states ≡ slice_set before here.ordinal (Some here.state)
  pub deeper : deepest ≡ max earlier here.state.operands
  pub within : here.at < chunk.end
  pub addresses : chunk.end < 2 ^ 32
  pub is : IsWalking p chunk lists (record t { states = before }) (t.work.items ++ here ∷ []) earlier

-- What the meter has counted of one chunk: no more than its starts, and the places that it reaches if it is walked to
-- the end.
pub record IsMeteredChunk {A : Type 0} (code : Bytecode) (starts : List ℕ) (chunk : Span) (old new : ℕ) (result : Result A VerifyError) : Type 0 where
  pub visits : ℕ
  pub within : visits ≤ starts_within starts chunk
  pub counted : HasCounted old new visits
  pub reached : OnOk result (IsReachedCount (coded code) chunk visits)

-- what it has counted of chunks that were walked to the end
pub record AreCounted (code : Bytecode) (starts : List ℕ) (chunks : List Span) (old new : ℕ) : Type 0 where
  pub visits : ℕ
  pub within : visits ≤ sum_by (starts_within starts) chunks
  pub counted : HasCounted old new visits
  pub reached : AreReached code chunks visits

-- what it has counted of chunks, of which one may be refused
pub record AreMeteredChunks {A E : Type 0} (code : Bytecode) (starts : List ℕ) (chunks : List Span) (old new : ℕ) (result : Result A E) : Type 0 where
  pub visits : ℕ
  pub within : visits ≤ sum_by (starts_within starts) chunks
  pub counted : HasCounted old new visits
  pub reached : OnOk result (AreReached code chunks visits)
