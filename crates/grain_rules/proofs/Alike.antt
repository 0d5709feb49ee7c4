-- Code is judged alike beside pools that operations find alike.
use Rattle.std.proofs.Common.{◌≡◌, ℕ, ◌+◌, ◌-◌, ◌≤◌, inl, inr, List, [], ◌∷◌, get_or, Option, refl, subst, sym, ap, ◌∙◌}
use Rattle.std.specs.List.{Contains}
use Rattle.grain_rules.specs.Accepted.{ChunkPasses, IsFramed, IsSafe}
use Rattle.grain_rules.specs.Capabilities.{Allows}
use Rattle.grain_rules.specs.Code.{Bytecode, Code, coded}
use Rattle.grain_rules.specs.Counts.{Counts, last_base}
use Rattle.grain_rules.specs.Effects.{Edge, Meets, after_fall, after_jump, iterators_needed, targets}
use Rattle.grain_rules.specs.Rows.{Row, caps_of, flow_of, row}
use Rattle.grain_rules.specs.Facts.{ChainFacts}
use Rattle.grain_rules.specs.Flow as flow
use Rattle.grain_rules.specs.Flow.{Flow}
use Rattle.grain_rules.specs.FlowFields.{fall_for, jump_for, targets_for}
use Rattle.grain_rules.specs.Machine.{Catches, Finds, Flows, IsKeptRun, IsRunKeptAtQuiet, Machine, Moves, MovesKeptAtQuiet, Steps}
use Rattle.grain_rules.specs.Setting.{Setting, with_caps}
use Rattle.grain_rules.specs.Sinking.{FallsShortOf, ReachesUpTo, Sinks, Stays}
use Rattle.grain_code.specs.Span.{Span}
use Rattle.grain_rules.specs.Typing.{HasTyping, IsDeepest, IsReachedCount, IsTyping, Passes, Reached, StandsIn, begin, onward}
use Rattle.grain_code.specs.declared.op.Op.{Op}
use Rattle.grain_code.specs.declared.op.Op.TheVariants as ops
use Rattle.grain_code.specs.declared.op.Receiver.TheVariants as receiver

-- the same capabilities, and the same of each operation: its row, and where it leads
pub record Alike (s t : Setting) (u w : List (List ℕ)) : Type 0 where
  pub caps : s.caps ≡ t.caps
  pub rows : (op : Op) → row s op ≡ row t op
  pub leads : (op : Op) (x : ℕ) → Contains (targets u op) x → Contains (targets w op) x
  pub leads_back : (op : Op) (x : ℕ) → Contains (targets w op) x → Contains (targets u op) x

pub flip : {s t : Setting} {u w : List (List ℕ)} → Alike s t u w → Alike t s w u
flip like = record {
  caps = sym like.caps;
  rows = λ op. sym (like.rows op);
  leads = like.leads_back;
  leads_back = like.leads;
}

-- where flows lead, if switches lead to the same targets
pub flow_leads : (u w : List (List ℕ)) → ((i x : ℕ) → Contains (get_or u i []) x → Contains (get_or w i []) x) → (f : Flow) (x : ℕ) → Contains (targets_for u f) x → Contains (targets_for w f) x
flow_leads u w shared (flow.Switches i) x has = shared i x has
flow_leads u w shared flow.Falls x has = has
flow_leads u w shared flow.Ends x has = has
flow_leads u w shared (flow.Jumps target) x has = has
flow_leads u w shared (flow.Branches target) x has = has
flow_leads u w shared flow.BeginsIterator x has = has
flow_leads u w shared (flow.AdvancesIterator exit) x has = has
flow_leads u w shared flow.EndsIterator x has = has
flow_leads u w shared (flow.PushesHandler target) x has = has
flow_leads u w shared flow.PopsHandler x has = has

-- an operation finds the same of pools that differ in the cases of switches alone
pub row_alike : (caps consts : ℕ) (names : List ℕ) (tokens assign_ops residuals : ℕ) (chains : List ChainFacts) (cs ds : List (List ℕ)) (op : Op)
    → row (with_caps caps (record { consts = consts; names = names; tokens = tokens; assign_ops = assign_ops; residuals = residuals; chains = chains; cases = cs })) op
    ≡ row (with_caps caps (record { consts = consts; names = names; tokens = tokens; assign_ops = assign_ops; residuals = residuals; chains = chains; cases = ds })) op
row_alike caps consts names tokens assign_ops residuals chains cs ds (ops.CallRef n a (receiver.Local slot) capture) = refl
row_alike caps consts names tokens assign_ops residuals chains cs ds (ops.CallRef n a (receiver.Named m) capture) = refl
row_alike caps consts names tokens assign_ops residuals chains cs ds (ops.CallRef n a receiver.This capture) = refl
row_alike caps consts names tokens assign_ops residuals chains cs ds op = refl

-- the code of these bytes
abbrev pub code : List ℕ → Setting → List (List ℕ) → Bytecode
code bytes s u = record { setting = s; bytes = bytes; switches = u }

module _ (bytes : List ℕ) {s t : Setting} {u w : List (List ℕ)} (like : Alike s t u w) (chunk : Span) where
  abbrev one : Code
  one = coded (code bytes s u)

  abbrev other : Code
  other = coded (code bytes t w)

  pub stands : (at : ℕ) (op : Op) → StandsIn one chunk at op → StandsIn other chunk at op
  stands at op h = record { within = record { entry = h.within.entry; end = h.within.end; place = h.within.place }; is = h.is }

  pub meets : (op : Op) (c : Counts) → Meets s op c → Meets t op c
  meets op c h = record {
    operands = subst (λ (r : Row). r.needs ≤ c.operands) (like.rows op) h.operands;
    iterators = h.iterators;
    handlers = h.handlers;
  }

  pub allowed : (op : Op) → Allows s.caps (caps_of s op) → Allows t.caps (caps_of t op)
  allowed op h = subst (λ (n : ℕ). Allows n (caps_of t op)) like.caps (subst (λ (r : Row). Allows s.caps r.asks) (like.rows op) h)

  stays : (op : Op) (c : Counts) → Stays s op c → Stays t op c
  stays op c h loud = subst (λ (r : Row). ReachesUpTo (last_base c.bases) (record { operands = c.operands - r.takes; iterators = c.iterators - iterators_needed op })) (like.rows op) (h loud)

  pub sinks : (op : Op) (c : Counts) (need have : ℕ) → Sinks s op c need have → Sinks t op c need have
  sinks op c need have h = (h.0, subst (λ (r : Row). FallsShortOf (last_base c.bases) (record { operands = c.operands - r.takes; iterators = c.iterators - iterators_needed op }) need have) (like.rows op) h.1)

  pub passes : (at : ℕ) (c : Counts) (op : Op) → Passes one chunk at c op → Passes other chunk at c op
  passes at c op h = record { stands = stands at op h.stands; meets = meets op c h.meets; allowed = allowed op h.allowed; stays = stays op c h.stays }

  jumped : (op : Op) (c : Counts) → after_jump s op c ≡ after_jump t op c
  jumped op c = ap (λ (r : Row). jump_for (flow_of op) (c.operands - r.takes + r.gives) c) (like.rows op)

  fallen : (op : Op) (c : Counts) → after_fall s op c ≡ after_fall t op c
  fallen op c = ap (λ (r : Row). fall_for (flow_of op) (c.operands - r.takes + r.gives) c) (like.rows op)

  pub edge : (op : Op) (at : ℕ) (c : Counts) (x : ℕ) (d : Counts) → Edge one op at c x d → Edge other op at c x d
  edge op at c x d (inl j) = inl (like.leads op x j.0, j.1 ∙ jumped op c)
  edge op at c x d (inr f) = inr (f.0, f.1, f.2 ∙ fallen op c)

  pub reached : {at : ℕ} {c : Counts} → Reached one chunk at c → Reached other chunk at c
  reached begin = begin
  reached (onward {at = at} {c = c} {op = op} {b = b} {d = d} r p e) = onward (reached r) (passes at c op p) (edge op at c b d e)

  pub finds : (m : Machine) (op : Op) → Finds one chunk m op → Finds other chunk m op
  finds m op h = record { stands = stands m.address op h.stands; meets = meets op _ h.meets }

  flows : (op : Op) (at : ℕ) (c : Counts) (x : ℕ) (d : Counts) → Flows one op at c x d → Flows other op at c x d
  flows op at c x d (inl j) = inl (j.0, (like.leads op x j.1.0, j.1.1 ∙ jumped op c))
  flows op at c x d (inr f) = inr (f.0, f.1, f.2 ∙ fallen op c)

  steps : (m n : Machine) → Steps one chunk m n → Steps other chunk m n
  steps m n h = record {
    op = h.op;
    counted = h.counted;
    finds = finds m h.op h.finds;
    edge = flows h.op m.address _ n.address h.counted h.edge;
    operands = h.operands;
    iterators = h.iterators;
    handlers = h.handlers;
  }

  catches : (m n : Machine) → Catches one chunk m n → Catches other chunk m n
  catches m n h = record {
    op = h.op;
    operands_found = h.operands_found;
    iterators_found = h.iterators_found;
    handler = h.handler;
    outer = h.outer;
    finds = finds m h.op h.finds;
    operands_low = subst (λ (r : Row). m.operands - r.takes ≤ h.operands_found) (like.rows h.op) h.operands_low;
    operands_high = h.operands_high;
    iterators_low = h.iterators_low;
    iterators_high = h.iterators_high;
    caught = h.caught;
    lands = h.lands;
  }

  moves : (m n : Machine) → Moves one chunk m n → Moves other chunk m n
  unfolding catches
  moves m n (inl step) = inl (steps m n step)
  moves m n (inr fault) = inr (catches m n fault.0, record { operands = fault.1.operands; iterators = fault.1.iterators })

  pub run : (m : Machine) (earlier : List Machine) → IsKeptRun one chunk m earlier → IsKeptRun other chunk m earlier
  run m [] h = h
  run m (before ∷ earlier) h = (moves before m h.0, run before earlier h.1)

  quiet_moves : (m n : Machine) → MovesKeptAtQuiet one chunk m n → MovesKeptAtQuiet other chunk m n
  unfolding catches
  quiet_moves m n (inl step) = inl (steps m n step)
  quiet_moves m n (inr fault) = inr (catches m n fault.0, λ quiet. let kept = fault.1 quiet in record { operands = kept.operands; iterators = kept.iterators })

  pub quiet_run : (m : Machine) (earlier : List Machine) → IsRunKeptAtQuiet one chunk m earlier → IsRunKeptAtQuiet other chunk m earlier
  quiet_run m [] h = h
  quiet_run m (before ∷ earlier) h = (quiet_moves before m h.0, quiet_run before earlier h.1)

  pub framed : IsFramed (code bytes s u) chunk → IsFramed (code bytes t w) chunk
  framed h = record { ordered = h.ordered; inside = h.inside; entry = h.entry; end = h.end }

module _ (bytes : List ℕ) {s t : Setting} {u w : List (List ℕ)} (like : Alike s t u w) (chunk : Span) where
  typing : (m : ℕ) (known : ℕ → Option Counts) → IsTyping (coded (code bytes s u)) chunk m known → IsTyping (coded (code bytes t w)) chunk m known
  typing m known h = record {
    entry = h.entry;
    shallow = h.shallow;
    met = λ at c e. let found = h.met at c e in (found.0, passes bytes like chunk at c found.0 found.1);
    closed = λ at c op x d e r along. h.closed at c op x d e r (edge bytes (flip like) chunk op at c x d along);
  }

  pub typed : (m : ℕ) → HasTyping (coded (code bytes s u)) chunk m → HasTyping (coded (code bytes t w)) chunk m
  typed m h = (h.0, typing m h.0 h.1)

  pub deepest : (n : ℕ) → IsDeepest (coded (code bytes s u)) chunk n → IsDeepest (coded (code bytes t w)) chunk n
  deepest n h = record {
    most = λ at c r. h.most at c (reached bytes (flip like) chunk r);
    attained = (h.attained.0, (h.attained.1.0, reached bytes like chunk h.attained.1.1, h.attained.1.2));
  }

  pub reached_count : (n : ℕ) → IsReachedCount (coded (code bytes s u)) chunk n → IsReachedCount (coded (code bytes t w)) chunk n
  reached_count n h = record {
    places = h.places;
    distinct = h.distinct;
    reached = λ at. (
      λ inside. let found = (h.reached at).0 inside in (found.0, reached bytes like chunk found.1),
      λ found. (h.reached at).1 (found.0, reached bytes (flip like) chunk found.1),
    );
    count = h.count;
  }

  pub safe : (n : ℕ) → IsSafe (code bytes s u) chunk n → IsSafe (code bytes t w) chunk n
  safe n h = record {
    finds = λ m on. let found = h.finds m (on.0, run bytes (flip like) chunk m on.0 on.1) in (found.0, finds bytes like chunk m found.0 found.1, allowed bytes like chunk found.0 found.2);
    most = λ m on. h.most m (on.0, run bytes (flip like) chunk m on.0 on.1);
    attained = (h.attained.0, (h.attained.1.0, run bytes like chunk h.attained.0 h.attained.1.0 h.attained.1.1), h.attained.2);
    kept = λ m earlier r. run bytes like chunk m earlier (h.kept m earlier (quiet_run bytes (flip like) chunk m earlier r));
  }

  pub chunk_passes : ChunkPasses (code bytes s u) chunk → ChunkPasses (code bytes t w) chunk
  chunk_passes h = record { framed = framed bytes like chunk h.framed; typed = typed chunk.max_stack h.typed }
