-- What the run finds where it stands.
use Rattle.std.proofs.Common.{◌≡◌, ℕ, ◌+◌, ◌≤◌, inl, inr, List, [], ◌∷◌, ◌++◌, length, drop, refl, sym, ap, ◌∙◌, subst, arith}
use Rattle.std.specs.List.{Contains, flat_map}
use Rattle.std.proofs.lemmas.List.{drop_at, drop-drop}
use Rattle.std.proofs.lemmas.List.Concat.{flat_map-cons}
use Rattle.std.proofs.lemmas.List.Elements.{All-contains}
use Rattle.grain_code.specs.InstructionTable.{spelling, width_of}
use Rattle.grain_code.specs.Span.{Span}
use Rattle.grain_code.specs.Split.{AreInstructions, Begins, StandsAt, starts_from}
use Rattle.grain_code.specs.declared.op.Op.{Op}
use Rattle.grain_code.proofs.Instructions.{begins_spelling, spelling_width}
use Rattle.grain_code.proofs.Splits.{one_split}
use Rattle.grain_rules.specs.Layout.{IsStart}
use Rattle.grain.specs.Lookups.{AreFound, FindsIndices}
use Rattle.grain_rules.specs.Machine.{counts}
use Rattle.grain.specs.Program.{Program, chunks_of}
use Rattle.grain_rules.specs.Typing.{Passes}
use Rattle.grain_rules.proofs.Law.{run_passes}
use Rattle.grain_rules.proofs.OperationUniqueness.{stands_once}
use Rattle.grain_rules.proofs.Splits.{in_cons, in_head, in_nil, in_tail, op_fits}
use Rattle.grain_machine.specs.Asked.{IsAsked, program_code}
use Rattle.grain_machine.specs.State.{IsAt, IsUnderWay, IsRunnable, Runs, State}
use Rattle.grain_machine.proofs.Chunks.{placed}

-- what stands at a start is among the instructions that the code is
standing_among : (code : List ℕ) (at : ℕ) (ops : List Op) (a : ℕ) (op : Op) → at ≤ length code → AreInstructions (drop at code) ops
    → Contains (starts_from at ops) a → StandsAt code a op → Contains ops op
standing_among code at [] a op inside are c h = absurd (in_nil a c)
standing_among code at (o ∷ ops) a op inside are c h =
    let cut : drop at code ≡ spelling o ++ flat_map spelling ops = are.whole ∙ flat_map-cons spelling o ops in
    let here : StandsAt code at o = subst (λ (b : List ℕ). Begins b o) (sym cut) (begins_spelling o (flat_map spelling ops) are.each.0) in
    let rest : drop (at + width_of o) code ≡ flat_map spelling ops = sym (drop-drop (width_of o) at code) ∙ ap (drop (width_of o)) cut ∙ drop_at (spelling o) (flat_map spelling ops) (width_of o) (spelling_width o) in
    elim (in_cons at (starts_from (at + width_of o) ops) a c) [
      | inl e ↦ subst (λ (x : Op). Contains (o ∷ ops) x) (stands_once code at o op here (subst (λ (y : ℕ). StandsAt code y op) (sym e) h)) (in_head o ops)
      | inr k ↦ in_tail o ops op (standing_among code (at + width_of o) ops a op (op_fits code at o inside here) (record { each = are.each.1; whole = rest }) k h)
    ]

-- the indices of what stands at a start are found
pub found_here : (p : Program) (at : ℕ) (op : Op) → FindsIndices p → IsStart p.code at → StandsAt p.code at op → AreFound p op
found_here p at op finds start stands =
    let same = one_split p.code start.starts (starts_from 0 finds.0) start.split (finds.0, finds.1, refl) in
    let among = standing_among p.code 0 finds.0 at op (omega arith) finds.1 (subst (λ (xs : List ℕ). Contains xs at) same start.here) stands in
    All-contains (AreFound p) finds.0 op finds.2 among

-- what a host is asked for is one of the instructions that the code is
pub instruction_here : (p : Program) (chunk : Span) (at : ℕ) (op : Op) {n : ℕ} → IsAsked p chunk at op n
    → (all : List Op) × AreInstructions p.code all × Contains all op
instruction_here p chunk at op asked =
    let all = asked.accepted.code in
    let here = asked.met.finds.stands in
    let start = here.within.place in
    let same = one_split p.code start.starts (starts_from 0 all.0) start.split (all.0, all.1, refl) in
    let among : Contains (starts_from 0 all.0) asked.met.state.address = subst (λ (xs : List ℕ). Contains xs asked.met.state.address) same start.here in
    (all.0, all.1, standing_among p.code 0 all.0 asked.met.state.address op (omega arith) all.1 among here.is)

-- some operation stands where the run is, and passes
pub passes_here : (r : Runs) (s : State) → IsRunnable r → IsUnderWay r s → (op : Op) × Passes (program_code r.program) r.chunk s.machine.address (counts s.machine) op
passes_here r s runs ready = run_passes (program_code r.program) r.chunk r.room runs.typed s.machine ready.0

pub stands_along : (code other : List ℕ) (at there : ℕ) (op : Op) → other ≡ code → there ≡ at → StandsAt code at op → StandsAt other there op
stands_along code other at there op e k h = subst (λ (y : ℕ). StandsAt other y op) (sym k) (subst (λ (b : List ℕ). StandsAt b at op) (sym e) h)

-- what was read is what the run finds
pub is_at : (r : Runs) (s : State) (op : Op) (behind : ℕ) → IsRunnable r → IsUnderWay r s → StandsAt r.program.code s.machine.address op → behind ≡ s.machine.address + width_of op → IsAt r s op behind
is_at r s op behind runs ready stands e =
    let here = passes_here r s runs ready in
    let p = subst (λ (o : Op). Passes (program_code r.program) r.chunk s.machine.address (counts s.machine) o) (stands_once r.program.code s.machine.address here.0 op here.1.stands.is stands) here.1 in
    record {
      runs = runs;
      ready = ready;
      finds = record { stands = p.stands; meets = p.meets };
      next = e;
      asked = record {
        accepted = runs.accepted;
        among = placed (chunks_of r.program) runs.place r.chunk runs.there;
        met = record { state = s.machine; on_run = ready.0; here = refl; finds = record { stands = p.stands; meets = p.meets } };
        allowed = p.allowed;
        found = found_here r.program s.machine.address op runs.finds p.stands.within.place stands;
        operands = refl;
      };
    }
