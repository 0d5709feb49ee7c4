use Rattle.std.proofs.Common.{◌≡◌, ◌+◌, ℕ, List, length, map, take, refl, sym, subst, ap, ◌∙◌, Vec, Global, arith}
use Rattle.std.specs.List.{All, flat_map}
use Rattle.std.proofs.lemmas.List.{with_items_is}
use Rattle.std.proofs.lemmas.Result.{IfOk-weaker}
use Rattle.grain_code.specs.Assembly.{IsAssembly, offsets_from}
use Rattle.grain_code.specs.Span.{Span}
use Rattle.grain_code.specs.declared.op.Op.{Op}
use Rattle.grain_base.specs.declared.position.Position.{Position}
use Rattle.grain_pools.specs.Chain.{positions, shape}
use Rattle.grain_pools.specs.declared.chain.Chain.{Chain}
use Rattle.grain_rules.specs.Accepted.{IsAccepted}
use Rattle.grain_rules.specs.Code.{switch_targets}
use Rattle.grain.specs.Build.{span_of}
use Rattle.grain.specs.Program.{Program, input_of}
use Rattle.grain.specs.declared.builder.Head.{Head}
use Rattle.grain.specs.declared.builder.Cut.{Cut}
use Rattle.grain.specs.declared.program.Parts.{Parts}
use Rattle.grain_builder.specs.Assembled.{targets_of}
use Rattle.grain_builder.specs.Finished.{AreTypedCuts, LeadAmong}
use Rattle.grain_builder.specs.declared.assembler.TableTargets.{TableTargets}
use Rattle.rhai_compile.specs.Laid.{IsLaidOut}
use Rattle.rhai_compile.specs.Positions.{AreApart, ArePlacedAt, IsListedPosition, IsPositionIn}
use Rattle.grain_base.specs.declared.pos.Site.{Site}
use Rattle.std.specs.Prelude.{IfSome}
use Rattle.rhai_compile.proofs.BuildPremises.{laid_accepted}
use Rattle.rhai_compile.proofs.LocatedPositions.{if_located, offsets_apart}
use Rattle.rhai_compile.proofs.PlacedPositions.{if_code, if_placed, typed_alike}
use Rattle.rhai_compile.proofs.building.complete.Goals as goal

-- the operations pass, so that the program that is laid of them is accepted, whatever its positions
pub verified-requires : goal.verified-requires
verified-requires c =
    let ops : List Op = c.args.made.0.ops.items in
    let parts : Parts = c.in_ok-parts.parts in
    let chunks : List Span = c.args.made.0.cuts.items in
    let tables : List (List ℕ) = map targets_of c.args.made.0.tables.items in
    let heads : List Head = c.in_ok-cuts.heads.items in
    let cuts : List Cut = c.in_ok-cuts.cuts.items in
    let chains : parts.chains.items ≡ c.keep_in_chains.new.chains = c.in_ok-parts.ensures.chains ∙ with_items_is c.args.made.0.chains c.keep_in_chains.new.chains (let h = c.keep_in_chains.auto.chains in let k = c.deref_mut.ensures.len in omega arith) in
    let alike : (p : Position) → map (shape p) parts.chains.items ≡ map (shape p) c.args.made.0.chains.items = λ p. ap (map (shape p)) chains ∙ c.keep_in_chains.ensures.rest p ∙ ap (map (shape p)) c.deref_mut.ensures.value in
    let none : Position = record { line = 0; column = 0; line_fits = omega arith; column_fits = omega arith; no_place = λ _. refl } in
    let typed : AreTypedCuts ops parts.chains.items tables chunks = typed_alike none c.args.made.0.chains.items parts.chains.items (alike none) ops tables chunks c.requires.typed in
    let among : LeadAmong (map switch_targets parts.switches.items) tables =
    subst (λ (ts : List TableTargets). LeadAmong (map switch_targets parts.switches.items) (map targets_of ts)) c.deref.ensures.value c.in_ok-parts.ensures.switches in
    let spans : map span_of cuts ≡ take (length heads + 1) chunks = c.in_ok-cuts.ensures.cuts ∙ ap (take (length heads + 1)) c.deref-2.ensures.value in
    let laid : IsLaidOut ops cuts heads parts c.in_ok-program.program =
    subst (λ (xs : List Op). IsLaidOut xs cuts heads parts c.in_ok-program.program) c.deref-3.ensures.value
    (subst (λ (xs : List Cut). IsLaidOut c.deref-3.result.now xs heads parts c.in_ok-program.program) c.deref-4.ensures.value c.in_ok-program.ensures.laid) in
    subst (λ (p : Program). IsAccepted (input_of p)) (sym c.in_ok-program-2.ensures.rest)
    (laid_accepted ops cuts heads parts c.in_ok-program.program laid chunks tables (length heads + 1) typed c.requires.cuts c.requires.leads spans among c.in_ok-parts.ensures.constants)

pub returns-clause-positions : goal.returns-clause-positions
returns-clause-positions c =
    let P : Position → Type 0 = IsListedPosition c.args.lines.now.lengths.items in
    let chains : c.in_ok-program.program.chains ≡ c.keep_in_chains.new.chains =
    ap (λ (p : Program). p.chains) c.in_ok-program.ensures.laid.laid.rest ∙ c.in_ok-parts.ensures.chains ∙ with_items_is c.args.made.0.chains c.keep_in_chains.new.chains (let h = c.keep_in_chains.auto.chains in let k = c.deref_mut.ensures.len in omega arith) in
    if_placed c.verified.result (λ b. b.program) P _ c.in_ok-program.program.chains c.verified.ensures.positions
    (IfOk-weaker c.verified.result (λ b. b.program.chains ≡ c.in_ok-program-2.program.chains) (λ b. b.program.chains ≡ c.in_ok-program.program.chains)
    (λ b e. e ∙ ap (λ (p : Program). p.chains) c.in_ok-program-2.ensures.rest) c.verified.ensures.chains)
    c.in_ok-program-2.ensures.listed
    (subst (λ (xs : List Chain). All P (flat_map positions xs)) (sym chains) c.keep_in_chains.ensures.kept)

pub returns-clause-placed : goal.returns-clause-placed
returns-clause-placed c =
    if_code c.verified.result (λ b. b.program) (IsPositionIn c.args.made.0.places.items) _ c.verified.ensures.positions
    (subst (λ (ps : List Site). IfSome c.in_ok-program-2.program.positions (All (IsPositionIn ps))) c.deref-6.ensures.value c.in_ok-program-2.ensures.placed)

pub positioned-requires : goal.positioned-requires
positioned-requires c =
    let p = c.in_ok-program.program in
    let ops : List Op = c.args.made.0.ops.items in
    let made : IsAssembly ops p.code c.in_ok-program.offsets.items = subst (λ (xs : List Op). IsAssembly xs p.code c.in_ok-program.offsets.items) c.deref-3.ensures.value c.in_ok-program.ensures.offsets in
    let many : length c.deref-6.result.now ≡ length ops = ap (λ (ps : List Site). length ps) c.deref-6.ensures.value ∙ c.requires.placed in
    subst (AreApart (length c.deref-6.result.now) (length p.code)) (sym c.deref-5.ensures.value)
    (subst (λ (n : ℕ). AreApart n (length p.code) c.in_ok-program.offsets.items) (sym many) (offsets_apart ops p.code c.in_ok-program.offsets.items made))

pub returns-clause-located : goal.returns-clause-located
returns-clause-located c =
    let lengths : List ℕ = c.args.lines.now.lengths.items in
    let ops : List Op = c.args.made.0.ops.items in
    let places : List Site = c.args.made.0.places.items in
    let p = c.in_ok-program.program in
    let q = c.in_ok-program-2.program in
    let offsets : List ℕ = c.in_ok-program.offsets.items in
    let made : IsAssembly ops p.code offsets = subst (λ (xs : List Op). IsAssembly xs p.code offsets) c.deref-3.ensures.value c.in_ok-program.ensures.offsets in
    let code : q.code ≡ p.code = ap (λ (r : Program). r.code) c.in_ok-program-2.ensures.rest in
    let placed : ArePlacedAt lengths places (offsets_from 0 ops) q.positions =
    subst (λ (xs : List ℕ). ArePlacedAt lengths places xs q.positions) made.placed
    (subst (λ (xs : List ℕ). ArePlacedAt lengths places xs q.positions) c.deref-5.ensures.value
    (subst (λ (ps : List Site). ArePlacedAt lengths ps c.deref-5.result.now q.positions) c.deref-6.ensures.value c.in_ok-program-2.ensures.located)) in
    if_located lengths places ops c.verified.result (λ b. b.program) q.positions
    (IfOk-weaker c.verified.result (λ b. b.program.code ≡ q.code) (λ b. (xs : List ℕ) × IsAssembly ops b.program.code xs)
    (λ b e. (offsets, subst (λ (bytes : List ℕ). IsAssembly ops bytes offsets) (sym (e ∙ code)) made)) c.verified.ensures.code)
    c.verified.ensures.positions c.requires.placed placed
