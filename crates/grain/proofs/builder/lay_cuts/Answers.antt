use Rattle.std.proofs.Common.{◌≡◌, ◌-◌, ◌<◌, ◌⊎◌, ◌∙◌, ℕ, List, inr, refl, ap, arith, drop, length, map, slice_index_or, subst, sym, take}
use Rattle.std.specs.List.{All}
use Rattle.std.proofs.Math.ListN.{get_or-map}
use Rattle.std.proofs.lemmas.List.{length-map}
use Rattle.std.proofs.lemmas.Result.{err_from_is_err_and}
use Rattle.grain_pools.specs.Dispatch.{AreWithin, IsFirstPast, arms}
use Rattle.grain_bytecode.specs.declared.assemble_error.AssembleError.{AssembleError}
use Rattle.grain_pools.specs.declared.switch.Switch.{Switch}
use Rattle.grain.specs.Build.{BuildFlaw, draft, of_assemble, span_of}
use Rattle.grain_rules.specs.ByIndex.{IsCut}
use Rattle.grain.specs.declared.builder.BuildError.TheVariants as errors
use Rattle.grain.specs.declared.builder.Cut.{Cut}
use Rattle.grain.proofs.AssembledParts.{lead_within, none_past, others_lie}
use Rattle.grain_rules.proofs.Offsets.{offset_count}
use Rattle.grain.proofs.builder.lay_cuts.Goals as goal

pub returns-in_err-resolve_switch_targets-clause-accepts : goal.returns-in_err-resolve_switch_targets-clause-accepts
returns-in_err-resolve_switch_targets-clause-accepts c can =
    let bad = c.in_err-resolve_switch_targets.ensures.err.1 in
    let count = ap (λ (xs : List ℕ). length xs) c.deref.ensures.value ∙ offset_count c.args.ops.now c.in_ok-code.code.items c.in_ok-code.offsets.items c.in_ok-code.ensures.assembly in
    let past = subst (λ (ss : List Switch). IsFirstPast (length c.deref.result.now) ss bad.0 bad.1) c.deref_mut.ensures.value bad.3 in
    absurd (none_past (length c.args.ops.now) (length c.deref.result.now) c.args.parts.switches.items bad.0 bad.1 count can.switches past)

pub returns-in_err-resolve_switch_targets-clause-flaws : goal.returns-in_err-resolve_switch_targets-clause-flaws
returns-in_err-resolve_switch_targets-clause-flaws c =
    let p = err_from_is_err_and c.from_residual-in_err-resolve_switch_targets.result c.from_residual-in_err-resolve_switch_targets.ensures.1 in
    let bad = c.in_err-resolve_switch_targets.ensures.err.1 in
    let d = draft c.args.caps c.args.ops.now c.args.cuts.now c.args.heads.items c.args.parts in
    let count = ap (λ (xs : List ℕ). length xs) c.deref.ensures.value ∙ offset_count c.args.ops.now c.in_ok-code.code.items c.in_ok-code.offsets.items c.in_ok-code.ensures.assembly in
    let past = subst (λ (ss : List Switch). IsFirstPast (length c.deref.result.now) ss bad.0 bad.1) c.deref_mut.ensures.value bad.3 in
    let first = subst (λ (n : ℕ). IsFirstPast n c.args.parts.switches.items bad.0 bad.1) count past in
    rw (p.1, p.2) (subst (λ (e : AssembleError). (of_assemble e ≡ errors.OutOfMemory) ⊎ BuildFlaw d (of_assemble e)) (sym bad.2) (inr (c.requires.inside, inr (c.in_ok-code.ensures.only, (bad.0, bad.1, refl, first)))))

pub place_functions-requires-clause-inside : goal.place_functions-requires-clause-inside
place_functions-requires-clause-inside c =
    let cuts = c.args.cuts.now in
    let same = ap (λ (xs : List ℕ). length xs) c.deref-2.ensures.value in
    let count = offset_count c.args.ops.now c.in_ok-code.code.items c.in_ok-code.offsets.items c.in_ok-code.ensures.assembly in
    let n : length c.args.ops.now ≡ length c.deref-2.result.now - 1 = omega arith in
    subst (λ (m : ℕ). All (IsCut m) (map span_of (take (length cuts - 1) (drop 1 cuts)))) n (others_lie (IsCut (length c.args.ops.now)) cuts c.requires.inside)

pub place-main-requires-clause-inside : goal.place-main-requires-clause-inside
place-main-requires-clause-inside c =
    let cuts = c.args.cuts.now in
    let same = ap (λ (xs : List ℕ). length xs) c.deref-3.ensures.value in
    let count = offset_count c.args.ops.now c.in_ok-code.code.items c.in_ok-code.offsets.items c.in_ok-code.ensures.assembly in
    let n : length c.args.ops.now ≡ length c.deref-3.result.now - 1 = omega arith in
    let long : 0 < length (map span_of cuts) = omega (arith, length-map cuts span_of) in
    let none : Cut = record { first = 0; end = 0; max_stack = 0 } in
    subst (λ (m : ℕ). IsCut m (span_of (slice_index_or cuts 0 none))) n (subst (IsCut (length c.args.ops.now)) (get_or-map span_of cuts 0 none) (c.requires.inside 0 (span_of none) long))

pub returns-clause-lays : goal.returns-clause-lays
returns-clause-lays c =
    let count = ap (λ (xs : List ℕ). length xs) c.deref.ensures.value ∙ offset_count c.args.ops.now c.in_ok-code.code.items c.in_ok-code.offsets.items c.in_ok-code.ensures.assembly in
    let fits = subst (All (λ (s : Switch). AreWithin (length c.deref.result.now) (arms s))) c.deref_mut.ensures.value c.in_ok-resolve_switch_targets.ensures.fits in
    record {
      cuts = c.requires.inside;
      ops = c.in_ok-code.ensures.only;
      switches = lead_within (length c.args.ops.now) (length c.deref.result.now) c.args.parts.switches.items count fits;
    }
