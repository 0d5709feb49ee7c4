use Rattle.std.proofs.Common.{◌≡◌, ◌∙◌, ◌⊎◌, inl, inr, List, [], Option, None, length, map, min, sym, ap, subst, arith}
use Rattle.std.proofs.lemmas.Result.{err_from_is_err_and}
use Rattle.std.proofs.lemmas.List.{with_items_is}
use Rattle.grain_base.specs.Place.{place_of}
use Rattle.grain_base.specs.declared.pos.Site.{Site}
use Rattle.grain_pools.specs.Chain.{shape}
use Rattle.grain_bytecode.specs.ChainStream.{Stream, StreamFlaw, all_positions}
use Rattle.grain_bytecode.specs.Positions.{places}
use Rattle.grain_pools.specs.declared.chain.Chain.{Chain}
use Rattle.grain_bytecode.specs.declared.positions.TableError.TheVariants as table_error
use Rattle.grain_bytecode.proofs.Streams.{one_stream}
use Rattle.grain.specs.Program.{Program}
use Rattle.grain.specs.Sidecars.{SidecarFlaw, ReadsPlaces}
use Rattle.grain.specs.Slots.{drawn}
use Rattle.grain.proofs.AttachedPositions.{equal_counts, one_count, only_memory, places_listed, reads_of}
use Rattle.grain.proofs.SlotPositions.{drawn_all}
use Rattle.grain.proofs.program.Program.attach_positions.Goals as goal

pub returns-in_err-positions-clause-accepts : goal.returns-in_err-positions-clause-accepts
returns-in_err-positions-clause-accepts c found slots h =
    let p = err_from_is_err_and c.from_residual.result c.from_residual.ensures.1 in
    let e = c.in_err-positions.ensures.err in
    let code = c.deref-2.ensures.value ∙ ap (λ (q : Program). q.code) c.self.view_is in
    rw (p.1, p.2) (only_memory c.args.sidecar.now.positions.items c.args.self.now.code found c.in_err-positions.field-0.0 h.reads.read (rw (← c.deref.ensures.value, ← code) e))

pub returns-in_err-sites-clause-flaws : goal.returns-in_err-sites-clause-flaws
returns-in_err-sites-clause-flaws c =
    let p = err_from_is_err_and c.from_residual-in_err-sites.result c.from_residual-in_err-sites.ensures.1 in
    let e = c.in_err-sites.field-0.0 in
    let old = c.args.self.now in
    let s = c.args.sidecar.now in
    let reads = reads_of old s (places c.in_ok-positions.positions) c.deref.result.now c.deref-2.result.now (c.if-sidecar-self.false ∙ ap (λ (q : Program). q.debug_id) c.self.view_is)
    c.deref.ensures.value (c.deref-2.ensures.value ∙ ap (λ (q : Program). q.code) c.self.view_is) c.in_ok-positions.ensures.ok in
    rw (p.1, p.2) (elim c.in_err-sites.ensures.err as (λ _. (e ≡ table_error.OutOfMemory) ⊎ SidecarFlaw old s e) [
      | inl memory ↦ inl memory
      | inr flaw ↦ inr (subst (SidecarFlaw old s) (sym flaw.1) (places c.in_ok-positions.positions, reads, subst (λ bytes. StreamFlaw bytes flaw.0) c.deref-3.ensures.value flaw.2))
    ])

pub returns-then-len-slots-clause-accepts : goal.returns-then-len-slots-clause-accepts
returns-then-len-slots-clause-accepts c found slots h =
    let old = c.args.self.now in
    let s = c.args.sidecar.now in
    let sites = c.in_ok-sites.sites in
    let chains = c.deref-4.ensures.value ∙ ap (λ (q : Program). q.chains) c.self.view_is in
    let stream : Stream s.chains.items sites.items = subst (λ bytes. Stream bytes sites.items) c.deref-3.ensures.value c.in_ok-sites.ensures.ok in
    let same = one_stream s.chains.items slots sites.items h.stream stream in
    let n : length sites.items ≡ length (all_positions c.deref-4.result.now) = ap (λ (l : List (Option Site)). length l) (sym same) ∙ h.counted ∙ ap (λ (cs : List Chain). length (all_positions cs)) (sym chains) in
    absurd (c.if-len-slots.true (c.len.ensures ∙ equal_counts sites (length (all_positions c.deref-4.result.now)) n ∙ sym c.count_slots-slots.ensures))

pub returns-then-len-slots-clause-flaws : goal.returns-then-len-slots-clause-flaws
returns-then-len-slots-clause-flaws c =
    let old = c.args.self.now in
    let s = c.args.sidecar.now in
    let sites = c.in_ok-sites.sites in
    let chains = c.deref-4.ensures.value ∙ ap (λ (q : Program). q.chains) c.self.view_is in
    let reads = reads_of old s (places c.in_ok-positions.positions) c.deref.result.now c.deref-2.result.now (c.if-sidecar-self.false ∙ ap (λ (q : Program). q.debug_id) c.self.view_is)
    c.deref.ensures.value (c.deref-2.ensures.value ∙ ap (λ (q : Program). q.code) c.self.view_is) c.in_ok-positions.ensures.ok in
    let counts : length (all_positions c.deref-4.result.now) ≡ length (all_positions old.chains) = ap (λ (cs : List Chain). length (all_positions cs)) chains in
    inr (
      places c.in_ok-positions.positions,
      reads,
      record {
        list = sites.items;
        stream = subst (λ bytes. Stream bytes sites.items) c.deref-3.ensures.value c.in_ok-sites.ensures.ok;
        sites_are = c.len-sites.ensures ∙ sites.ok.0;
        slots_are = c.count_slots-slots.ensures ∙ ap (λ n. min n 18446744073709551615) counts;
        differ = λ e. c.if-len-slots.true (c.len.ensures ∙ equal_counts sites (length (all_positions c.deref-4.result.now)) (e ∙ sym counts) ∙ sym c.count_slots-slots.ensures);
      },
    )

pub returns-clause-attached : goal.returns-clause-attached
returns-clause-attached c =
    let old = c.args.self.now in
    let s = c.args.sidecar.now in
    let sites = c.in_ok-sites.sites in
    let reads = reads_of old s (places c.in_ok-positions.positions) c.deref.result.now c.deref-2.result.now (c.if-sidecar-self.false ∙ ap (λ (q : Program). q.debug_id) c.self.view_is)
    c.deref.ensures.value (c.deref-2.ensures.value ∙ ap (λ (q : Program). q.code) c.self.view_is) c.in_ok-positions.ensures.ok in
    let chains = c.deref-4.ensures.value ∙ ap (λ (q : Program). q.chains) c.self.view_is in
    let written = with_items_is c.self.inside.parts.chains c.draw_chains.new.chains (let h = c.draw_chains.auto.chains in let k = c.deref_mut.ensures.len in omega arith) in
    let before = c.deref_mut.ensures.value ∙ ap (λ (q : Program). q.chains) c.self.view_is in
    let counted : length sites.items ≡ length (all_positions old.chains) =
    one_count sites (length (all_positions c.deref-4.result.now)) (sym c.len.ensures ∙ c.if-len-slots.false ∙ c.count_slots-slots.ensures) ∙ ap (λ (cs : List Chain). length (all_positions cs)) chains in
    let asked : length (all_positions c.deref_mut.result.now) ≡ length sites.items = ap (λ (cs : List Chain). length (all_positions cs)) before ∙ sym counted in
    record {
      slots = sites.items;
      belongs = record {
        reads = subst (ReadsPlaces old s) (places_listed c.in_ok-positions.positions) reads;
        stream = subst (λ bytes. Stream bytes sites.items) c.deref-3.ensures.value c.in_ok-sites.ensures.ok;
        counted = counted;
      };
      chains =
          ap (λ (cs : List Chain). map place_of (all_positions cs)) written
          ∙ c.draw_chains.ensures.drawn.places
          ∙ (λ i. drawn (asked i) (c.deref-5.ensures.value i))
          ∙ drawn_all sites.items;
      rest = record {
        chains = λ p. ap (map (shape p)) written ∙ c.draw_chains.ensures.rest p ∙ ap (map (shape p)) before;
        rest = ap (λ (q : Program). record q { positions = None; chains = [] }) c.self.view_is;
      };
    }
