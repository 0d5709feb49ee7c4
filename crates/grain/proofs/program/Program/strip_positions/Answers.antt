use Rattle.std.proofs.Common.{◌≡◌, ◌∙◌, List, [], None, map, refl, sym, ap, subst, arith}
use Rattle.std.specs.List.{All}
use Rattle.std.proofs.lemmas.List.{with_items_is}
use Rattle.grain_base.specs.Place.{place_of}
use Rattle.grain_pools.specs.Chain.{shape}
use Rattle.grain_bytecode.specs.ChainStream.{all_positions}
use Rattle.grain_pools.specs.declared.chain.Chain.{Chain}
use Rattle.grain.specs.Program.{Program}
use Rattle.grain.proofs.AttachedPositions.{none_placed}
use Rattle.grain.proofs.program.Program.strip_positions.Goals as goal

pub returns-clause-stripped : goal.returns-clause-stripped
returns-clause-stripped c =
    let chains = with_items_is c.self.inside.parts.chains c.draw_chains.new.chains (let h = c.draw_chains.auto.chains in let k = c.deref_mut.ensures.len in omega arith) in
    let before = c.deref_mut.ensures.value ∙ ap (λ (p : Program). p.chains) c.self.view_is in
    record {
      positions = refl;
      chains = subst (λ (cs : List Chain). All (λ p. place_of p ≡ None) (all_positions cs)) (sym chains) (none_placed (all_positions c.draw_chains.new.chains) _ c.draw_chains.ensures.drawn.places);
      rest = record {
        chains = λ p. ap (map (shape p)) chains ∙ c.draw_chains.ensures.rest p ∙ ap (map (shape p)) before;
        rest = ap (λ (p : Program). record p { positions = None; chains = [] }) c.self.view_is;
      };
    }
