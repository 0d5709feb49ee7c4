use Rattle.std.proofs.Common.{◌≡◌, map}
use Rattle.std.specs.List.{All, AllWithin}
use Rattle.grain_base.specs.declared.position.Position.{Position}
use Rattle.grain_pools.specs.Chain.{positions, shape}
use Rattle.rhai_compile.specs.Positions.{IsListedPosition}
use Rattle.rhai_compile.proofs.placing.keep_in_chains.Given as goal

abbrev pub invariant-loop-chain : goal.invariant-loop-chain
invariant-loop-chain l = record {
  kept : AllWithin (λ c. All (IsListedPosition l.lines.lengths.items) (positions c)) l.chains 0 l.chain-index;
  rest : (p : Position) → map (shape p) l.chains ≡ map (shape p) l.initial.chains;
}
