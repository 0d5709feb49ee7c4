-- What the fields of an assembler say.
use Rattle.std.specs.Prelude.{ℕ, List, [], ◌∷◌, ◌++◌, map}
use Rattle.grain_code.specs.declared.op.Op.{Op}
use Rattle.grain_base.specs.declared.pos.Site.{Site}
use Rattle.grain_builder.specs.Sound.{Workings}
use Rattle.grain_builder.specs.Unfinished.{Spot, Unfinished, spot}
use Rattle.grain_builder.specs.declared.assembler.Assembler.TheInside.{Inside}
use Rattle.grain_builder.specs.declared.assembler.Label.{Label}
use Rattle.grain_builder.specs.declared.assembler.PlacedOp.{PlacedOp}
use Rattle.grain_builder.specs.declared.assembler.TableTargets.{TableTargets}

abbrev pub spot_at : Label → Spot
spot_at l = spot l.operands l.level

abbrev pub op_in : PlacedOp → Op
op_in p = p.op

abbrev pub place_in : PlacedOp → Site
place_in p = p.place

abbrev pub label_target : Label → ℕ
label_target l = l.at

-- all targets of a switch
abbrev pub targets_of : TableTargets → List ℕ
targets_of t = t.cases.items ++ t.default ∷ []

abbrev pub workings_of : Inside → Workings
workings_of a = record {
  ops = map op_in a.ops.items;
  chains = a.chains.items;
  tables = map targets_of a.tables.items;
  labels = map spot_at a.labels.items;
  outers = map (λ (l : Label). l.outer) a.labels.items;
  targets = map label_target a.labels.items;
  cuts = a.cuts.items;
  operands = a.operands;
  level = a.level;
  pending = a.pending;
  fixed = a.is_fixed;
}

abbrev pub written : Inside → Unfinished
written a = record {
  operands = a.operands;
  level = a.level;
  labels = map spot_at a.labels.items;
  outers = map (λ (l : Label). l.outer) a.labels.items;
  pending = a.pending;
  fixed = a.is_fixed;
  places = map place_in a.ops.items;
}
