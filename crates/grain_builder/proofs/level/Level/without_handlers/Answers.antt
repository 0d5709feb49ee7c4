use Rattle.std.proofs.Common.{◌≡◌, ◌-◌, List, drop, length, map, take, sym, ap, subst, ◌∙◌, arith}
use Rattle.std.proofs.lemmas.List.{drop-map, length-drop, take_all}
use Rattle.grain_rules.specs.Counts.{last_base}
use Rattle.grain_builder.specs.declared.level.Base.{Base}
use Rattle.grain_builder.specs.Levels.{level_base, level_of}
use Rattle.grain_builder.specs.Sound.{IsBased}
use Rattle.grain_builder.specs.Unfinished.{level_without_handlers}
use Rattle.grain_builder.proofs.Bases.{based_without}
use Rattle.grain_builder.proofs.level.Level.without_handlers.Goals as goal
use Rattle.grain_builder.proofs.level.Level.without_handlers.Goals.{In_ok-bases}

kept_bases : (c : In_ok-bases) → map level_base c.in_ok-bases.bases.items ≡ drop c.args.count (map level_base c.self.inside.bases.items)
kept_bases c =
    let xs : List Base = c.deref.result.now in
    let all : take (length xs - c.args.count) (drop c.args.count xs) ≡ drop c.args.count xs = take_all _ _ (omega (arith, length-drop c.args.count xs)) in
    ap (map level_base) (c.in_ok-bases.ensures.items ∙ (all ∙ ap (drop c.args.count) c.deref.ensures.value)) ∙ sym (drop-map level_base c.args.count c.self.inside.bases.items)

kept_last : (c : In_ok-bases) → level_base c.last_of-last.result ≡ last_base (drop c.args.count (map level_base c.self.inside.bases.items))
kept_last c =
    c.last_of-last.ensures ∙ ap (λ (bs : List Base). last_base (map level_base bs)) (sym c.in_ok-bases.ensures.items) ∙ ap last_base (kept_bases c)

kept_level : (c : In_ok-bases) → level_of (record { floor = c.last_of-last.result.operands; least = c.last_of-last.result.iterators; iterators = c.self.inside.iterators; bases = c.in_ok-bases.bases; home = c.self.inside.home }) ≡ level_without_handlers c.args.count (level_of c.self.inside)
kept_level c = λ i. record {
  floor = (kept_last c i).operands;
  least = (kept_last c i).iterators;
  iterators = c.self.inside.iterators;
  bases = kept_bases c i;
  home = c.self.inside.home;
}

pub invariant_of-result : goal.invariant_of-result
invariant_of-result c = subst IsBased (sym (kept_level c)) (based_without c.args.count (level_of c.self.inside) c.self.invariant)

pub returns : goal.returns
returns c = kept_level c ∙ ap (level_without_handlers c.args.count) c.self.view_is
