use Rattle.std.proofs.Common.{ℕ}
use Rattle.std.specs.List.{Contains}
use Rattle.std.proofs.lemmas.Map.Views.{All-values-PutsEntry}
use Rattle.grain_base.specs.Content.{same}
use Rattle.grain_base.specs.View.{content}
use Rattle.grain_base.specs.declared.value.Dynamic.{Dynamic}
use Rattle.grain_builder.specs.Assembled.{targets_of}
use Rattle.rhai_compile.proofs.parts.cases.Goals as goal

pub loop-place-preserved : goal.loop-place-preserved
loop-place-preserved c =
    All-values-PutsEntry (λ (v : Dynamic) (w : Dynamic). same (content v) (content w)) (λ (v : ℕ × ℕ). Contains (targets_of c.args.targets.now) v.0) c.loop-place.cases c.insert.new.self c.in_ok-subject.subject _ c.in_ok-insert.field-0 c.in_ok-insert.ensures.entries c.loop-place.invariant c.target_at.ensures
