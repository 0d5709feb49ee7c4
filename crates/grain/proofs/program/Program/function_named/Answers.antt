use Rattle.std.proofs.Common.{◌≡◌, ℕ, List, true, false, Some, refl, sym, ap, ◌∙◌}
use Rattle.std.specs.List.{find}
use Rattle.grain_code.specs.declared.function.Function.{Function}
use Rattle.grain.specs.Lookups.{is_named}
use Rattle.grain.specs.Program.{Program}
use Rattle.grain.proofs.FirstMatches.{first_is, none_more}
use Rattle.grain.proofs.program.Program.function_named.Goals as goal

-- the same names and the same text are sought
alike : {ns ns' : List (List ℕ)} {text text' : List ℕ} (argc : ℕ) (f : Function) → ns ≡ ns' → text ≡ text' → is_named ns' text' argc f ≡ is_named ns text argc f
alike {ns} {ns'} {text} {text'} argc f p q =
    ap (λ (m : List (List ℕ)). is_named m text' argc f) (sym p) ∙ ap (λ (t : List ℕ). is_named ns t argc f) (sym q)

pub loop-function-init : goal.loop-function-init
loop-function-init c = record {
  names = c.new-sought.ensures.names ∙ ap (λ (p : Program). p.names) c.self.view_is;
  text = c.new-sought.ensures.text;
  none = refl;
}

pub loop-function-preserved : goal.loop-function-preserved
loop-function-preserved c =
    let inv = c.loop-function.invariant in
    let f = c.function-item.result in
    let p = is_named c.args.self.now.names c.args.name.now c.args.argc in
    let test : p f ≡ false = alike c.args.argc f inv.names inv.text ∙ sym c.is_named.ensures.named ∙ c.if-is_named.false in
    record {
      names = c.is_named.ensures.names ∙ inv.names;
      text = c.is_named.ensures.text ∙ inv.text;
      none = none_more p c.deref-function-items.result.now c.loop-function.function-index f c.loop-function-test.true c.function-item.is inv.none test;
    }

pub returns-then-is_named : goal.returns-then-is_named
returns-then-is_named c =
    let inv = c.loop-function.invariant in
    let f = c.function-item.result in
    let functions = c.deref-function-items.ensures.value ∙ ap (λ (p : Program). p.functions) c.self.view_is in
    let p = is_named c.args.self.now.names c.args.name.now c.args.argc in
    let test : p f ≡ true = alike c.args.argc f inv.names inv.text ∙ sym c.is_named.ensures.named ∙ c.if-is_named.true in
    let e : find p c.args.self.now.functions ≡ Some f =
    ap (find p) (sym functions) ∙ first_is p c.deref-function-items.result.now c.loop-function.function-index f c.loop-function-test.true c.function-item.is inv.none test in
    sym e
