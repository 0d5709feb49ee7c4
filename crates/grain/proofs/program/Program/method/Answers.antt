use Rattle.std.proofs.Common.{◌≡◌, ℕ, List, true, false, Some, refl, sym, ap, ◌∙◌}
use Rattle.std.specs.List.{find}
use Rattle.std.specs.Option.{option_copied}
use Rattle.grain_code.specs.declared.function.Function.{Function}
use Rattle.grain.specs.Lookups.{is_typed, is_untyped}
use Rattle.grain.specs.Program.{Program}
use Rattle.grain.proofs.FirstMatches.{first_is, kept_fails, kept_first, kept_stays, none_more}
use Rattle.grain.proofs.program.Program.method.Goals.{then-is_none+then-is_untyped, else-is_none, else-is_none-via-then-is_none+else-is_untyped, else-is_none-via-else-is_none}
use Rattle.grain.proofs.program.Program.method.Goals as goal

-- the same names and the same text are sought
alike : {ns ns' : List (List ℕ)} {text text' : List ℕ} (name argc : ℕ) (f : Function) → ns ≡ ns' → text ≡ text' → is_typed ns' name argc text' f ≡ is_typed ns name argc text f
alike {ns} {ns'} {text} {text'} name argc f p q =
    ap (λ (m : List (List ℕ)). is_typed m name argc text' f) (sym p) ∙ ap (λ (t : List ℕ). is_typed ns name argc t f) (sym q)

pub loop-function-init : goal.loop-function-init
loop-function-init c = record {
  names = c.new-receiver.ensures.names ∙ ap (λ (p : Program). p.names) c.self.view_is;
  text = c.new-receiver.ensures.text;
  typed = refl;
  untyped = refl;
}

pub returns-then-is_typed : goal.returns-then-is_typed
returns-then-is_typed c =
    let functions = c.deref-function-items.ensures.value ∙ ap (λ (p : Program). p.functions) c.self.view_is in
    let inv = c.loop-function.invariant in
    let p = is_typed c.args.self.now.names c.args.name c.args.argc c.args.typed.now in
    let test : p c.function-item.result ≡ true = alike c.args.name c.args.argc c.function-item.result inv.names inv.text ∙ sym c.is_typed.ensures.typed ∙ c.if-is_typed.true in
    let e : find p c.args.self.now.functions ≡ Some c.function-item.result =
    ap (find p) (sym functions) ∙ first_is p c.deref-function-items.result.now c.loop-function.function-index c.function-item.result c.loop-function-test.true c.function-item.is c.loop-function.invariant.typed test in
    rw e refl

pub loop-function-preserved : goal.loop-function-preserved
loop-function-preserved c =
    let inv = c.loop-function.invariant in
    let f = c.function-item.result in
    let p = is_typed c.args.self.now.names c.args.name c.args.argc c.args.typed.now in
    let q = is_untyped c.args.name c.args.argc in
    let fs = c.deref-function-items.result.now in
    let i = c.loop-function.function-index in
    let test : p f ≡ false = alike c.args.name c.args.argc f inv.names inv.text ∙ sym c.is_typed.ensures.typed ∙ c.if-is_typed.false in
    record {
      names = c.is_typed.ensures.names ∙ inv.names;
      text = c.is_typed.ensures.text ∙ inv.text;
      typed = none_more p fs i f c.loop-function-test.true c.function-item.is c.loop-function.invariant.typed test;
      untyped = elim c.if-is_none.branch [
        | then-is_none+then-is_untyped w ↦ ap option_copied w.untyped-is
            ∙ kept_first (λ r. r.now) q fs i f c.loop-function.untyped c.loop-function-test.true c.function-item.is c.loop-function.invariant.untyped w.if-is_none.ensures (sym w.is_untyped.ensures ∙ w.if-is_untyped.true)
        | else-is_none w ↦ elim w.else-is_none.branch [
          | else-is_none-via-then-is_none+else-is_untyped v ↦ ap option_copied w.untyped-is
              ∙ kept_fails q fs i f (option_copied c.loop-function.untyped) c.loop-function-test.true c.function-item.is c.loop-function.invariant.untyped (sym v.is_untyped.ensures ∙ v.if-is_untyped.false)
          | else-is_none-via-else-is_none v ↦ ap option_copied w.untyped-is
              ∙ kept_stays (λ r. r.now) q fs i f c.loop-function.untyped c.loop-function-test.true c.function-item.is c.loop-function.invariant.untyped v.if-is_none.ensures
        ]
      ];
    }
