-- The drop of a type, as a call with that type as its argument requires it. Assumes `Logic`.
use denote.{Param.layout, RattleType.RattleType, Signature.Signature, Triple.End.lasts_of, Triple.Spec.Meets, Triple.Spec.Spec}
use prog.Model.{Model}
use base.Logic.{SProp}
use denote.Param.Glue as glue
use Rattle.grain_c.proofs.Words.{[], ◌∷◌, argument, flft, ftrue, sep, emp, via, mono_l, id⊢, ◌⊑◌, fact, Running, Dict, method, no_args, Val, Ura, Logic, sem, ‵, raw, ◌⊛◌, some, later, ◌$◌, ◌∵◌, !, qed}
use Rattle.grain_c.proofs.Words.{done, move, drop, split, join, fjoin, pick, show, frame, updating, now, use1, await, unit, no, owns, plain, nothing, triple_of, Back, run_framed}

-- a function that takes a value and returns nothing, as the drop of a type that has no lifetime
abbrev taking : RattleType → Signature
taking T = record { lifetimes = 0; outlives = []; params = plain (λ _. T) ∷ []; result = plain (λ _. unit) }

module _ {M : Type 1} {𝓤 : Ura M} (𝓛 : Logic 𝓤) (T : RattleType) where
  -- it requires nothing
  abbrev spec : (T.Denot → Unit {0} → SProp 𝓤) → Spec 𝓤 (taking T)
  spec says κs a = record { ghost = Unit {0}; requires = λ _. emp 𝓤; ensures = λ _ r. says a.0 r }

  -- such a drop meets what the call requires
  pub drop_glue : (𝓜 : Model 𝓤 𝓛.H) (𝓡 : Running 𝓤 𝓛.H 𝓜) (drops : Dict) (says : T.Denot → Unit {0} → SProp 𝓤)
      → Meets 𝓛 (taking T) (𝓡.run (𝓡.env (method drops 0 no_args))) (spec says) → glue.Met 𝓛 𝓜 𝓡 𝓡.env (argument T) drops
  drop_glue 𝓜 𝓡 drops says met = λ y. let d = triple_of 𝓛 (taking T) (spec says) in let Kept = argument T in let g = triple_of 𝓛 (glue.signature Kept) (glue.spent 𝓛 Kept) in
      let x : d.Ghost = ((tt, tt, tt, (y.0.3.0, tt), (y.0.4.0, tt)), tt) in let token = 𝓛.A.lft y.0.0.0 y.0.1.0 in let k = 𝓡.env (method drops 0 no_args) in
      via 𝓤 (sep 𝓤 (d.pre x) token) (qed 𝓛 (((‵ (flft y.0.0.0 y.0.1.0) ⊛ ‵ ftrue) ⊛ ‵ (owns (Kept ∷ []) y.0.3 y.0.4)) ∷ (raw (fact 𝓤 (y.0.0.0 ⊑ Kept.lives)) ⊛ raw (emp 𝓤)) ∷ []) ∵
      split ! $ split ! $ move ! (3 ∷ []) $ drop ! $ nothing ! $ move ! (2 ∷ 3 ∷ []) $ join ! $ move ! (0 ∷ 1 ∷ []) $ join ! $ join ! $ done !)
      (via 𝓤 (sep 𝓤 (𝓡.run k (d.args x) (d.post x)) token) (mono_l 𝓤 token (met x)) (run_framed 𝓤 𝓛.H 𝓜 𝓡 k (d.args x) (d.post x) (g.post y) token (λ v.
      qed 𝓛 (raw (d.post x v) ∷ ‵ (flft y.0.0.0 y.0.1.0) ∷ []) ∵
      use1 𝓛 (later (some (λ (r : Unit {0}). (‵ ftrue ⊛ ‵ (unit.own_val r (v ∷ []))) ⊛ raw (says y.0.3.0 r)))) (id⊢ 𝓤 _) $
      updating ! $ await ! tt $ pick ! (λ r. split ! $ split ! $ drop ! $ move ! (1 ∷ []) $ drop ! $ now ! $ show ! (λ u. sep 𝓤 (Back 𝓛 (glue.signature Kept) y.0 v u) ((glue.spent 𝓛 Kept y.0.0 y.0.3).ensures y.1 u)) r $
      nothing ! $ move ! (2 ∷ 0 ∷ []) $ join ! $ join ! $ frame ! $
      show ! (λ ws. sep 𝓤 (sem 𝓛 (lasts_of y.0.0 (glue.signature Kept).params (no, tt) y.0.3 ws)) (emp 𝓤)) (tt, tt) $ nothing ! $ nothing ! $ fjoin ! $ nothing ! $ move ! (1 ∷ 0 ∷ []) $ join ! $ done !))))
