-- What is assembled stays sound: iterators, handlers and switches.
use Rattle.std.proofs.Common.{◌≡◌, ℕ, ◌+◌, ◌-◌, ◌≤◌, inl, true, false, List, [], ◌∷◌, ◌++◌, length, Option, Some, refl, sym, ap, subst, ◌∙◌, arith}
use Rattle.std.specs.Prelude.{slice_get}
use Rattle.std.specs.List.{Contains}
use Rattle.grain_code.specs.declared.op.Op.TheVariants as ops
use Rattle.grain_rules.specs.Counts.{without_last}
use Rattle.grain_rules.specs.Flow as flows
use Rattle.grain_rules.proofs.Splits.{in_nil}
use Rattle.grain_builder.specs.Unfinished.{Level, spot, level_with_handler, level_with_iterator, level_without_iterator}
use Rattle.grain_builder.specs.Sound.{IsBased, IsWellMade, Workings}
use Rattle.grain_pools.specs.Chain.{consumed}
use Rattle.grain_pools.specs.declared.chain.Chain.{Chain}
use Rattle.grain_builder.proofs.Appended.{get_end}
use Rattle.grain_builder.proofs.Bases.{nested_within}
use Rattle.grain_builder.proofs.Marks.{one_chain, one_table}
use Rattle.grain_builder.proofs.Plain.{fits_by, only_one, put_plain}
use Rattle.grain_builder.proofs.Steps.{made_settled, put_falling, put_leaving}

based_iterator : (l : Level) → IsBased l → IsBased (level_with_iterator l)
based_iterator l b = record { operands = b.operands; iterators = nested_within l.least l.iterators l.bases b.there b.iterators; there = omega arith }

add_zero : (n : ℕ) → n + 0 ≡ n
add_zero n = omega arith

minus_zero : (n : ℕ) → n - 0 + 0 ≡ n
minus_zero n = omega arith

module _ (k : Workings) (s : IsWellMade k) where
  abbrev fixed_k : Workings
  fixed_k = record k { fixed = true }

  pub begin_iterator : k.level.floor + 1 ≤ k.operands → IsWellMade (record k { ops = k.ops ++ ops.IterInit ∷ []; operands = k.operands - 1; level = level_with_iterator k.level; fixed = true })
  begin_iterator room =
      let sound = made_settled k s in
      let few = s.room in
      put_falling fixed_k sound refl ops.IterInit
      (fits_by fixed_k sound ops.IterInit flows.BeginsIterator refl (λ set c. omega arith) (omega arith) (omega arith)
      (λ loud set c. (omega arith, let h = s.base.there in omega arith))
      (λ set all l c h has. absurd (in_nil l has)))
      (k.operands - 1) (level_with_iterator k.level) refl (omega arith) (based_iterator k.level s.base)
      (λ set c. (λ i. record { operands = add_zero (k.operands - 1) i; iterators = k.level.iterators + 1; bases = k.level.bases }))

  pub advance : (exit : ℕ) (counter : Option ℕ) → k.level.floor ≤ k.operands → k.level.least + 1 ≤ k.level.iterators → slice_get k.labels exit ≡ Some (spot k.operands (level_without_iterator k.level)) → k.operands + 1 ≤ 65535 → IsWellMade (record k { ops = k.ops ++ ops.IterNext exit counter ∷ []; operands = k.operands + 1; fixed = true })
  advance exit counter room one there few =
      let sound = made_settled k s in
      put_falling fixed_k sound refl (ops.IterNext exit counter)
      (fits_by fixed_k sound (ops.IterNext exit counter) (flows.AdvancesIterator exit) refl (λ set c. omega arith) (omega arith) (omega arith)
      (λ loud set c. (omega arith, one))
      (λ set all l c h has. subst (λ x. slice_get k.labels x ≡ Some (spot k.operands (level_without_iterator k.level))) (sym (only_one exit l has)) there))
      (k.operands + 1) k.level refl few s.base
      (λ set c. refl)

  pub drop_iterator : k.level.least + 1 ≤ k.level.iterators → IsWellMade (record k { ops = k.ops ++ ops.IterDrop ∷ []; level = level_without_iterator k.level; fixed = true })
  drop_iterator one =
      let sound = made_settled k s in
      put_falling fixed_k sound refl ops.IterDrop
      (fits_by fixed_k sound ops.IterDrop flows.EndsIterator refl (λ set c. omega arith) (omega arith) (omega arith)
      (λ loud set c. absurd (let e : true ≡ false = loud in cc))
      (λ set all l c h has. absurd (in_nil l has)))
      k.operands (level_without_iterator k.level) refl s.room
      (record { operands = s.base.operands; iterators = s.base.iterators; there = omega arith })
      (λ set c. refl)

  pub arm : (l : ℕ) (name : Option ℕ) → k.level.floor ≤ k.operands → slice_get k.labels l ≡ Some (spot k.operands (level_with_handler k.operands k.level)) → IsWellMade (record k { ops = k.ops ++ ops.PushHandler l name ∷ []; level = level_with_handler k.operands k.level; fixed = true })
  arm l name room there =
      let sound = made_settled k s in
      put_falling fixed_k sound refl (ops.PushHandler l name)
      (fits_by fixed_k sound (ops.PushHandler l name) (flows.PushesHandler l) refl (λ set c. omega arith) (omega arith) (omega arith)
      (λ loud set c. (omega arith, let h = s.base.there in omega arith))
      (λ set all m c h has. subst (λ x. slice_get k.labels x ≡ Some (spot k.operands (level_with_handler k.operands k.level))) (sym (only_one l m has)) there))
      k.operands (level_with_handler k.operands k.level) refl s.room
      (record { operands = omega arith; iterators = (omega arith, nested_within k.level.least k.level.iterators k.level.bases s.base.there s.base.iterators); there = omega arith })
      (λ set c. refl)

  pub disarm : (level : Level) → 1 ≤ length k.level.bases → level.bases ≡ without_last k.level.bases → level.iterators ≡ k.level.iterators → level.home ≡ k.level.home → IsBased level → IsWellMade (record k { ops = k.ops ++ ops.PopHandler ∷ []; level = level; fixed = true })
  disarm level one bases iterators home based =
      let sound = made_settled k s in
      put_falling fixed_k sound refl ops.PopHandler
      (fits_by fixed_k sound ops.PopHandler flows.PopsHandler refl (λ set c. omega arith) (omega arith) one
      (λ loud set c. absurd (let e : true ≡ false = loud in cc))
      (λ set all l c h has. absurd (in_nil l has)))
      k.operands level home s.room based
      (λ set c. (λ i. record { operands = k.operands; iterators = sym iterators i; bases = sym bases i }))

  pub switched : (w : ℕ) (t : List ℕ) → slice_get k.tables w ≡ Some t → k.level.floor + 1 ≤ k.operands → ((l : ℕ) → Contains t l → slice_get k.labels l ≡ Some (spot k.operands k.level)) → IsWellMade (record k { ops = k.ops ++ ops.Switch w ∷ []; fixed = false })
  switched w t is room there =
      let sound = made_settled k s in
      put_leaving fixed_k sound refl (ops.Switch w)
      (fits_by fixed_k sound (ops.Switch w) (flows.Switches w) refl (λ set c. omega arith) (omega arith) (omega arith)
      (λ loud set c. (omega arith, let h = s.base.there in omega arith))
      (λ set all l c h has. there l (subst (λ (xs : List ℕ). Contains xs l) (h w t is) has) ∙ ap (λ n. Some (spot n k.level)) (sym (minus_zero k.operands))))
      k.operands k.level refl s.room s.base
      refl

-- the switch is new
pub switched_new : (k : Workings) → IsWellMade k → (w : ℕ) (t : List ℕ) → w ≡ length k.tables → k.level.floor + 1 ≤ k.operands → ((l : ℕ) → Contains t l → slice_get k.labels l ≡ Some (spot k.operands k.level)) → IsWellMade (record k { tables = k.tables ++ t ∷ []; ops = k.ops ++ ops.Switch w ∷ []; fixed = false })
switched_new k s w t is room there = switched (record k { tables = k.tables ++ t ∷ [] }) (one_table k s t) w t (subst (λ n. slice_get (k.tables ++ t ∷ []) n ≡ Some t) (sym is) (get_end k.tables t)) room there

-- the chain is new
pub chained_new : (k : Workings) → IsWellMade k → (h : ℕ) (c : Chain) → h ≡ length k.chains → k.level.floor + consumed c ≤ k.operands → k.operands - consumed c + 1 ≤ 65535 → IsWellMade (record k { chains = k.chains ++ c ∷ []; ops = k.ops ++ ops.Chain h ∷ []; operands = k.operands - consumed c + 1; fixed = true })
chained_new k s h c is room few =
    let here : slice_get (k.chains ++ c ∷ []) h ≡ Some c = subst (λ n. slice_get (k.chains ++ c ∷ []) n ≡ Some c) (sym is) (get_end k.chains c) in
    put_plain (record k { chains = k.chains ++ c ∷ [] }) (one_chain k s c) (ops.Chain h) (consumed c) 1
    (record { needs_some = λ set has. let e = has h c here in omega arith; takes_some = λ set has. has h c here; gives_some = λ set has. refl })
    refl (inl room) few
