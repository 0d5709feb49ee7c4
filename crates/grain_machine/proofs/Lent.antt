-- What a frame lends to the host.
use Rattle.std.proofs.Common.{◌≡◌, ℕ, ◌+◌, ◌-◌, ◌<◌, ◌≤◌, List, ◌++◌, Result, Ok, Err, OnErr, Vec, Global, length, slice_set, take, vec_len, ap, ◌∙◌, subst, arith}
use Rattle.std.specs.Vec.{with_items}
use Rattle.std.proofs.lemmas.List.{length-take-le, with_items_is}
use borrow.Rule.Slice.PartMut.{put_mid}
use Rattle.grain_rules.specs.Machine.{Handler}
use Rattle.grain_machine.specs.State.{Advances, FrameState, Replaces, frame_with_operands}
use Rattle.grain_machine.specs.Values.{below}
use Rattle.grain_machine.proofs.Keeping.{below-replaced, length-replaced, put_mid-last, set-last, take-replaced}
use Rattle.grain_machine.proofs.Passing.{filled}

-- what holds where there is an error
pub on_err : {T E P : Type 0} (r : Result T E) → P → OnErr r P
on_err (Ok x) p = tt
on_err (Err e) p = p

module _ {V I : Type 0} (address room : ℕ) (v : Vec V Global) (its : List I) (hs : List Handler) where
  -- the frame as it is seen
  abbrev seen : List V → FrameState V I
  seen xs = filled address xs its hs room

  -- what the vector has where its topmost items were written
  written : (n k : ℕ) (xs ys : List V) → xs ≡ v.items → n ≡ vec_len v → k ≤ n → length ys ≡ k
      → (with_items v (put_mid (n - k) (length xs - (n - k)) xs ys)).items ≡ below k v.items ++ ys
  written n k xs ys same long within as_many =
      let all : vec_len v ≡ length v.items = v.ok.0 in
      let here : put_mid (n - k) (length xs - (n - k)) xs ys ≡ below k v.items ++ ys =
      ap (λ (zs : List V). put_mid (n - k) (length zs - (n - k)) zs ys) same ∙ put_mid-last n k v.items ys (long ∙ all) within in
      let size : length (below k v.items ++ ys) ≡ v.len = (let e : length (below k v.items ++ ys) ≡ length v.items - k + length ys = length-replaced k v.items ys in omega arith) in
      ap (λ (zs : List V). (with_items v zs).items) here ∙ with_items_is v (below k v.items ++ ys) size

  pub lent : (s : FrameState V I) (n k : ℕ) (xs ys : List V) → seen v.items ≡ s → xs ≡ v.items → n ≡ vec_len v → k ≤ n → length ys ≡ k
      → Replaces k k s (seen (with_items v (put_mid (n - k) (length xs - (n - k)) xs ys)).items)
  lent s n k xs ys is same long within as_many =
      let after : FrameState V I = seen (with_items v (put_mid (n - k) (length xs - (n - k)) xs ys)).items in
      subst (λ (x : FrameState V I). Replaces k k x after) is (ys, as_many, ap seen (written n k xs ys same long within as_many))

  -- and where some of them were dropped
  pub dropped : (s : FrameState V I) (n needed taken : ℕ) (xs ys : List V) (w : Vec V Global) → seen v.items ≡ s → xs ≡ v.items → n ≡ vec_len v → needed ≤ n → length ys ≡ needed
      → taken ≤ needed → w.items ≡ take (n - taken) (with_items v (put_mid (n - needed) (length xs - (n - needed)) xs ys)).items
      → Replaces needed (needed - taken) s (seen w.items)
  dropped s n needed taken xs ys w is same long there as_many within e =
      let all : vec_len v ≡ length v.items = v.ok.0 in
      let left : List V = take (needed - taken) ys in
      let items : w.items ≡ below needed v.items ++ left =
      e ∙ ap (take (n - taken)) (written n needed xs ys same long there as_many) ∙ take-replaced n needed taken v.items ys (long ∙ all) there within in
      subst (λ (x : FrameState V I). Replaces needed (needed - taken) x (seen w.items)) is
      (left, length-take-le (needed - taken) ys (omega arith), ap seen items)

-- where they are replaced in the end
pub replaced_by : {V I : Type 0} (k : ℕ) (s t u : FrameState V I) (others : List V) → k ≤ length s.machine.operands → Replaces k k s t
    → u ≡ frame_with_operands (below k t.machine.operands ++ others) t → u ≡ frame_with_operands (below k s.machine.operands ++ others) s
replaced_by {V} {I} k s t u others there (ys, long, e) is =
    is ∙ ap (λ (x : FrameState V I). frame_with_operands (below k x.machine.operands ++ others) x) e
    ∙ ap (λ (zs : List V). frame_with_operands (zs ++ others) s) (below-replaced k s.machine.operands ys long there)

-- the innermost iterator goes on
pub advances : {V I : Type 0} (address : ℕ) (xs : List V) (its : List I) (hs : List Handler) (room n : ℕ) (s : FrameState V I) (on : I) → filled address xs its hs room ≡ s
    → n ≡ length its → 0 < n → Advances s (filled address xs (slice_set its (n - 1) on) hs room)
advances {V} {I} address xs its hs room n s on is long some =
    let after : FrameState V I = filled address xs (slice_set its (n - 1) on) hs room in
    subst (λ (x : FrameState V I). Advances x after) is (on, ap (λ (zs : List I). filled address xs zs hs room) (set-last its n on long some))
