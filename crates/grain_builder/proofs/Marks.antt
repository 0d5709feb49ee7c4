-- What is assembled stays sound: labels, chains, switches, chunks, and what surrounds the operations.
use Rattle.std.proofs.Common.{◌≡◌, ◌≢◌, ℕ, ◌+◌, ◌<◌, ◌≤◌, ◌⊎◌, inl, inr, suc, zero, Bool, true, false, cond, List, [], ◌∷◌, ◌++◌, length, set, Some, refl, sym, ap, subst, ◌∙◌, arith}
use Rattle.std.specs.Prelude.{slice_get}
use Rattle.std.proofs.Math.ListN.{length-set}
use Rattle.std.proofs.lemmas.Bool.{cases_lt}
use Rattle.std.proofs.lemmas.List.{length-append}
use Rattle.std.proofs.lemmas.Option.{none-some, slice_get_within}
use Rattle.grain_code.specs.Span.{Span}
use Rattle.grain_code.specs.declared.op.Op.{Op}
use Rattle.grain_pools.specs.declared.chain.Chain.{Chain}
use Rattle.grain_rules.specs.Counts.{nothing}
use Rattle.grain_rules.specs.Effects.{after_fall, after_jump}
use Rattle.grain_builder.specs.Unfinished.{IsSameButFloor, StaysIn, Level, Spot, fresh, spot}
use Rattle.grain_builder.specs.Fitting.{AreFitting, FitsAt, spot_counts, spot_of}
use Rattle.grain_builder.specs.Sound.{IsBased, IsChunk, IsWellMade, Workings, nowhere}
use Rattle.grain_builder.proofs.Appended.{get_cases, get_end, get_left, some_inj}
use Rattle.grain_builder.proofs.Bases.{based_fresh}
use Rattle.grain_builder.proofs.Steps.{chunk_further}

set_cases : (xs : List ℕ) (l y j x : ℕ) → slice_get (set xs l y) j ≡ Some x → ((slice_get xs j ≡ Some x) × (j ≢ l)) ⊎ ((j ≡ l) × (y ≡ x))
set_cases [] l y j x e = absurd (none-some x e)
set_cases (z ∷ xs) zero y zero x e = inr (refl, some_inj e)
set_cases (z ∷ xs) zero y (suc j) x e = inl (e, λ h. omega arith)
set_cases (z ∷ xs) (suc l) y zero x e = inl (e, λ h. omega arith)
set_cases (z ∷ xs) (suc l) y (suc j) x e = elim (set_cases xs l y j x e) [ inl h ↦ inl (h.0, λ same. h.1 (omega arith)) | inr h ↦ inr (ap suc h.0, h.1) ]

-- what fits with these chains, switches and labels fits with more of them
fits_longer : (cs ds : List Chain) (ts us : List (List ℕ)) (ls ms : List Spot) (op : Op) (p : Spot) → StaysIn cs ds → StaysIn ts us → StaysIn ls ms → FitsAt cs ts ls op p → FitsAt ds us ms op p
fits_longer cs ds ts us ls ms op p c t l f = record {
  shallow = f.shallow;
  meets = λ s h. f.meets s (λ i x e. h i x (c i x e));
  stays = λ s h. f.stays s (λ i x e. h i x (c i x e));
  jumps = λ s all j h g k. l j (spot_of p.home (after_jump s op (spot_counts p))) (f.jumps s all j (λ i x e. h i x (c i x e)) (λ i x e. g i x (t i x e)) k);
}

fitting_longer : (cs ds : List Chain) (ts us : List (List ℕ)) (ls ms : List Spot) (ops : List Op) (spots : List Spot) → StaysIn cs ds → StaysIn ts us → StaysIn ls ms → AreFitting cs ts ls ops spots → AreFitting ds us ms ops spots
fitting_longer cs ds ts us ls ms ops spots c t l f = record {
  fits = λ i op p a b. fits_longer cs ds ts us ls ms op p c t l (f.fits i op p a b);
  falls = λ i op p s a b h g. f.falls i op p s a b (λ j x e. h j x (c j x e)) g;
}

keeps_itself : {A : Type 0} (xs : List A) → StaysIn xs xs
keeps_itself xs i x e = e

module _ (k : Workings) (s : IsWellMade k) where
  -- more chains and switches, in which each that was there is where it was
  with_more : (chains : List Chain) (tables : List (List ℕ)) → StaysIn k.chains chains → StaysIn k.tables tables → IsWellMade (record k { chains = chains; tables = tables })
  with_more chains tables c t = record {
    spots = s.spots;
    fitting = fitting_longer k.chains chains k.tables tables k.labels k.labels k.ops s.spots c t (keeps_itself k.labels) s.fitting;
    count = s.count;
    last = s.last;
    lengths = s.lengths;
    landing = s.landing;
    homes = s.homes;
    home = s.home;
    begun = s.begun;
    bound = s.bound;
    cuts = s.cuts;
    ended = s.ended;
    room = s.room;
    base = s.base;
  }

  pub one_chain : (c : Chain) → IsWellMade (record k { chains = k.chains ++ c ∷ [] })
  one_chain c = with_more (k.chains ++ c ∷ []) k.tables (get_left k.chains (c ∷ [])) (keeps_itself k.tables)

  pub one_table : (t : List ℕ) → IsWellMade (record k { tables = k.tables ++ t ∷ [] })
  one_table t = with_more k.chains (k.tables ++ t ∷ []) (keeps_itself k.chains) (get_left k.tables (t ∷ []))

  -- where the run has left, another state may follow
  pub elsewhere : k.fixed ≡ false → (n : ℕ) (level : Level) → level.home ≡ k.level.home → n ≤ 65535 → IsBased level → IsWellMade (record k { operands = n; level = level })
  elsewhere loose n level home room base = record {
    spots = s.spots;
    fitting = s.fitting;
    count = s.count;
    last = λ h. absurd (let g : false ≡ true = sym loose ∙ h in cc);
    lengths = s.lengths;
    landing = s.landing;
    homes = s.homes;
    home = let h = s.home in let q = home in omega arith;
    begun = subst (λ m. slice_get s.spots m ≡ Some (spot_of m nothing)) (sym home) s.begun;
    bound = s.bound;
    cuts = λ j cut e. let c = s.cuts j cut e in (c.0, let q = home in let h = c.1 in omega arith);
    ended = λ h. s.ended (let q = home in omega arith);
    room = room;
    base = base;
  }

  -- what has to stay may change where nothing on the stacks does
  pub other_floor : (level : Level) → IsSameButFloor level k.level → IsBased level → IsWellMade (record k { level = level })
  other_floor level same base = record {
    spots = s.spots;
    fitting = s.fitting;
    count = s.count;
    last = λ h. s.last h ∙ ap (λ (p : Spot). Some p) (λ i. record { operands = k.operands; iterators = sym same.iterators i; bases = sym same.bases i; home = sym same.home i });
    lengths = s.lengths;
    landing = s.landing;
    homes = s.homes;
    home = let h = s.home in let q = same.home in omega arith;
    begun = subst (λ m. slice_get s.spots m ≡ Some (spot_of m nothing)) (sym same.home) s.begun;
    bound = s.bound;
    cuts = λ j cut e. let c = s.cuts j cut e in (c.0, let q = same.home in let h = c.1 in omega arith);
    ended = λ h. s.ended (let q = same.home in omega arith);
    room = s.room;
    base = base;
  }

  -- a label that isn't bound, at which this is found
  pub one_label : (p : Spot) → IsWellMade (record k { labels = k.labels ++ p ∷ []; outers = k.outers ++ k.pending ∷ []; targets = k.targets ++ nowhere ∷ []; pending = length k.targets + 1 })
  one_label p = record {
    spots = s.spots;
    fitting = fitting_longer k.chains k.chains k.tables k.tables k.labels (k.labels ++ p ∷ []) k.ops s.spots (keeps_itself k.chains) (keeps_itself k.tables) (get_left k.labels (p ∷ [])) s.fitting;
    count = s.count;
    last = s.last;
    lengths = let a = s.lengths.0 in let b = s.lengths.1 in let c = length-append k.labels (p ∷ []) in let d = length-append k.targets (nowhere ∷ []) in let e = length-append k.outers (k.pending ∷ []) in (omega arith, omega arith);
    landing = λ l at q a b c. elim (get_cases k.targets nowhere l at a) [
      | inr new ↦ absurd (let e = new.1 in let h = c in omega arith)
      | inl old ↦ elim (get_cases k.labels p l q b) [
        | inl there ↦ s.landing l at q old there c
        | inr far ↦ absurd (let e = far.0 in let h = slice_get_within k.targets l at old in let a = s.lengths.0 in omega arith)
      ]
    ];
    homes = s.homes;
    home = s.home;
    begun = s.begun;
    bound = record {
      behind = λ l at h e. absurd (let g = slice_get_within (k.targets ++ nowhere ∷ []) l at e in let d = length-append k.targets (nowhere ∷ []) in omega arith);
      between = λ l o j at a low below e. elim (get_cases k.targets nowhere j at e) [
        | inr new ↦ absurd (let g = slice_get_within (k.outers ++ k.pending ∷ []) l o a in let d = length-append k.outers (k.pending ∷ []) in let b = s.lengths.1 in let q = new.0 in omega arith)
        | inl there ↦ elim (get_cases k.outers k.pending l o a) [
          | inl old ↦ s.bound.between l o j at old low below there
          | inr fresh ↦ s.bound.behind j at (let q = fresh.1 in omega arith) there
        ]
      ];
    };
    cuts = s.cuts;
    ended = s.ended;
    room = s.room;
    base = s.base;
  }

  -- the last label that is open is bound to the next operation
  pub one_bound : k.fixed ≡ true → (l o : ℕ) → slice_get k.labels l ≡ Some (spot k.operands k.level) → slice_get k.outers l ≡ Some o → k.pending ≡ l + 1 → length k.ops < nowhere → IsWellMade (record k { targets = set k.targets l (length k.ops); pending = o })
  one_bound here l o is outer innermost few = record {
    spots = s.spots;
    fitting = s.fitting;
    count = s.count;
    last = s.last;
    lengths = let a = s.lengths.0 in let b = s.lengths.1 in let c = length-set k.targets l (length k.ops) in (omega arith, omega arith);
    landing = λ j at p a b c. elim (set_cases k.targets l (length k.ops) j at a) [
      | inl old ↦ s.landing j at p old.0 b c
      | inr new ↦
          let e : Some (spot k.operands k.level) ≡ Some p = sym is ∙ subst (λ m. slice_get k.labels m ≡ Some p) new.0 b in
          subst (λ m. slice_get s.spots m ≡ Some p) new.1 (s.last here ∙ e)
    ];
    homes = s.homes;
    home = s.home;
    begun = s.begun;
    bound = record {
      behind = λ j at h e. elim (set_cases k.targets l (length k.ops) j at e) [
        | inr new ↦ let q = new.1 in let f = few in omega arith
        | inl old ↦ elim (cases_lt j l) [
          | inl below ↦ s.bound.between l o j at outer h below old.0
          | inr above ↦ elim (cases_lt l j) [
            | inl after ↦ s.bound.behind j at (let q = innermost in omega arith) old.0
            | inr not ↦ absurd (old.1 (omega arith))
          ]
        ]
      ];
      between = λ m n j at a low below e. elim (set_cases k.targets l (length k.ops) j at e) [
        | inr new ↦ let q = new.1 in let f = few in omega arith
        | inl old ↦ s.bound.between m n j at a low below old.0
      ];
    };
    cuts = s.cuts;
    ended = s.ended;
    room = s.room;
    base = s.base;
  }

-- a chunk ends, and the next begins
pub one_chunk : (k : Workings) → IsWellMade k → k.fixed ≡ false → (cut : Span) → cut ≡ record { entry = k.level.home; end = length k.ops; max_stack = 65535 } → IsWellMade (record k { cuts = k.cuts ++ cut ∷ []; operands = 0; level = fresh (length k.ops); fixed = true })
one_chunk k s loose cut is =
    let many : length s.spots ≡ length k.ops + cond false 1 0 = subst (λ (b : Bool). length s.spots ≡ length k.ops + cond b 1 0) loose s.count in
    let same : length s.spots ≡ length k.ops = omega arith in
    let next : Spot = spot 0 (fresh (length k.ops)) in
    let inner : k.level.home < length k.ops = let h = slice_get_within s.spots k.level.home (spot_of k.level.home nothing) s.begun in omega arith in
    let chunk : IsChunk k.ops (s.spots ++ next ∷ []) (record { entry = k.level.home; end = length k.ops; max_stack = 65535 }) = record {
      entry = get_left s.spots (next ∷ []) k.level.home (spot_of k.level.home nothing) s.begun;
      inside = omega arith;
      most = refl;
      behind = λ i p g e h. elim (get_cases s.spots next i p e) [
        | inl old ↦ let l = slice_get_within s.spots i p old in absurd (omega arith)
        | inr new ↦ let q : next.home ≡ p.home = ap (λ (x : Spot). x.home) new.1 in absurd (omega arith)
      ];
    } in
    record {
      spots = s.spots ++ next ∷ [];
      fitting = record {
        fits = λ i op p a b. elim (get_cases s.spots next i p b) [
          | inl old ↦ s.fitting.fits i op p a old
          | inr new ↦ absurd (let l = slice_get_within k.ops i op a in let h = new.0 in omega arith)
        ];
        falls = λ i op p set a b c f. elim (get_cases s.spots next i p b) [
          | inl old ↦ get_left s.spots (next ∷ []) (i + 1) (spot_of p.home (after_fall set op (spot_counts p))) (s.fitting.falls i op p set a old c f)
          | inr new ↦ absurd (let l = slice_get_within k.ops i op a in let h = new.0 in omega arith)
        ];
      };
      count = let f = length-append s.spots (next ∷ []) in omega arith;
      last = λ _. subst (λ n. slice_get (s.spots ++ next ∷ []) n ≡ Some next) same (get_end s.spots next);
      lengths = s.lengths;
      landing = λ l at p a b c. get_left s.spots (next ∷ []) at p (s.landing l at p a b c);
      homes = λ i p e. elim (get_cases s.spots next i p e) [
        | inl old ↦ s.homes i p old
        | inr new ↦ let q : next.home ≡ p.home = ap (λ (x : Spot). x.home) new.1 in let g = new.0 in omega arith
      ];
      home = omega arith;
      begun = subst (λ n. slice_get (s.spots ++ next ∷ []) n ≡ Some next) same (get_end s.spots next);
      bound = s.bound;
      cuts = λ j c e. elim (get_cases k.cuts cut j c e) [
        | inl old ↦ let h = s.cuts j c old in let i = h.1 in let m = s.home in (chunk_further k.ops s.spots next c h.0 (omega arith), omega arith)
        | inr new ↦ subst (λ (x : Span). IsChunk k.ops (s.spots ++ next ∷ []) x × (x.end ≤ length k.ops)) (sym is ∙ new.1) (chunk, omega arith)
      ];
      ended = λ _. let l = length-append k.cuts (cut ∷ []) in omega arith;
      room = omega arith;
      base = based_fresh (length k.ops);
    }

-- nothing is assembled yet
pub started : IsWellMade (record { ops = []; chains = []; tables = []; labels = []; outers = []; targets = []; cuts = []; operands = 0; level = fresh 0; pending = 0; fixed = true })
started =
    record {
      spots = spot 0 (fresh 0) ∷ [];
      fitting = record {
        fits = λ i op p a b. absurd (none-some op a);
        falls = λ i op p s a b c d. absurd (none-some op a);
      };
      count = refl;
      last = λ h. refl;
      lengths = (refl, refl);
      landing = λ l at p a b c. absurd (none-some at a);
      homes = λ i p e. elim (get_cases [] (spot 0 (fresh 0)) i p e) [
        | inl h ↦ absurd (none-some p h)
        | inr h ↦ let q : 0 ≡ p.home = ap (λ (x : Spot). x.home) h.1 in omega arith
      ];
      home = omega arith;
      begun = refl;
      bound = record {
        behind = λ l at h e. absurd (none-some at e);
        between = λ l o j at a b c e. absurd (none-some at e);
      };
      cuts = λ j cut e. absurd (none-some cut e);
      ended = λ h. absurd (omega arith);
      room = omega arith;
      base = based_fresh 0;
    }
