-- What is assembled stays sound: one more operation, label, chain, switch or chunk.
use Rattle.std.proofs.Common.{◌≡◌, ℕ, ◌+◌, ◌≤◌, ◌⊎◌, inl, inr, Bool, true, false, cond, List, [], ◌∷◌, ◌++◌, length, Some, refl, sym, ap, subst, ◌∙◌, arith}
use Rattle.std.specs.Prelude.{slice_get}
use Rattle.std.proofs.lemmas.List.{length-append}
use Rattle.std.proofs.lemmas.Option.{slice_get_within}
use Rattle.grain_code.specs.Span.{Span}
use Rattle.grain_code.specs.declared.op.Op.{Op}
use Rattle.grain_rules.specs.Counts.{Counts, nothing}
use Rattle.grain_rules.specs.Effects.{after_fall, falls_through}
use Rattle.grain_rules.specs.Setting.{Setting}
use Rattle.grain_builder.specs.Unfinished.{Level, Spot, spot}
use Rattle.grain_builder.specs.Fitting.{FitsAt, HasChains, spot_counts, spot_of}
use Rattle.grain_builder.specs.Sound.{IsBased, IsChunk, IsWellMade, Workings}
use Rattle.grain_builder.proofs.Appended.{get_cases, get_end, get_left, some_inj}

-- a chunk stays one with more operations and one more spot behind it that is of another chunk
chunk_longer : (ops more : List Op) (spots : List Spot) (cut : Span) → IsChunk ops spots cut → IsChunk (ops ++ more) spots cut
chunk_longer ops more spots cut c = record {
  entry = c.entry;
  inside = let n = c.inside in let e = length-append ops more in omega arith;
  most = c.most;
  behind = c.behind;
}

pub chunk_further : (ops : List Op) (spots : List Spot) (p : Spot) (cut : Span) → IsChunk ops spots cut → cut.end ≤ p.home → IsChunk ops (spots ++ p ∷ []) cut
chunk_further ops spots p cut c h = record {
  entry = get_left spots (p ∷ []) cut.entry (spot_of cut.entry nothing) c.entry;
  inside = c.inside;
  most = c.most;
  behind = λ i q g e same. elim (get_cases spots p i q e) [
    | inl old ↦ c.behind i q g old same
    | inr new ↦
        let k : p.home ≡ q.home = ap (λ (x : Spot). x.home) new.1 in
        c.behind cut.entry (spot_of cut.entry nothing) (omega arith) c.entry refl
  ];
}

-- what the next operation finds is settled
pub settled : (k : Workings) → IsWellMade k → k.fixed ≡ false → IsWellMade (record k { fixed = true })
settled k s loose =
    let now : Spot = spot k.operands k.level in
    let many : length s.spots ≡ length k.ops + cond false 1 0 = subst (λ (b : Bool). length s.spots ≡ length k.ops + cond b 1 0) loose s.count in
    let same : length s.spots ≡ length k.ops = omega arith in
    record {
      spots = s.spots ++ now ∷ [];
      fitting = record {
        fits = λ i op p o e. elim (get_cases s.spots now i p e) [
          | inl old ↦ s.fitting.fits i op p o old
          | inr new ↦ absurd (let l = slice_get_within k.ops i op o in let h = new.0 in omega arith)
        ];
        falls = λ i op p set o e c f. elim (get_cases s.spots now i p e) [
          | inl old ↦ get_left s.spots (now ∷ []) (i + 1) (spot_of p.home (after_fall set op (spot_counts p))) (s.fitting.falls i op p set o old c f)
          | inr new ↦ absurd (let l = slice_get_within k.ops i op o in let h = new.0 in omega arith)
        ];
      };
      count = let m = same in let f = length-append s.spots (now ∷ []) in omega arith;
      last = λ _. subst (λ n. slice_get (s.spots ++ now ∷ []) n ≡ Some now) same (get_end s.spots now);
      lengths = s.lengths;
      landing = λ l at p a b c. get_left s.spots (now ∷ []) at p (s.landing l at p a b c);
      homes = λ i p e. elim (get_cases s.spots now i p e) [
        | inl old ↦ s.homes i p old
        | inr new ↦ let h = s.home in let q : now.home ≡ p.home = ap (λ (x : Spot). x.home) new.1 in let g = new.0 in omega arith
      ];
      home = s.home;
      begun = get_left s.spots (now ∷ []) k.level.home (spot_of k.level.home nothing) s.begun;
      bound = s.bound;
      cuts = λ j cut e. let c = s.cuts j cut e in (chunk_further k.ops s.spots now cut c.0 c.1, c.1);
      ended = s.ended;
      room = s.room;
      base = s.base;
    }

bool_cases : (b : Bool) → (b ≡ true) ⊎ (b ≡ false)
bool_cases true = inl refl
bool_cases false = inr refl

-- whether it was settled or not
pub made_settled : (k : Workings) → IsWellMade k → IsWellMade (record k { fixed = true })
made_settled k s = elim (bool_cases k.fixed) [
  | inl e ↦ subst (λ (b : Bool). IsWellMade (record k { fixed = b })) e s
  | inr e ↦ settled k s e
]

-- All labels, what they lead to, and the chunks are as they were.
module _ (k : Workings) (s : IsWellMade k) (here : k.fixed ≡ true) (op : Op) (fits : FitsAt k.chains k.tables k.labels op (spot k.operands k.level)) (n : ℕ) (level : Level) (home : level.home ≡ k.level.home) (room : n ≤ 65535) (base : IsBased level) where
  abbrev now : Spot
  now = spot k.operands k.level

  one_more : length s.spots ≡ length k.ops + 1
  one_more = subst (λ (b : Bool). length s.spots ≡ length k.ops + cond b 1 0) here s.count

  last_spot : slice_get s.spots (length k.ops) ≡ Some now
  last_spot = s.last here

  -- one more operation that doesn't fall through
  pub put_leaving : falls_through op ≡ false → IsWellMade (record k { ops = k.ops ++ op ∷ []; operands = n; level = level; fixed = false })
  put_leaving stops = record {
    spots = s.spots;
    fitting = record {
      fits = λ i o p a b. elim (get_cases k.ops op i o a) [
        | inl old ↦ s.fitting.fits i o p old b
        | inr new ↦
            let e : Some now ≡ Some p = sym last_spot ∙ subst (λ m. slice_get s.spots m ≡ Some p) new.0 b in
            subst (λ (x : Op). FitsAt k.chains k.tables k.labels x p) new.1 (subst (λ (x : Spot). FitsAt k.chains k.tables k.labels op x) (some_inj e) fits)
      ];
      falls = λ i o p set a b c f. elim (get_cases k.ops op i o a) [
        | inl old ↦ s.fitting.falls i o p set old b c f
        | inr new ↦ absurd (let g : falls_through op ≡ true = subst (λ (x : Op). falls_through x ≡ true) (sym new.1) f in let h : false ≡ true = sym stops ∙ g in cc)
      ];
    };
    count = let m = one_more in let e = length-append k.ops (op ∷ []) in omega arith;
    last = λ h. absurd (let g : false ≡ true = h in cc);
    lengths = s.lengths;
    landing = s.landing;
    homes = s.homes;
    home = let h = s.home in let e = length-append k.ops (op ∷ []) in let q = home in omega arith;
    begun = subst (λ m. slice_get s.spots m ≡ Some (spot_of m nothing)) (sym home) s.begun;
    bound = s.bound;
    cuts = λ j cut e. let c = s.cuts j cut e in (chunk_longer k.ops (op ∷ []) s.spots cut c.0, let q = home in let h = c.1 in omega arith);
    ended = λ h. s.ended (let q = home in omega arith);
    room = room;
    base = base;
  }

  -- one more operation that falls through
  pub put_falling : ((set : Setting) → HasChains set k.chains → after_fall set op (spot_counts now) ≡ spot_counts (spot n level)) → IsWellMade (record k { ops = k.ops ++ op ∷ []; operands = n; level = level; fixed = true })
  put_falling after =
      let next : Spot = spot n level in
      record {
        spots = s.spots ++ next ∷ [];
        fitting = record {
          fits = λ i o p a b. elim (get_cases s.spots next i p b) [
            | inr far ↦ absurd (let l = slice_get_within (k.ops ++ op ∷ []) i o a in let e = length-append k.ops (op ∷ []) in let m = one_more in let q = far.0 in omega arith)
            | inl b ↦ elim (get_cases k.ops op i o a) [
              | inl old ↦ s.fitting.fits i o p old b
              | inr new ↦
                  let e : Some now ≡ Some p = sym last_spot ∙ subst (λ m. slice_get s.spots m ≡ Some p) new.0 b in
                  subst (λ (x : Op). FitsAt k.chains k.tables k.labels x p) new.1 (subst (λ (x : Spot). FitsAt k.chains k.tables k.labels op x) (some_inj e) fits)
            ]
          ];
          falls = λ i o p set a b c f. elim (get_cases s.spots next i p b) [
            | inr far ↦ absurd (let l = slice_get_within (k.ops ++ op ∷ []) i o a in let e = length-append k.ops (op ∷ []) in let m = one_more in let q = far.0 in omega arith)
            | inl b ↦ elim (get_cases k.ops op i o a) [
              | inl old ↦ get_left s.spots (next ∷ []) (i + 1) (spot_of p.home (after_fall set o (spot_counts p))) (s.fitting.falls i o p set old b c f)
              | inr new ↦
                  let e : now ≡ p = some_inj (sym last_spot ∙ subst (λ m. slice_get s.spots m ≡ Some p) new.0 b) in
                  let g : slice_get (s.spots ++ next ∷ []) (length k.ops + 1) ≡ Some next = subst (λ m. slice_get (s.spots ++ next ∷ []) m ≡ Some next) one_more (get_end s.spots next) in
                  let same : next ≡ spot_of now.home (after_fall set op (spot_counts now)) = ap (λ (x : Counts). spot_of level.home x) (sym (after set c)) ∙ ap (λ m. spot_of m (after_fall set op (spot_counts now))) home in
                  let there : slice_get (s.spots ++ next ∷ []) (i + 1) ≡ Some (spot_of now.home (after_fall set op (spot_counts now))) = subst (λ m. slice_get (s.spots ++ next ∷ []) (m + 1) ≡ Some (spot_of now.home (after_fall set op (spot_counts now)))) (sym new.0) (g ∙ ap (λ (x : Spot). Some x) same) in
                  subst (λ (x : Op). slice_get (s.spots ++ next ∷ []) (i + 1) ≡ Some (spot_of p.home (after_fall set x (spot_counts p)))) new.1
                  (subst (λ (x : Spot). slice_get (s.spots ++ next ∷ []) (i + 1) ≡ Some (spot_of x.home (after_fall set op (spot_counts x)))) e there)
            ]
          ];
        };
        count = let m = one_more in let e = length-append k.ops (op ∷ []) in let f = length-append s.spots (next ∷ []) in omega arith;
        last = λ _. subst (λ m. slice_get (s.spots ++ next ∷ []) m ≡ Some next) (one_more ∙ sym (length-append k.ops (op ∷ []))) (get_end s.spots next);
        lengths = s.lengths;
        landing = λ l at p a b c. get_left s.spots (next ∷ []) at p (s.landing l at p a b c);
        homes = λ i p e. elim (get_cases s.spots next i p e) [
          | inl old ↦ s.homes i p old
          | inr new ↦ let h = s.home in let q : next.home ≡ p.home = ap (λ (x : Spot). x.home) new.1 in let g = new.0 in let m = one_more in let u = home in omega arith
        ];
        home = let h = s.home in let e = length-append k.ops (op ∷ []) in let q = home in omega arith;
        begun = get_left s.spots (next ∷ []) level.home (spot_of level.home nothing) (subst (λ m. slice_get s.spots m ≡ Some (spot_of m nothing)) (sym home) s.begun);
        bound = s.bound;
        cuts = λ j cut e. let c = s.cuts j cut e in
            let behind : cut.end ≤ level.home = let q = home in let h = c.1 in omega arith in
            (chunk_further (k.ops ++ op ∷ []) s.spots next cut (chunk_longer k.ops (op ∷ []) s.spots cut c.0) behind, behind);
        ended = λ h. s.ended (let q = home in omega arith);
        room = room;
        base = base;
      }
