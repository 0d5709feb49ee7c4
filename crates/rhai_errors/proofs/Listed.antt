-- The places of lines, read one character after another.
use Rattle.std.proofs.Common.{◌≡◌, ◌⊎◌, ◌↔◌, ℕ, ◌+◌, ◌-◌, ◌<◌, ◌≤◌, List, [], ◌∷◌, ◌++◌, length, take, get_or, inl, inr, refl, sym, ap, subst, ◌∙◌, arith}
use Rattle.std.specs.Str.{chars}
use Rattle.std.proofs.lemmas.Bool.{cases_lt}
use Rattle.std.proofs.lemmas.List.{get_or_append_left, get_or-append_right, length_push, take_all}
use Rattle.rhai_errors.specs.Places.{AreLengths, IsBehind, IsInLines, LiesIn}
use Rattle.grain_base.specs.declared.pos.Site.{Site}
use Rattle.rhai_errors.proofs.Behind.{AreBehind, behind_counts}

-- the place is in one of these lines, or in the next, which is that long so far
abbrev pub IsListedBy : List ℕ → ℕ → Site → Type 0
IsListedBy lengths last place = IsInLines lengths place ⊎ ((place.line ≡ length lengths + 1) × (1 ≤ place.column) × (place.column ≤ last + 1))

-- the place is behind at most this many of the first characters
abbrev pub IsReached : List ℕ → ℕ → Site → Type 0
IsReached text n place = (k : ℕ) × (k ≤ n) × IsBehind (take k text) place

module _ (lengths : List ℕ) (last : ℕ) where
  long : length (lengths ++ last ∷ []) ≡ length lengths + 1
  long = length_push lengths last

  earlier : (i : ℕ) → i < length lengths → get_or (lengths ++ last ∷ []) i 0 ≡ get_or lengths i 0
  earlier i l = get_or_append_left lengths (last ∷ []) 0 i l

  latest : get_or (lengths ++ last ∷ []) (length lengths) 0 ≡ last
  latest = get_or-append_right lengths (last ∷ []) (length lengths) (length lengths) 0 refl (omega arith) ∙ ap (λ (k : ℕ). get_or (last ∷ []) k 0) (let z : length lengths - length lengths ≡ 0 = omega arith in z)

  from_pushed : (place : Site) → IsInLines (lengths ++ last ∷ []) place → IsListedBy lengths last place
  from_pushed place h =
      elim (cases_lt (place.line - 1) (length lengths)) [
        | inl below ↦ inl (record { some = h.some; line = omega arith; begins = h.begins; inside = omega (arith, h.inside, earlier (place.line - 1) below) })
        | inr above ↦
            let at : place.line - 1 ≡ length lengths = omega (arith, h.line, long) in
            inr (omega (arith, h.some), h.begins, omega (arith, h.inside, ap (λ (k : ℕ). get_or (lengths ++ last ∷ []) k 0) at, latest))
      ]

  into_pushed : (place : Site) → IsListedBy lengths last place → IsInLines (lengths ++ last ∷ []) place
  into_pushed place (inl h) = record {
    some = h.some;
    line = omega (arith, h.line, long);
    begins = h.begins;
    inside = omega (arith, h.inside, earlier (place.line - 1) (omega (arith, h.some, h.line)));
  }
  into_pushed place (inr h) =
      let at : place.line - 1 ≡ length lengths = omega (arith, h.0) in
      record {
        some = omega (arith, h.0);
        line = omega (arith, h.0, long);
        begins = h.1;
        inside = omega (arith, h.2, ap (λ (k : ℕ). get_or (lengths ++ last ∷ []) k 0) at, latest);
      }

  pub listed_pushed : (place : Site) → IsInLines (lengths ++ last ∷ []) place ↔ IsListedBy lengths last place
  listed_pushed place = (from_pushed place, into_pushed place)

pub listed_none : (text : List ℕ) (place : Site) → IsListedBy [] 0 place ↔ IsReached text 0 place
listed_none text place = (there, back) where
  there : IsListedBy [] 0 place → IsReached text 0 place
  there (inl h) = absurd (omega (arith, h.some, h.line))
  there (inr h) = (0, omega arith, record { line = h.0; column = omega (arith, h.1, h.2) })

  back : IsReached text 0 place → IsListedBy [] 0 place
  back r =
      let at : r.0 ≡ 0 = omega (arith, r.1) in
      let is : IsBehind [] place = subst (λ (k : ℕ). IsBehind (take k text) place) at r.2 in
      inr (is.line, omega (arith, is.column), omega (arith, is.column))

-- the places that are reached with one more character
reached_more : (text : List ℕ) (n : ℕ) (place : Site) → IsReached text (n + 1) place ↔ (IsReached text n place ⊎ IsBehind (take (n + 1) text) place)
reached_more text n place = (there, back) where
  there : IsReached text (n + 1) place → IsReached text n place ⊎ IsBehind (take (n + 1) text) place
  there r = elim (cases_lt n r.0) [
    | inl above ↦ inr (let at : r.0 ≡ n + 1 = omega (arith, r.1) in subst (λ (k : ℕ). IsBehind (take k text) place) at r.2)
    | inr below ↦ inl (r.0, below, r.2)
  ]

  back : IsReached text n place ⊎ IsBehind (take (n + 1) text) place → IsReached text (n + 1) place
  back (inl r) = (r.0, omega (arith, r.1), r.2)
  back (inr is) = (n + 1, omega arith, is)

module _ (text lengths : List ℕ) (n last : ℕ) (place : Site) (so_far : IsListedBy lengths last place ↔ IsReached text n place) where
  -- a character that is no line feed makes the last line longer
  pub listed_other : AreBehind text (n + 1) (length lengths) (last + 1) → IsListedBy lengths (last + 1) place ↔ IsReached text (n + 1) place
  listed_other behind = (there, back) where
    told : ((place.line ≡ length lengths + 1) × (place.column ≡ last + 1 + 1)) ↔ IsBehind (take (n + 1) text) place
    told = behind_counts text (n + 1) (length lengths) (last + 1) place behind

    there : IsListedBy lengths (last + 1) place → IsReached text (n + 1) place
    there (inl h) = (reached_more text n place).1 (inl (so_far.0 (inl h)))
    there (inr h) = elim (cases_lt (last + 1) place.column) [
      | inl new ↦ (reached_more text n place).1 (inr (told.0 (h.0, omega (arith, h.2))))
      | inr old ↦ (reached_more text n place).1 (inl (so_far.0 (inr (h.0, h.1, old))))
    ]

    more : IsListedBy lengths last place → IsListedBy lengths (last + 1) place
    more (inl h) = inl h
    more (inr h) = inr (h.0, h.1, omega (arith, h.2))

    back : IsReached text (n + 1) place → IsListedBy lengths (last + 1) place
    back r = elim ((reached_more text n place).0 r) [
      | inl old ↦ more (so_far.1 old)
      | inr new ↦ let t = told.1 new in inr (t.0, omega (arith, t.1), omega (arith, t.1))
    ]

  -- a line feed begins a line
  pub listed_feed : AreBehind text (n + 1) (length lengths + 1) 0 → IsListedBy (lengths ++ last ∷ []) 0 place ↔ IsReached text (n + 1) place
  listed_feed behind = (there, back) where
    told : ((place.line ≡ length lengths + 1 + 1) × (place.column ≡ 0 + 1)) ↔ IsBehind (take (n + 1) text) place
    told = behind_counts text (n + 1) (length lengths + 1) 0 place behind

    there : IsListedBy (lengths ++ last ∷ []) 0 place → IsReached text (n + 1) place
    there (inl h) = (reached_more text n place).1 (inl (so_far.0 ((listed_pushed lengths last place).0 h)))
    there (inr h) = (reached_more text n place).1 (inr (told.0 (omega (arith, h.0, length_push lengths last), omega (arith, h.1, h.2))))

    back : IsReached text (n + 1) place → IsListedBy (lengths ++ last ∷ []) 0 place
    back r = elim ((reached_more text n place).0 r) [
      | inl old ↦ inl ((listed_pushed lengths last place).1 (so_far.1 old))
      | inr new ↦ let t = told.1 new in inr (omega (arith, t.0, length_push lengths last), omega (arith, t.1), omega (arith, t.1))
    ]

-- at the end of the text its places are reached
pub listed_all : (source lengths : List ℕ) (n last : ℕ) → length (chars source) ≤ n → ((place : Site) → IsListedBy lengths last place ↔ IsReached (chars source) n place) → AreLengths source (lengths ++ last ∷ [])
listed_all source lengths n last all so_far place = (there, back) where
  text : List ℕ
  text = chars source

  there : IsInLines (lengths ++ last ∷ []) place → LiesIn source place
  there h = let r = (so_far place).0 ((listed_pushed lengths last place).0 h) in (r.0, r.2)

  back : LiesIn source place → IsInLines (lengths ++ last ∷ []) place
  back lies =
      (listed_pushed lengths last place).1 ((so_far place).1
      (elim (cases_lt n lies.0) [
        | inl past ↦
            let same : take lies.0 (chars source) ≡ take n (chars source) = take_all lies.0 (chars source) (omega arith) ∙ sym (take_all n (chars source) all) in
            (n, omega arith, subst (λ (xs : List ℕ). IsBehind xs place) same lies.1)
        | inr within ↦ (lies.0, within, lies.1)
      ]))
