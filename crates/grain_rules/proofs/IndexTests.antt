-- Indices tested in order: the first that is out of bounds.
use Rattle.std.proofs.Common.{◌≡◌, ℕ, ◌<◌, ◌≤◌, List, [], ◌∷◌, ◌++◌, Bool, true, false, cond, nat_lt, map, Option, Some, None, refl, ap, ◌∙◌, arith, inl, inr}
use Rattle.std.proofs.lemmas.Bool.Decides.{nat_tests}
use Rattle.std.specs.List.{AllByRecursion}
use Rattle.std.specs.Option.{option_or}
use Rattle.std.proofs.lemmas.List.Elements.{recursion_from_All}
use Rattle.grain_pools.specs.Dispatch.{first_past}
use Rattle.grain_pools.proofs.FirstPast.{past_none, past_some}
use Rattle.grain_code.specs.declared.op.Op.{Op}
use Rattle.grain_code.specs.declared.field.Pool.TheVariants.{Constants}
use Rattle.grain_rules.specs.FirstOut.{first_out}
use Rattle.grain_rules.specs.Facts.{Mention}
use Rattle.grain_rules.specs.Indices.{Indexed, IsOut, IsPassed, Test, cases_of, entry_name, test_of, tests_of}
use Rattle.grain_rules.specs.Setting.{Setting}

or_cond : {A : Type 0} (b : Bool) (x y : Option A) (z : A) → cond b (option_or x y) (Some z) ≡ option_or (cond b x (Some z)) y
or_cond true x y z = refl
or_cond false x y z = refl

-- tests behind others: those in front come first
pub out_append : (ts us : List Test) → first_out (ts ++ us) ≡ option_or (first_out ts) (first_out us)
out_append [] us = refl
out_append (t ∷ ts) us =
    ap (λ r. cond (nat_lt t.index t.bound) r (Some (t.what, t.index))) (out_append ts us) ∙ or_cond (nat_lt t.index t.bound) (first_out ts) (first_out us) (t.what, t.index)

-- the same of what is named
pub mentions_append : (s : Setting) (is js : List Mention) → first_out (map (test_of s) (is ++ js)) ≡ option_or (first_out (map (test_of s) is)) (first_out (map (test_of s) js))
mentions_append s [] js = refl
mentions_append s (i ∷ is) js =
    let t = test_of s i in
    ap (λ r. cond (nat_lt t.index t.bound) r (Some (t.what, t.index))) (mentions_append s is js)
    ∙ or_cond (nat_lt t.index t.bound) (first_out (map (test_of s) is)) (first_out (map (test_of s) js)) (t.what, t.index)

-- where none is out of bounds, all are passed
pub out_none : (ts : List Test) → first_out ts ≡ None → AllByRecursion IsPassed ts
out_none [] is = tt
out_none (t ∷ ts) is = at (nat_lt t.index t.bound) refl is (out_none ts)
  where
    at : (b : Bool) → nat_lt t.index t.bound ≡ b → cond b (first_out ts) (Some (t.what, t.index)) ≡ None → (first_out ts ≡ None → AllByRecursion IsPassed ts) → AllByRecursion IsPassed (t ∷ ts)
    at true test is more = (grind (arith, nat_tests), more is)
    at false test is more = absurd (cc)

-- where one is out of bounds: those in front of the first are passed
pub record FirstOut (ts : List Test) (what : List ℕ) (x : ℕ) : Type 0 where
  pub earlier : List Test
  pub bad : Test
  pub later : List Test
  pub order : ts ≡ earlier ++ bad ∷ later
  pub passed : AllByRecursion IsPassed earlier
  pub fails : bad.bound ≤ bad.index
  pub what_is : what ≡ bad.what
  pub index_is : x ≡ bad.index

behind : (t : Test) (ts : List Test) (what : List ℕ) (x : ℕ) → IsPassed t → FirstOut ts what x → FirstOut (t ∷ ts) what x
behind t ts what x here h = record {
  earlier = t ∷ h.earlier;
  bad = h.bad;
  later = h.later;
  order = ap (λ us. t ∷ us) h.order;
  passed = (here, h.passed);
  fails = h.fails;
  what_is = h.what_is;
  index_is = h.index_is;
}

pub out_some : (ts : List Test) (what : List ℕ) (x : ℕ) → first_out ts ≡ Some (what, x) → FirstOut ts what x
out_some [] what x is = absurd (cc)
out_some (t ∷ ts) what x is = at (nat_lt t.index t.bound) refl is (out_some ts what x)
  where
    at : (b : Bool) → nat_lt t.index t.bound ≡ b → cond b (first_out ts) (Some (t.what, t.index)) ≡ Some (what, x) → (first_out ts ≡ Some (what, x) → FirstOut ts what x) → FirstOut (t ∷ ts) what x
    at true test is more = behind t ts what x (grind (arith, nat_tests)) (more is)
    at false test is more =
        let outside : t.bound ≤ t.index = grind (arith, nat_tests) in
        let same : (what, x) ≡ (t.what, t.index) = cc in
        record {
          earlier = [];
          bad = t;
          later = ts;
          order = refl;
          passed = tt;
          fails = outside;
          what_is = ap (λ (p : List ℕ × ℕ). p.0) same;
          index_is = ap (λ (p : List ℕ × ℕ). p.1) same;
        }

-- an operation whose tests and cases are passed
pub indexed : (s : Setting) (op : Op) → first_out (tests_of s op) ≡ None → first_past s.facts.consts (cases_of s op) ≡ None → Indexed s op
indexed s op tests cases =
    record { tests = out_none (tests_of s op) tests; cases = recursion_from_All (λ c. c < s.facts.consts) (cases_of s op) (past_none s.facts.consts (cases_of s op) cases) }

-- one of its tests isn't
pub index_out : (s : Setting) (op : Op) (what : List ℕ) (x : ℕ) → first_out (tests_of s op) ≡ Some (what, x) → IsOut s op what x
index_out s op what x is =
    let first = out_some (tests_of s op) what x is in
    inl (record {
      earlier = first.earlier;
      bad = first.bad;
      later = first.later;
      order = first.order;
      passed = first.passed;
      fails = first.fails;
      what_is = first.what_is;
      index_is = first.index_is;
    })

-- its tests are, and a case isn't
pub case_out : (s : Setting) (op : Op) (x : ℕ) → first_out (tests_of s op) ≡ None → first_past s.facts.consts (cases_of s op) ≡ Some x → IsOut s op (entry_name Constants) x
case_out s op x tests is =
    let past = past_some s.facts.consts x (cases_of s op) is in
    inr (record { passed = out_none (tests_of s op) tests; case = past.0; fails = past.1; named = refl })
