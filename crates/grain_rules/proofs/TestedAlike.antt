-- Indices are tested alike in settings whose pools have the same sizes, chains and cases.
use Rattle.std.proofs.Common.{◌≡◌, ℕ, ◌<◌, ◌≤◌, inl, inr, List, [], ◌∷◌, ◌++◌, get_or, length, map, refl, subst, sym, ap, ◌∙◌}
use Rattle.std.specs.List.{AllByRecursion, Contains, flat_map}
use Rattle.grain_rules.specs.Indices.{Indexed, IsOut, IsPassed, case_constants, cases_of, entry_name, further, mentions_of, own_mentions, size, test_of, tests_of}
use Rattle.grain_rules.specs.Facts.{ChainFacts, Mention, Entry, Operand}
use Rattle.grain_rules.specs.Setting.{Setting}
use Rattle.grain_code.specs.declared.field.Pool.{Pool}
use Rattle.grain_code.specs.declared.field.Pool.TheVariants as pools
use Rattle.grain_code.specs.declared.op.Op.{Op}
use Rattle.grain_rules.proofs.Members.{appended, by_recursion, flat_same, map_same, of_recursion}

-- settings with pools of one size
abbrev pub SameSizes : Setting → Setting → Type 0
SameSizes s t = (pool : Pool) → size s pool ≡ size t pool

test_same : (s t : Setting) → SameSizes s t → (m : Mention) → test_of s m ≡ test_of t m
test_same s t same (Entry pool x) = ap (λ n. record { what = entry_name pool; index = x; bound = n }) (same pool)
test_same s t same (Operand operands place) = refl

further_same : (s t : Setting) → s.facts.chains ≡ t.facts.chains → (m : Mention) → further s m ≡ further t m
further_same s t same (Entry pools.Chains x) = ap (λ cs. get_or (map (λ (c : ChainFacts). c.mentions) cs) x []) same
further_same s t same (Entry pools.Constants x) = refl
further_same s t same (Entry pools.Names x) = refl
further_same s t same (Entry pools.Operators x) = refl
further_same s t same (Entry pools.OpAssignments x) = refl
further_same s t same (Entry pools.Fragments x) = refl
further_same s t same (Entry pools.Switches x) = refl
further_same s t same (Entry pools.SyntaxSites x) = refl
further_same s t same (Operand operands place) = refl

-- the constants of the cases of what is named
abbrev SharesCases : Setting → Setting → Type 0
SharesCases s t = (w x : ℕ) → Contains (get_or s.facts.cases w []) x → Contains (get_or t.facts.cases w []) x

cases_at : (s t : Setting) → SharesCases s t → (m : Mention) (x : ℕ) → Contains (case_constants s m) x → Contains (case_constants t m) x
cases_at s t shared (Entry pools.Switches i) x has = shared i x has
cases_at s t shared (Entry pools.Chains i) x has = has
cases_at s t shared (Entry pools.Constants i) x has = has
cases_at s t shared (Entry pools.Names i) x has = has
cases_at s t shared (Entry pools.Operators i) x has = has
cases_at s t shared (Entry pools.OpAssignments i) x has = has
cases_at s t shared (Entry pools.Fragments i) x has = has
cases_at s t shared (Entry pools.SyntaxSites i) x has = has
cases_at s t shared (Operand operands place) x has = has

all_cases : (s t : Setting) → SharesCases s t → (ms : List Mention) (x : ℕ) → Contains (flat_map (case_constants s) ms) x → Contains (flat_map (case_constants t) ms) x
all_cases s t shared [] x has = has
all_cases s t shared (m ∷ ms) x has =
    appended (case_constants s m) (flat_map (case_constants s) ms) (case_constants t m) (flat_map (case_constants t) ms) x (cases_at s t shared m x) (all_cases s t shared ms x) has

-- settings in which the indices of each operation are tested alike
pub record TestedAlike (s t : Setting) : Type 0 where
  pub consts : s.facts.consts ≡ t.facts.consts
  pub tests : (op : Op) → tests_of s op ≡ tests_of t op
  pub cases : (op : Op) (x : ℕ) → Contains (cases_of s op) x → Contains (cases_of t op) x
  pub cases_back : (op : Op) (x : ℕ) → Contains (cases_of t op) x → Contains (cases_of s op) x

pub indexed : (s t : Setting) → TestedAlike s t → (op : Op) → Indexed s op → Indexed t op
indexed s t same op h = record {
  tests = subst (λ ts. AllByRecursion IsPassed ts) (same.tests op) h.tests;
  cases = by_recursion (λ c. c < t.facts.consts) (cases_of t op) (λ x has. subst (λ n. x < n) same.consts (of_recursion (λ c. c < s.facts.consts) (cases_of s op) x h.cases (same.cases_back op x has)));
}

pub out : (s t : Setting) → TestedAlike s t → (op : Op) (what : List ℕ) (index : ℕ) → IsOut s op what index → IsOut t op what index
out s t same op what index (inl h) = inl (record {
  earlier = h.earlier;
  bad = h.bad;
  later = h.later;
  order = sym (same.tests op) ∙ h.order;
  passed = h.passed;
  fails = h.fails;
  what_is = h.what_is;
  index_is = h.index_is;
})
out s t same op what index (inr h) = inr (record {
  passed = subst (λ ts. AllByRecursion IsPassed ts) (same.tests op) h.passed;
  case = same.cases op index h.case;
  fails = subst (λ n. n ≤ index) same.consts h.fails;
  named = h.named;
})

tested : (s t : Setting) → SameSizes s t → s.facts.chains ≡ t.facts.chains → (op : Op) → tests_of s op ≡ tests_of t op
tested s t sizes chains op =
    let own = own_mentions op in
    ap (λ more. map (test_of s) (own ++ more)) (flat_same (further s) (further t) (further_same s t chains) own)
    ∙ map_same (test_of s) (test_of t) (test_same s t sizes) (mentions_of t op)

pub tested_alike : (s t : Setting) → s.facts.consts ≡ t.facts.consts → SameSizes s t → s.facts.chains ≡ t.facts.chains → SharesCases s t → SharesCases t s → TestedAlike s t
tested_alike s t consts sizes chains there back = record {
  consts = consts;
  tests = tested s t sizes chains;
  cases = λ op. all_cases s t there (own_mentions op);
  cases_back = λ op. all_cases t s back (own_mentions op);
}
