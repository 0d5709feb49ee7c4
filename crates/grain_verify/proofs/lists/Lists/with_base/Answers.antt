use Rattle.std.proofs.Common.{◌≡◌, ℕ, ◌-◌, ◌&&◌, eqb, false, true, cond, List, length, get_or, set, suc, vec_len, Vec, Option, Some, rules, sym, ap, ◌∙◌, arith}
use Rattle.std.proofs.lemmas.Bool.Decides.{nat_tests}
use Rattle.std.proofs.lemmas.Grind.{common_steps}
use Rattle.std.proofs.lemmas.List.{get_or_read, length_push}
use Rattle.std.specs.BTreeMap.{get}
use Rattle.std.specs.Ordering.{is_eq}
use Rattle.std.specs.declared.alloc.Global.{Global}
use Rattle.grain_verify.specs.Lists.{AreFirsts, base_cmp, first_on, firsts_of, no_node, node_cmp}
use Rattle.grain_verify.specs.declared.lists.Base.{Base}
use Rattle.grain_verify.specs.declared.lists.Node.{Node}
use Rattle.grain_verify.proofs.SharedLists.{found_list, pushed_list}
use Rattle.grain_verify.proofs.NodeLookup.{first_found, first_inside, grows_first, grows_other, other_found, some_first}
use Rattle.grain_verify.proofs.lists.Lists.with_base.Goals as goal

-- the derived `==` on bases, and where it fails
same_base : (a b : Base) → true ≡ (eqb a.operands b.operands && eqb a.iterators b.iterators) → a ≡ b
same_base a b h =
    let o : a.operands ≡ b.operands = grind (arith, nat_tests) in
    let i : a.iterators ≡ b.iterators = grind (arith, nat_tests) in
    λ k. record { operands = o k; iterators = i k }

other_base : (a b : Base) → false ≡ (eqb a.operands b.operands && eqb a.iterators b.iterators) → is_eq (base_cmp a b) ≡ false
other_base a b h = grind (arith, nat_tests, common_steps)

-- the first on top of the list has another base
other_first : (nodes : List Node) (firsts : List ℕ) (elsewhere : Node → Option ℕ) (n f : ℕ) (y : Node) (b : Base) → AreFirsts nodes firsts elsewhere → first_on firsts n ≡ f
    → (f ≡ 0 → ⊥) → y ≡ get_or nodes (f - 1) y → false ≡ (eqb y.base.operands b.operands && eqb y.base.iterators b.iterators)
    → (k : ℕ) × (first_on firsts n ≡ suc k) × (is_eq (base_cmp (get_or nodes k no_node).base b) ≡ false)
other_first nodes firsts elsewhere n f y b are is some read h =
    let k = some_first f some in
    let inside = first_inside nodes firsts elsewhere n f are is some in
    let at : f - 1 ≡ k.0 = let e = k.1 in omega arith in
    let there : get_or nodes k.0 no_node ≡ y = ap (λ j. get_or nodes j no_node) (sym at) ∙ sym (get_or_read nodes (f - 1) y inside read no_node) in
    (k.0, is ∙ k.1, ap (λ (z : Node). is_eq (base_cmp z.base b)) there ∙ other_base y.base b h)

pub index-requires : goal.index-requires
index-requires c =
    let lists = c.args.self.now in
    let are = c.requires.shared.firsts in
    let is = sym c.first_on-first.ensures in
    let long : vec_len lists.nodes ≡ length lists.nodes.items = search rules in
    let inside = first_inside lists.nodes.items (firsts_of lists) (get node_cmp lists.others) c.args.list c.first_on-first.result are is c.if-first-eq0.false in
    omega (arith, long, inside)

-- the first on top of the list has this base
pub returns-then-eq-clause-list : goal.returns-then-eq-clause-list
returns-then-eq-clause-list c =
    let lists = c.args.self.now in
    let are = c.requires.shared.firsts in
    let x : Node = record { parent = c.args.list; base = c.args.base } in
    let f = c.first_on-first.result in
    let is = sym c.first_on-first.ensures in
    let inside = first_inside lists.nodes.items (firsts_of lists) (get node_cmp lists.others) c.args.list f are is c.if-first-eq0.false in
    let at = get_or_read lists.nodes.items (f - 1) c.index.result.now inside c.index.ensures no_node in
    let same = ap (λ (y : Node). y.base) (sym at) ∙ same_base c.index.result.now.base c.args.base (sym c.if-eq.true ∙ c.eq.ensures) in
    found_list lists.nodes.items _ x f c.requires.shared.sharing (first_found lists.nodes.items (firsts_of lists) (get node_cmp lists.others) x f is c.if-first-eq0.false same)

-- there is none yet
pub returns-then-first-eq0-clause-grows : goal.returns-then-first-eq0-clause-grows
returns-then-first-eq0-clause-grows c =
    let old = c.args.self.now in
    let x : Node = record { parent = c.args.list; base = c.args.base } in
    let made = c.in_ok-number.ensures in
    let set_there = c.set_first.ensures in
    let none = sym c.first_on-first.ensures ∙ c.if-first-eq0.true in
    grows_first old _ x c.requires.shared c.requires.list (ap (λ (v : Vec Node Global). v.items) set_there.nodes ∙ made.nodes) none
    (set_there.firsts ∙ (λ i. set (made.firsts i) c.args.list (made.number i))) (set_there.others ∙ made.others)

pub returns-then-first-eq0-clause-list : goal.returns-then-first-eq0-clause-list
returns-then-first-eq0-clause-list c =
    let made = c.in_ok-number.ensures in
    let x : Node = record { parent = c.args.list; base = c.args.base } in
    let nodes = ap (λ (v : Vec Node Global). v.items) c.set_first.ensures.nodes ∙ made.nodes in
    let more : c.in_ok-number.number ≡ length c.set_first.new.self.nodes.items = made.number ∙ sym (ap (λ (ns : List Node). length ns) nodes ∙ length_push c.args.self.now.nodes.items x) in
    pushed_list c.args.self.now.nodes.items c.set_first.new.self.nodes.items x c.in_ok-number.number c.requires.shared.sharing.parents c.requires.list nodes more

-- another lies there, and the node is found in the map
pub returns-in-Some-clause-list : goal.returns-in-Some-clause-list
returns-in-Some-clause-list c =
    let lists = c.args.self.now in
    let are = c.requires.shared.firsts in
    let elsewhere : Node → Option ℕ = get node_cmp lists.others in
    let x : Node = record { parent = c.args.list; base = c.args.base } in
    let is = sym c.first_on-first.ensures in
    let other = other_first lists.nodes.items (firsts_of lists) elsewhere c.args.list c.first_on-first.result c.index.result.now c.args.base are is c.if-first-eq0.false c.index.ensures
    (sym c.if-eq.false ∙ c.eq.ensures) in
    found_list lists.nodes.items _ x c.in-Some.number c.requires.shared.sharing (other_found lists.nodes.items (firsts_of lists) elsewhere elsewhere x are other.0 other.1 other.2 c.in-Some.number (sym c.in-Some.ensures))

-- or is added to it
pub returns-clause-grows : goal.returns-clause-grows
returns-clause-grows c =
    let old = c.args.self.now in
    let are = c.requires.shared.firsts in
    let elsewhere : Node → Option ℕ = get node_cmp old.others in
    let x : Node = record { parent = c.args.list; base = c.args.base } in
    let made = c.in_ok-number-2.ensures in
    let is = sym c.first_on-first.ensures in
    let other = other_first old.nodes.items (firsts_of old) elsewhere c.args.list c.first_on-first.result c.index.result.now c.args.base are is c.if-first-eq0.false c.index.ensures (sym c.if-eq.false ∙ c.eq.ensures) in
    let finds : get node_cmp c.add-2.new.self.others ≡ elsewhere = ap (get node_cmp) made.others in
    grows_other old _ x c.requires.shared c.requires.list made.nodes other.0 other.1 other.2 (sym c.in_default.ensures) made.firsts
    (λ q. c.in_ok-remember.ensures.0 q ∙ (λ i. cond (is_eq (node_cmp x q)) (Some (made.number i)) (finds i q)))

pub returns-clause-list : goal.returns-clause-list
returns-clause-list c =
    let made = c.in_ok-number-2.ensures in
    let x : Node = record { parent = c.args.list; base = c.args.base } in
    let more : c.in_ok-number-2.number ≡ length c.add-2.new.self.nodes.items = made.number ∙ sym (ap (λ (ns : List Node). length ns) made.nodes ∙ length_push c.args.self.now.nodes.items x) in
    pushed_list c.args.self.now.nodes.items c.add-2.new.self.nodes.items x c.in_ok-number-2.number c.requires.shared.sharing.parents c.requires.list made.nodes more
