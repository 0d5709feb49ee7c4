-- The lists of bases that numbers name.
use Rattle.std.specs.Prelude.{◌≡◌, ℕ, zero, suc, ◌+◌, ◌<◌, ◌≤◌, if◌then◌else◌, List, [], ◌∷◌, length, slice_index_or, Option, None, Some}
use Rattle.std.specs.BTreeMap.{get}
use Rattle.std.specs.Ordering.{is_eq, nat_cmp, ordering_then}
use Rattle.std.specs.declared.cmp.Ordering.{Ordering}
use Rattle.grain_rules.specs.Counts.{Base}
use Rattle.grain_verify.specs.declared.lists.Base as kept
use Rattle.grain_verify.specs.declared.lists.Lists.{Lists}
use Rattle.grain_verify.specs.declared.lists.Node.{Node}

-- what a base of the walk stands for
abbrev pub as_base : kept.Base → Base
as_base b = record { operands = b.operands; iterators = b.iterators }

abbrev pub base_cmp : kept.Base → kept.Base → Ordering
base_cmp a b = ordering_then (nat_cmp a.operands b.operands) (nat_cmp a.iterators b.iterators)

-- the order of nodes
abbrev pub node_cmp : Node → Node → Ordering
node_cmp x y = ordering_then (nat_cmp x.parent y.parent) (base_cmp x.base y.base)

abbrev pub no_node : Node
no_node = record { parent = 0; base = record { operands = 0; iterators = 0 } }

-- the bases of a list, at most this many of them
abbrev pub node_list_within : ℕ → List Node → ℕ → List Base
node_list_within zero nodes n = []
node_list_within (suc most) nodes zero = []
node_list_within (suc most) nodes (suc k) = as_base (slice_index_or nodes k no_node).base ∷ node_list_within most nodes (slice_index_or nodes k no_node).parent

-- all of them: a parent's number is below that of its node, so that no list has more bases than its number
abbrev pub node_list : List Node → ℕ → List Base
node_list nodes n = node_list_within n nodes n

abbrev pub list_of : Lists → ℕ → List Base
list_of lists n = node_list lists.nodes.items n

-- how many lists there are besides the empty one
abbrev pub list_count : Lists → ℕ
list_count lists = length lists.nodes.items

-- by the number of a list that of the first list made on top of it, or 0
abbrev pub firsts_of : Lists → List ℕ
firsts_of lists = lists.first ∷ lists.firsts.items

-- the number of the list that was made first on top of a list, or 0
abbrev pub first_on : List ℕ → ℕ → ℕ
first_on firsts n = slice_index_or firsts n 0

-- The number that is found with a node, if this is the number of the first list on top of its parent's: that one, if its
-- last base is the node's, or else what is found elsewhere.
abbrev pub found_with : List Node → (Node → Option ℕ) → Node → ℕ → Option ℕ
found_with nodes elsewhere x zero = elsewhere x
found_with nodes elsewhere x (suc k) = if is_eq (base_cmp (slice_index_or nodes k no_node).base x.base) then Some (suc k) else elsewhere x

abbrev pub found_in : List Node → List ℕ → (Node → Option ℕ) → Node → Option ℕ
found_in nodes firsts elsewhere x = found_with nodes elsewhere x (first_on firsts x.parent)

-- The first list on top of a list lies on it, and only if there is one is something found elsewhere.
pub record AreFirsts (nodes : List Node) (firsts : List ℕ) (elsewhere : Node → Option ℕ) : Type 0 where
  pub long : length firsts ≡ length nodes + 1
  pub there : (n k : ℕ) → first_on firsts n ≡ suc k → (k < length nodes) × ((slice_index_or nodes k no_node).parent ≡ n)
  pub only : (x : Node) → first_on firsts x.parent ≡ 0 → elsewhere x ≡ None

-- Each node lies on a list before it, and with it, and with nothing else, the number of its list is found.
pub record IsSharing (nodes : List Node) (find : Node → Option ℕ) : Type 0 where
  pub parents : (k : ℕ) → k < length nodes → (slice_index_or nodes k no_node).parent ≤ k
  pub sound : (x : Node) (n : ℕ) → find x ≡ Some n → (k : ℕ) × (n ≡ k + 1) × (k < length nodes) × (slice_index_or nodes k no_node ≡ x)
  pub complete : (k : ℕ) → k < length nodes → find (slice_index_or nodes k no_node) ≡ Some (k + 1)

pub record IsShared (lists : Lists) : Type 0 where
  pub firsts : AreFirsts lists.nodes.items (firsts_of lists) (get node_cmp lists.others)
  pub sharing : IsSharing lists.nodes.items (found_in lists.nodes.items (firsts_of lists) (get node_cmp lists.others))

-- At most one list is added, and each number still names the same one.
pub record Grows (old new : Lists) : Type 0 where
  pub shared : IsShared new
  pub more : list_count old ≤ list_count new
  pub few : list_count new ≤ list_count old + 1
  pub kept : (n : ℕ) → n ≤ list_count old → list_of new n ≡ list_of old n
