-- What a value is once its shared marks are taken off, and when two such contents are equal.
use Rattle.std.specs.Prelude.{ℕ, ℤ, List, Bool, true, false, ◌&&◌, ◌==◌, ◌++◌, ◌+◌, []}
use Rattle.std.specs.Bool.{beq}
use Rattle.std.specs.Ordering.{int_eq}
use Rattle.std.specs.Str.{bytes_eq}
use Rattle.std.specs.Hash as fed
use Rattle.std.specs.Hash.{HashWrites}

mutual
  pub data Content : Type 0 where
    unit : Content
    boolean : Bool → Content
    integer : ℤ → Content
    character : ℕ → Content
    text : List ℕ → Content
    range : ℤ → ℤ → Content
    range_inclusive : ℤ → ℤ → Content
    array : Items → Content
    blob : List ℕ → Content
    object_map : Entries → Content
    fn_ptr : List ℕ → Items → Content
    host : List ℕ → ℕ → Content
    -- the bits of a float
    float : ℕ → Content

  pub data Items : Type 0 where
    no_items : Items
    item : Content → Items → Items

  -- the entries of a map, in the order of their keys
  pub data Entries : Type 0 where
    no_entries : Entries
    entry : List ℕ → Content → Entries → Entries

abbrev mutual
  -- the same kind and the same content
  pub same : Content → Content → Bool
  same unit unit = true
  same (boolean b) (boolean c) = beq b c
  same (integer z) (integer w) = int_eq z w
  same (character n) (character m) = n == m
  same (text xs) (text ys) = bytes_eq xs ys
  same (range a b) (range c d) = int_eq a c && int_eq b d
  same (range_inclusive a b) (range_inclusive c d) = int_eq a c && int_eq b d
  same (array xs) (array ys) = same_items xs ys
  same (blob xs) (blob ys) = bytes_eq xs ys
  same (object_map es) (object_map fs) = same_entries es fs
  same (fn_ptr n xs) (fn_ptr m ys) = bytes_eq n m && same_items xs ys
  same (host t i) (host u j) = bytes_eq t u && i == j
  same (float n) (float m) = n == m
  same _ _ = false

  pub same_items : Items → Items → Bool
  same_items no_items no_items = true
  same_items (item x xs) (item y ys) = same x y && same_items xs ys
  same_items _ _ = false

  pub same_entries : Entries → Entries → Bool
  same_entries no_entries no_entries = true
  same_entries (entry k x es) (entry l y fs) = bytes_eq k l && same x y && same_entries es fs
  same_entries _ _ = false

abbrev mutual
  -- what can be a case of a switch: no value of the host, at any depth
  pub hashable : Content → Bool
  hashable unit = true
  hashable (boolean b) = true
  hashable (integer z) = true
  hashable (character n) = true
  hashable (text xs) = true
  hashable (range a b) = true
  hashable (range_inclusive a b) = true
  hashable (array xs) = hashable_items xs
  hashable (blob xs) = true
  hashable (object_map es) = hashable_entries es
  hashable (fn_ptr n xs) = hashable_items xs
  hashable (host t i) = false
  hashable (float n) = true

  pub hashable_items : Items → Bool
  hashable_items no_items = true
  hashable_items (item x xs) = hashable x && hashable_items xs

  pub hashable_entries : Entries → Bool
  hashable_entries no_entries = true
  hashable_entries (entry k x es) = hashable x && hashable_entries es

abbrev pub item_count : Items → ℕ
item_count no_items = 0
item_count (item x xs) = item_count xs + 1

abbrev pub entry_count : Entries → ℕ
entry_count no_entries = 0
entry_count (entry k x es) = entry_count es + 1

abbrev mutual
  -- what a hash is fed: the kind, and then the content
  pub hash_writes : Content → HashWrites
  hash_writes unit = fed.u8 0
  hash_writes (boolean b) = fed.u8 1 ++ fed.bool b
  hash_writes (integer z) = fed.u8 2 ++ fed.i64 z
  hash_writes (character n) = fed.u8 3 ++ fed.char n
  hash_writes (text xs) = fed.u8 4 ++ fed.str xs
  hash_writes (range a b) = fed.u8 5 ++ fed.i64 a ++ fed.i64 b
  hash_writes (range_inclusive a b) = fed.u8 6 ++ fed.i64 a ++ fed.i64 b
  hash_writes (array xs) = fed.u8 7 ++ (fed.usize (item_count xs) ++ items_writes xs)
  hash_writes (blob xs) = fed.u8 8 ++ fed.slice fed.u8 xs
  hash_writes (object_map es) = fed.u8 9 ++ (fed.usize (entry_count es) ++ entries_writes es)
  hash_writes (fn_ptr n xs) = fed.u8 10 ++ fed.str n ++ (fed.usize (item_count xs) ++ items_writes xs)
  hash_writes (host t i) = fed.u8 11 ++ fed.str t ++ fed.u64 i
  hash_writes (float n) = fed.u8 12 ++ fed.u64 n

  pub items_writes : Items → HashWrites
  items_writes no_items = []
  items_writes (item x xs) = hash_writes x ++ items_writes xs

  pub entries_writes : Entries → HashWrites
  entries_writes no_entries = []
  entries_writes (entry k x es) = fed.str k ++ hash_writes x ++ entries_writes es

-- how many there are, and then each
abbrev pub counted_items_writes : Items → HashWrites
counted_items_writes xs = fed.usize (item_count xs) ++ items_writes xs

abbrev pub counted_entries_writes : Entries → HashWrites
counted_entries_writes es = fed.usize (entry_count es) ++ entries_writes es
