-- What is known of an address table that is read with code.
use Rattle.std.proofs.Common.{◌≡◌, ◌≢◌, ℕ, List, [], ◌∷◌, length, refl, arith}
use Rattle.grain_base.proofs.Numbers.{begins_once, begins_flawless}
use Rattle.grain_base.specs.AddressTable.{Entry, Table}
use Rattle.grain_base.specs.Varint.{BeginsNumbers, U32Flaw}
use Rattle.grain_base.specs.declared.varint.Error.{Error as NumberError}

-- a table begins with the number of its entries
pub entry_count : (table : List ℕ) (list : List Entry) (count : ℕ) → Table table list → (rest : List ℕ) × BeginsNumbers table (count ∷ []) rest → count ≡ length list
entry_count table list count is begins = (begins_once table count (length list) begins.0 is.after begins.1 is.counted).0

pub countable : (table : List ℕ) (list : List Entry) (error : NumberError) → Table table list → U32Flaw table error → ⊥
countable table list error is flaw = begins_flawless table (length list) is.after error is.counted flaw

pub no_entries : (list : List Entry) → 0 ≡ length list → list ≡ []
no_entries [] none = refl
no_entries (entry ∷ list) none = absurd (omega arith)

pub some_entries : (table : List ℕ) (list : List Entry) (count : ℕ) → Table table list → count ≡ length list → count ≢ 0 → (entry : Entry) × (rest : List Entry) × Table table (entry ∷ rest)
some_entries table [] count is counted some = absurd (some counted)
some_entries table (entry ∷ rest) count is counted some = (entry, rest, is)
