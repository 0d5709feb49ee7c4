-- Numbers in groups of seven bits, the lowest group first (LEB128). Bytes are below 256 wherever a contract speaks of
-- them, so that no definition asks it.
use Rattle.std.specs.Prelude.{◌≡◌, ℕ, ◌+◌, ◌*◌, ◌%◌, ◌^◌, ◌<◌, ◌≤◌, ◌⊎◌, ℤ, pos, negsuc, List, [], ◌∷◌, ◌++◌, length, take, drop, sum_by, slice_index, slice_range, All, Result, Ok, Err, codes}
use Rattle.std.specs.List.{enumerate_from}
use Rattle.grain_base.specs.declared.varint.Error.{Error}
use Rattle.grain_base.specs.declared.varint.Error.TheVariants.{Truncated, Overflow}

-- All groups but the last have the bit 0x80, which says that another follows.
abbrev pub AreGroups : List ℕ → Type 0
AreGroups [] = ⊥
AreGroups (byte ∷ []) = byte < 0x80
AreGroups (byte ∷ next ∷ bytes) = (0x80 ≤ byte) × AreGroups (next ∷ bytes)

-- the number that groups stand for: the low seven bits of the k-th count 128 to the power k
abbrev pub number_of : List ℕ → ℕ
number_of bytes = sum_by (λ group. group.1 % 128 * 128 ^ group.0) (enumerate_from 0 bytes)

-- The bytes are one to ten groups, a tenth is 0 or 1, and they stand for the number.
pub record Spells (bytes : List ℕ) (n : ℕ) : Type 0 where
  pub groups : AreGroups bytes
  pub at_most_ten : length bytes ≤ 10
  pub tenth : slice_index bytes 9 ≤ 1
  pub number : number_of bytes ≡ n

-- the bytes spell the number, and no spelling of it is shorter
pub record IsShortest (bytes : List ℕ) (n : ℕ) : Type 0 where
  pub spelled : Spells bytes n
  pub least : (other : List ℕ) → Spells other n → length bytes ≤ length other

-- new is old followed by the shortest encoding of the number
abbrev pub AppendsShortest : List ℕ → List ℕ → ℕ → Type 0
AppendsShortest old new n = (spelling : List ℕ) × (new ≡ old ++ spelling) × IsShortest spelling n

-- The number that encodes a signed number v: 2v if v is at least 0, else -2v - 1, which for -(m + 1) is 2m + 1.
abbrev pub zigzag : ℤ → ℕ
zigzag (pos m) = 2 * m
zigzag (negsuc m) = 2 * m + 1

-- the bytes from one place up to another spell the number
abbrev pub NumberStandsAt : List ℕ → ℕ → ℕ → ℕ → Type 0
NumberStandsAt bytes from n to = (to ≤ length bytes) × Spells (slice_range bytes from to) n

-- fewer than ten bytes, each of which says that another follows
abbrev pub IsCutShort : List ℕ → Type 0
IsCutShort bytes = (length bytes < 10) × All (λ byte. 0x80 ≤ byte) bytes

-- no spelling stands at the front of the bytes
abbrev pub NoneStands : List ℕ → Type 0
NoneStands bytes = (taken n : ℕ) → Spells (take taken bytes) n → ⊥

-- what is wrong with bytes at whose front no spelling stands
abbrev pub NumberFlaw : List ℕ → Error → Type 0
NumberFlaw bytes Truncated = IsCutShort bytes
NumberFlaw bytes Overflow = NoneStands bytes × ¬ IsCutShort bytes

-- the same if the number has to fit u32
abbrev pub U32Flaw : List ℕ → Error → Type 0
U32Flaw bytes Truncated = IsCutShort bytes
U32Flaw bytes Overflow = NumberFlaw bytes Overflow ⊎ ((taken n : ℕ) × Spells (take taken bytes) n × (2 ^ 32 ≤ n))

-- what is printed of an error
abbrev pub number_error_text : Error → List ℕ
number_error_text Truncated = codes "number ends before its last group"
number_error_text Overflow = codes "number is too wide to read"

-- what reading the number at a place of the bytes gives, and where the cursor stands after it
abbrev pub ReadsNumber : List ℕ → ℕ → Result ℕ Error → ℕ → Type 0
ReadsNumber bytes from (Ok n) to = NumberStandsAt bytes from n to
ReadsNumber bytes from (Err error) to = NumberFlaw (drop from bytes) error × (to ≡ from + length (take 10 (drop from bytes)))

-- The numbers stand at the front of the bytes, one after another, each spelled as the relation says, and then the rest
-- follows.
abbrev pub AreSpelled : (List ℕ → ℕ → Type 0) → List ℕ → List ℕ → List ℕ → Type 0
AreSpelled By bytes [] rest = bytes ≡ rest
AreSpelled By bytes (n ∷ ns) rest = (spelling after : List ℕ) × (bytes ≡ spelling ++ after) × By spelling n × AreSpelled By after ns rest

-- any spellings of numbers that fit u32, and then the rest
abbrev pub BeginsNumbers : List ℕ → List ℕ → List ℕ → Type 0
BeginsNumbers bytes ns rest = AreSpelled (λ spelling n. Spells spelling n × (n < 2 ^ 32)) bytes ns rest

-- the bytes are these numbers, each in its shortest spelling
abbrev pub AreShortest : List ℕ → List ℕ → Type 0
AreShortest bytes ns = AreSpelled IsShortest bytes ns []
