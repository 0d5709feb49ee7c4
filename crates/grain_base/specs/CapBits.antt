-- A set of capabilities as a number: each capability has a bit of its own.
use Rattle.std.specs.Prelude.{ℕ, List, [], ◌∷◌, codes}
use Rattle.bitflags.specs.Sets.{Row, without}
use Rattle.grain_base.specs.declared.caps.Caps.{Caps}

abbrev pub FUNCTION : ℕ
FUNCTION = 0x0001

abbrev pub ARRAY : ℕ
ARRAY = 0x0002

abbrev pub BLOB : ℕ
BLOB = 0x0004

abbrev pub MAP : ℕ
MAP = 0x0008

abbrev pub FN_PTR : ℕ
FN_PTR = 0x0010

abbrev pub CURRYING : ℕ
CURRYING = 0x0020

abbrev pub SHARING : ℕ
SHARING = 0x0040

abbrev pub THIS : ℕ
THIS = 0x0080

abbrev pub INDEXING : ℕ
INDEXING = 0x0100

abbrev pub PROPERTY : ℕ
PROPERTY = 0x0200

abbrev pub METHOD : ℕ
METHOD = 0x0400

abbrev pub MODULE : ℕ
MODULE = 0x0800

abbrev pub EXPORT : ℕ
EXPORT = 0x1000

abbrev pub IMPORT : ℕ
IMPORT = 0x2000

abbrev pub CUSTOM_SYNTAX : ℕ
CUSTOM_SYNTAX = 0x4000

-- the capabilities by name
abbrev pub caps_table : List Row
caps_table =
    (codes "FUNCTION", FUNCTION) ∷ (codes "ARRAY", ARRAY) ∷ (codes "BLOB", BLOB) ∷ (codes "MAP", MAP)
    ∷ (codes "FN_PTR", FN_PTR) ∷ (codes "CURRYING", CURRYING) ∷ (codes "SHARING", SHARING) ∷ (codes "THIS", THIS)
    ∷ (codes "INDEXING", INDEXING) ∷ (codes "PROPERTY", PROPERTY) ∷ (codes "METHOD", METHOD) ∷ (codes "MODULE", MODULE)
    ∷ (codes "EXPORT", EXPORT) ∷ (codes "IMPORT", IMPORT) ∷ (codes "CUSTOM_SYNTAX", CUSTOM_SYNTAX) ∷ []

-- the number whose bits are the set
abbrev pub set_of : Caps → ℕ
set_of caps = caps.0

-- the capabilities that are asked and aren't there
abbrev pub missing : ℕ → ℕ → ℕ
missing caps asked = without 16 asked caps
