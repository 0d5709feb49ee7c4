mod AlikeFlaws
mod AsciiNames
mod ChainRows
mod CodeOfRows
mod Explained
mod FieldSizes
mod FlatAlike
mod FlatIndices
mod FlatVerdicts
mod Flatness
mod HexDigits
mod Listed
mod ListedEntries
pub mod Redeclared
mod PoolsFlaws
mod RowEntries
mod RowParts
mod RowTests
mod StepRows
mod SwitchRows
mod SwitchFacts
mod Texts
pub mod ExplainedRoom
mod Wholes
pub mod VisitBounds
pub mod SlotRows
