-- lemmas
pub mod Appended
pub mod DeclaredDepths
pub mod MadeAssignOps
pub mod PoolEntries
