-- what hosts are shown, and of which kind faults are
pub mod Kinds
pub mod Shown
