-- lemmas
pub mod Functions
pub mod Reporting
