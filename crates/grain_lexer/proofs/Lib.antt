-- lemmas
pub mod Fronts
pub mod ReadNumbers
pub mod SameOperators
pub mod Unblanked
