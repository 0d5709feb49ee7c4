pub mod ArmLabels
pub mod LoopFacts
pub mod OneOf
pub mod PlaceTests
