pub mod AllAllowed
pub mod BuildPremises
pub mod FormParts
pub mod LocatedPositions
pub mod PlacedPositions
pub mod Staying
pub mod StepParts
pub mod SwitchParts
