-- The laws of the machine's numbers.
pub mod AxisLaws
pub mod Bounds
pub mod CapCauses
pub mod CapLaws
pub mod Dots
pub mod Junctions
pub mod Labels
pub mod LengthLaws
pub mod Limited
pub mod RampLaws
pub mod Rampables
pub mod Reaches
pub mod Runs
pub mod Spans
pub mod TorqueLaws
