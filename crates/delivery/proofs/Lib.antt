pub mod Rates
pub mod Fronts
pub mod Hearings
pub mod Cleans
pub mod Living
pub mod Whole
