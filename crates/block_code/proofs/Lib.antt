pub mod Examples
pub mod Loops
pub mod Flips
pub mod Division
