pub mod Sequence
pub mod Scrambling
pub mod Checking
pub mod Folds
