pub mod Bands
pub mod Table
pub mod Lawful
