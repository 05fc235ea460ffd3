pub mod Strings
pub mod Refusals
pub mod Numbers
