pub mod Defined
mod Wholes
