pub mod Stepping
pub mod Calling
pub mod Framing
pub mod Listening
