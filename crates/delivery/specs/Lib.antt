pub mod Refusals
pub mod Plans
pub mod Frames
pub mod Calls
pub mod Lives
pub mod Delivery
