pub mod Delivery
pub mod Sending
