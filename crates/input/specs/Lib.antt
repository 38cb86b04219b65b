pub mod Number
pub mod Repeated
