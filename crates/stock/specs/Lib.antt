pub mod Slots
pub mod Register
pub mod Law
pub mod Told
pub mod Handed
pub mod Stocks
pub mod Runs
pub mod Printed
