pub mod Exits
pub mod Filled
pub mod Lawfulness
pub mod Placed
pub mod RoundTrips
