pub mod Pile
pub mod Question
pub mod Piles
