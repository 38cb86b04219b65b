pub mod Book
pub mod Table
