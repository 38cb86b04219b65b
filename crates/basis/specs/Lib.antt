pub mod Figures
pub mod Layers
pub mod StraightLine
pub mod Layered
pub mod Listed
pub mod StraightLines
