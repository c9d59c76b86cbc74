-- Rounding, sums and ranges, and what characterises them.
pub mod Division
pub mod Magnitudes
pub mod Sums
pub mod Ranges
pub mod Roots
pub mod Laws
