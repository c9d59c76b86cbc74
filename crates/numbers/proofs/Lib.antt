-- The ring solver, the laws of ℤ, and the lemmas on rounding, sums and ranges, for this crate and those above it.
pub mod Laws
pub mod Ring
pub mod Order
pub mod Examples
pub mod Division
pub mod Sums
pub mod Splits
pub mod Magnitudes
pub mod SquareRoots
pub mod Products
pub mod Enclosures
pub mod Squares
pub mod Quotients
pub mod Held
pub mod Folds
pub mod Characters
pub mod Cuts
