-- The lemmas on firsts, boxes and rows, for this crate and those above it.
pub mod Firsts
pub mod Boxes
pub mod Chains
pub mod RowLimits
pub mod Same
