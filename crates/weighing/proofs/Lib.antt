-- The lemmas on weighted sums, for this crate and those above it.
pub mod Forms
pub mod Usable
pub mod Aggregates
pub mod SumsFit
pub mod MarkSteps
pub mod Adding
pub mod Tables
pub mod Chains
