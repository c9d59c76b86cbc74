-- The laws of the factoring, for its functions and the crates above.
pub mod StepTests
pub mod StepSizes
pub mod StoredTests
pub mod OrderTests
pub mod Dominating
pub mod Fits
pub mod Searches
pub mod Choices
pub mod StepBounds
pub mod Agreeing
pub mod FactorRuns
pub mod SmallSizes
pub mod OrderSteps
pub mod Making
