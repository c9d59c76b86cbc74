-- The lemmas on certificates.
pub mod WorkedCases
pub mod TableMaps
pub mod ChargeSizes
pub mod StepCharges
pub mod OrderLengths
pub mod BudgetSizes
pub mod DominantChecks
mod CutRanges
mod CutSteps
mod SmallNumbers
mod FewSums
mod HeldTerms
mod BudgetTables
pub mod StoredBudgets
mod Telling
mod CheckSteps
