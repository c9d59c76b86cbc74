-- How the code of the one-row narrower and of the layers comes to the definitions, and lemmas on answers for the crates above.
pub mod WorkedRows
pub mod Answering
mod CodeRanges
mod CutSteps
mod PairSteps
mod RoundSteps
mod StarSteps
