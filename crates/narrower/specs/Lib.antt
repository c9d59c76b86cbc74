-- What narrowers mean, refuse and answer, the rule of one row, the layers, and the laws that each of these narrowers shows, with their lemmas.
pub mod Maps
pub mod Narrowings
pub mod Faults
pub mod Answers
pub mod OneRow
pub mod Cuts
pub mod Examples
pub mod Layers
pub mod Rounds
pub mod Joins
pub mod RowLaws
pub mod RowEnclosures
pub mod RowTerms
pub mod Meetings
pub mod Good
pub mod LayerLaws
