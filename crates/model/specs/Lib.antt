-- Limits, boxes, rows and points, and what the tests of them say.
pub mod Limits
pub mod Firsts
pub mod Boxes
pub mod Rows
pub mod Drafts
pub mod Sums
pub mod Points
pub mod Laws
