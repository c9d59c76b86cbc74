-- One row from many: what a weight list may be, the weighted sums, the marks, and what is promised of them.
pub mod Weights
pub mod Coefficients
pub mod Refusals
pub mod Marks
pub mod Weighed
pub mod Laws
