-- Factoring a row into squares: forms, steps, orders, what is refused, what is stored, and what is promised.
pub mod Forms
pub mod Steps
pub mod Factoring
pub mod Orders
pub mod Sizes
pub mod Dominance
pub mod Stored
pub mod Made
pub mod Cuts
pub mod Taken
