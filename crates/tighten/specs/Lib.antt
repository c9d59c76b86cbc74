pub mod Contents
pub mod Descriptions
pub mod Calls
pub mod Runs
pub mod Obeying
