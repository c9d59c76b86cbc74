-- What a placement holds, what making, narrowing, reading and checking it answer and leave, and what every run of calls keeps.
pub mod States
pub mod Makes
pub mod Narrows
pub mod Reads
pub mod Checks
pub mod Runs
pub mod Promises
pub mod Witnesses
pub mod Calls
