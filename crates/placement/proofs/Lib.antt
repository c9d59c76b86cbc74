-- The lemmas on making a placement, on narrowing it and checking by it, and on runs of calls.
pub mod Making
pub mod Answering
pub mod Walking
pub mod NewPlacements
pub mod RunLaws
pub mod OwnNarrowers
pub mod WholeOrders
pub mod AcceptedChecks
pub mod RunPromises
pub mod RunWitnesses
mod CallLists
pub mod Checking
