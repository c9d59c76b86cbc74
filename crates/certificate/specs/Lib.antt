-- The certificate: what its squares may come to on a box, where that leaves each coordinate, what a check writes,
-- and the laws that the narrower of it shows, with their lemmas.
pub mod Charges
pub mod Budgets
pub mod Ready
pub mod Maps
pub mod Certificates
pub mod Checks
pub mod Laws
pub mod Cutting
pub mod Cases
pub mod CertificateLaws
pub mod SquareSteps
pub mod BudgetBounds
pub mod FittingSums
pub mod CutLaws
pub mod CertificateNarrowerLemmas
