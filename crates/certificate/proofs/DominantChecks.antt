-- Weights whose sums are dominant pass in every order that is not refused by itself.
use Rattle.weighing.proofs.SumsFit.{sums_fit_lem}
use Rattle.factoring.proofs.Dominating.{dominant_sums_pass}
use Rattle.certificate.specs.Checks.{sums_of}
use Rattle.certificate.specs.Laws.{DominantWeightsPass}

-- what passes for sums passes for the weights that made them
pub dominant_weights_pass : DominantWeightsPass
dominant_weights_pass n ws ds is size few bad weighed dominant place = rw weighed (dominant_sums_pass (sums_of n ws ds) (sums_fit_lem n ws ds size few bad weighed) dominant is place)
