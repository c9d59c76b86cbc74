-- The ratio and its root are those of the definition, and small.
use Rattle.std.proofs.Common.{◌≡◌, ◌*◌, min, pos, nat_abs, ap, ◌∙◌, arith, w64, SFits}
use borrow.Author.Differences.{ints}
use Rattle.std.proofs.lemmas.Int.{to_z-of_z}
use Rattle.numbers.specs.Division.{up}
use Rattle.numbers.specs.Roots.{root_limit, root_up}
use Rattle.certificate.specs.Budgets.{root_of}
use Rattle.certificate.proofs.CutRanges.{root_is, root_size}
use Rattle.certificate.proofs.cuts.root_of.Goals as goal
use Rattle.certificate.proofs.cuts.root_of.Goals.{After-root_up}

-- the root of the code is that of the definition
root : (c : After-root_up) → pos c.root_up.result ≡ root_of c.args.budget c.args.pivot.value
root c =
    let f : SFits w64 c.up_by.result = record { sfits = c.up_by.type_inv } in
    root_is c.args.budget c.args.pivot.value c.up_by.result c.root_up.result
    (c.up_by.ensures ∙ ap (λ z. up z c.args.pivot.value) (to_z-of_z w64 c.args.budget c.ranges.budget))
    (c.root_up.ensures.value ∙ ap (λ m. root_up (min (256 * m) root_limit)) (c.min-ratio.ensures ∙ ap (λ m. min m 2147483648) (c.unsigned_abs.ensures.value ∙ ap nat_abs (to_z-of_z w64 c.up_by.result f))))

pub overflow_cast-result : goal.overflow_cast-result
overflow_cast-result c =
    let e = root c in
    let s = root_size c.args.budget c.args.pivot.value in
    omega (arith, ints)

pub returns : goal.returns
returns c =
    let e = root c in
    let s = root_size c.args.budget c.args.pivot.value in
    omega (arith, ints)
