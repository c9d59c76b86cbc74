-- The pivot times the shift, twice, over 256.
use Rattle.std.proofs.Common.{ℤ, pos, ap, ◌∙◌, lit≤}
use Rattle.numbers.specs.Division.{up}
use Rattle.factoring.specs.Factoring.{entry_limit}
use Rattle.factoring.specs.Stored.{step_at}
use Rattle.certificate.proofs.BudgetTables.{itself, gain_size_lem}
use Rattle.certificate.proofs.SmallNumbers.{small_fits, kept, mul_small}
use Rattle.certificate.proofs.budget.step_gain.Goals as goal

pub overflow_mul-cut : goal.overflow_mul-cut
overflow_mul-cut c = small_fits (mul_small (kept (itself _ entry_limit c.requires.pivot) (lit≤ tt)) (kept (itself _ 65536 c.requires.shift) (lit≤ tt))) (lit≤ tt)

pub overflow_mul-cut-2 : goal.overflow_mul-cut-2
overflow_mul-cut-2 c =
    let shift = kept (itself _ 65536 c.requires.shift) (lit≤ tt) in
    small_fits (mul_small (kept (mul_small (kept (itself _ entry_limit c.requires.pivot) (lit≤ tt)) shift) (lit≤ tt)) shift) (lit≤ tt)

pub returns : goal.returns
returns c =
    let shift = kept (itself _ 65536 c.requires.shift) (lit≤ tt) in
    let product = kept (mul_small (kept (mul_small (kept (itself _ entry_limit c.requires.pivot) (lit≤ tt)) shift) (lit≤ tt)) shift) (lit≤ tt) in
    (kept (record { value = c.up_by.ensures ∙ ap (λ (z : ℤ). up z (pos 256)) product.value; size = gain_size_lem (step_at c.args.step.now) c.requires }) (lit≤ tt)).value
