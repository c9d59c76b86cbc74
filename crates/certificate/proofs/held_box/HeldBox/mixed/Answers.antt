-- Pairs and singles, added.
use Rattle.std.proofs.Common.{◌+ℤ◌, length, lit≤}
use Rattle.factoring.specs.Factoring.{entry_limit}
use Rattle.factoring.specs.Sizes.{singles_bound}
use Rattle.factoring.specs.Stored.{parts_at}
use Rattle.certificate.specs.Ready.{mixed_charge}
use Rattle.certificate.proofs.ChargeSizes.{pairs_charge_size, singles_charge_size}
use Rattle.certificate.proofs.BudgetTables.{mixed_size}
use Rattle.certificate.proofs.SmallNumbers.{Small, back, small_fits, kept, plus}
use Rattle.certificate.proofs.held_box.HeldBox.mixed.Goals as goal
use Rattle.certificate.proofs.held_box.HeldBox.mixed.Goals.{After-singles}

-- the two, with their size
both : (c : After-singles) → Small (back c.pairs.result +ℤ back c.singles.result) (mixed_charge (length c.args.self.spans.now) c.args.self.spans.now (parts_at c.args.terms.now)) mixed_size
both c =
    plus (record { value = c.pairs.ensures; size = pairs_charge_size _ entry_limit _ _ c.args.self.is_box c.requires.pairs })
    (record { value = c.singles.ensures; size = singles_charge_size _ (singles_bound 9) _ _ c.args.self.is_box c.requires.singles }) (lit≤ tt) (lit≤ tt)

pub overflow_add-result : goal.overflow_add-result
overflow_add-result c = small_fits (both c) (lit≤ tt)

pub returns : goal.returns
returns c = (kept (both c) (lit≤ tt)).value
