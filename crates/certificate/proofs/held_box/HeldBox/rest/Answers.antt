-- Squares, and twice what pairs and singles charge, added.
use Rattle.std.proofs.Common.{◌*◌, length, lit≤}
use Rattle.factoring.specs.Factoring.{entry_limit}
use Rattle.factoring.specs.Stored.{parts_at}
use Rattle.certificate.specs.Charges.{squares_charge}
use Rattle.certificate.specs.Ready.{mixed_charge}
use Rattle.certificate.proofs.ChargeSizes.{squares_charge_size}
use Rattle.certificate.proofs.BudgetTables.{mixed_size, mixed_size_lem}
use Rattle.certificate.proofs.SmallNumbers.{Small, small_fits, kept, plus, scale_small}
use Rattle.certificate.proofs.held_box.HeldBox.rest.Goals as goal
use Rattle.certificate.proofs.held_box.HeldBox.rest.Goals.{After-mixed-mixed}

-- each part, with its size
module _ (c : After-mixed-mixed) where
  squares : Small c.squares-squares.result (squares_charge (length c.args.self.spans.now) c.args.self.spans.now (parts_at c.args.rest.now).squares) (9 * (entry_limit * 16777216))
  squares = record { value = c.squares-squares.ensures; size = squares_charge_size _ entry_limit _ _ c.args.self.is_box c.requires.squares }

  mixed : Small c.mixed-mixed.result (mixed_charge (length c.args.self.spans.now) c.args.self.spans.now (parts_at c.args.rest.now)) mixed_size
  mixed = record { value = c.mixed-mixed.ensures; size = mixed_size_lem c.args.self.is_box (parts_at c.args.rest.now) c.requires }

pub overflow_mul-result : goal.overflow_mul-result
overflow_mul-result c = small_fits (scale_small 2 (kept (mixed c) (lit≤ tt))) (lit≤ tt)

pub overflow_add-result : goal.overflow_add-result
overflow_add-result c = small_fits (plus (squares c) (scale_small 2 (kept (mixed c) (lit≤ tt))) (lit≤ tt) (lit≤ tt)) (lit≤ tt)

pub returns : goal.returns
returns c = (kept (plus (squares c) (scale_small 2 (kept (mixed c) (lit≤ tt))) (lit≤ tt) (lit≤ tt)) (lit≤ tt)).value
