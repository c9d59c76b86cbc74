-- The coordinates so far are cut, what is left is a box, and the row's sum over it is known.
use Rattle.std.proofs.Common.{◌≡◌, Some}
use Rattle.model.specs.Boxes.{IsBox}
use Rattle.model.specs.Drafts.{drafted}
use Rattle.narrower.specs.OneRow.{total, up_to}
use Rattle.narrower.proofs.one_row.narrow_all.Given as goal

abbrev pub invariant-loop-i : goal.invariant-loop-i
invariant-loop-i l =
    IsBox l.row.draft.size l.spans × (l.sum ≡ total (drafted l.row.draft) l.spans) × (up_to (drafted l.row.draft) l.i l.initial.spans ≡ Some l.spans)
