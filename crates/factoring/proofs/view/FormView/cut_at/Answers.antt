-- The parts are those of the form.
use Rattle.std.proofs.Common.{pos, refl, rules}
use Rattle.factoring.proofs.Fits.{returned}
use Rattle.factoring.proofs.StepBounds.{row_back, single_back, divisor_fits, single_fits}
use Rattle.factoring.proofs.view.FormView.cut_at.Goals as goal

pub shift-requires : goal.shift-requires
shift-requires c = record { small = divisor_fits c.requires.ready; inside = single_fits c.requires.ready }

pub returns : goal.returns
returns c =
    let r = c.requires.ready in
    let p = row_back r c.args.i r.inside in
    let e = single_back r in
    let s = returned c.shift.result c.shift.type_inv in
    record {
      axis = refl;
      cuts = record {
        pivot = p;
        slope = λ j l. let a = c.table.ensures j (pos 0) l in search rules;
        shift = cc;
      };
    }
