-- Every run keeps its promises.
use Rattle.placement.specs.Promises.{EveryRunKeepsItsPromises}
use Rattle.placement.proofs.Walking.{runs_keep_size_and_rows, every_call_starts_where_the_last_ended, narrowings_give_what_the_map_gives, checks_and_readings_change_nothing, refused_calls_change_nothing, at_none_nothing_changes}
use Rattle.placement.proofs.NewPlacements.{new_placements_hold_what_was_handed_over}
use Rattle.placement.proofs.RunLaws.{the_last_box_lies_in_the_first, no_run_loses_a_point, settled_runs_agree}
use Rattle.placement.proofs.OwnNarrowers.{own_narrowers_speak_for_own_rows, own_narrowers_lose_nothing}
use Rattle.placement.proofs.WholeOrders.{whole_orders_are_orders}
use Rattle.placement.proofs.AcceptedChecks.{readings_and_checks_stay_the_same, dominant_weights_are_accepted}

-- all of them
pub every_run_keeps_its_promises : EveryRunKeepsItsPromises
every_run_keeps_its_promises = record {
  made = new_placements_hold_what_was_handed_over;
  constant = runs_keep_size_and_rows;
  in_turn = every_call_starts_where_the_last_ended;
  mapped = narrowings_give_what_the_map_gives;
  looks = checks_and_readings_change_nothing;
  refusals = refused_calls_change_nothing;
  at_none = at_none_nothing_changes;
  same_told = readings_and_checks_stay_the_same;
  inside = the_last_box_lies_in_the_first;
  keeping = no_run_loses_a_point;
  agreement = settled_runs_agree;
  orders = whole_orders_are_orders;
  dominance = dominant_weights_are_accepted;
  own = own_narrowers_speak_for_own_rows;
  own_keeping = own_narrowers_lose_nothing;
}
