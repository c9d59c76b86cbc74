-- Before each call the calls from it on are those handed over, what is left to do comes to the whole, and so do the refusals and what is told.
use Rattle.std.proofs.Common.{◌≡◌, ◌+◌, ◌≤◌, ◌++◌, map, take, drop}
use Rattle.placement.specs.States.{state_of}
use Rattle.placement.specs.Runs.{ends, refusals}
use Rattle.placement.specs.Calls.{act_of, tells_of, tells_each}
use Rattle.placement.proofs.placement.Placement.run.Given as goal

abbrev pub invariant-loop-i : goal.invariant-loop-i
invariant-loop-i g l =
    let m = g.N.Narrower.means in
    let X = l.initial.calls in
    let i = l.i in
    (drop i l.calls ≡ drop i X)
    × (l.refused ≤ i)
    × (l.refused + refusals (state_of l.self) (map (act_of m) (drop i X)) ≡ refusals (state_of l.initial.self) (map (act_of m) X))
    × (ends (state_of l.self) (map (act_of m) (drop i X)) ≡ ends (state_of l.initial.self) (map (act_of m) X))
    × (map (act_of m) l.calls ≡ map (act_of m) X)
    × (map tells_of (take i l.calls) ++ tells_each m (state_of l.self) (drop i X) ≡ tells_each m (state_of l.initial.self) X)
