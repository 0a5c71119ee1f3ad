use Rattle.std.proofs.Common.{◌-◌, ◌≤◌, ◌<◌, get_or}
use Rattle.node.proofs.search.find_in_replay.Given as goal

abbrev pub invariant-loop-low : goal.invariant-loop-low
invariant-loop-low l =
    ((l.low ≤ l.high) × (l.high ≤ l.count)) × ((0 < l.low → get_or l.keys (l.low - 1) 0 < l.key) × (l.high < l.count → l.key < get_or l.keys l.high 0))

abbrev pub decreases-loop-low : goal.decreases-loop-low
decreases-loop-low l = l.high - l.low
