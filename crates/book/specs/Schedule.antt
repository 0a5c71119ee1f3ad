-- Schedules over the node requests of a book: each is an event of the accounts, a request of its node or a node made. Assumes nothing.
use Rattle.std.specs.Prelude.{List, map, ℕ}
use Rattle.account.specs.declared.Mode.TheVariants.{Log}
use Rattle.account.specs.declared.Request.TheVariants.{Read, Edit, Rewrite}
use Rattle.account.specs.declared.Tariff.{Tariff}
use Rattle.account.specs.Schedule.{Schedule}
use Rattle.account.specs.Events.{Event, asks, makes, paid_all}
use Rattle.tree.specs.NodeRequest.{NodeRequest, read, edit, rewrite, create}

abbrev pub event_of : NodeRequest → Event
event_of (read id) = asks id Read
event_of (edit id c) = asks id Edit
event_of (rewrite id n) = asks id Rewrite
event_of (create id n) = makes

abbrev pub events_of : List NodeRequest → List Event
events_of rs = map event_of rs

-- What a schedule pays for a list of node requests, where so many nodes were there before, each in log mode: "It pays the request in
-- that mode, and the switch where the node's mode before, log at first, was the other."
abbrev pub paid : Tariff → Schedule → List NodeRequest → ℕ → ℕ
paid t plan rs count = paid_all t plan (events_of rs) 0 count (λ n. Log)
