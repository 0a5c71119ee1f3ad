-- Against schedules, from a pool that stands as prepare leaves it: the charges of a whole list of calls beside what any schedule pays for the same
-- node requests. Assumes nothing.
use Rattle.std.specs.Prelude.{refl, List, [], map, ℕ, ◌+◌, ◌-◌, ◌*◌, ◌≤◌}
use Rattle.laws.specs.Every.{Every}
use Rattle.laws.specs.Update.{sum}
use Rattle.layout.specs.Layout.{node_limit}
use Rattle.account.specs.declared.Mode.TheVariants.{Log, Disk}
use Rattle.account.specs.declared.Tariff.{Tariff}
use Rattle.account.specs.Tariff.{switch_to}
use Rattle.account.specs.Range.{limit_some}
use Rattle.account.specs.Schedule.{Schedule}
use Rattle.tree.specs.NodeRequest.{NodeRequest}
use Rattle.book.specs.Schedule.{paid}
use Rattle.book.specs.Bound.{charges_sharp, charges_bound}
use Rattle.model.specs.Prepare.{first_book}
use Rattle.model.specs.Pool.{blocks_of}
use Rattle.model.specs.Outcome.{charge}
use Rattle.model.specs.Call.{Call}
use Rattle.model.specs.Calls.{outcomes, fed, last_book, all_requests}
use Rattle.demands.specs.CallBytes.{CallBytes}
use Rattle.demands.specs.OneCall.{OpenPool}
use Rattle.demands.specs.AllCalls.{AllCalled, all_called}

module _ {t : Tariff} (pool : List ℕ) (o : OpenPool t pool first_book []) (cs : List Call) (bytes : Every CallBytes cs) (plan : Schedule) where
  abbrev asked : List NodeRequest
  asked = all_requests (blocks_of pool) t (fed pool cs) first_book

  abbrev nodes : ℕ
  nodes = (last_book (blocks_of pool) t (fed pool cs) first_book).count

  d : AllCalled t pool cs first_book []
  d = all_called cs pool first_book [] bytes o

  pub bound_sharp : sum (map charge (outcomes pool cs)) ≤ 3 * paid t plan asked 1 + (switch_to t Log - switch_to t Disk) * nodes
  bound_sharp =
      rw d.total
      (charges_sharp (node_limit (blocks_of pool)) t (limit_some o.ready.ranged) plan asked first_book nodes d.fits (λ n l. refl))

  pub bound : sum (map charge (outcomes pool cs)) ≤ 3 * paid t plan asked 1 + switch_to t Log * nodes
  bound =
      rw d.total
      (charges_bound (node_limit (blocks_of pool)) t (limit_some o.ready.ranged) plan asked first_book nodes d.fits (λ n l. refl))
