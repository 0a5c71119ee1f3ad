-- What a batch is charged fits in 64 bits, and by far: a request costs at most 2,000,000, a command makes at most 652 of them, and a batch has at most
-- 10,922 commands. Assumes nothing.
use Rattle.std.specs.Prelude.{List, [], ◌∷◌, ℕ, ◌*◌, ◌^◌, ◌≤◌, ◌<◌, length}
use native.Mathlib.Omega.{arith}
use Rattle.std.proofs.Common.{length-append}
use Rattle.layout.specs.Layout.{most_nodes}
use Rattle.account.specs.declared.Request.TheVariants.{Read, Edit, Rewrite}
use Rattle.account.specs.declared.Tariff.{Tariff}
use Rattle.account.specs.Range.{Ranged}
use Rattle.account.specs.ServeLaws.{most_charge, serve_most}
use Rattle.pairs.specs.Pairs.{Pair}
use Rattle.command.specs.declared.Command.{Command}
use Rattle.command.specs.Batch.{ValidAll}
use Rattle.tree.specs.NodeRequest.{NodeRequest, read, edit, rewrite, create}
use Rattle.book.specs.Book.{Book, serve, charge, charges}
use Rattle.book.specs.Command.{most_requests, requests, refuses, answer}
use Rattle.book.specs.Session.{Session}
use Rattle.book.specs.SessionAfter.{session_after}
use Rattle.book.specs.Batch.{done_book, requests_book}
use Rattle.book.specs.OrderedMap.{map_after}
use Rattle.demands.specs.Run.{Holds, command_holds}
use Rattle.demands.specs.RequestCount.{command_length}
use Rattle.demands.specs.BatchFits.{most_commands}

abbrev pub most_batch_charge : ℕ
most_batch_charge = most_charge * (most_requests most_nodes * most_commands)

pub batch_charge-fits : most_batch_charge < 2 ^ 44
batch_charge-fits = omega arith

module _ (t : Tariff) (ranged : Ranged t) where
  charge_most : (r : NodeRequest) (b : Book) → charge t r b ≤ most_charge
  unfolding charge
  charge_most (read id) b = serve_most t (b.account id) Read ranged
  charge_most (edit id c) b = serve_most t (b.account id) Edit ranged
  charge_most (rewrite id x) b = serve_most t (b.account id) Rewrite ranged
  charge_most (create id x) b = omega arith

  charges_most : (rs : List NodeRequest) (b : Book) → charges t rs b ≤ most_charge * length rs
  charges_most [] b = omega arith
  charges_most (r ∷ rs) b = omega (arith, charge_most r b, charges_most rs (serve t r b))

-- A batch on a book that spells a map.
module _ (limit : ℕ) (small : limit ≤ most_nodes) where
  requests_few : (cs : List Command) (n : Session) (b : Book) (ps : List Pair) → ValidAll cs → Holds limit b ps →
      length (requests_book limit cs n b) ≤ most_requests most_nodes * length cs
  requests_few [] n b ps valid h = omega arith
  requests_few (c ∷ cs) n b ps valid h =
      let m = session_after c (answer limit n c b) n in
      let b' = done_book limit n c b in
      omega (
        arith,
        length-append (requests limit n c b) (requests_book limit cs m b'),
        command_length limit n c b ps h.spells (omega (arith, h.most)) valid.0,
        h.most,
        requests_few cs m b' (map_after n (refuses limit n c b) c ps) valid.1 (command_holds limit (omega arith) n c b ps valid.0 h),
      )

  pub batch_charge : (cs : List Command) (n : Session) (b : Book) (ps : List Pair) → Ranged n.tariff → ValidAll cs → Holds limit b ps →
      length cs ≤ most_commands → charges n.tariff (requests_book limit cs n b) b ≤ most_batch_charge
  batch_charge cs n b ps ranged valid h few =
      omega (arith, charges_most n.tariff ranged (requests_book limit cs n b) b, requests_few cs n b ps valid h, few)
