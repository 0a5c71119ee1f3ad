-- A batch in the reference model: its commands in turn. Assumes nothing.
use Rattle.std.specs.Prelude.{List, ℕ}
use Rattle.command.specs.declared.Command.{Command}
use Rattle.tree.specs.NodeRequest.{NodeRequest}
use Rattle.book.specs.Book.{Book, serve_all, after_each, charges}
use Rattle.book.specs.Command.{requests, answer}
use Rattle.book.specs.Session.{Session}
use Rattle.book.specs.InTurn.{each_panel, after_all, in_row, charge_on}

module _ (limit : ℕ) where
  -- A command in a session: the book after it, and what all its node requests are charged, their switches with them.
  abbrev pub done_book : Session → Command → Book → Book
  done_book n c b = serve_all n.tariff (requests limit n c b) b

  abbrev pub cost_book : Session → Command → Book → ℕ
  cost_book n c b = charges n.tariff (requests limit n c b) b

  -- After a batch: the book, the books passed after each node request, all node requests in a row, the charge of one panel and of each.
  abbrev pub run_book : List Command → Session → Book → Book
  run_book = after_all (answer limit) done_book

  abbrev pub books_passed : List Command → Session → Book → List Book
  books_passed = in_row (answer limit) done_book (λ n c b. after_each n.tariff (requests limit n c b) b)

  abbrev pub requests_book : List Command → Session → Book → List NodeRequest
  requests_book = in_row (answer limit) done_book (requests limit)

  abbrev pub charge_book : ℕ → List Command → Session → Book → ℕ
  charge_book = charge_on (answer limit) done_book cost_book

  abbrev pub charges_book : List Command → Session → Book → List ℕ
  charges_book cs n b = each_panel (λ q. charge_book q cs n b)
