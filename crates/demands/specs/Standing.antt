-- A pool that stands, as the links speak of it: an open pool. Assumes nothing.
use Rattle.std.specs.Prelude.{List, ℕ}
use Rattle.account.specs.declared.Tariff.{Tariff}
use Rattle.pairs.specs.Pairs.{Pair}
use Rattle.book.specs.Book.{Book}
use Rattle.demands.specs.OneCall.{OpenPool, book_in-is}
use Rattle.demands.specs.Obeys.{obeys_stands, stands_obeys}
use Rattle.demands.specs.TheBook.Stands.{Stands}

pub stands_open : {t : Tariff} {pool : List ℕ} {b : Book} {ps : List Pair} → Stands t pool b ps → OpenPool t pool b ps
stands_open {b = b} s = obeys_stands s.obeys b s.book

pub open_stands : {t : Tariff} {pool : List ℕ} {b : Book} {ps : List Pair} → OpenPool t pool b ps → Stands t pool b ps
open_stands o = record { obeys = stands_obeys o; book = book_in-is o }
