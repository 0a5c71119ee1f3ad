-- The pools that demands 2 and 3 begin with: a pool obeys the layout, and spells a book and a map. Assumes nothing.
use Rattle.std.specs.Prelude.{◌≡◌, true, List, [], ℕ, Some}
use Rattle.laws.specs.BigEndian.{Bytes}
use Rattle.account.specs.declared.Tariff.{Tariff}
use Rattle.pairs.specs.Pairs.{Pair}
use Rattle.tree.specs.Spells.{map_of}
use Rattle.book.specs.Book.{Book}
use Rattle.model.specs.State.{State, book_of}
use Rattle.model.specs.Mount.{opened}
use Rattle.model.specs.Prepare.{first_book}
use Rattle.model.specs.Pool.{pool_length, mount_of}
use Rattle.model.specs.Call.{prepare_of}
use Rattle.model.specs.Calls.{book_in}
use Rattle.demands.specs.OneCall.{book_in-is}
use Rattle.demands.specs.Obeys.{Obeys, stands_obeys, opens_obeys}
use Rattle.demands.specs.PreparedPool.{prepare_stands}

pub record Stands (t : Tariff) (pool : List ℕ) (b : Book) (ps : List Pair) : Type 0 where
  pub obeys : Obeys pool t ps
  pub book : book_in pool ≡ Some b

-- "The first is on any pool that opens": such a pool stands, whoever wrote it ..
pub any_pool : (pool : List ℕ) → Bytes pool → pool_length pool ≡ true → (t : Tariff) (s : State) → mount_of pool ≡ opened t s →
    Stands t pool (book_of s) (map_of (book_of s).count (book_of s).table)
any_pool pool bytes size t s e = let x = opens_obeys pool bytes t s size e in record { obeys = x.obeys; book = x.book }

-- ".. after a prepare, node 0 alone, an empty leaf in log mode with score 0", and the empty map.
pub prepared : (pool : List ℕ) (t : Tariff) → (prepare_of pool t).number ≡ 0 → Stands t (prepare_of pool t).pool first_book []
prepared pool t e = let o = prepare_stands pool t e in record { obeys = stands_obeys o; book = book_in-is o }
