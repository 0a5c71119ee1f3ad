-- The plain ordered map that demand 2 compares with: what each command answers, and the map after it. Of the book it is told one thing
-- only: which puts were refused with 9. Assumes nothing.
use Rattle.std.specs.Prelude.{Bool, List, ℕ}
use Rattle.laws.specs.Tests.{choose}
use Rattle.pairs.specs.Pairs.{Pair, lookup, insert, delete, range, ceiling}
use Rattle.command.specs.declared.Command.{Command}
use Rattle.command.specs.declared.Command.TheVariants.{Get, Put, Delete, Scan, Panel, Ceiling}
use Rattle.book.specs.Book.{Book}
use Rattle.book.specs.Command.{Reply, listed, silent, get_reply, put_reply, delete_reply, ceiling_reply, refuses}
use Rattle.book.specs.Command.{Task, looks, puts, deletes, names, task_of}
use Rattle.book.specs.Session.{Session}
use Rattle.book.specs.InTurn.{after_all, replies_to, replies_behind}
use Rattle.book.specs.Batch.{done_book}

-- What each command is answered in a session.
unfoldable pub map_answer : Session → Bool → Command → List Pair → Reply
map_answer n refused (Get k) ps = get_reply (lookup k ps)
map_answer n refused (Put k v) ps = put_reply refused (lookup k ps)
map_answer n refused (Delete k) ps = delete_reply (lookup k ps)
map_answer n refused (Scan low high most) ps = listed (range low high most ps)
map_answer n refused (Panel panel) ps = silent
map_answer n refused (Ceiling k) ps = ceiling_reply (ceiling k ps)

-- The map after a command: only a put that is not refused and a delete change it.
abbrev pub changed : Bool → Task → List Pair → List Pair
changed refused (looks l) ps = ps
changed refused (puts k v) ps = choose refused ps (insert k v ps)
changed refused (deletes k) ps = delete k ps
changed refused (names panel) ps = ps

unfoldable pub map_after : Session → Bool → Command → List Pair → List Pair
map_after n refused c ps = changed refused (task_of n c) ps

-- A batch: its commands in turn, on the map and the book that tells which puts are refused.
module _ (limit : ℕ) where
  abbrev reply : Session → Command → Book × List Pair → Reply
  reply n c x = map_answer n (refuses limit n c x.0) c x.1

  abbrev done : Session → Command → Book × List Pair → Book × List Pair
  done n c x = (done_book limit n c x.0, map_after n (refuses limit n c x.0) c x.1)

  abbrev pub map_answers : List Command → Session → Book → List Pair → List Reply
  map_answers cs n b ps = replies_to reply done cs n (b, ps)

  -- What commands are answered where they stand behind others.
  abbrev pub map_answers_behind : List Command → List Command → Session → Book → List Pair → List Reply
  map_answers_behind before cs n b ps = replies_behind reply done before cs n (b, ps)

  abbrev pub map_run : List Command → Session → Book → List Pair → List Pair
  map_run cs n b ps = (after_all reply done cs n (b, ps)).1
