-- A command on a book, in a session: its node requests and its answer (document 01, "Commands and answers", "Nodes and tree"; document 02, P2 and P3).
-- Both the run over the flash store and the reference model ask these functions, so neither has requests or answers of its own. Assumes nothing.
use Rattle.std.specs.Prelude.{Bool, true, false, List, [], ◌∷◌, ◌++◌, map, ℕ, ◌+◌, Option, None, Some}
use Rattle.layout.specs.Layout.{last_key}
use Rattle.command.specs.declared.Command.{Command}
use Rattle.command.specs.declared.Command.TheVariants.{Get, Put, Delete, Scan, Panel, Ceiling}
use Rattle.pairs.specs.Pairs.{Pair, first}
use Rattle.command.specs.declared.Answer.{Answer}
use Rattle.command.specs.declared.Answer.TheVariants.{Absent, Got, Replaced, Deleted, Refused}
use Rattle.command.specs.Answer.{answer_bytes, scan_bytes, ceiling_bytes, value_or}
use Rattle.tree.specs.Table.{path}
use Rattle.tree.specs.NodeRequest.{NodeRequest, read}
use Rattle.tree.specs.Get.{get_answer}
use Rattle.tree.specs.Put.{put_requests, put_refused}
use Rattle.tree.specs.Delete.{delete_requests}
use Rattle.tree.specs.Scan.{scan_reads, scan_answer}
use Rattle.book.specs.Book.{Book}
use Rattle.book.specs.Session.{Session}

-- What a command asks at most of a tree of so many nodes, each read at most once, with room for what it writes and for commands to come.
abbrev pub most_requests : ℕ → ℕ
most_requests nodes = 32 + nodes

-- What a command is answered: one of the answers of 7 bytes or fewer, the pairs of a scan, the pair of a ceiling, or nothing.
pub data Reply : Type 0 where
  short : Answer → Reply
  listed : List Pair → Reply
  nearest : Pair → Reply
  silent : Reply

abbrev pub reply_bytes : Reply → List ℕ
reply_bytes (short a) = answer_bytes a
reply_bytes (listed ps) = scan_bytes ps
reply_bytes (nearest p) = ceiling_bytes p
reply_bytes silent = []

abbrev pub replies_bytes : List Reply → List ℕ
replies_bytes [] = []
replies_bytes (r ∷ rs) = reply_bytes r ++ replies_bytes rs

-- "Are enough node ids unused? (9)"
abbrev pub no_ids : ℕ
no_ids = 9

-- 80 where there is no such key, or for a put newly made; 81, 82 and 83 with the value, the old value, the value removed; 8F for a
-- put that is refused; "87 with route and word .., or 80 if none is at or above".
abbrev pub get_reply : Option ℕ → Reply
get_reply old = short (value_or Got old)

abbrev pub put_reply : Bool → Option ℕ → Reply
put_reply true old = short (Refused no_ids)
put_reply false old = short (value_or Replaced old)

abbrev pub delete_reply : Option ℕ → Reply
delete_reply old = short (value_or Deleted old)

abbrev pub ceiling_reply : Option Pair → Reply
ceiling_reply None = short Absent
ceiling_reply (Some p) = nearest p

-- A command that changes nothing: the nodes that it reads, in order, and what it is answered.
pub record Look : Type 0 where
  pub reads : Book → List ℕ
  pub reply : Book → Reply

-- "Every command reads the nodes from root to leaf": a look up those, and answers the value there.
abbrev get_look : ℕ → Look
get_look k = record { reads = λ b. path b.count b.table k 0; reply = λ b. get_reply (get_answer b.count b.table k) }

-- "A sweep then leaf after leaf by links."
abbrev scan_look : ℕ → ℕ → ℕ → Look
scan_look low high most =
    record {
      reads = λ b. scan_reads b.count b.table low high most;
      reply = λ b. listed (scan_answer b.count b.table low high most);
    }

-- "It reads as a sweep of that route to FFFFFFFF with a most of 1 does", and answers the pair that this finds.
abbrev ceiling_look : ℕ → Look
ceiling_look k =
    record {
      reads = (scan_look k last_key 1).reads;
      reply = λ b. ceiling_reply (first (scan_answer b.count b.table k last_key 1));
    }

-- What a command does in a session: it looks, puts, deletes, or names a panel.
pub data Task : Type 0 where
  looks : Look → Task
  puts : ℕ → ℕ → Task
  deletes : ℕ → Task
  names : ℕ → Task

abbrev pub task_of : Session → Command → Task
task_of n (Get k) = looks (get_look k)
task_of n (Put k v) = puts k v
task_of n (Delete k) = deletes k
task_of n (Scan low high most) = looks (scan_look low high most)
task_of n (Panel panel) = names panel
task_of n (Ceiling k) = looks (ceiling_look k)

-- Its node requests: one that looks makes reads alone, a panel none.
abbrev pub requests_of : ℕ → Task → Book → List NodeRequest
requests_of limit (looks l) b = map read (l.reads b)
requests_of limit (puts k v) b = put_requests limit b.count b.table k v
requests_of limit (deletes k) b = delete_requests b.count b.table k
requests_of limit (names panel) b = []

-- Whether it is a put that is refused.
abbrev pub refuses_of : ℕ → Task → Book → Bool
refuses_of limit (looks l) b = false
refuses_of limit (puts k v) b = put_refused limit b.count b.table k
refuses_of limit (deletes k) b = false
refuses_of limit (names panel) b = false

-- What it is answered: a panel "has no answer".
abbrev pub answer_of : ℕ → Task → Book → Reply
answer_of limit (looks l) b = l.reply b
answer_of limit (puts k v) b = put_reply (put_refused limit b.count b.table k) (get_answer b.count b.table k)
answer_of limit (deletes k) b = delete_reply (get_answer b.count b.table k)
answer_of limit (names panel) b = silent

-- "In an accepted one each command makes its node requests .. none for a hang with 9."
unfoldable pub requests : ℕ → Session → Command → Book → List NodeRequest
requests limit n c b = requests_of limit (task_of n c) b

unfoldable pub refuses : ℕ → Session → Command → Book → Bool
refuses limit n c b = refuses_of limit (task_of n c) b

unfoldable pub answer : ℕ → Session → Command → Book → Reply
answer limit n c b = answer_of limit (task_of n c) b
