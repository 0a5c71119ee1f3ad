-- One command on a book that spells a map: the answer is the ordered map's, its node requests fit, and the table then spells the map
-- after the command. What is asked of a command is said of its task: of one that changes nothing, that it reads nodes that are there, and
-- answers as the map does. Assumes nothing.
use Rattle.std.specs.Prelude.{◌≡◌, refl, Bool, true, false, List, ℕ, ◌≤◌, ◌<◌, length}
use Rattle.std.proofs.Common.{sym, ◌∙◌, arith}
use Rattle.std.proofs.Math.Path.{ap}
use Rattle.laws.specs.Every.{Every}
use Rattle.layout.specs.Layout.{bound32, no_leaf, last_key, panels}
use Rattle.pairs.specs.Pairs.{Pair, lookup}
use Rattle.command.specs.declared.Command.{Command}
use Rattle.command.specs.declared.Command.TheVariants.{Get, Put, Delete, Scan, Panel, Ceiling}
use Rattle.command.specs.Command.{Valid}
use Rattle.tree.specs.Put.{put_refused}
use Rattle.tree.specs.Spells.{Spells}
use Rattle.tree_laws.specs.Served.{Served, served-reads}
use Rattle.tree_laws.specs.GetLaws.{get-answer, path-found, path-count}
use Rattle.tree_laws.specs.PutLaws.{put_refused_lem, put-served}
use Rattle.tree_laws.specs.DeleteLaws.{delete-served}
use Rattle.tree_laws.specs.ScanLaws.{scan-answer, scan-found, scan_few, ceiling-answer}
use Rattle.book.specs.Book.{Book}
use Rattle.book.specs.Command.{Reply, listed, silent, get_reply, put_reply, delete_reply, ceiling_reply, requests, answer, refuses}
use Rattle.book.specs.Command.{Look, Task, looks, puts, deletes, names, task_of, requests_of, refuses_of, answer_of}
use Rattle.book.specs.Session.{Session}
use Rattle.book.specs.OrderedMap.{map_answer, map_after, changed}

-- A LOOK on a book: it reads nodes that are there, no more than there are, and is answered so.
pub record Looks (b : Book) (l : Look) (said : Reply) : Type 0 where
  pub found : Every (λ i. i < b.count) (l.reads b)
  pub few : length (l.reads b) ≤ b.count
  pub says : l.reply b ≡ said

-- A task on a book that spells these pairs, with what the map answers, where it is refused and where not: all that a command has to show.
abbrev pub Right : Book → List Pair → Task → (Bool → Reply) → Type 0
Right b ps (looks l) says = Looks b l (says false)
Right b ps (puts k v) says = (k < bound32) × (v < bound32) × ((refused : Bool) → says refused ≡ put_reply refused (lookup k ps))
Right b ps (deletes k) says = (k < bound32) × (says false ≡ delete_reply (lookup k ps))
Right b ps (names panel) says = (panel < panels) × (says false ≡ silent)

module _ (b : Book) (ps : List Pair) (s : Spells b.table b.count ps) (small : b.count ≤ no_leaf) (n : Session) where
  -- EVERY VALID COMMAND SHOWS IT.
  pub right : (c : Command) → Valid c → Right b ps (task_of n c) (λ refused. map_answer n refused c ps)
  unfolding map_answer
  right (Get k) h =
      record {
        found = (path-found b.table b.count ps s k h).0;
        few = path-count b.table b.count ps s k h;
        says = ap get_reply (get-answer b.table b.count ps s k h);
      }
  right (Put k v) h = (h.0, h.1, λ refused. refl)
  right (Delete k) h = (h, refl)
  right (Scan low high most) h =
      record {
        found = scan-found b.table b.count ps s low high most small h.0;
        few = scan_few b.table b.count ps s low high most small h.0;
        says = ap listed (scan-answer b.table b.count ps s low high most small h.0);
      }
  right (Panel panel) h = (h, refl)
  right (Ceiling k) h =
      record {
        found = scan-found b.table b.count ps s k last_key 1 small h;
        few = scan_few b.table b.count ps s k last_key 1 small h;
        says = ap ceiling_reply (ceiling-answer b.table b.count ps s k small h);
      }

-- What is done then, of a task and of a command.
pub record TaskDoes (limit : ℕ) (b : Book) (ps : List Pair) (t : Task) (says : Bool → Reply) : Type 0 where
  pub answers : answer_of limit t b ≡ says (refuses_of limit t b)
  pub served : Served limit b.table b.count (requests_of limit t b) (changed (refuses_of limit t b) t ps)

pub record Does (limit : ℕ) (n : Session) (c : Command) (b : Book) (ps : List Pair) : Type 0 where
  pub answers : answer limit n c b ≡ map_answer n (refuses limit n c b) c ps
  pub served : Served limit b.table b.count (requests limit n c b) (map_after n (refuses limit n c b) c ps)

module _ (limit : ℕ) (small : limit < no_leaf) (b : Book) (ps : List Pair) (s : Spells b.table b.count ps) (l : b.count ≤ limit) where
  put_does : (says : Bool → Reply) (k v : ℕ) → Right b ps (puts k v) says → TaskDoes limit b ps (puts k v) says
  put_does says k v r = go (put_refused limit b.count b.table k) refl
    where
      go : (refused : Bool) → put_refused limit b.count b.table k ≡ refused → TaskDoes limit b ps (puts k v) says
      go true e =
          record {
            answers = rw e (sym (r.2 true));
            served = rw (put_refused_lem b.table b.count ps s k v r.0 limit l e, e) (record { kept = l; fits = refl; spells = s });
          }
      go false e =
          record {
            answers =
                ap (put_reply (put_refused limit b.count b.table k)) (get-answer b.table b.count ps s k r.0) ∙
                sym (r.2 (put_refused limit b.count b.table k));
            served = rw e (put-served b.table b.count ps s k v r.0 limit l e);
          }

  task_does : (t : Task) (says : Bool → Reply) → Right b ps t says → TaskDoes limit b ps t says
  task_does (looks look) says r =
      record { answers = r.says; served = served-reads limit b.table b.count ps (look.reads b) l s r.found }
  task_does (puts k v) says r = put_does says k v r
  task_does (deletes k) says r =
      record {
        answers = ap delete_reply (get-answer b.table b.count ps s k r.0) ∙ sym r.1;
        served = delete-served b.table b.count ps s k r.0 limit l;
      }
  task_does (names panel) says r = record { answers = sym r.1; served = record { kept = l; fits = refl; spells = s } }

  pub does : (n : Session) (c : Command) → Valid c → Does limit n c b ps
  unfolding answer map_after requests refuses
  does n c h =
      let d = task_does (task_of n c) (λ refused. map_answer n refused c ps) (right b ps s (omega arith) n c h) in
      record { answers = d.answers; served = d.served }
