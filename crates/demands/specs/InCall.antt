-- A command where it stands in a call: the commands before it are valid, and the map that they leave is an ordered map still. Assumes nothing.
use Rattle.std.specs.Prelude.{◌≡◌, refl, Bool, true, false, List, [], ◌∷◌, ◌++◌, ℕ, ◌<◌, Option, None, Some}
use Rattle.std.proofs.Common.{subst}
use Rattle.layout.specs.Layout.{no_leaf, bound32}
use Rattle.pairs.specs.Pairs.{Pair, Within}
use Rattle.command.specs.declared.Command.{Command}
use Rattle.command.specs.Batch.{commands_of, ValidAll}
use Rattle.tree_laws.specs.GetLaws.{pairs_within}
use Rattle.book.specs.Book.{Book}
use Rattle.book.specs.Command.{refuses}
use Rattle.book.specs.Session.{Session}
use Rattle.book.specs.SessionAfter.{session_after}
use Rattle.book.specs.Batch.{done_book}
use Rattle.book.specs.OrderedMap.{map_answer, map_after, map_run}
use Rattle.model.specs.Outcome.{accepted}
use Rattle.model.specs.Call.{Call, bytes_run, outcome}
use Rattle.model.specs.Calls.{fed_of, commands_by, commands_in}
use Rattle.demands.specs.Run.{Holds, command_holds}
use Rattle.demands.specs.CommandBytes.{commands_of_batch}
use Rattle.demands.specs.CallBytes.{CallBytes, run-bytes}

-- THE COMMANDS of a call, and those before another, are valid.
valid_front : (before cs : List Command) → ValidAll (before ++ cs) → ValidAll before
valid_front [] cs valid = tt
valid_front (c ∷ before) cs valid = (valid.0, valid_front before cs valid.1)

pub call_valid : (pool : List ℕ) (c : Call) → CallBytes c → ValidAll (commands_in (fed_of pool c))
call_valid pool c bytes = go (accepted (outcome pool c)) (commands_of (bytes_run c)) refl
  where
    go : (a : Bool) (o : Option (List Command)) → commands_of (bytes_run c) ≡ o → ValidAll (commands_by a o)
    go false o e = tt
    go true None e = tt
    go true (Some cs) e = (commands_of_batch (bytes_run c) (run-bytes c bytes) cs e).valid

pub before_valid : (pool : List ℕ) (c : Call) → CallBytes c → (before cs : List Command) → commands_in (fed_of pool c) ≡ before ++ cs → ValidAll before
before_valid pool c bytes before cs e = valid_front before cs (subst ValidAll e (call_valid pool c bytes))

-- THE MAP after valid commands: its keys ascend and have 32 bits.
pub run_within : (limit : ℕ) → limit < no_leaf → (cs : List Command) (n : Session) (b : Book) (ps : List Pair) → ValidAll cs → Holds limit b ps →
    Within 0 bound32 (map_run limit cs n b ps)
run_within limit small [] n b ps valid h = pairs_within b.table b.count ps h.spells
run_within limit small (c ∷ cs) n b ps valid h =
    run_within limit small cs (session_after c (map_answer n (refuses limit n c b) c ps) n) (done_book limit n c b) (map_after n (refuses limit n c b) c ps)
    valid.1 (command_holds limit small n c b ps valid.0 h)
