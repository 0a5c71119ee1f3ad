-- How a call ends (document 01, "Questions before the work"; document 02, P2): refused with a number, or its work done. Assumes nothing.
use Rattle.std.specs.Prelude.{Bool, ◌&&◌, List, ℕ, eqb, leb, length, replicate, Option, None, Some}
use Rattle.laws.specs.Tests.{choose}
use Rattle.laws.specs.Lay.{lay}
use Rattle.laws.specs.Update.{sum}
use Rattle.layout.specs.Layout.{table_bytes, node_limit}
use Rattle.account.specs.declared.Tariff.{Tariff}
use Rattle.command.specs.declared.Command.{Command}
use Rattle.store.specs.Reopen.{pool_of}
use Rattle.book.specs.Command.{replies_bytes}
use Rattle.book.specs.Session.{at_first}
use Rattle.book.specs.InTurn.{no_charges}
use Rattle.model.specs.State.{State}
use Rattle.model.specs.Batch.{run, charges_of, answers, closed}
use Rattle.model.specs.Mount.{Mounted, refused, opened}
use Rattle.model.specs.Bytes.{bytes_of}
use Rattle.model.specs.Pool.{blocks_of}

-- What a call leaves: the number it returns, 0 or a refusal's; the bytes of pool, work table and answers; the answer length; and "16 charges in
-- place of one", panel 0's first.
pub record Outcome : Type 0 where
  pub number : ℕ
  pub pool : List ℕ
  pub table : List ℕ
  pub answers : List ℕ
  pub length : ℕ
  pub charges : List ℕ

-- "Their sum, the old charge."
abbrev pub charge : Outcome → ℕ
charge o = sum o.charges

-- "Accepted or refused": an accepted call returns number 0.
abbrev pub accepted : Outcome → Bool
accepted o = eqb o.number 0

-- "Its first 1,024 × B bytes are zero .. and bytes beyond are untouched"; and the table after a call that ended with a number: "After refusals 1
-- and 2 the work table too" is as found.
abbrev pub cleared : ℕ → List ℕ → List ℕ
cleared blocks table = lay table 0 (replicate (table_bytes blocks) 0)

abbrev pub table_after : ℕ → ℕ → List ℕ → List ℕ
table_after number blocks table = choose (leb 1 number && leb number 2) table (cleared blocks table)

-- "A refused call leaves pool and answers as found", "returns its number, and 0" for the length; the charges are "all 0 when refused".
abbrev pub refuse : ℕ → List ℕ → List ℕ → List ℕ → Outcome
refuse number pool table buffer =
    record {
      number = number;
      pool = pool;
      table = table_after number (blocks_of pool) table;
      answers = buffer;
      length = 0;
      charges = no_charges;
    }

-- What a call runs: its commands from the state that its pool mounts as. None, where its bytes are no commands or its pool does not open.
pub record Work : Type 0 where
  pub tariff : Tariff
  pub commands : List Command
  pub start : State

abbrev pub work_by : Option (List Command) → Mounted → Option Work
work_by None m = None
work_by (Some cs) (refused n) = None
work_by (Some cs) (opened t s) = Some (record { tariff = t; commands = cs; start = s })

-- The work done: the pool with the checkpoint written, the answers laid into the answer buffer, their length and the charges.
abbrev pub accept : ℕ → Tariff → List Command → State → List ℕ → List ℕ → Outcome
accept blocks t cs s table buffer =
    let limit = node_limit blocks in
    let bytes = replies_bytes (answers limit cs (at_first t) s) in
    record {
      number = 0;
      pool = bytes_of (pool_of (closed t (run limit cs (at_first t) s)).run.now);
      table = cleared blocks table;
      answers = lay buffer 0 bytes;
      length = length bytes;
      charges = charges_of limit cs (at_first t) s;
    }

-- A call without work does nothing; none whose questions are all answered with yes is one (`demands` Ends).
abbrev pub done : Option Work → List ℕ → List ℕ → List ℕ → Outcome
done None pool table buffer = refuse 0 pool table buffer
done (Some w) pool table buffer = accept (blocks_of pool) w.tariff w.commands w.start table buffer

-- THE END, by the number of the first question that is answered with no: "a 'no' ends it with the number", else the work is done.
abbrev pub ended : ℕ → Option Work → List ℕ → List ℕ → List ℕ → Outcome
ended number w pool table buffer = choose (eqb number 0) (done w pool table buffer) (refuse number pool table buffer)
