-- What the code of a call leaves, beside what the definition says. Assumes nothing.
use Rattle.std.specs.Prelude.{◌≡◌, refl, List, ℕ, ◌*◌, ◌≤◌, length, Some, Result, Ok, Err}
use Rattle.std.proofs.Common.{sym, ap, ◌∙◌, subst}
use Rattle.refusal.specs.declared.Refusal.{Refusal}
use Rattle.refusal.specs.Number.{number}
use Rattle.layout.specs.Layout.{fewest_blocks, most_blocks, block_bytes, table_bytes, panels}
use Rattle.command.specs.declared.Command.{Command}
use Rattle.command.specs.Batch.{commands_of, room_for_all}
use Rattle.book.specs.InTurn.{no_charges}
use Rattle.book.specs.EachPanel.{length_each}
use Rattle.model.specs.Pool.{blocks_of, mount_of}
use Rattle.model.specs.Questions.{first_no, of_pool}
use Rattle.model.specs.Outcome as Model
use Rattle.model.specs.Outcome.{table_after, refuse, work_by, ended}

-- What a call answers: its number, 0 where its work is done, and how many bytes of answers it has laid.
pub record Outcome : Type 0 where
  pub number : ℕ
  pub length : ℕ

-- Of a result whose errors have numbers, and of one whose errors are refusals by name.
abbrev pub outcome_by : {R : Type 0} → (R → ℕ) → Result ℕ R → Outcome
outcome_by numbered (Ok laid) = record { number = 0; length = laid }
outcome_by numbered (Err refusal) = record { number = numbered refusal; length = 0 }

abbrev pub outcome_of : Result ℕ Refusal → Outcome
outcome_of result = outcome_by number result

abbrev pub refused_with : ℕ → Outcome
refused_with number = record { number = number; length = 0 }

-- A call leaves what the definition says: the number, every byte of pool, table and answers, the length and each panel's charge.
pub record Leaves (right : Model.Outcome) (r : Outcome) (left table answers charges : List ℕ) : Type 0 where
  pub number : r.number ≡ right.number
  pub pool : left ≡ right.pool
  pub cleared : table ≡ right.table
  pub replies : answers ≡ right.answers
  pub long : r.length ≡ right.length
  pub paid : charges ≡ right.charges
  pub sixteen : length charges ≡ panels

-- A call that leaves this answer.
pub left_as : {right : Model.Outcome} {r r' : Outcome} {left table answers charges : List ℕ} → r ≡ r' →
    Leaves right r' left table answers charges → Leaves right r left table answers charges
left_as {right} {r} {r'} {left} {table} {answers} {charges} e h = subst (λ (o : Outcome). Leaves right o left table answers charges) (sym e) h

-- What every refusal leaves: the number, and nothing but the table, if that, other than it was.
pub refused-leaves : (number : ℕ) (pool table left answers charges : List ℕ) → left ≡ table_after number (blocks_of pool) table → charges ≡ no_charges →
    Leaves (refuse number pool table answers) (refused_with number) pool left answers charges
refused-leaves number pool table left answers charges is zero =
    record {
      number = refl;
      pool = refl;
      cleared = is;
      replies = refl;
      long = refl;
      paid = zero;
      sixteen = ap length zero ∙ length_each (λ q. 0);
    }

-- What is known where questions 1 to 4 have passed, of a table cut to the pool's size.
pub record Accepts (pool_length table_length blocks : ℕ) (batch : List ℕ) (room : ℕ) : Type 0 where
  pub pool : pool_length ≡ block_bytes * blocks
  pub least : fewest_blocks ≤ blocks
  pub most : blocks ≤ most_blocks
  pub table : table_length ≡ table_bytes blocks
  pub commands : List Command
  pub are : commands_of batch ≡ Some commands
  pub enough : room_for_all commands ≤ room

-- What is left then: what the model leaves by the questions of the pool, whatever the commands are.
pub record Worked (pool pool' table table' batch answers answers' charges : List ℕ) (r : Outcome) : Type 0 where
  pub leaves :
      (cs : List Command) → commands_of batch ≡ Some cs →
      Leaves (ended (first_no (of_pool pool)) (work_by (Some cs) (mount_of pool)) pool table answers) r pool' table' answers' charges
