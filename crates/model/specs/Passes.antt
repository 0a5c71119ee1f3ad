-- What is known of a call where none of its questions of what is lent is answered with no. Assumes nothing.
use Rattle.std.specs.Prelude.{◌≡◌, refl, Bool, true, false, List, [], ◌∷◌, ◌++◌, ℕ, ◌≤◌, leb, length, Option, None, Some}
use Rattle.std.proofs.Common.{sym, ◌∙◌, arith, leb-true}
use Rattle.layout.specs.Layout.{table_bytes}
use Rattle.wire.specs.Field.{field_at}
use Rattle.account.specs.declared.Tariff.{Tariff}
use Rattle.account.specs.Range.{in_range}
use Rattle.command.specs.declared.Command.{Command}
use Rattle.command.specs.Command.{command_at}
use Rattle.command.specs.Batch.{run, commands_from, commands_of, room_for_all}
use Rattle.desk_queues.specs.Queues.{fills, queues_of}
use Rattle.desk_queues.specs.Joined.{joined_by, joined_read}
use Rattle.model.specs.Pool.{blocks_of, pool_length}
use Rattle.model.specs.PoolLaws.{IsPool, is-pool}
use Rattle.model.specs.Questions.{Question, first_no, of_sizes, of_commands, of_buffers, of_desk, of_prepare}
use Rattle.model.specs.Call.{Call, batch, desk, table_of, buffer_of, joined_or, bytes_run, of_lent}
use Rattle.model.specs.QuestionLaws.{numbered, front_yes, behind_yes}

-- None of its questions has the number 0.
pub lent-numbered : (pool : List ℕ) (c : Call) → numbered (of_lent pool c) ≡ true
unfolding of_buffers of_desk
lent-numbered pool (batch l) = refl
lent-numbered pool (desk d) = refl

-- The pool has its length, the table is long enough, the bytes are commands, and the answer buffer has room.
pub record Passes (pool : List ℕ) (c : Call) : Type 0 where
  pub size : pool_length pool ≡ true
  pub table : table_bytes (blocks_of pool) ≤ length (table_of c)
  pub commands : List Command
  pub are : commands_of (bytes_run c) ≡ Some commands
  pub room : room_for_all commands ≤ length (buffer_of c)

no_command_lem : commands_of (0 ∷ []) ≡ None
unfolding commands_of commands_from run command_at field_at
no_command_lem = refl

pub joined-read : (o : Option (List ℕ)) → joined_read o ≡ commands_of (joined_or o)
joined-read None = sym no_command_lem
joined-read (Some bytes) = refl

-- Questions 1 and 2, and 3 and 4.
pub record Sizes (pool table : List ℕ) : Type 0 where
  pub size : pool_length pool ≡ true
  pub enough : table_bytes (blocks_of pool) ≤ length table

pub sizes_yes : (pool table : List ℕ) → first_no (of_sizes pool table) ≡ 0 → Sizes pool table
sizes_yes pool table e = go (pool_length pool) refl (leb (table_bytes (blocks_of pool)) (length table)) refl e
  where
    go : (a : Bool) → pool_length pool ≡ a → (b : Bool) → leb (table_bytes (blocks_of pool)) (length table) ≡ b → first_no ((1, a) ∷ (2, b) ∷ []) ≡ 0 →
        Sizes pool table
    go false p b u f = absurd (omega (arith, f))
    go true p false u f = absurd (omega (arith, f))
    go true p true u f = record { size = p; enough = leb-true _ _ u }

pub commands_yes : (o : Option (List Command)) (buffer : List ℕ) → first_no (of_commands o buffer) ≡ 0 →
    (cs : List Command) × (o ≡ Some cs) × (room_for_all cs ≤ length buffer)
commands_yes None buffer e = absurd (omega (arith, e))
commands_yes (Some cs) buffer e = go (leb (room_for_all cs) (length buffer)) refl e
  where
    go : (b : Bool) → leb (room_for_all cs) (length buffer) ≡ b → first_no ((4, b) ∷ []) ≡ 0 →
        (ds : List Command) × (Some cs ≡ Some ds) × (room_for_all ds ≤ length buffer)
    go true r f = (cs, refl, leb-true _ _ r)
    go false r f = absurd (omega (arith, f))

-- A number of 3 or more: 1 and 2 have passed.
pub sizes-first : (pool table : List ℕ) (rest : List Question) → 3 ≤ first_no (of_sizes pool table ++ rest) → first_no (of_sizes pool table) ≡ 0
sizes-first pool table rest l = go (pool_length pool) (leb (table_bytes (blocks_of pool)) (length table)) l
  where
    go : (a b : Bool) → 3 ≤ first_no ((1, a) ∷ (2, b) ∷ rest) → first_no ((1, a) ∷ (2, b) ∷ []) ≡ 0
    go false b h = absurd (omega arith)
    go true false h = absurd (omega arith)
    go true true h = refl

pub lent-sizes : (pool : List ℕ) (c : Call) → 3 ≤ first_no (of_lent pool c) → Sizes pool (table_of c)
unfolding of_buffers of_desk
lent-sizes pool (batch l) h = sizes_yes pool l.table (sizes-first pool l.table (of_commands (commands_of l.batch) l.buffer) h)
lent-sizes pool (desk d) h =
    sizes_yes pool d.table
    (sizes-first pool d.table
    ((11, fills d.lengths d.queues) ∷ of_commands (joined_read (joined_by (queues_of d.lengths d.queues))) d.buffer) h)

-- What follows where nothing lent is answered with no.
passes : (pool : List ℕ) (c : Call) (o : Option (List Command)) → o ≡ commands_of (bytes_run c) → first_no (of_sizes pool (table_of c)) ≡ 0 →
    first_no (of_commands o (buffer_of c)) ≡ 0 → Passes pool c
passes pool c o e f g =
    let s = sizes_yes pool (table_of c) f in
    let x = commands_yes o (buffer_of c) g in
    record { size = s.size; table = s.enough; commands = x.0; are = sym e ∙ x.1; room = x.2 }

pub lent-passes : (pool : List ℕ) (c : Call) → first_no (of_lent pool c) ≡ 0 → Passes pool c
unfolding of_buffers of_desk
lent-passes pool (batch l) e =
    let rest = of_commands (commands_of l.batch) l.buffer in
    passes pool (batch l) (commands_of l.batch) refl (front_yes (of_sizes pool l.table) rest refl e)
    (behind_yes (of_sizes pool l.table) rest refl e)
lent-passes pool (desk d) e =
    let run = joined_by (queues_of d.lengths d.queues) in
    let rest = of_commands (joined_read run) d.buffer in
    let queues : List Question = (11, fills d.lengths d.queues) ∷ [] in
    passes pool (desk d) (joined_read run) (joined-read run) (front_yes (of_sizes pool d.table) (queues ++ rest) refl e)
    (behind_yes queues rest refl (behind_yes (of_sizes pool d.table) (queues ++ rest) refl e))

-- Of a prepare: a pool's length.
pub prepare_pool : (pool : List ℕ) (t : Tariff) → first_no (of_prepare pool t) ≡ 0 → IsPool pool
unfolding of_prepare
prepare_pool pool t e = go (pool_length pool) refl e
  where
    go : (a : Bool) → pool_length pool ≡ a → first_no ((1, a) ∷ (10, in_range t) ∷ []) ≡ 0 → IsPool pool
    go true p f = is-pool pool p
    go false p f = absurd (omega (arith, f))
