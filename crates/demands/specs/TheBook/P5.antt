-- DOCUMENT 02, P5. "A second entry point takes up to 16 queues, each a batch, in one lent buffer, with their four-byte lengths in another." Demand 1
-- of it is `demand_one`; demands 2 and 3 are about lists in which desks stand beside batches. Assumes nothing.
use Rattle.std.specs.Prelude.{◌≡◌, true, List, [], ℕ, ◌+◌, ◌*◌, ◌≤◌, ◌<◌, length, get_or, drop, None, Some}
use Rattle.std.proofs.Math.Path.{ap}
use Rattle.std.proofs.Common.{◌∙◌, arith}
use Rattle.laws.specs.BigEndian.{Bytes}
use Rattle.laws.specs.Every.{Every}
use Rattle.layout.specs.Layout.{node_limit, table_bytes, panels, most_batch_bytes}
use Rattle.account.specs.declared.Tariff.{Tariff}
use Rattle.pairs.specs.Pairs.{Pair}
use Rattle.command.specs.declared.Command.{Command}
use Rattle.command.specs.Batch.{commands_of}
use Rattle.command.specs.Spelled.{batch_bytes}
use Rattle.desk_order.specs.Turns.{turns, turns_of, picks, waits}
use Rattle.desk_order.specs.Weigh.{commands_in as CommandCount}
use Rattle.desk_order.proofs.OwnOrder.{own_order as in_order_lem}
use Rattle.desk_order.proofs.Fair.{fair as few-others}
use Rattle.desk_queues.specs.Queues.{queues_of}
use Rattle.desk_queues.specs.Joined.{all_commands, interleaved, joined_bytes, bytes_by, joined_of, joined_by}
use Rattle.desk_laws.specs.QueueLaws.{cut_few, cut_bytes, cut_length}
use Rattle.desk_laws.specs.Read.{Read, all_read, read_length, served-spelled}
use Rattle.desk_laws.specs.JoinedLaws.{joined_short, joined_long, joined_length as length-of}
use Rattle.book.specs.Book.{Book}
use Rattle.book.specs.Session.{at_first}
use Rattle.book.specs.Billed.{bill_commands, bill_total, billed}
use Rattle.book.specs.OrderedMap.{map_answers}
use Rattle.model.specs.Pool.{blocks_of, pool_length}
use Rattle.model.specs.Call.{DeskLent, desk, outcome, batch_of, desk_of}
use Rattle.model.specs.Calls.{answered, laid_over, fed_of, commands_in}
use Rattle.demands.specs.CallBytes.{CallBytes, run-bytes}
use Rattle.demands.specs.OneCall.{called}
use Rattle.demands.specs.Desk.{DeskRefused, too_long}
use Rattle.demands.specs.Desk.{desk_is_batch as joined-batch, desk_ends as refused-before}
use Rattle.demands.specs.DeskServes.{desk_reads, billed-own, billed-none, desk_charge}
use Rattle.demands.specs.Standing.{stands_open}
use Rattle.demands.specs.TheBook.Stands.{Stands}

-- "The joined bytes run as one batch, with its length limit and all its questions": where the lengths fill the queue buffer and every queue is wholly
-- valid commands, none of them an 05, the call is the batch of the joined bytes, in number, pool, table, answers, length and sixteen charges.
pub desk_is_batch : (pool table lengths queues buffer : List ℕ) (qs : List (List ℕ)) (bytes : List ℕ) →
    queues_of lengths queues ≡ Some qs → joined_of qs ≡ Some bytes → desk_of pool table lengths queues buffer ≡ batch_of pool table bytes buffer
desk_is_batch = joined-batch

-- Every other call is refused: with 1, with 2, with 11 for "more than 16 lengths, part of one, or lengths that don't fill the queue buffer exactly",
-- or with 3 for a queue that holds an 05 "or isn't wholly valid commands"; pool and answers are as found, and nothing is charged.
pub desk_ends : (pool table lengths queues buffer : List ℕ) → joined_by (queues_of lengths queues) ≡ None →
    DeskRefused pool table lengths queues buffer (desk_of pool table lengths queues buffer)
desk_ends = refused-before

-- The bill of panel p where queues of these commands are served on a pool with this tariff and this book: its own commands, each with what it costs
-- when its turn comes.
abbrev pub bill : Tariff → List ℕ → Book → List (List Command) → ℕ → List (Command × ℕ)
bill t pool b commands p = billed (node_limit (blocks_of pool)) p (turns commands) (at_first t) b

-- WHAT AN ACCEPTED DESK CALL DOES, on a pool that stands:
pub record DeskServes (t : Tariff) (pool : List ℕ) (b : Book) (ps : List Pair) (d : DeskLent) : Type 0 where
  -- "up to 16 queues, each a batch, in one lent buffer, with their four-byte lengths in another": they are cut, and each is read, queue p for panel p
  pub queues : List (List ℕ)
  pub cut : queues_of d.lengths d.queues ≡ Some queues
  pub commands : List (List Command)
  pub read : all_commands queues ≡ Some commands
  -- it "serves one command from each queue that still has any, in panel order, round and round", with "a command 05 before every command"
  pub served : commands_in (fed_of pool (desk d)) ≡ interleaved (turns commands)
  -- they are answered in that order, as a plain ordered map does
  pub answers : answered (outcome pool (desk d)) ≡
      laid_over d.buffer (map_answers (node_limit (blocks_of pool)) (interleaved (turns commands)) (at_first t) b ps)
  -- a panel is billed for the commands of its own queue, all of them and in their order,
  pub own : (p : ℕ) → bill_commands (bill t pool b commands p) ≡ get_or commands p []
  -- its charge is "that of the panel's own commands",
  pub charge : (p : ℕ) → get_or (outcome pool (desk d)).charges p 0 ≡ bill_total (bill t pool b commands p)
  -- and 0 without a queue, or with one that is empty
  pub without : (p : ℕ) → get_or commands p [] ≡ [] → get_or (outcome pool (desk d)).charges p 0 ≡ 0

pub desk_serves : {t : Tariff} {pool : List ℕ} {b : Book} {ps : List Pair} → Stands t pool b ps → (d : DeskLent) → CallBytes (desk d) →
    (outcome pool (desk d)).number ≡ 0 → DeskServes t pool b ps d
desk_serves {t} {pool} {b} {ps} s d bytes e =
    let r = desk_reads pool d bytes e in
    let limit = node_limit (blocks_of pool) in
    record {
      queues = r.queues;
      cut = r.cut;
      commands = r.commands;
      read = r.read;
      served = r.served;
      answers =
          (called (stands_open s) (desk d) (run-bytes (desk d) bytes)).answers ∙
          ap (λ (cs : List Command). laid_over d.buffer (map_answers limit cs (at_first t) b ps)) r.served;
      own = billed-own limit r.commands (at_first t) b;
      charge = desk_charge (stands_open s) d bytes r;
      without = λ p None. desk_charge (stands_open s) d bytes r p ∙ billed-none limit r.commands (at_first t) b p None;
    }

-- Of the queues of a desk, and the commands of each:
module _ (lengths queues : List ℕ) (bytes : Bytes queues) (qs : List (List ℕ)) (css : List (List Command))
    (cut : queues_of lengths queues ≡ Some qs) (read : all_commands qs ≡ Some css) where
  reads : Read qs css
  reads = all_read qs css read

  made : Every Bytes qs
  made = cut_bytes lengths queues qs cut bytes

  few : length qs ≤ panels
  few = cut_few lengths queues qs cut

  -- "The desk writes a command 05 before every command": four bytes for each. Within the length limit the joined bytes are read as the turns, each
  -- with its 05 before it.
  pub joined_are : joined_of qs ≡ Some (joined_bytes css)
  unfolding joined_of
  joined_are = ap bytes_by read

  pub joined_length : length (joined_bytes css) ≡ length queues + 4 * CommandCount css
  joined_length = omega (arith, length-of made few reads, cut_length lengths queues qs cut)

  pub joined-commands : length (joined_bytes css) ≤ most_batch_bytes → commands_of (joined_bytes css) ≡ Some (interleaved (turns css))
  joined-commands = joined_short made few reads

  -- "With its length limit": joined bytes over 32,768 are 3, where 1 and 2 are passed.
  pub desk_too_long : (pool table buffer : List ℕ) → pool_length pool ≡ true → table_bytes (blocks_of pool) ≤ length table →
      most_batch_bytes < length queues + 4 * CommandCount css → (desk_of pool table lengths queues buffer).number ≡ 3
  desk_too_long pool table buffer p u l =
      too_long pool table lengths queues buffer qs css p u cut joined_are (joined_long css (omega (arith, joined_length)))

  -- "Serves one command from each queue that still has any, in panel order, round and round": what panel p is served is its queue, whole and in
  -- order, in commands and in bytes, to the letter; a panel without a queue is served nothing.
  pub own_order : (p : ℕ) → picks p (turns css) ≡ get_or css p []
  own_order = in_order_lem css

  pub own-bytes : (p : ℕ) → batch_bytes (picks p (turns css)) ≡ get_or qs p []
  own-bytes = served-spelled made reads

  -- "A waiting panel sees at most 15 commands of others before its next one": from every place k of the order on, if panel p still has a turn there,
  -- at most 15 turns come before it, all of others.
  pub fair : (p k : ℕ) → 1 ≤ turns_of p (drop k (turns css)) → waits p (drop k (turns css)) ≤ 15
  fair = few-others css (omega (arith, read_length reads, few))
