-- A whole batch leaves a fitting store. The count is of commands, whatever they are: each takes three bytes of the batch or more, makes at most
-- 32 requests more than there are nodes, and a request takes at most four sequence numbers; the checkpoint takes thirteen. So from a number
-- at which a pool opens 32 bits are never used up. Assumes nothing.
use Rattle.std.specs.Prelude.{◌≡◌, refl, List, [], ◌∷◌, ℕ, ◌+◌, ◌*◌, ◌/◌, ◌≤◌, ◌<◌, length}
use Rattle.std.proofs.Common.{sym, ◌∙◌, subst, arith}
use Rattle.layout.specs.Layout.{node_limit, most_blocks, most_nodes, most_batch_bytes, bound32, last_sequence}
use Rattle.account.specs.declared.Tariff.{Tariff}
use Rattle.account.specs.Range.{Ranged, limit_some, limit_le}
use Rattle.pairs.specs.Pairs.{Pair}
use Rattle.command.specs.declared.Command.{Command}
use Rattle.tree.specs.NodeRequest.{count_after_all}
use Rattle.tree_laws.specs.Size.{depth_count}
use Rattle.node.specs.Narrow.{Narrow}
use Rattle.store_laws.specs.Numbers.{last}
use Rattle.store_laws.proofs.Closing.{close-closed}
use Rattle.book.specs.Book.{Book}
use Rattle.book.specs.Command.{most_requests, requests}
use Rattle.book.specs.Session.{Session, at_first}
use Rattle.book.specs.SessionAfter.{session_after}
use Rattle.book.specs.Batch.{run_book, requests_book}
use Rattle.book.specs.OrderedMap.{map_run}
use Rattle.book.specs.Bound.{Scored, scored-all}
use Rattle.model.specs.State.{State, book_of}
use Rattle.model.specs.Batch.{reply_of, done, run, closed}
use Rattle.demands.specs.Says.{Sound, book_of-count, score-is}
use Rattle.command.specs.Command.{Valid}
use Rattle.command.specs.Batch.{ValidAll}
use Rattle.demands.specs.Commands.{does}
use Rattle.demands.specs.Run.{Holds, run_book-requests, Batched, batch_batched}
use Rattle.demands.specs.Mount.{Ready}
use Rattle.store_laws.specs.StoreFits.{RunFits}
use Rattle.demands.specs.NodesNarrow.{book_narrow}
use Rattle.store_laws.proofs.CloseFits.{close-fits}
use Rattle.demands.specs.CommandFits.{command_narrow}
use Rattle.demands.specs.RequestCount.{command_length}
use Rattle.demands.specs.RequestFits.{Took, took_more, took_then, serve_all_took}

-- What a command takes at most: four numbers for each of its requests.
abbrev pub most_numbers : ℕ
most_numbers = 4 * most_requests most_nodes

-- What a batch of n commands takes at most, its checkpoint of a buffer's page and twelve pages included.
abbrev pub numbers_of : ℕ → ℕ
numbers_of n = most_numbers * n + 13

-- A command is a field: the tag and the length are three bytes. A batch has at most as many commands as these go into its length.
abbrev pub fewest_bytes : ℕ
fewest_bytes = 3

abbrev pub most_commands : ℕ
most_commands = most_batch_bytes / fewest_bytes

-- The numbers: 10,922 commands of at most 652 requests, with 4 numbers each; and they are left, from the last with which a pool opens.
pub batch_numbers : numbers_of most_commands ≡ 28484589
batch_numbers = refl

pub numbers-left : numbers_of most_commands + last_sequence < bound32
numbers-left = omega arith

module _ (blocks : ℕ) (small : blocks ≤ most_blocks) where
  abbrev nodes : ℕ
  nodes = node_limit blocks

  command_took : (n : Session) (c : Command) (s : State) (ps : List Pair) → Valid c → Sound blocks s → Holds nodes (book_of s) ps →
      RunFits s.run → 1 + (most_numbers + last s.run) < bound32 → Took most_numbers s.run (done nodes n c s).run
  command_took n c s ps valid v h fits b =
      let book = book_of s in
      let rs = requests nodes n c book in
      let d = does nodes (omega arith) book ps h.spells h.most n c valid in
      let l = command_length nodes n c book ps h.spells (omega (arith, h.most)) valid in
      took_more (omega (arith, l, h.most))
      (serve_all_took blocks n.tariff (omega arith) rs s (count_after_all rs book.count) v fits d.served.fits
      (command_narrow nodes book ps h.spells (omega (arith, h.most)) (book_narrow s fits.now) n c valid)
      (omega (arith, l, h.most)))

  -- THE COMMANDS OF A BATCH
  pub run_took : (cs : List Command) (n : Session) (s : State) (ps : List Pair) → ValidAll cs → Sound blocks s → Holds nodes (book_of s) ps →
      RunFits s.run → 1 + (most_numbers * length cs + last s.run) < bound32 → Took (most_numbers * length cs) s.run (run nodes cs n s).run
  run_took [] n s ps valid v h fits b = record { fits = fits; number = omega arith }
  run_took (c ∷ cs) n s ps valid v h fits b =
      let one = command_took n c s ps valid.0 v h fits (omega arith) in
      let said = batch_batched blocks (omega arith) (c ∷ []) n s ps (valid.0, tt) v h in
      let pairs = map_run nodes (c ∷ []) n (book_of s) ps in
      took_then (omega arith) one
      (run_took cs (session_after c (reply_of nodes n c s) n) (done nodes n c s) pairs valid.1 said.says.sound
      (subst (λ (z : Book). Holds nodes z pairs) (sym said.says.is) said.holds) one.fits (omega (arith, one.number)))

-- THE CHECKPOINT at its end, of a state that says a book whose scores are below the limit T.
pub closed_took : (blocks : ℕ) (t : Tariff) → blocks ≤ most_blocks → (s : State) (ps : List Pair) → Sound blocks s →
    Holds (node_limit blocks) (book_of s) ps → Ranged t → Scored t (book_of s) → RunFits s.run → 13 + last s.run < bound32 →
    Took 13 s.run (closed t s).run
unfolding closed
closed_took blocks t small s ps v h r low fits b =
    let n = book_of-count s in
    record {
      fits =
          close-fits fits t r s.score
          (λ i l. omega (arith, score-is s i (omega (arith, n)), low i (omega (arith, n)), limit_le r))
          (omega (arith, n, depth_count (book_of s).table (book_of s).count ps h.spells)) (omega (arith, n, h.most)) b;
      number = (close-closed v small t s.score).number;
    }

-- WHAT A BATCH LEAVES, from a state that a pool opens with.
pub record AfterBatch (s after : State) : Type 0 where
  pub fits : RunFits after.run
  pub narrow : (n : ℕ) → Narrow ((book_of after).table n)
  pub number : last after.run ≤ numbers_of most_commands + last s.run
  pub below : last after.run < bound32

after_batch : {s after : State} → Took (numbers_of most_commands) s.run after.run → AfterBatch s after
after_batch {after = after} took =
    record {
      fits = took.fits;
      narrow = book_narrow after took.fits.now;
      number = took.number;
      below = took.fits.now.last;
    }

module _ {blocks : ℕ} {t : Tariff} {s : State} {b : Book} {ps : List Pair} (small : blocks ≤ most_blocks) (ready : Ready blocks t s b ps)
    (fits : RunFits s.run) (opens : last s.run ≤ last_sequence) (cs : List Command) (valid : ValidAll cs)
    (few : length cs ≤ most_commands) where
  abbrev after : State
  after = run (node_limit blocks) cs (at_first t) s

  holds_now : Holds (node_limit blocks) (book_of s) ps
  holds_now = subst (λ (z : Book). Holds (node_limit blocks) z ps) (sym ready.says.is) ready.holds

  batched : Batched blocks cs (at_first t) s ps
  batched = batch_batched blocks (omega arith) cs (at_first t) s ps valid ready.says.sound holds_now

  pub sound-after : Sound blocks after
  sound-after = batched.says.sound

  took : Took (most_numbers * length cs) s.run after.run
  took = run_took blocks small cs (at_first t) s ps valid ready.says.sound holds_now fits (omega arith)

  -- before the checkpoint
  pub run-after : AfterBatch s after
  run-after = after_batch (took_more (omega arith) took)

  scored-after : Scored t (book_of after)
  scored-after =
      let limit = node_limit blocks in
      let rs = requests_book limit cs (at_first t) (book_of s) in
      subst (Scored t) (sym (batched.says.is ∙ run_book-requests limit cs (at_first t) (book_of s)))
      (scored-all limit t (limit_some ready.ranged) rs (book_of s) (run_book limit cs (at_first t) (book_of s)).count
      (subst (Scored t) (sym ready.says.is) ready.scored) batched.fits)

  closing : Took 13 after.run (closed t after).run
  closing =
      let pairs = map_run (node_limit blocks) cs (at_first t) (book_of s) ps in
      closed_took blocks t small after pairs sound-after
      (subst (λ (z : Book). Holds (node_limit blocks) z pairs) (sym batched.says.is) batched.holds) ready.ranged scored-after
      took.fits (omega (arith, took.number))

  -- and behind it
  pub closed_after : AfterBatch s (closed t after)
  closed_after = after_batch (took_then (omega arith) took closing)
