-- An accepted desk call (document 02, P5): its queues were cut and read, it runs their turns in order, and what each panel is charged is the bill of its
-- own commands. Assumes nothing.
use Rattle.std.specs.Prelude.{◌≡◌, Bool, true, false, ◌⊎◌, ℕ, ◌+◌, ◌≤◌, ◌<◌, eqb, length, get_or, Option, None, Some}
use Rattle.std.proofs.Math.Path.{refl, ap}
use Rattle.std.proofs.Common.{sym, ap₂, ◌∙◌, inl, inr}
use mathlib.Core.List.{List, [], ◌∷◌}
use native.Mathlib.Omega.{arith}
use Rattle.std.proofs.Math.ListN.{get_or-eq_default}
use Rattle.laws.specs.BigEndian.{Bytes}
use Rattle.laws.specs.Counts.{cons_if}
use Rattle.laws.specs.Options.{none_some}
use Rattle.laws.specs.Order.{le_or}
use Rattle.laws.specs.Tests.{choose}
use Rattle.laws.specs.Update.{only}
use Rattle.layout.specs.Layout.{node_limit, most_batch_bytes, panels}
use Rattle.account.specs.declared.Tariff.{Tariff}
use Rattle.pairs.specs.Pairs.{Pair}
use Rattle.command.specs.declared.Command.{Command}
use Rattle.command.specs.Batch.{commands_of}
use Rattle.desk_order.specs.Turns.{turns, is_of, picks}
use Rattle.desk_order.proofs.OwnOrder.{own_order}
use Rattle.desk_queues.specs.Queues.{queues_of}
use Rattle.desk_queues.specs.Joined.{all_commands, interleaved, joined_bytes, bytes_by, joined_of, joined_by}
use Rattle.desk_laws.specs.QueueLaws.{cut_few, cut_bytes}
use Rattle.desk_laws.specs.Read.{all_read, read_length}
use Rattle.desk_laws.specs.JoinedLaws.{joined_short, joined_long}
use Rattle.book.specs.Book.{Book}
use Rattle.book.specs.Command.{requests, answer}
use Rattle.book.specs.Session.{Session, at_first, with_panel}
use Rattle.book.specs.SessionAfter.{session_after}
use Rattle.book.specs.EachPanel.{length_each, each_at}
use Rattle.book.specs.Batch.{done_book, cost_book, charge_book, charges_book}
use Rattle.book.specs.Billed.{bill_commands, bill_total, billed}
use Rattle.model.specs.Pool.{blocks_of}
use Rattle.model.specs.Call.{DeskLent, desk, joined_or, outcome}
use Rattle.model.specs.Passes.{joined-read, Passes}
use Rattle.model.specs.Calls.{fed_of, commands_by, commands_in}
use Rattle.demands.specs.Ends.{accepted_ends}
use Rattle.demands.specs.OneCall.{OpenPool, called}
use Rattle.demands.specs.CallBytes.{run-bytes}

-- WHAT A CALL READS AND RUNS.
pub record DeskReads (pool : List ℕ) (d : DeskLent) : Type 0 where
  pub queues : List (List ℕ)
  pub cut : queues_of d.lengths d.queues ≡ Some queues
  pub commands : List (List Command)
  pub read : all_commands queues ≡ Some commands
  pub served : commands_in (fed_of pool (desk d)) ≡ interleaved (turns commands)

module _ (pool : List ℕ) (d : DeskLent) (bytes : Bytes d.queues) (accepted : (outcome pool (desk d)).number ≡ 0) where
  passes : Passes pool (desk d)
  passes = (accepted_ends pool (desk d) accepted).passes

  -- There are joined bytes,
  joined_there : joined_by (queues_of d.lengths d.queues) ≡ None → ⊥
  joined_there e = none_some (joined-read None ∙ sym (ap (λ (o : Option (List ℕ)). commands_of (joined_or o)) e) ∙ passes.are)

  module _ (qs : List (List ℕ)) (cut : queues_of d.lengths d.queues ≡ Some qs) (css : List (List Command)) (read : all_commands qs ≡ Some css) where
    joined_are : joined_by (queues_of d.lengths d.queues) ≡ Some (joined_bytes css)
    unfolding joined_of
    joined_are = ap joined_by cut ∙ ap bytes_by read

    -- and these are commands,
    joined_valid : commands_of (joined_bytes css) ≡ None → ⊥
    joined_valid e = none_some (sym e ∙ sym (ap (λ (o : Option (List ℕ)). commands_of (joined_or o)) joined_are) ∙ passes.are)

    -- those of the turns, each with its 05 before it.
    joined-turns : commands_of (joined_bytes css) ≡ Some (interleaved (turns css))
    joined-turns = go (le_or (length (joined_bytes css)) most_batch_bytes)
      where
        go : (length (joined_bytes css) ≤ most_batch_bytes) ⊎ (most_batch_bytes < length (joined_bytes css)) →
            commands_of (joined_bytes css) ≡ Some (interleaved (turns css))
        go (inl l) = joined_short (cut_bytes d.lengths d.queues qs cut bytes) (cut_few d.lengths d.queues qs cut) (all_read qs css read) l
        go (inr l) = absurd (joined_valid (joined_long css l))

    runs : commands_in (fed_of pool (desk d)) ≡ interleaved (turns css)
    runs =
        ap₂ (λ (n : ℕ) (o : Option (List ℕ)). commands_by (eqb n 0) (commands_of (joined_or o))) accepted joined_are ∙
        ap (commands_by true) joined-turns

  pub desk_reads : DeskReads pool d
  unfolding joined_of
  desk_reads = go (queues_of d.lengths d.queues) refl
    where
      on : (qs : List (List ℕ)) → queues_of d.lengths d.queues ≡ Some qs → (o : Option (List (List Command))) → all_commands qs ≡ o → DeskReads pool d
      on qs e None f = absurd (joined_there (ap joined_by e ∙ ap bytes_by f))
      on qs e (Some css) f = record { queues = qs; cut = e; commands = css; read = f; served = runs qs e css f }

      go : (o : Option (List (List ℕ))) → queues_of d.lengths d.queues ≡ o → DeskReads pool d
      go None e = absurd (joined_there (ap joined_by e))
      go (Some qs) e = on qs e (all_commands qs) refl

-- A PANEL'S BILL, of any turns: its commands are those that the panel is served, in order,
module _ (limit : ℕ) where
  billed-picks : (p : ℕ) (xs : List (ℕ × Command)) (n : Session) (b : Book) → bill_commands (billed limit p xs n b) ≡ picks p xs
  billed-picks p [] n b = refl
  billed-picks p (x ∷ xs) n b =
      let m = with_panel x.0 n in
      let n' = session_after x.1 (answer limit m x.1 b) m in
      let b' = done_book limit m x.1 b in
      go (is_of p x) (cost_book limit m x.1 b) (billed limit p xs n' b') (billed-picks p xs n' b')
    where
      go : (f : Bool) (k : ℕ) (ys : List (Command × ℕ)) → bill_commands ys ≡ picks p xs →
          bill_commands (cons_if f (x.1, k) ys) ≡ cons_if f x.1 (picks p xs)
      go true k ys e = ap (x.1 ∷◌) e
      go false k ys e = e

  -- and it adds up to the panel's charge, where a command 05, which costs nothing, stands before each.
  only-nothing : (p q : ℕ) → only p 0 q ≡ 0
  only-nothing p q = go (eqb q p)
    where
      go : (f : Bool) → choose {A = ℕ} f 0 0 ≡ 0
      go true = refl
      go false = refl

  bill_total-cons_if : (f : Bool) (c : Command) (k : ℕ) (ys : List (Command × ℕ)) →
      bill_total (cons_if f (c, k) ys) ≡ choose f k 0 + bill_total ys
  bill_total-cons_if true c k ys = refl
  bill_total-cons_if false c k ys = omega arith

  billed-sum : (p : ℕ) (xs : List (ℕ × Command)) (n : Session) (b : Book) →
      charge_book limit p (interleaved xs) n b ≡ bill_total (billed limit p xs n b)
  unfolding requests
  billed-sum p [] n b = refl
  billed-sum p (x ∷ xs) n b =
      let m = with_panel x.0 n in
      let n' = session_after x.1 (answer limit m x.1 b) m in
      let b' = done_book limit m x.1 b in
      omega (
        arith,
        only-nothing n.panel p,
        bill_total-cons_if (eqb p x.0) x.1 (cost_book limit m x.1 b) (billed limit p xs n' b'),
        billed-sum p xs n' b',
      )

  -- Of the turns of queues: the bill is for the panel's own queue, whole and in order; for nothing, where it has none;
  module _ (css : List (List Command)) (n : Session) (b : Book) where
    pub billed-own : (p : ℕ) → bill_commands (billed limit p (turns css) n b) ≡ get_or css p []
    billed-own p = billed-picks p (turns css) n b ∙ own_order css p

    pub billed-none : (p : ℕ) → get_or css p [] ≡ [] → bill_total (billed limit p (turns css) n b) ≡ 0
    billed-none p e = go (billed limit p (turns css) n b) (billed-own p ∙ e)
      where
        go : (ys : List (Command × ℕ)) → bill_commands ys ≡ [] → bill_total ys ≡ 0
        go [] f = refl
        go (y ∷ ys) f = cc

    -- and it is what the panel is charged.
    billed-charge : length css ≤ panels → (p : ℕ) →
        get_or (charges_book limit (interleaved (turns css)) n b) p 0 ≡ bill_total (billed limit p (turns css) n b)
    billed-charge few p = go (le_or panels p)
      where
        charged : ℕ → ℕ
        charged q = charge_book limit q (interleaved (turns css)) n b

        go : (panels ≤ p) ⊎ (p < panels) →
            get_or (charges_book limit (interleaved (turns css)) n b) p 0 ≡ bill_total (billed limit p (turns css) n b)
        go (inl l) =
            get_or-eq_default (charges_book limit (interleaved (turns css)) n b) 0 (omega (arith, length_each charged)) ∙
            omega (arith, billed-none p (get_or-eq_default css [] (omega arith)))
        go (inr l) = each_at charged p l ∙ billed-sum p (turns css) n b

-- EACH CHARGE of an accepted call, on a pool that stands.
pub desk_charge : {t : Tariff} {pool : List ℕ} {b : Book} {ps : List Pair} → OpenPool t pool b ps → (d : DeskLent) → Bytes d.queues →
    (r : DeskReads pool d) (p : ℕ) →
    get_or (outcome pool (desk d)).charges p 0 ≡ bill_total (billed (node_limit (blocks_of pool)) p (turns r.commands) (at_first t) b)
desk_charge {t} {pool} {b} {ps} o d bytes r p =
    let limit = node_limit (blocks_of pool) in
    let charged = (called o (desk d) (run-bytes (desk d) bytes)).charges ∙ ap (λ (cs : List Command). charges_book limit cs (at_first t) b) r.served in
    let few : length r.commands ≤ panels =
    omega (arith, read_length (all_read r.queues r.commands r.read), cut_few d.lengths d.queues r.queues r.cut) in
    ap (λ (xs : List ℕ). get_or xs p 0) charged ∙ billed-charge limit r.commands (at_first t) b few p
