-- Questions 5 to 8, the commands and the checkpoint, put together from what the code of each leaves. Assumes nothing.
use Rattle.std.specs.Prelude.{◌≡◌, refl, List, ℕ, length, Some}
use Rattle.std.proofs.Common.{sym, ap, ◌∙◌, subst, arith}
use Rattle.std.proofs.lemmas.List.{length-replicate}
use Rattle.laws.specs.BigEndian.{Bytes}
use Rattle.laws.specs.Lay.{lay-whole}
use Rattle.laws.specs.Options.{some_same}
use Rattle.layout.specs.Layout.{table_bytes}
use Rattle.account.specs.declared.Tariff.{Tariff}
use Rattle.command.specs.declared.Command.{Command}
use Rattle.book.specs.Session.{at_first}
use Rattle.book.specs.InTurn.{no_charges}
use Rattle.book.specs.EachPanel.{length_each}
use Rattle.model.specs.Mount.{refused}
use Rattle.model.specs.Pool.{blocks_of, mount_of}
use Rattle.model.specs.PoolLaws.{blocks-length}
use Rattle.model.specs.Questions.{first_no, of_pool}
use Rattle.model.specs.Outcome as Model
use Rattle.model.specs.Outcome.{cleared, work_by, accept, ended}
use Rattle.model.proofs.MountEnds.{opens_yes, refused_no}
use Rattle.model.proofs.OutcomeLaws.{ended_no, table-cleared}
use Rattle.flash_rows.specs.Worktable.{Worktable, table_from}
use Rattle.flash_blocks.specs.Pages.{pages_of}
use Rattle.flash_allocate.specs.declared.state.State.{State}
use Rattle.flash_allocate.specs.World.{World, world}
use Rattle.flash_checkpoint.specs.CheckpointPages.{checkpoint}
use Rattle.run_split.specs.Growing.{Growing}
use Rattle.mount_refines.specs.Mount.Opens.{Opens}
use Rattle.run.specs.Session.{Ran}
use Rattle.run.specs.Run.{run_world, run_charge, RunAs}
use Rattle.batch_refines.specs.Accepted.{accepted}
use Rattle.batch.specs.Left.{Outcome, refused_with, Leaves, refused-leaves, Accepts, Worked}
use Rattle.batch.specs.Closed.{done_with, zeros, Unopened, Closed}

-- A table of just the pool's size is all zero afterwards.
pub cleared-whole : (blocks : ℕ) (table : List ℕ) → length table ≡ table_bytes blocks → cleared blocks table ≡ zeros (length table)
cleared-whole blocks table e =
    lay-whole table (zeros (table_bytes blocks)) (length-replicate {A = ℕ} (table_bytes blocks) 0 ∙ sym e) ∙ ap zeros (sym e)

module _ (pool table batch answers : List ℕ) {blocks : ℕ} (a : Accepts (length pool) (length table) blocks batch (length answers)) (table' : List ℕ)
    (zero : table' ≡ zeros (length table)) where
  blocks_are : blocks_of pool ≡ blocks
  blocks_are = blocks-length pool blocks a.pool

  cleared-is : table' ≡ cleared (blocks_of pool) table
  cleared-is = zero ∙ sym (cleared-whole (blocks_of pool) table (rw blocks_are a.table))

  -- A pool that is refused.
  pub worked_refused : (number : ℕ) → mount_of pool ≡ refused number → (charges : List ℕ) → charges ≡ no_charges →
      Worked pool pool table table' batch answers answers charges (refused_with number)
  worked_refused number e charges none =
      let no = refused_no pool e in
      record {
        leaves =
            λ cs are.
            let w = work_by (Some cs) (mount_of pool) in
            subst (λ (o : Model.Outcome). Leaves o (refused_with number) pool table' answers charges)
            (sym (ended_no number (omega (arith, no.least)) w pool table answers) ∙
            ap (λ (n : ℕ). ended n w pool table answers) (sym no.first))
            (refused-leaves number pool table table' answers charges
            (cleared-is ∙ sym (table-cleared number (blocks_of pool) table (omega (arith, no.least)))) none);
      }

  -- One that opens, its commands run and its checkpoint written.
  module _ (bytes : Bytes batch) {table_length P T : ℕ} {held held₁ held₂ : Worktable} {t : Tariff} {st st₂ : State}
      (o : Opens pool table_length blocks held t st)
      {pages₁ : List (List ℕ)} {answers₁ charges : List ℕ} {p : Ran}
      (ran : RunAs P T pages₁ held₁ answers answers₁ charges p t a.commands (world (pages_of pool) held st))
      (pool' : List ℕ) (written : world (pages_of pool') held₂ st₂ ≡ checkpoint t (world pages₁ held₁ p.state))
      (kept : st₂.blocks ≡ p.state.blocks) (size : length pool' ≡ length pool) where
    abbrev w : World
    w = world (pages_of pool) held st

    end : world (pages_of pool') held₂ st₂ ≡ checkpoint t (run_world a.commands (at_first t) w)
    end = written ∙ ap (checkpoint t) ran.kept.is

    blocks_end : (checkpoint t (run_world a.commands (at_first t) w)).state.blocks ≡ blocks
    blocks_end =
        ap (λ (z : World). z.state.blocks) (sym end) ∙ kept ∙ ran.kept.blocks ∙ sym o.runs.agrees.mirrors.pages.size ∙
        o.runs.sound.good.invariant.rules.size

    by-commands : Leaves (accept blocks t a.commands o.state table answers) (done_with p) pool' table' answers₁ charges
    by-commands =
        let l =
        accepted o a.least a.pool batch bytes a.commands a.are table answers pool' (ap (λ (z : World). z.pages) end) blocks_end (size ∙ a.pool) in
        record {
          number = refl;
          pool = l.pool;
          cleared = zero ∙ sym (cleared-whole blocks table a.table);
          replies = ran.answers ∙ l.answers;
          long = ran.behind ∙ l.length;
          paid = ran.paid ∙ l.charges;
          sixteen = ap length ran.paid ∙ length_each (λ q. run_charge q a.commands (at_first t) w);
        }

    abbrev end_of : List Command → Model.Outcome
    end_of cs = ended (first_no (of_pool pool)) (work_by (Some cs) (mount_of pool)) pool table answers

    done_as : (cs : List Command) → a.commands ≡ cs → accept blocks t a.commands o.state table answers ≡ end_of cs
    done_as cs same = rw (opens_yes pool o.is, o.is, blocks_are, same) refl

    pub worked_done : Worked pool pool' table table' batch answers answers₁ charges (done_with p)
    worked_done =
        record {
          leaves =
              λ cs are.
              subst (λ (right : Model.Outcome). Leaves right (done_with p) pool' table' answers₁ charges)
              (done_as cs (some_same (sym a.are ∙ are))) by-commands;
        }

-- The same, from what the code of each leaves.
module _ {pool table batch answers : List ℕ} {blocks : ℕ} (a : Accepts (length pool) (length table) blocks batch (length answers)) {held : List ℕ}
    (size : length held ≡ length table) {table' : List ℕ} {r : Outcome} where
  pub worked_unopened : {number : ℕ} → mount_of pool ≡ refused number → (charges : List ℕ) → charges ≡ no_charges → Unopened held table' number r →
      Worked pool pool table table' batch answers answers charges r
  worked_unopened {number} e charges none u =
      subst (λ (o : Outcome). Worked pool pool table table' batch answers answers charges o) (sym u.says)
      (worked_refused pool table batch answers a table' (u.zero ∙ ap zeros size) number e charges none)

  pub worked_closed : Bytes batch → {table_length P T : ℕ} {rows : Worktable} {t : Tariff} {st : State} → Opens pool table_length blocks rows t st →
      {pool₁ answers₁ charges : List ℕ} {p : Ran} {cs : List Command} → cs ≡ a.commands →
      RunAs P T (pages_of pool₁) (table_from held) answers answers₁ charges p t cs (world (pages_of pool) rows st) → {pool' : List ℕ} →
      Closed pool₁ pool' held table' p t r → length pool' ≡ length pool → Worked pool pool' table table' batch answers answers₁ charges r
  worked_closed bytes {P = P} {T = T} {rows} {t} {st} o {pool₁} {answers₁} {charges} {p} e ran {pool'} c same =
      subst (λ (z : Outcome). Worked pool pool' table table' batch answers answers₁ charges z) (sym c.says)
      (worked_done pool table batch answers a table' (c.zero ∙ ap zeros size) bytes {P = P} {T = T} o
      (subst (λ (cs : List Command). RunAs P T (pages_of pool₁) (table_from held) answers answers₁ charges p t cs (world (pages_of pool) rows st)) e ran)
      pool' c.ended.is c.ended.blocks same)

-- The same of a pool and a table that were lent on as one value: what is in them then is what was closed.
pub worked_lent : {pool table batch answers : List ℕ} {blocks : ℕ} (a : Accepts (length pool) (length table) blocks batch (length answers)) →
    Bytes batch → {table_length P T : ℕ} {rows : Worktable} {t : Tariff} {st : State} →
    Opens pool table_length blocks rows t st → {pool₁ table₁ answers₁ charges : List ℕ} {p : Ran} {cs : List Command} → cs ≡ a.commands →
    RunAs P T (pages_of pool₁) (table_from table₁) answers answers₁ charges p t cs (world (pages_of pool) rows st) →
    {pool₂ table₂ : List ℕ} {r : Outcome} → Closed pool₁ pool₂ table₁ table₂ p t r →
    length table₁ ≡ length table → {pool' table' : List ℕ} → pool' ≡ pool₂ → table' ≡ table₂ → length pool' ≡ length pool →
    Worked pool pool' table table' batch answers answers₁ charges r
worked_lent a bytes {P = P} {T = T} o e ran closed size same_pool same_table long =
    worked_closed a size bytes {P = P} {T = T} o e ran (rw (same_pool, same_table) closed) long

-- A pool that opens has what the commands and the checkpoint ask for.
pub grows : {pool : List ℕ} {table_length blocks : ℕ} {held : Worktable} {t : Tariff} {st : State} → Opens pool table_length blocks held t st → Growing
    (length pool) table_length st
grows {pool} {table_length} {blocks} {held} {t} {st} o =
    let here : st.blocks ≡ blocks = sym o.runs.agrees.mirrors.pages.size ∙ o.runs.sound.good.invariant.rules.size in
    record {
      good = o.good;
      limited = omega (arith, here, o.runs.agrees.nodes, o.runs.sound.good.invariant.nodes);
      no_checkpoint_page = o.no_checkpoint_page;
    }
