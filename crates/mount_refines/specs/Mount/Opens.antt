-- QUESTIONS 7 AND 8 in code are the model's: where one fails its number is the refusal; where both pass the pool opens, and pages, rows and state
-- agree with the state that the model opens. Assumes nothing.
use Rattle.std.proofs.Math.Path.{◌≡◌, refl, ap, subst}
use Rattle.std.proofs.Common.{sym, ◌∙◌, arith}
use Rattle.std.specs.Prelude.{Bool, ◌&&◌, List, ℕ, ◌*◌, ◌≤◌, length}
use Rattle.std.proofs.Math.Bool.{true, false}
use borrow.Author.Tests.{leb-true}
use Rattle.std.proofs.Math.Dec.{leb}
use Rattle.laws.specs.Tests.{choose, and_left, and_right}
use Rattle.layout.specs.Layout.{node_limit, table_bytes, last_sequence}
use Rattle.account.specs.declared.Tariff.{Tariff}
use Rattle.account.specs.Range.{Ranged}
use Rattle.store.specs.Store.{Store}
use Rattle.store.specs.Reopen.{Cells, reopened}
use Rattle.store_laws.specs.Opening as Opening
use Rattle.model.specs.State as Model
use Rattle.model.specs.Mount.{refused, opened, state_of, three_pages, TreeSound, numbers_left, ask, mount_cells}
use Rattle.model.specs.Pool.{mount_of}
use Rattle.demands.specs.Mount.{Mounts, mounts_sealed, mounts_opened, mounts_ready, ranged}
use Rattle.demands.specs.MountFits.{opened-enters}
use Rattle.demands.specs.PoolBytes.{cells_of-is}
use Rattle.flash_rows.specs.Worktable.{Worktable}
use Rattle.flash_blocks.specs.Pages.{pages_of}
use Rattle.flash_allocate.specs.declared.state.State.{State}
use Rattle.flash_allocate.specs.World.{Good, world}
use Rattle.mount_rows.specs.Fill.{within_three}
use Rattle.flash_refines.specs.Store.Follows.{Follows}
use Rattle.run_refines.specs.Commands.Lists.{Runs}
use Rattle.mount_restore.specs.Table.{restored_table}
use Rattle.mount_restore.specs.Questions.{rows_pass, table_for, tree_passes, refusal_of}
use Rattle.mount_refines.specs.Rows.Fill.{beginning}
use Rattle.mount_refines.specs.Mount.Refusals.{judged_cells}
use Rattle.mount_refines.specs.Mount.Known.{Known, completes}
use Rattle.mount_refines.specs.Mount.Tree.{three_same, tree_is, follows, writable}

-- A POOL THAT OPENED: the state that the model opens it with, and everything that a batch needs to go on.
pub record Opens (pool : List ℕ) (table_length blocks : ℕ) (table : Worktable) (t : Tariff) (s : State) : Type 0 where
  pub state : Model.State
  pub is : mount_of pool ≡ opened t state
  pub runs : Runs blocks (world (pages_of pool) table s) state
  pub good : Good (length pool) table_length s
  pub no_checkpoint_page : s.checkpoint ≡ 0
  pub left : s.last ≤ last_sequence
  pub ranged : Ranged t

module _ {pool : List ℕ} {blocks : ℕ} {c : Cells} {t : Tariff} {nodes since : ℕ} (k : Known pool blocks c t nodes since) where
  abbrev st : Store
  st = reopened blocks c

  abbrev s : State
  s = beginning blocks nodes st

  abbrev pages : List (List ℕ)
  pages = pages_of pool

  -- two questions are left
  left_are : mount_of pool ≡ ask 7 (tree_passes t s since pages) (ask 8 (leb s.last last_sequence) (opened t (state_of st)))
  unfolding mount_cells
  left_are =
      judged_cells k.judged ∙
      rw (k.judged.pass, (completes k).whole, (completes k).tariff-is)
      (ap (λ (b : Bool). ask 7 b (ask 8 (numbers_left st) (opened t (state_of st)))) (sym (tree_is k)))

  pub refused-later : (number : ℕ) → number ≡ refusal_of t s since pages → (number ≡ 0 → ⊥) → mount_of pool ≡ refused number
  unfolding refusal_of
  refused-later number e not-zero = left_are ∙ go (tree_passes t s since pages) (leb s.last last_sequence) e
    where
      go : (a b : Bool) → number ≡ choose a (choose b 0 8) 7 → ask 7 a (ask 8 b (opened t (state_of st))) ≡ refused number
      go false b q = ap refused (sym q)
      go true false q = ap refused (sym q)
      go true true q = absurd (not-zero q)

  record Passed : Type 0 where
    tree : tree_passes t s since pages ≡ true
    numbers : leb s.last last_sequence ≡ true

  passed : refusal_of t s since pages ≡ 0 → Passed
  unfolding refusal_of
  passed e = go (tree_passes t s since pages) refl (leb s.last last_sequence) refl e
    where
      go : (a : Bool) → tree_passes t s since pages ≡ a → (b : Bool) → leb s.last last_sequence ≡ b →
          ◌≡◌ {A = ℕ} (choose a (choose b 0 8) 7) 0 → Passed
      go true p true q r = record { tree = p; numbers = q }
      go true p false q r = absurd (omega arith)
      go false p b q r = absurd (omega arith)

  -- WHERE BOTH PASS the pool opens.
  module _ (p : Passed) where
    few : nodes ≤ node_limit blocks
    unfolding tree_passes
    few = leb-true nodes (node_limit blocks) (and_left (leb nodes (node_limit blocks)) _ p.tree)

    sound_tree : TreeSound blocks t st ≡ true
    sound_tree = sym (tree_is k) ∙ p.tree

    rows_right : (within_three nodes (table_for s since pages).rows && rows_pass t s pages (table_for s since pages)) ≡ true
    unfolding tree_passes
    rows_right = and_right (leb nodes (node_limit blocks)) _ p.tree

    three : three_pages nodes st ≡ true
    three = sym (three_same k few) ∙ and_left (within_three nodes (table_for s since pages).rows) _ rows_right

    mounts : Mounts blocks c t
    mounts =
        record {
          pass = k.judged.pass;
          complete = (completes k).whole;
          tariff = (completes k).tariff-is;
          sound = sound_tree;
          left = p.numbers;
        }

    opened-cells : mount_cells blocks c ≡ opened t (state_of st)
    opened-cells = mounts_opened mounts

    opened-run : Opening.opened blocks nodes c ≡ (state_of st).run
    unfolding state_of
    opened-run = ap (λ (n : ℕ). Opening.opened blocks n c) (sym (completes k).nodes_are)

    agrees : Follows (state_of st).score (world pages (restored_table blocks nodes since pages) s) (state_of st).run
    unfolding state_of
    agrees = subst (Follows (state_of st).score (world pages (restored_table blocks nodes since pages) s)) opened-run (follows k few three)

    opens : (table : Worktable) → table ≡ table_for s since pages → (table_length : ℕ) → table_length ≡ table_bytes blocks →
        Opens pool table_length blocks table t s
    opens table e table_length size =
        record {
          state = state_of st;
          is = judged_cells k.judged ∙ opened-cells;
          runs =
              record {
                few = k.most;
                agrees = subst (λ (x : Worktable). Follows (state_of st).score (world pages x s) (state_of st).run) (sym e) agrees;
                sound = (mounts_ready k.few mounts).says.sound;
                fits =
                    (opened-enters blocks c t (state_of st)
                    (cells_of-is pool k.bytes (32 * blocks) (omega (arith, k.judged.size)) c k.judged.reads).fits opened-cells).fits;
              };
          good =
              record {
                few = k.few;
                most = k.most;
                pool = k.judged.size;
                table = omega (arith, size);
                inside = (writable k few three).good.invariant.rules.inside;
                full = (follows k few three).mirrors.pages.most st.current;
                used = omega (arith, few);
                entries = omega arith;
              };
          no_checkpoint_page = refl;
          left = leb-true s.last last_sequence p.numbers;
          ranged = ranged k.few (mounts_sealed mounts);
        }

  pub opened-later : refusal_of t s since pages ≡ 0 → (table : Worktable) → table ≡ table_for s since pages → (table_length : ℕ) →
      table_length ≡ table_bytes blocks → Opens pool table_length blocks table t s
  opened-later e = opens (passed e)
