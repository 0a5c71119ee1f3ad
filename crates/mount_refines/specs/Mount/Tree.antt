-- Question 7 in code is the model's: "Is the tree sound?" Assumes nothing.
use Rattle.std.specs.Prelude.{◌≡◌, refl, Bool, ◌&&◌, ◌⊎◌, List, ℕ, ◌≤◌, ◌<◌, replicate}
use Rattle.std.proofs.Math.Path.{sym, ap, ap₂}
use Rattle.std.proofs.Common.{◌∙◌, inl, inr, arith, le-leb}
use Rattle.std.proofs.Math.Bool.{true, false, and-false}
use Rattle.std.proofs.lemmas.Bool.{lt-leb}
use Rattle.std.proofs.lemmas.List.{length-replicate}
use Rattle.laws.specs.Order.{le_or}
use Rattle.laws.specs.Loops.{all_from}
use Rattle.layout.specs.Layout.{node_limit, table_bytes, pages_in_block}
use Rattle.account.specs.declared.Tariff.{Tariff}
use Rattle.account.specs.Tariff.{limit}
use Rattle.account.specs.Range.{in_range}
use Rattle.tree.specs.Sound.{sound}
use Rattle.store.specs.Store.{Store}
use Rattle.store.specs.Checkpoint.{checkpoint_of, scores_in}
use Rattle.store.specs.Reopen.{Cells, blocks_in, newest, reopened}
use Rattle.store_laws.specs.Opening.{opened}
use Rattle.model.specs.State.{book_of}
use Rattle.model.specs.Mount.{state_of, three_pages, scores_below, TreeSound}
use Rattle.demands.specs.Says.{book_of-table}
use Rattle.flash_rows.specs.Worktable.{Worktable, buffer_bytes}
use Rattle.flash_blocks.specs.Pages.{pages_of}
use Rattle.flash_allocate.specs.declared.state.State.{State}
use Rattle.flash_allocate.specs.World.{world}
use Rattle.flash_read.specs.NodeTable.{table_of, table_of_in}
use Rattle.mount_tree.specs.Verdict.{past_limit}
use Rattle.mount_tree.specs.Unsound.{SameNeat, sound_neat}
use Rattle.mount_rows.specs.Fill.{within_three}
use Rattle.flash_refines.specs.Store.Follows.{Follows, Writable}
use Rattle.mount_refines.specs.Checkpoint.Pool.{last-is}
use Rattle.mount_refines.specs.Checkpoint.Found.{found-set}
use Rattle.mount_refines.specs.Checkpoint.Scores.{scores-below}
use Rattle.mount_refines.specs.Rows.Fill.{beginning, three_is, rows_follow, opened_writable}
use Rattle.mount_restore.specs.Table.{restored_rows, restored_table}
use Rattle.mount_restore.specs.Questions.{rows_pass, tree_passes}
use Rattle.mount_refines.specs.Mount.Known.{score_from, Known, completes}
use Rattle.mount_refines.specs.Mount.Rows.{rows-given}
use Rattle.mount_refines.specs.Mount.AnyNode.{read_as}
use Rattle.mount_restore.specs.Scores.{is_below}

-- The tests in the code's order and in the model's.
reordered : (ranged below tree : Bool) → (ranged && (below && tree)) ≡ (tree && (true && (ranged && below)))
reordered true true true = refl
reordered true true false = refl
reordered true false true = refl
reordered true false false = refl
reordered false below true = refl
reordered false below false = refl

module _ {pool : List ℕ} {blocks : ℕ} {c : Cells} {t : Tariff} {nodes since : ℕ} (k : Known pool blocks c t nodes since) where
  abbrev st : Store
  st = reopened blocks c

  abbrev pages : List (List ℕ)
  pages = pages_of pool

  abbrev table : Worktable
  table = restored_table blocks nodes since pages

  abbrev s : State
  s = beginning blocks nodes st

  -- the model's question, by the count of nodes
  asked : ℕ → Bool
  asked n =
      sound (node_limit blocks) n (book_of (state_of st)).table &&
      (three_pages n st && (in_range t && scores_below (limit t) (scores_in (checkpoint_of st))))

  question_is : TreeSound blocks t st ≡ asked nodes
  unfolding TreeSound state_of asked
  question_is = ap asked (completes k).nodes_are

  -- A checkpoint lies on a page.
  some_page : 0 < newest (blocks_in pages_in_block blocks c)
  unfolding reopened
  some_page =
      omega (arith, last-is k.judged, (found-set k.judged (table_bytes blocks) (omega arith) t nodes since k.told).end)

  module _ (few : nodes ≤ node_limit blocks) where
    pub three_same : within_three nodes table.rows ≡ three_pages nodes st
    unfolding restored_rows
    three_same = three_is (rows-given k few)

    module _ (three : three_pages nodes st ≡ true) where
      pub follows : Follows (score_from blocks c) (world pages table s) (opened blocks nodes c)
      unfolding restored_rows
      follows = rows_follow (rows-given k few) three (replicate buffer_bytes 0) (length-replicate {A = ℕ} buffer_bytes 0)

      pub writable : Writable blocks (opened blocks nodes c)
      writable = opened_writable (rows-given k few) k.few k.most some_page three

      -- each node is read as the model says it, or is in no sound tree
      same_nodes : SameNeat nodes (book_of (state_of st)).table (table_of pages table s)
      unfolding state_of
      same_nodes n l =
          rw (book_of-table (state_of st) n (omega (arith, (completes k).nodes_are)), table_of_in pages table s n l) (read_as writable follows n l)

      tree_same : sound (node_limit blocks) nodes (table_of pages table s) ≡ sound (node_limit blocks) nodes (book_of (state_of st)).table
      tree_same = sym (sound_neat (node_limit blocks) nodes (book_of (state_of st)).table (table_of pages table s) same_nodes)

      below_same : all_from (is_below (limit t) table.rows) nodes 0 ≡ scores_below (limit t) (scores_in (checkpoint_of st))
      below_same = scores-below k.judged (table_bytes blocks) (omega arith) t nodes since k.told (limit t) table.rows follows.scores

  -- QUESTION 7, whatever the count.
  pub tree_is : tree_passes t s since pages ≡ TreeSound blocks t st
  unfolding tree_passes rows_pass asked
  tree_is = go (le_or nodes (node_limit blocks)) ∙ sym question_is
    where
      by_three : (few : nodes ≤ node_limit blocks) (b : Bool) → three_pages nodes st ≡ b → (b && rows_pass t s pages table) ≡
          (sound (node_limit blocks) nodes (book_of (state_of st)).table && (b && (in_range t && scores_below (limit t) (scores_in (checkpoint_of st)))))
      by_three few true e =
          ap₂ (λ (x y : Bool). in_range t && (x && y)) (below_same few e) (tree_same few e) ∙
          reordered (in_range t) (scores_below (limit t) (scores_in (checkpoint_of st))) (sound (node_limit blocks) nodes (book_of (state_of st)).table)
      by_three few false e = sym (and-false (sound (node_limit blocks) nodes (book_of (state_of st)).table))

      go : (nodes ≤ node_limit blocks) ⊎ (node_limit blocks < nodes) → tree_passes t s since pages ≡ asked nodes
      go (inl few) = rw (le-leb nodes (node_limit blocks) few, three_same few) (by_three few (three_pages nodes st) refl)
      go (inr many) = rw (lt-leb nodes (node_limit blocks) many, past_limit (node_limit blocks) nodes (book_of (state_of st)).table many) refl
