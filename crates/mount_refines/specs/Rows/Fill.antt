-- THE ROWS FILLED from a pool that passes question 5 say what its store says: the code's answer is "at most three pages" of every node, and
-- where it is yes, pages and rows follow the store. Assumes nothing.
use Rattle.std.specs.Prelude.{◌≡◌, true, ◌⊎◌, List, length}
use Rattle.std.proofs.Math.Path.{refl, ap₂}
use Rattle.std.proofs.Common.{ap, ◌∙◌, subst, inl, inr, arith, le-leb}
use Rattle.std.proofs.Math.Bool.{◌&&◌}
use Prim.Native.Nat.{ℕ, zero, suc, ◌+◌, ◌≤◌, ◌<◌}
use Rattle.std.proofs.lemmas.Bool.{lt-leb}
use Rattle.std.proofs.Math.Dec.{leb}
use Rattle.laws.specs.Order.{le_or}
use Rattle.layout.specs.Layout.{fewest_blocks, most_blocks, pages_in_block}
use Rattle.page.specs.Image.{image}
use Rattle.page_write.specs.Chunks.{chunks}
use Rattle.store.specs.View.{pages}
use Rattle.store.specs.Pool.{Blocks, block}
use Rattle.store.specs.Store.{Store, view}
use Rattle.store.specs.Live.{carries, no_checkpoint}
use Rattle.store.specs.Reopen.{Cells, blocks_in, newest, store_of, reopened}
use Rattle.store_laws.specs.Opening.{opened, opened_good}
use Rattle.model.specs.Mount.{three_pages}
use Rattle.demands.specs.MountFits.{reopened-fits}
use Rattle.demands.specs.Mount.{three_each}
use Rattle.flash_rows.specs.declared.Row.{Row}
use Rattle.flash_rows.specs.Worktable.{buffer_bytes, worktable}
use Rattle.flash_blocks.specs.Pages.{pages_of}
use Rattle.flash_allocate.specs.declared.state.State.{State}
use Rattle.flash_allocate.specs.World.{world}
use Rattle.flash_refines.specs.Store.Mirror.{row_at, PagesAre, RowsName, RowsSay, Mirrors}
use Rattle.flash_refines.specs.Store.Follows.{Follows, Writable}
use Rattle.flash_refines.specs.Store.Followed.{owners_open}
use Rattle.mount_rows.specs.Fill.{filled, within_three}
use Rattle.mount_refines.specs.Rows.Given.{Given, sized, orderly, same_cells, count-blocks, is-pool}
use Rattle.mount_refines.specs.Rows.Rows.{carried, told, row-version, row-pages, row-names, row_mode}
use Rattle.mount_refines.specs.Rows.Pieces.{cap}
use Rattle.mount_refines.specs.Rows.PoolPages.{pages_stand}

-- The state that a batch begins with: what the store says of the blocks, no checkpoint being written, and nothing in the buffer.
abbrev pub beginning : ℕ → ℕ → Store → State
beginning blocks nodes st =
    record {
      blocks = blocks;
      current = st.current;
      fill = length (block st.blocks st.current);
      nodes = nodes;
      checkpoint = 0;
      last = st.last;
      entries = 0;
    }

module _ {blocks nodes : ℕ} {score : ℕ → ℕ} {pool : List ℕ} {c : Cells} {rows : List Row} (g : Given blocks nodes score pool c rows) where
  abbrev bs : Blocks
  bs = blocks_in pages_in_block blocks c

  abbrev st : Store
  st = store_of bs

  abbrev after : List Row
  after = filled blocks nodes (pages_of pool) rows

  -- ---- THE ANSWER
  few_same : (p : ℕ) → leb (cap p) 3 ≡ leb p 3
  few_same p = go (le_or p 3)
    where
      go : (p ≤ 3) ⊎ (3 < p) → leb (cap p) 3 ≡ leb p 3
      go (inl l) = rw (le-leb p 3 l) (le-leb (cap p) 3 (omega arith))
      go (inr l) = rw (lt-leb p 3 l) (lt-leb (cap p) 3 (omega arith))

  three_below : (k : ℕ) → k ≤ nodes → within_three k after ≡ three_pages k st
  unfolding within_three three_pages
  three_below zero l = refl
  three_below (suc k) l =
      ap₂ ◌&&◌ (ap (λ (p : ℕ). leb p 3) (row-pages g k (omega arith)) ∙ few_same (pages (view st) k)) (three_below k (omega arith))

  pub three_is : within_three nodes after ≡ three_pages nodes (reopened blocks c)
  unfolding reopened
  three_is = three_below nodes (omega arith)

  -- ---- THE RELATION
  module _ (few : three_pages nodes (reopened blocks c) ≡ true) where
    pages_few : (n : ℕ) → n < nodes → pages (view st) n ≤ 3
    unfolding reopened
    pages_few n l = three_each nodes st few n l

    row_few : (n : ℕ) → n < nodes → (row_at after n).pages ≤ 3
    row_few n l = omega (arith, row-pages g n l, pages_few n l)

    named : RowsName blocks (nodes + 0) (carries (view st)) after bs
    named =
        record {
          long = omega (arith, (carried g).long, g.table, g.limit);
          each = λ n i q l li lq. row-names g n (omega arith) (row_few n (omega arith)) i q li lq;
        }

    said : RowsSay nodes after st
    said =
        record {
          version = row-version g;
          mode = row_mode g;
          pages = λ n l. omega (arith, row-pages g n l, pages_few n l);
        }

    mirrored : (buffer : List ℕ) → Mirrors image (carries (view st)) no_checkpoint (world (pages_of pool) (worktable buffer after) (beginning blocks nodes st)) st
    mirrored buffer =
        record {
          pages =
              subst (λ (k : ℕ). PagesAre k image (pages_of pool) bs) (count-blocks g)
              (pages_stand (is-pool g) bs (same_cells g) (omega (arith, (sized g).size, count-blocks g)) (orderly g).most);
          names = named;
          owners = owners_open nodes 0 refl st;
          rows = said;
          current = refl;
          fill = refl;
          last = refl;
        }

    -- PAGES AND ROWS FOLLOW THE STORE that the pool spells, whatever the buffer's bytes.
    pub rows_follow : (buffer : List ℕ) → length buffer ≡ buffer_bytes →
        Follows score (world (pages_of pool) (worktable buffer after) (beginning blocks nodes (reopened blocks c))) (opened blocks nodes c)
    unfolding reopened chunks
    rows_follow buffer size =
        record {
          table = omega (arith, (carried g).long, g.table);
          nodes = refl;
          no_checkpoint_page = refl;
          mirrors = mirrored buffer;
          buffer = record { size = size; number = refl; bytes = refl };
          scores = λ n l. (told g n l).score ∙ g.scores n l;
        }

-- THE RUN that such a pool begins is in good order, where it has a page at all (question 6 asks for a checkpoint).
pub opened_writable : {blocks nodes : ℕ} {score : ℕ → ℕ} {pool : List ℕ} {c : Cells} {rows : List Row} → Given blocks nodes score pool c rows →
    fewest_blocks ≤ blocks → blocks ≤ most_blocks → 0 < newest (blocks_in pages_in_block blocks c) → three_pages nodes (reopened blocks c) ≡ true →
    Writable blocks (opened blocks nodes c)
opened_writable {blocks} {nodes} {c = c} g four most page few =
    record {
      few = most;
      good =
          opened_good
          (record { blocks = four; nodes = g.limit; pass = g.pass; some = page; three = three_each nodes (reopened blocks c) few });
      fits = reopened-fits blocks c (is-pool g).fits;
    }
