-- No row stands behind the node count: restoring begins with an empty table and sets the rows of nodes alone. So the place behind the rows of the
-- nodes is free for the check of the tree, and zeros there give the restored rows again. Assumes nothing.
use Rattle.std.specs.Prelude.{◌≡◌, Bool, ◌⊎◌, ltb, eqb, length, set, drop, replicate}
use Rattle.std.proofs.Math.Path.{refl, sym, ap, ap₂, fun_ext}
use Rattle.std.proofs.Common.{◌∙◌, inl, inr, arith, ltb-true, length-drop, get_or-set_other, ext_get_or, length-take-le, take-take}
use Rattle.std.proofs.Math.Bool.{true, false}
use mathlib.Core.List.{List}
use Prim.Native.Nat.{ℕ, zero, suc, ◌+◌, ◌-◌, ◌*◌, ◌≤◌, ◌<◌}
use Rattle.std.proofs.Math.ListN.{get_or, take, get_or-eq_default}
use Rattle.std.proofs.lemmas.List.{length-replicate}
use Rattle.laws.specs.Order.{le_or}
use Rattle.laws.specs.Tests.{choose}
use Rattle.laws.specs.Lists.{drop-take}
use Rattle.laws.specs.Lay.{lay, part, part-lay, part-lay-before, part-part, part-take, length-lay, part-replicate}
use Rattle.laws.specs.Chunks.{drop-lay-front}
use Rattle.laws.specs.BigEndian.{number_at}
use Rattle.laws.specs.Loops.{steps-keep}
use Rattle.layout.specs.Layout.{table_bytes, pages_in_block, most_entries}
use Rattle.wire.specs.Field.{payload_at}
use Rattle.account.specs.declared.Mode.{Mode}
use Rattle.store.specs.Store.{node_in}
use Rattle.flash_rows.specs.Row.{mode_from, decode, rows_of, no_row, row_bytes}
use Rattle.flash_rows.specs.declared.Row.{Row}
use Rattle.flash_rows.specs.Worktable.{worktable, buffer_bytes, rows_at, buffer_of, rows_in, table_from}
use Rattle.flash_rows.proofs.Laws.{length-rows, get_rows}
use Rattle.flash_blocks.specs.Pages.{page_at}
use Rattle.flash_allocate.specs.declared.state.State.{State}
use Rattle.flash_read.specs.Content.{content_by, content}
use Rattle.flash_read.specs.NodeTable.{table_of, table_of_in, table_of_out}
use Rattle.mount_checkpoint_pages.specs.CheckpointPage.{number_of, scores_on}
use Rattle.mount_checkpoint.specs.Marks.{score_at}
use Rattle.mount_checkpoint.specs.Scores.{score_taken, take_scores, take_page, take_pages}
use Rattle.mount_rows.specs.Seen.{seen_at}
use Rattle.mount_rows.specs.Pieces.{seen_entry, seen_run, seen_node}
use Rattle.mount_rows.specs.Fill.{seen_page, filled}
use Rattle.mount_restore.specs.Table.{empty_rows, scored_rows, restored_rows}

-- From a number on every row is that of a node that lies nowhere.
abbrev pub BlankFrom : ℕ → List Row → Type 0
BlankFrom count rows = (n : ℕ) → count ≤ n → get_or rows n no_row ≡ no_row

-- ---- zeros

zero_row : decode (replicate row_bytes 0) ≡ no_row
unfolding decode no_row number_at part mode_from
zero_row = refl

-- A row whose bytes are zeros, and one that the table does not reach to.
blank-row : (table : List ℕ) (n : ℕ) → (row_bytes * n + row_bytes ≤ length table → part table (row_bytes * n) row_bytes ≡ replicate row_bytes 0) →
    get_or (rows_of table) n no_row ≡ no_row
blank-row table n z = go (le_or (row_bytes * n + row_bytes) (length table))
  where
    go : (row_bytes * n + row_bytes ≤ length table) ⊎ (length table < row_bytes * n + row_bytes) → get_or (rows_of table) n no_row ≡ no_row
    go (inl l) = get_rows table n l ∙ ap decode (z l) ∙ zero_row
    go (inr l) = let e : length (rows_of table) ≤ n = omega (arith, length-rows table) in get_or-eq_default (rows_of table) no_row e

-- ---- restored rows

empty-blank : (blocks count : ℕ) → BlankFrom count (empty_rows blocks)
unfolding empty_rows
empty-blank blocks count n l =
    let size = table_bytes blocks - rows_at in
    blank-row (replicate size 0) n (λ h. part-replicate size 0 (row_bytes * n) row_bytes (omega (arith, length-replicate {A = ℕ} size 0)))

-- A row of a node set, or none.
set-blank : (count id : ℕ) (x : Row) (rows : List Row) (b : Bool) → ltb id count ≡ b → BlankFrom count rows →
    BlankFrom count (choose b (set rows id x) rows)
set-blank count id x rows true e blank n l =
    let inside = ltb-true id count e in
    get_or-set_other rows id n x no_row (λ f. omega arith) ∙ blank n l
set-blank count id x rows false e blank n l = blank n l

module _ (count : ℕ) where
  scores-blank : (b : List ℕ) (rows : List Row) → BlankFrom count rows → BlankFrom count (take_scores count b (scores_on b) rows)
  unfolding take_scores score_taken
  scores-blank b rows blank =
      steps-keep (λ (i : ℕ) (ys : List Row). BlankFrom count ys) (λ i. score_taken count (score_at b i).id (score_at b i).score) (scores_on b)
      (λ i ys l z. set-blank count (score_at b i).id _ ys (ltb (score_at b i).id count) refl z) rows blank

  page_blank : (since : ℕ) (b : List ℕ) (rows : List Row) → BlankFrom count rows → BlankFrom count (take_page since count b rows)
  unfolding take_page
  page_blank since b rows blank = go (ltb (number_of b) since)
    where
      go : (t : Bool) → BlankFrom count (choose t rows (take_scores count b (scores_on b) rows))
      go true = blank
      go false = scores-blank b rows blank

  pages-blank : (pages : List (List ℕ)) (k since : ℕ) (rows : List Row) → BlankFrom count rows → BlankFrom count (take_pages pages k since count rows)
  unfolding take_pages
  pages-blank pages k since rows blank =
      steps-keep (λ (q : ℕ) (ys : List Row). BlankFrom count ys) (λ q. take_page since count (page_at pages q)) k
      (λ q ys l z. page_blank since (page_at pages q) ys z) rows blank

  seen-blank : (id version : ℕ) (mode : Mode) (page : ℕ) (rows : List Row) → BlankFrom count rows → BlankFrom count (seen_at count id version mode page rows)
  unfolding seen_at
  seen-blank id version mode page rows blank = set-blank count id _ rows (ltb id count) refl blank

  run-blank : (page most : ℕ) (bytes : List ℕ) (at : ℕ) (rows : List Row) → BlankFrom count rows → BlankFrom count (seen_run count page most bytes at rows)
  unfolding seen_run seen_entry
  run-blank page zero bytes at rows blank = blank
  run-blank page (suc most) bytes at rows blank =
      go (eqb (length (payload_at bytes at 0x12)) 15)
      (run-blank page most bytes (at + 18) (seen_entry count page (payload_at bytes at 0x12) rows) (seen-blank _ _ _ page rows blank))
    where
      go : (t : Bool) → BlankFrom count (seen_run count page most bytes (at + 18) (seen_entry count page (payload_at bytes at 0x12) rows)) →
          BlankFrom count
          (elim t [
            | true ↦ seen_run count page most bytes (at + 18) (seen_entry count page (payload_at bytes at 0x12) rows)
            | false ↦ rows
          ])
      go true r = r
      go false r = blank

  node_blank : (page : ℕ) (bytes : List ℕ) (rows : List Row) → BlankFrom count rows → BlankFrom count (seen_node count page bytes rows)
  unfolding seen_node
  node_blank page bytes rows blank = go (ltb (length (payload_at bytes 7 0x11)) 7) _ (seen-blank _ _ _ page rows blank)
    where
      go : (t : Bool) (ys : List Row) → BlankFrom count ys → BlankFrom count (choose t rows ys)
      go true ys r = blank
      go false ys r = r

  filled-blank : (blocks : ℕ) (pages : List (List ℕ)) (rows : List Row) → BlankFrom count rows → BlankFrom count (filled blocks count pages rows)
  unfolding filled seen_page
  filled-blank blocks pages rows blank =
      steps-keep (λ (q : ℕ) (ys : List Row). BlankFrom count ys) (seen_page count pages) (pages_in_block * blocks)
      (λ q ys l z. node_blank q (page_at pages q) _ (run-blank q most_entries (page_at pages q) 7 ys z)) rows blank

pub restored_blank : (blocks nodes since : ℕ) (pages : List (List ℕ)) → BlankFrom nodes (restored_rows blocks nodes since pages)
unfolding restored_rows scored_rows
restored_blank blocks nodes since pages =
    filled-blank nodes blocks pages (scored_rows blocks nodes since pages)
    (pages-blank nodes pages (pages_in_block * blocks) since (empty_rows blocks) (empty-blank blocks nodes))

-- ---- the rows of the nodes alone

module _ (limit : ℕ) (table : List ℕ) (room : row_bytes * limit ≤ length table) where
  rows-kept : (n : ℕ) → n < limit → get_or (rows_of (take (row_bytes * limit) table)) n no_row ≡ get_or (rows_of table) n no_row
  rows-kept n l =
      get_rows (take (row_bytes * limit) table) n (omega (arith, length-take-le (row_bytes * limit) table room)) ∙
      ap decode (part-take table (row_bytes * limit) (row_bytes * n) row_bytes (omega arith)) ∙
      sym (get_rows table n (omega arith))

  -- Zeros behind rows that are kept, where no row stood.
  rows_back : (middle : List ℕ) (size : ℕ) → length middle ≡ length table → size ≡ length table - row_bytes * limit →
      take (row_bytes * limit) middle ≡ take (row_bytes * limit) table → BlankFrom limit (rows_of table) →
      rows_of (lay middle (row_bytes * limit) (replicate size 0)) ≡ rows_of table
  rows_back middle size same most kept blank =
      ext_get_or no_row (rows_of after) (rows_of table) (omega (arith, length-rows after, length-rows table, long)) (λ n l. go n (le_or limit n))
    where
      after : List ℕ
      after = lay middle (row_bytes * limit) (replicate size 0)

      zeros : length {A = ℕ} (replicate size 0) ≡ size
      zeros = length-replicate {A = ℕ} size 0

      long : length after ≡ length table
      long = length-lay middle (row_bytes * limit) (replicate size 0) (omega (arith, zeros)) ∙ same

      behind : part after (row_bytes * limit) size ≡ replicate size 0
      behind = rw zeros at (part-lay middle (row_bytes * limit) (replicate size 0) (omega arith))

      go : (n : ℕ) → (limit ≤ n) ⊎ (n < limit) → get_or (rows_of after) n no_row ≡ get_or (rows_of table) n no_row
      go n (inl l) = blank-row after n zeroed ∙ sym (blank n l)
        where
          zeroed : row_bytes * n + row_bytes ≤ length after → part after (row_bytes * n) row_bytes ≡ replicate row_bytes 0
          zeroed h =
              let j = row_bytes * n - row_bytes * limit in
              let at : row_bytes * n ≡ row_bytes * limit + j = omega arith in
              ap (λ (k : ℕ). part after k row_bytes) at ∙
              sym (part-part after (row_bytes * limit) size j row_bytes (omega (arith, long))) ∙
              ap (λ (s : List ℕ). part s j row_bytes) behind ∙
              part-replicate size 0 j row_bytes (omega (arith, long))
      go n (inr l) =
          get_rows after n (omega (arith, long)) ∙
          ap decode
          (part-lay-before middle (row_bytes * limit) (replicate size 0) (omega arith) (row_bytes * n) row_bytes (omega arith) ∙
          sym (part-take middle (row_bytes * limit) (row_bytes * n) row_bytes (omega arith)) ∙
          ap (λ (s : List ℕ). part s (row_bytes * n) row_bytes) kept ∙
          part-take table (row_bytes * limit) (row_bytes * n) row_bytes (omega arith)) ∙
          sym (get_rows table n (omega arith))

-- ---- the same of a whole work table, with its buffer in front

module _ (limit : ℕ) (table : List ℕ) (room : rows_at + row_bytes * limit ≤ length table) where
  abbrev kept : ℕ
  kept = rows_at + row_bytes * limit

  rows-room : row_bytes * limit ≤ length (drop rows_at table)
  rows-room = omega (arith, length-drop rows_at table)

  -- the rows of the kept bytes
  take-kept : (t : List ℕ) → drop rows_at (take kept t) ≡ take (row_bytes * limit) (drop rows_at t)
  take-kept t = drop-take rows_at (row_bytes * limit) t

  buffer_kept : (t : List ℕ) → take buffer_bytes (take kept t) ≡ take buffer_bytes t
  buffer_kept t = take-take buffer_bytes kept t (omega arith)

  -- The nodes are read by their own rows.
  pub table_kept : (pages : List (List ℕ)) (s : State) → s.nodes ≤ limit →
      table_of pages (table_from (take kept table)) s ≡ table_of pages (table_from table) s
  unfolding content buffer_of rows_in
  table_kept pages s few = fun_ext (λ n. go n (le_or s.nodes n))
    where
      go : (n : ℕ) → (s.nodes ≤ n) ⊎ (n < s.nodes) → table_of pages (table_from (take kept table)) s n ≡ table_of pages (table_from table) s n
      go n (inl l) = table_of_out pages _ s n l ∙ sym (table_of_out pages _ s n l)
      go n (inr l) =
          table_of_in pages _ s n l ∙
          ap₂ (λ (b : List ℕ) (r : Row). node_in (content_by pages b s.entries r n)) (buffer_kept table)
          (ap (λ (t : List ℕ). get_or (rows_of t) n no_row) (take-kept table) ∙ rows-kept limit (drop rows_at table) rows-room n (omega arith)) ∙
          sym (table_of_in pages (table_from table) s n l)

  -- Zeros behind the kept bytes give the table back.
  pub table_back : (middle : List ℕ) (size : ℕ) → length middle ≡ length table → size ≡ length table - kept →
      take kept middle ≡ take kept table → BlankFrom limit (rows_in table) → table_from (lay middle kept (replicate size 0)) ≡ table_from table
  unfolding buffer_of rows_in part
  table_back middle size same most e blank = ap₂ worktable buffer rows_same
    where
      buffer : take buffer_bytes (lay middle kept (replicate size 0)) ≡ take buffer_bytes table
      buffer =
          part-lay-before middle kept (replicate size 0) (omega arith) 0 buffer_bytes (omega arith) ∙
          sym (buffer_kept middle) ∙ ap (take buffer_bytes) e ∙ buffer_kept table

      rows_same : rows_of (drop rows_at (lay middle kept (replicate size 0))) ≡ rows_of (drop rows_at table)
      rows_same =
          ap rows_of (drop-lay-front middle rows_at (row_bytes * limit) (replicate size 0) (omega arith)) ∙
          rows_back limit (drop rows_at table) rows-room (drop rows_at middle) size
          (length-drop rows_at middle ∙ ap (λ (n : ℕ). n - rows_at) same ∙ sym (length-drop rows_at table))
          (omega (arith, length-drop rows_at table))
          (sym (take-kept middle) ∙ ap (drop rows_at) e ∙ take-kept table) blank
