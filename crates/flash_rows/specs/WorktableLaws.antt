-- The work table in bytes: its rows lent and come back, bytes laid in its buffer. Assumes nothing.
use Rattle.std.specs.Prelude.{◌≡◌, List, ℕ, ◌+◌, ◌-◌, ◌≤◌}
use Rattle.std.proofs.Math.Path.{refl, ap}
use Rattle.std.proofs.Common.{sym, ◌∙◌, length-drop, take_all}
use native.Mathlib.Omega.{arith}
use Rattle.std.proofs.Math.ListN.{length, take, drop}
use Rattle.std.proofs.Math.Seq.{length-take-le}
use borrow.Rule.Slice.PartMut.{put_mid}
use Rattle.laws.specs.Lay.{lay, part, take-laid, lay-lent, lay-whole, drop-lay, length-lay, part-lay-before}
use Rattle.laws.specs.Chunks.{drop-lay-front}
use Rattle.flash_rows.specs.Row.{rows_of}
use Rattle.flash_rows.specs.Worktable.{buffer_bytes, rows_at, buffer_of, rows_in, table_from, with_rows, with_buffer}

module _ (table : List ℕ) (long : rows_at ≤ length table) where
  pub length_buffer : length (buffer_of table) ≡ buffer_bytes
  unfolding buffer_of
  length_buffer = length-take-le buffer_bytes table (omega arith)

  -- The part that holds the rows, as it is lent.
  abbrev lent : List ℕ
  lent = take (length table - rows_at) (drop rows_at table)

  rows-lent : lent ≡ drop rows_at table
  rows-lent = take_all (length table - rows_at) (drop rows_at table) (omega (arith, length-drop rows_at table))

  pub rows-part : rows_of lent ≡ rows_in table
  unfolding rows_in
  rows-part = ap rows_of rows-lent

  -- It came back as so many bytes.
  module _ (rows : List ℕ) (kept : length rows ≡ length lent) where
    length-rows : length rows ≡ length table - rows_at
    length-rows = kept ∙ ap length rows-lent ∙ length-drop rows_at table

    lent_laid : put_mid rows_at (length table - rows_at) table rows ≡ lay table rows_at rows
    lent_laid = lay-lent rows_at (length table) table rows long length-rows

    pub lent_length : length (put_mid rows_at (length table - rows_at) table rows) ≡ length table
    lent_length = ap length lent_laid ∙ length-lay table rows_at rows (omega (arith, length-rows))

    pub lent_rows : table_from (put_mid rows_at (length table - rows_at) table rows) ≡ with_rows (rows_of rows) (table_from table)
    unfolding rows_in buffer_of part
    lent_rows = ap table_from lent_laid ∙ rw (front, back) refl
      where
        front : take buffer_bytes (lay table rows_at rows) ≡ take buffer_bytes table
        front = part-lay-before table rows_at rows long 0 buffer_bytes (omega arith)

        back : drop rows_at (lay table rows_at rows) ≡ rows
        back =
            drop-lay-front table rows_at 0 rows long ∙ lay-whole (drop rows_at table) rows (length-rows ∙ sym (length-drop rows_at table))

  -- Bytes laid within the buffer.
  pub laid_buffer : (at : ℕ) (bytes : List ℕ) → at + length bytes ≤ buffer_bytes →
      table_from (lay table at bytes) ≡ with_buffer (lay (buffer_of table) at bytes) (table_from table)
  unfolding rows_in buffer_of
  laid_buffer at bytes l = rw (take-laid table bytes buffer_bytes at (omega arith) l, behind) refl
    where
      behind : drop rows_at (lay table at bytes) ≡ drop rows_at table
      behind =
          let e : at + length bytes + (rows_at - (at + length bytes)) ≡ rows_at = omega arith in
          rw e at (drop-lay table at bytes (rows_at - (at + length bytes)) (omega arith))
