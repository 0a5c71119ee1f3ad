-- The greatest version of a node in the cells of a pool, taken by place, is the store's, taken by sequence number. Assumes nothing.
use Rattle.std.specs.Prelude.{◌≡◌, refl, [], ◌∷◌, ℕ, zero, suc, ◌≤◌, ◌<◌, get_or, Option, None, Some, slice_get}
use Rattle.std.proofs.Common.{ap, ◌∙◌}
use native.Mathlib.Omega.{arith}
use Rattle.laws.specs.Counts.{tally}
use Rattle.laws.specs.Every.{Every, none, both}
use Rattle.page.specs.Page.{Page, sequence}
use Rattle.store.specs.Item.{items_of, greatest_in}
use Rattle.store.specs.View.{greatest_to, greatest}
use Rattle.store.specs.Pool.{Blocks, block, numbered, find, items_at}
use Rattle.store.specs.Store.{view}
use Rattle.store.specs.Reopen.{Cells, cells, newest, store_of}
use Rattle.store_laws.specs.ViewLaws.{le_greatest_to, greatest_to_le}
use Rattle.store_laws.specs.BlockTests.{le_newest}
use Rattle.flash_refines.specs.Store.Cells.{cell_at}
use Rattle.flash_refines.specs.Read.Lies.{Lies, find_lies, place_of}
use Rattle.mount_refines.specs.Rows.Cells.{greatest_cell}
use Rattle.mount_refines.specs.Rows.Places.{Orderly, find-here, number-here, cells-every}

-- No cell has a greater version.
greatest-at : (n : ℕ) (cs : Cells) (x : ℕ) → greatest_in n (items_at (get_or cs x None)) ≤ greatest_cell n cs
greatest-at n [] x = omega arith
greatest-at n (c ∷ cs) zero = omega arith
greatest-at n (c ∷ cs) (suc x) = omega (arith, greatest-at n cs x)

greatest_le : (n m : ℕ) (cs : Cells) → Every (λ c. greatest_in n (items_at c) ≤ m) cs → greatest_cell n cs ≤ m
greatest_le n m [] none = omega arith
greatest_le n m (c ∷ cs) (both h hs) = omega (arith, h, greatest_le n m cs hs)

module _ {bs : Blocks} (o : Orderly bs) (n : ℕ) where
  abbrev by : ℕ → ℕ
  by s = greatest_in n (items_at (find s bs))

  -- a page's number is from 1 and at most the newest
  page_below : (i q : ℕ) (p : Page) → slice_get (block bs i) q ≡ Some p → greatest_in n (items_of p) ≤ greatest_to by (newest bs)
  page_below i q p e =
      let s = sequence p in
      let has = number-here o i q p e in
      let some_number : 0 < sequence p = positive (sequence p) has in
      omega (
        arith,
        ap (λ (x : Option Page). greatest_in n (items_at x)) (find-here o i q p e),
        le_greatest_to by (newest bs) s some_number (le_newest s bs has),
      )
    where
      positive : (s : ℕ) → 1 ≤ tally (numbered s) bs → 0 < s
      positive zero h = absurd (omega (arith, o.from_one))
      positive (suc s) h = omega arith

  number-below : (s : ℕ) → by s ≤ greatest_cell n (cells 32 bs)
  number-below s = go (find s bs) refl
    where
      go : (x : Option Page) → find s bs ≡ x → greatest_in n (items_at x) ≤ greatest_cell n (cells 32 bs)
      go None e = omega arith
      go (Some p) e =
          let at : Lies bs s p = find_lies s bs p e in
          let here = cell_at bs at.number at.at.place at.inside (omega (arith, o.most at.number, at.at.inside)) ∙ at.at.here in
          omega (arith, ap (λ (x : Option Page). greatest_in n (items_at x)) here, greatest-at n (cells 32 bs) (place_of at))

  -- THE GREATEST VERSION by place is that by sequence number
  pub greatest-is : greatest_cell n (cells 32 bs) ≡ greatest (view (store_of bs)) n
  unfolding greatest
  greatest-is =
      omega (
        arith,
        greatest_le n (greatest_to by (newest bs)) (cells 32 bs)
            (cells-every (λ c. greatest_in n (items_at c) ≤ greatest_to by (newest bs)) (omega arith) bs page_below),
        greatest_to_le by (newest bs) (greatest_cell n (cells 32 bs)) (λ s a b. number-below s),
      )
