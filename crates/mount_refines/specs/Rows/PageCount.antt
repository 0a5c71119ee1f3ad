-- As many cells of a pool carry a node as the store says pages of it, which it counts by sequence number. Assumes nothing.
use Rattle.std.specs.Prelude.{◌≡◌, Bool, true, false, ◌&&◌, List, [], ◌∷◌, ℕ, zero, suc, ◌+◌, ◌≤◌, leb, length, Option, None, Some}
use Rattle.std.proofs.Math.Path.{refl, ap}
use Rattle.std.proofs.Common.{arith, eq-eqb, ne_eqb, le-leb}
use Rattle.std.proofs.lemmas.Bool.{lt-leb}
use Rattle.laws.specs.Tests.{and_left}
use Rattle.laws.specs.Order.{Tri, less, same, more, tri}
use Rattle.laws.specs.Counts.{bit, count, count-append, tally, tally_mono, tally_apart}
use Rattle.laws.specs.Options.{test}
use Rattle.page.specs.Page.{Page, sequence}
use Rattle.store.specs.Item.{pieces_in}
use Rattle.store.specs.View.{sum_to, some?, greatest, pages}
use Rattle.store.specs.Pool.{Blocks, block, numbered, find, items_at}
use Rattle.store.specs.Store.{view}
use Rattle.store.specs.Live.{carries}
use Rattle.store.specs.Reopen.{Cells, cells_in, cells, newest, store_of}
use Rattle.store_laws.specs.ViewLaws.{sum_to-ext}
use Rattle.store_laws.specs.LiveLaws.{carries-pages}
use Rattle.store_laws.specs.BlockTests.{newest-above}
use Rattle.flash_refines.specs.Read.Lies.{find_lies}
use Rattle.mount_refines.specs.Rows.Cells.{has_cell}
use Rattle.mount_refines.specs.Rows.Places.{Orderly, tally-here}

-- Cells that pass a test are pages that pass it.
count-block : (f : Page → Bool) (k : ℕ) (b : List Page) → length b ≤ k → count (test f) (cells_in k b) ≡ count f b
unfolding cells_in
count-block f zero [] l = refl
count-block f zero (p ∷ b) l = absurd (omega arith)
count-block f (suc k) [] l = omega (arith, count-block f k [] (omega arith))
count-block f (suc k) (p ∷ b) l = ap (λ (n : ℕ). bit (f p) + n) (count-block f k b (omega arith))

pub count-cells : (f : Page → Bool) (bs : Blocks) → ((i : ℕ) → length (block bs i) ≤ 32) → count (test f) (cells 32 bs) ≡ tally f bs
count-cells f [] most = refl
count-cells f (b ∷ bs) most =
    omega (
      arith,
      count-append (test f) (cells_in 32 b) (cells 32 bs),
      count-block f 32 b (most 0),
      count-cells f bs (λ i. most (suc i)),
    )

-- The pages up to a number.
abbrev up_to : ℕ → Page → Bool
up_to k p = leb (sequence p) k

module _ (f : Page → Bool) (bs : Blocks) where
  found_counted : (s : ℕ) → bit (test f (find s bs)) ≤ tally (λ p. f p && numbered s p) bs
  found_counted s = go (find s bs) refl
    where
      here : (p : Page) → find s bs ≡ Some p → (t : Bool) → f p ≡ t → bit t ≤ tally (λ p. f p && numbered s p) bs
      here p e false t = omega arith
      here p e true t =
          let at = find_lies s bs p e in
          tally-here (λ p. f p && numbered s p) bs at.number at.at.place p at.at.here (rw (t, eq-eqb (sequence p) s at.at.sequenced) refl)

      go : (o : Option Page) → find s bs ≡ o → bit (test f o) ≤ tally (λ p. f p && numbered s p) bs
      go None e = omega arith
      go (Some p) e = here p e (f p) refl

  one_more_lem : (k : ℕ) (p : Page) → bit (f p && up_to k p) + bit (f p && numbered (suc k) p) ≤ bit (f p && up_to (suc k) p)
  one_more_lem k p = go (f p) (tri (sequence p) (suc k))
    where
      go : (t : Bool) → Tri (sequence p) (suc k) → bit (t && up_to k p) + bit (t && numbered (suc k) p) ≤ bit (t && up_to (suc k) p)
      go false o = omega arith
      go true (less l) =
          rw (le-leb (sequence p) k (omega arith), ne_eqb (sequence p) (suc k) (λ e. omega arith), le-leb (sequence p) (suc k) (omega arith)) (omega arith)
      go true (same e) =
          rw (lt-leb (sequence p) k (omega arith), eq-eqb (sequence p) (suc k) e, le-leb (sequence p) (suc k) (omega arith)) (omega arith)
      go true (more l) =
          rw (lt-leb (sequence p) k (omega arith), ne_eqb (sequence p) (suc k) (λ e. omega arith), lt-leb (sequence p) (suc k) l) (omega arith)

  numbers_counted : (k : ℕ) → sum_to (λ s. bit (test f (find s bs))) k ≤ tally (λ p. f p && up_to k p) bs
  numbers_counted zero = omega arith
  numbers_counted (suc k) =
      omega (
        arith,
        numbers_counted k,
        found_counted (suc k),
        tally_apart (λ p. f p && up_to k p) (λ p. f p && numbered (suc k) p) (λ p. f p && up_to (suc k) p) bs (one_more_lem k),
      )

  pub found_few : (k : ℕ) → sum_to (λ s. bit (test f (find s bs))) k ≤ tally f bs
  found_few k = omega (arith, numbers_counted k, tally_mono (λ p. f p && up_to k p) f bs (λ p. and_left (f p) (up_to k p)))

-- THE PAGES OF A NODE by place are those by sequence number
module _ (bs : Blocks) (n : ℕ) where
  abbrev v : ℕ
  v = greatest (view (store_of bs)) n

  pub cell_carries : (o : Option Page) → has_cell n v o ≡ test (carries (view (store_of bs)) n) o
  unfolding carries
  cell_carries None = refl
  cell_carries (Some p) = refl

  count-ext : (cs : Cells) → count (has_cell n v) cs ≡ count (test (carries (view (store_of bs)) n)) cs
  count-ext [] = refl
  count-ext (c ∷ cs) = omega (arith, ap bit (cell_carries c), count-ext cs)

  pages_are : pages (view (store_of bs)) n ≡ sum_to (λ s. bit (test (carries (view (store_of bs)) n) (find s bs))) (newest bs)
  unfolding pages
  pages_are =
      sum_to-ext (λ s. some? (pieces_in n v (items_at (find s bs)))) (λ s. bit (test (carries (view (store_of bs)) n) (find s bs))) (newest bs)
      (λ s l. ap bit (cell_carries (find s bs)))

  pub pages-is : Orderly bs → count (has_cell n v) (cells 32 bs) ≡ pages (view (store_of bs)) n
  pages-is o =
      omega (
        arith,
        count-ext (cells 32 bs),
        count-cells (carries (view (store_of bs)) n) bs o.most,
        pages_are,
        found_few (carries (view (store_of bs)) n) bs (newest bs),
        carries-pages bs [] (newest bs) o.once o.from_one (newest-above (newest bs) bs (omega arith)) n,
      )
