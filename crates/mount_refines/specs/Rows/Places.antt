-- A page that lies in a block is the one that its sequence number finds; and what is asked of each page of the blocks is asked of each cell of
-- the pool. Assumes nothing.
use Rattle.std.specs.Prelude.{◌≡◌, refl, Bool, true, false, length, Option, None, Some, slice_get}
use Rattle.std.proofs.Common.{ap, ◌∙◌, arith, eq-eqb}
use mathlib.Core.List.{List, [], ◌∷◌}
use Prim.Native.Nat.{ℕ, zero, suc, ◌≤◌}
use Rattle.laws.specs.Tests.{choose}
use Rattle.laws.specs.Counts.{bit, count, tally, tally-at}
use Rattle.laws.specs.Every.{Every, none, both, every_append}
use Rattle.laws.specs.Options.{some_same}
use Rattle.laws.specs.Elements.{count-get, tally-get}
use Rattle.page.specs.Page.{Page, sequence}
use Rattle.store.specs.Pool.{Blocks, block, numbered, page_in, find}
use Rattle.store.specs.Reopen.{cells_in, cells}
use Rattle.store_laws.specs.PoolLaws.{find-block}

-- The blocks of a pool that passes: at most 32 pages each, and sequence numbers from 1, each on one page.
pub record Orderly (bs : Blocks) : Type 0 where
  pub most : (i : ℕ) → length (block bs i) ≤ 32
  pub from_one : tally (numbered 0) bs ≡ 0
  pub once : (s : ℕ) → tally (numbered s) bs ≤ 1

-- A page that passes a test is counted.
pub tally-here : (f : Page → Bool) (bs : Blocks) (i q : ℕ) (p : Page) → slice_get (block bs i) q ≡ Some p → f p ≡ true → 1 ≤ tally f bs
tally-here f bs i q p e t = omega (arith, tally-get f bs i q p e, ap bit t)

own-number : (p : Page) → numbered (sequence p) p ≡ true
own-number p = eq-eqb (sequence p) (sequence p) refl

page_in-here : (b : List Page) (q : ℕ) (p : Page) → slice_get b q ≡ Some p → count (numbered (sequence p)) b ≤ 1 → page_in (sequence p) b ≡ Some p
page_in-here [] q p e l = e
page_in-here (x ∷ b) zero p e l = rw (some_same e, own-number p) refl
page_in-here (x ∷ b) (suc q) p e l = go (numbered (sequence p) x) refl (λ h. page_in-here b q p e h)
  where
    go : (t : Bool) → numbered (sequence p) x ≡ t → (count (numbered (sequence p)) b ≤ 1 → page_in (sequence p) b ≡ Some p) →
        choose (numbered (sequence p) x) (Some x) (page_in (sequence p) b) ≡ Some p
    go true t r = absurd (omega (arith, ap bit t, count-get (numbered (sequence p)) b q p e, ap bit (own-number p)))
    go false t r = rw t (r (omega (arith, ap bit t)))

-- A PAGE THAT LIES IN A BLOCK is found by its number.
module _ {bs : Blocks} (o : Orderly bs) (i q : ℕ) (p : Page) (e : slice_get (block bs i) q ≡ Some p) where
  pub find-here : find (sequence p) bs ≡ Some p
  find-here =
      let s = sequence p in
      find-block s bs i (omega (arith, o.once s, count-get (numbered s) (block bs i) q p e, ap bit (own-number p))) ∙
      page_in-here (block bs i) q p e (omega (arith, o.once s, tally-at (numbered s) bs i))

  pub number-here : 1 ≤ tally (numbered (sequence p)) bs
  number-here = tally-here (numbered (sequence p)) bs i q p e (own-number p)

-- What holds of a blank cell, and of every page that lies in a block, holds of every cell.
module _ (P : Option Page → Type 0) (blank : P None) where
  block-every : (k : ℕ) (b : List Page) → ((q : ℕ) (p : Page) → slice_get b q ≡ Some p → P (Some p)) → Every P (cells_in k b)
  unfolding cells_in
  block-every zero b h = none
  block-every (suc k) [] h = both blank (block-every k [] h)
  block-every (suc k) (x ∷ b) h = both (h 0 x refl) (block-every k b (λ q. h (suc q)))

  pub cells-every : (bs : Blocks) → ((i q : ℕ) (p : Page) → slice_get (block bs i) q ≡ Some p → P (Some p)) → Every P (cells 32 bs)
  cells-every [] h = none
  cells-every (b ∷ bs) h = every_append (block-every 32 b (h 0)) (cells-every bs (λ i. h (suc i)))
