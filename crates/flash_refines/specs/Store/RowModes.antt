-- The mode that a row has stays the store's, whatever is placed or compacted, while the node's version stays. Assumes nothing.
use Rattle.std.specs.Prelude.{◌≡◌, ℕ, suc, ◌<◌, Bool, List}
use Rattle.std.proofs.Common.{ap, arith, ne_eqb}
use Rattle.laws.specs.Counts.{bit}
use Rattle.account.specs.declared.Mode.{Mode}
use Rattle.account.specs.declared.Mode.TheVariants.{Log, Disk}
use Rattle.page.specs.Page.{Entry, Content, Page}
use Rattle.store.specs.View.{greatest}
use Rattle.store.specs.Pool.{numbered}
use Rattle.store.specs.Store.{Store, view, mode_at, mode_of}
use Rattle.store.specs.Write.{found, place}
use Rattle.store_laws.specs.PoolLaws.{find_none}
use Rattle.store_laws.specs.BlockRules.{how_tally}
use Rattle.store_laws.specs.Placing.{Invariant}
use Rattle.store_laws.proofs.Placing.{found_how, found_same, place-tally}
use Rattle.store_laws.proofs.Compaction.{found_unmoved}
use Rattle.store_laws.specs.Versions.{mode_is}
use Rattle.store_laws.proofs.Versions.{place_mode, same_mode_lem}
use Rattle.flash_refines.specs.Store.Mirror.{RowMode}

-- The store says the row's mode.
pub row_mode_is : (m : Mode) (st : Store) (n : ℕ) → RowMode m st n → mode_of st n ≡ m
unfolding mode_of
row_mode_is Log st n h = ap mode_at (find_none (greatest (view st) n) st.blocks h)
row_mode_is Disk st n h = mode_is Disk st n h

-- Version and blocks stay: so does the mode.
pub same_row_mode : (m : Mode) (a b : Store) (n : ℕ) → greatest (view b) n ≡ greatest (view a) n → b.blocks ≡ a.blocks → RowMode m a n → RowMode m b n
same_row_mode Log a b n t e h = rw (t, e) h
same_row_mode Disk a b n t e h = same_mode_lem Disk a b n t e h

module _ {B N : ℕ} {closing : Page → Bool} {st : Store} (v : Invariant B N closing st) (n : ℕ) (l : n < N) where
  -- a place is found
  pub found_row_mode : (m : Mode) → RowMode m st n → RowMode m (found closing N st) n
  unfolding found
  found_row_mode Log h = rw (found_same v n l).greatest (omega (arith, how_tally (numbered (greatest (view st) n)) (found_how v), h))
  found_row_mode Disk h = (found_unmoved v n l).mode Disk h

  -- a page is placed
  pub place_row_mode : (m : Mode) (c : Content) (rest : List Entry) → greatest (view (place closing N c rest st)) n ≡ greatest (view st) n →
      RowMode m st n → RowMode m (place closing N c rest st) n
  place_row_mode Log c rest t h =
      rw t
      (omega (
        arith,
        place-tally v (numbered (greatest (view st) n)) c rest,
        h,
        ap bit (ne_eqb (suc st.last) (greatest (view st) n) (λ q. omega (arith, v.fit.versions n))),
      ))
  place_row_mode Disk c rest t h = place_mode v n Disk c rest l t h
