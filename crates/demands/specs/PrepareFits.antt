-- The pool that prepare leaves can stand in bytes and is read back from them: its two pages are within their limits. Assumes nothing.
use Rattle.std.specs.Prelude.{◌≡◌, [], ◌∷◌, ℕ, zero, suc, ◌-◌, replicate, None, Some}
use Rattle.std.proofs.Common.{arith}
use Rattle.laws.specs.Every.{Every, none, both}
use Rattle.layout.specs.Layout.{no_leaf, pages_in_block}
use Rattle.account.specs.declared.Tariff.{Tariff}
use Rattle.account.specs.Range.{Ranged}
use Rattle.node.specs.declared.Shape.TheVariants.{Leaf}
use Rattle.node.specs.Change.{link}
use Rattle.page.specs.Page.{page, log, checkpoint}
use Rattle.page.specs.Limits.{PageFits}
use Rattle.store.specs.Prepare.{first_pages, prepared_blocks}
use Rattle.model.specs.Prepare.{prepared}
use Rattle.model.specs.Bytes.{bytes_of, cells_of}
use Rattle.store_laws.specs.StoreFits.{BlocksFit}
use Rattle.store_laws.proofs.CloseFits.{tariff-fits}
use Rattle.demands.specs.PoolBytes.{CellFits, cells_of-bytes_of}
use Rattle.demands.specs.MountFits.{cells_fit}

blank-blocks : (k : ℕ) → BlocksFit (replicate k [])
blank-blocks zero = none
blank-blocks (suc k) = both none (blank-blocks k)

module _ (t : Tariff) (r : Ranged t) where
  root_page_lem : PageFits (page 2 (log (record { id = 0; version = 1; change = link Leaf no_leaf } ∷ [])))
  root_page_lem =
      record {
        from = omega arith;
        below = omega arith;
        content =
            record {
              some = omega arith;
              few = omega arith;
              entries =
                  both {x = record { id = 0; version = 1; change = link Leaf no_leaf }}
                  (record { id = omega arith; from = omega arith; below = omega arith; change = omega arith }) none;
            };
      }

  checkpoint_page_lem : PageFits (page 3 (checkpoint (Some t) (record { id = 0; score = 0 } ∷ []) (Some 1)))
  checkpoint_page_lem =
      record {
        from = omega arith;
        below = omega arith;
        content =
            record {
              tariff = tariff-fits t r;
              some = omega arith;
              few = omega arith;
              scores = both {x = record { id = 0; score = 0 }} (record { id = omega arith; score = omega arith }) none;
              filled = omega arith;
            };
      }

  first_fits : Every PageFits (first_pages t)
  first_fits =
      both {x = page 2 (log (record { id = 0; version = 1; change = link Leaf no_leaf } ∷ []))} root_page_lem
      (both {x = page 3 (checkpoint (Some t) (record { id = 0; score = 0 } ∷ []) (Some 1))} checkpoint_page_lem none)

  pub prepared-fits : (blocks : ℕ) → Every CellFits (prepared blocks t)
  unfolding prepared
  prepared-fits blocks = cells_fit pages_in_block (prepared_blocks blocks t) (both first_fits (blank-blocks (blocks - 1)))

  pub prepared_back : (blocks : ℕ) → cells_of (bytes_of (prepared blocks t)) ≡ Some (prepared blocks t)
  prepared_back blocks = cells_of-bytes_of (prepared blocks t) (prepared-fits blocks)
