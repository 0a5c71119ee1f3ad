-- A number for each panel: how many there are, which stands where, and their sum. Assumes nothing.
use Rattle.std.specs.Prelude.{◌≡◌, List, ℕ, ◌<◌, length, get_or}
use Rattle.std.proofs.Common.{ap}
use Rattle.std.proofs.Math.Path.{fun_ext}
use Rattle.laws.specs.Update.{length-below, below_at, below-is, sum, sum_below, sum_below_lem}
use Rattle.layout.specs.Layout.{panels}
use Rattle.book.specs.InTurn.{each_panel}

module _ (f : ℕ → ℕ) where
  pub length_each : length (each_panel f) ≡ panels
  unfolding each_panel
  length_each = length-below panels f

  pub each_at : (q : ℕ) → q < panels → get_or (each_panel f) q 0 ≡ f q
  unfolding each_panel
  each_at q l = below_at panels f q 0 l

  pub each_are : (xs : List ℕ) → length xs ≡ panels → ((q : ℕ) → q < panels → get_or xs q 0 ≡ f q) → xs ≡ each_panel f
  unfolding each_panel
  each_are xs e h = below-is xs panels f 0 e h

  pub sum_each : sum (each_panel f) ≡ sum_below panels f
  unfolding each_panel
  sum_each = sum_below_lem panels f

pub each_same : (f g : ℕ → ℕ) → ((q : ℕ) → f q ≡ g q) → each_panel f ≡ each_panel g
each_same f g h = ap each_panel (fun_ext h)
