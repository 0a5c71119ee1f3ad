-- What reading a number of a buffer gives. Assumes nothing.
use Rattle.std.specs.Prelude.{◌≡◌, List, ℕ, ◌^◌, ◌<◌}
use Rattle.laws.specs.BigEndian.{number_at}

-- The number of a width that stands at a place, which the width bounds.
pub record Read (width : ℕ) (s : List ℕ) (at r : ℕ) : Type 0 where
  pub is : r ≡ number_at width s at
  pub small : r < 256 ^ width
