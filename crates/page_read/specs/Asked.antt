-- What the reader of a checkpoint page's rest is handed: where the scores begin, by whether the tariff stands before them.
-- Assumes nothing.
use Rattle.std.specs.Prelude.{◌≡◌, Bool, List, ℕ, ◌≤◌, length}
use Rattle.layout.specs.Layout.{page_bytes, first_scores_at}
use Rattle.wire.specs.Field.{payload_at}
use Rattle.page.specs.Decode.{found, most_scores}

pub record Asked (b : List ℕ) (first : Bool) (at n most : ℕ) : Type 0 where
  pub size : length b ≡ page_bytes
  pub tariff : first ≡ found (payload_at b 7 0x13)
  pub limit : most ≡ most_scores (found (payload_at b 7 0x13))
  pub place : at ≤ first_scores_at
  pub few : n ≤ 54
