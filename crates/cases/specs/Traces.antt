-- The two traces, byte by byte over the whole pool: a prepare and the worked batch of document 01; and 25 puts that split the root. All by
-- computation. Assumes nothing.
use Rattle.std.specs.Prelude.{◌≡◌, refl, List, [], ◌∷◌, ◌++◌, ℕ, zero, suc, ◌-◌, length, take, drop, replicate}
use Rattle.laws.specs.BigEndian.{number_at}
use Rattle.account.specs.Tariff.{tariff_of}
use Rattle.model.specs.Worked.{tariff, prepared_pool, batch_on, sizes_of, puts}
use Rattle.model.specs.Computes.{computes}

-- Bytes with FF behind them, up to a size; a pool of 65,536 bytes that begins with pages, each given up to its sums.
abbrev filled : ℕ → List ℕ → List ℕ
filled size bytes = bytes ++ replicate (size - length bytes) 0xFF

abbrev pages : List (List ℕ) → List ℕ
pages [] = []
pages (p ∷ ps) = filled 512 p ++ pages ps

abbrev pub pool_of : List (List ℕ) → List ℕ
pool_of ps = filled 65536 (pages ps)

-- Prepare's two pages.
abbrev pub first_page : List ℕ
first_page =
    0x10 ∷ 0 ∷ 4 ∷ 0 ∷ 0 ∷ 0 ∷ 2 ∷
    0x12 ∷ 0 ∷ 0x0F ∷ 0 ∷ 0 ∷ 0 ∷ 0 ∷ 0 ∷ 1 ∷ 3 ∷ 0 ∷ 0 ∷ 0 ∷ 0 ∷ 0xFF ∷ 0xFF ∷ 0xFF ∷ 0xFF ∷
    0x1F ∷ 0 ∷ 4 ∷ 0x0E ∷ 0x7A ∷ 0x04 ∷ 0x38 ∷ []

abbrev pub second_page : List ℕ
second_page =
    0x10 ∷ 0 ∷ 4 ∷ 0 ∷ 0 ∷ 0 ∷ 3 ∷
    0x13 ∷ 0 ∷ 0x20 ∷ 0 ∷ 0 ∷ 0 ∷ 3 ∷ 0 ∷ 0 ∷ 0 ∷ 1 ∷ 0 ∷ 0 ∷ 0 ∷ 2 ∷ 0 ∷ 0 ∷ 0 ∷ 1 ∷ 0 ∷ 0 ∷ 0 ∷ 4 ∷ 0 ∷ 0 ∷ 0 ∷ 4 ∷ 0 ∷ 0 ∷ 0 ∷ 3 ∷ 0 ∷ 0 ∷ 0 ∷ 2 ∷
    0x14 ∷ 0 ∷ 6 ∷ 0 ∷ 0 ∷ 0 ∷ 0 ∷ 0 ∷ 0 ∷
    0x15 ∷ 0 ∷ 2 ∷ 0 ∷ 1 ∷
    0x1F ∷ 0 ∷ 4 ∷ 0x12 ∷ 0xA5 ∷ 0x00 ∷ 0x91 ∷ []

-- The worked batch: "Hang 7 with 100, look up 7, strip 7, look up 7".
abbrev pub worked_batch : List ℕ
worked_batch =
    0x02 ∷ 0 ∷ 8 ∷ 0 ∷ 0 ∷ 0 ∷ 7 ∷ 0 ∷ 0 ∷ 0 ∷ 100 ∷
    0x01 ∷ 0 ∷ 4 ∷ 0 ∷ 0 ∷ 0 ∷ 7 ∷
    0x03 ∷ 0 ∷ 4 ∷ 0 ∷ 0 ∷ 0 ∷ 7 ∷
    0x01 ∷ 0 ∷ 4 ∷ 0 ∷ 0 ∷ 0 ∷ 7 ∷ []

-- Its log page, and its checkpoint with score 3.
abbrev third_page : List ℕ
third_page =
    0x10 ∷ 0 ∷ 4 ∷ 0 ∷ 0 ∷ 0 ∷ 4 ∷
    0x12 ∷ 0 ∷ 0x0F ∷ 0 ∷ 0 ∷ 0 ∷ 0 ∷ 0 ∷ 1 ∷ 1 ∷ 0 ∷ 0 ∷ 0 ∷ 7 ∷ 0 ∷ 0 ∷ 0 ∷ 100 ∷
    0x12 ∷ 0 ∷ 0x0F ∷ 0 ∷ 0 ∷ 0 ∷ 0 ∷ 0 ∷ 1 ∷ 2 ∷ 0 ∷ 0 ∷ 0 ∷ 7 ∷ 0 ∷ 0 ∷ 0 ∷ 0 ∷
    0x1F ∷ 0 ∷ 4 ∷ 0x13 ∷ 0x50 ∷ 0x00 ∷ 0xD2 ∷ []

abbrev fourth_page : List ℕ
fourth_page =
    0x10 ∷ 0 ∷ 4 ∷ 0 ∷ 0 ∷ 0 ∷ 5 ∷
    0x13 ∷ 0 ∷ 0x20 ∷ 0 ∷ 0 ∷ 0 ∷ 3 ∷ 0 ∷ 0 ∷ 0 ∷ 1 ∷ 0 ∷ 0 ∷ 0 ∷ 2 ∷ 0 ∷ 0 ∷ 0 ∷ 1 ∷ 0 ∷ 0 ∷ 0 ∷ 4 ∷ 0 ∷ 0 ∷ 0 ∷ 4 ∷ 0 ∷ 0 ∷ 0 ∷ 3 ∷ 0 ∷ 0 ∷ 0 ∷ 2 ∷
    0x14 ∷ 0 ∷ 6 ∷ 0 ∷ 0 ∷ 0 ∷ 0 ∷ 0 ∷ 3 ∷
    0x15 ∷ 0 ∷ 2 ∷ 0 ∷ 1 ∷
    0x1F ∷ 0 ∷ 4 ∷ 0x13 ∷ 0x1B ∷ 0x00 ∷ 0x96 ∷ []

-- The pool that the worked batch leaves.
abbrev pub worked_pool : List ℕ
worked_pool = pool_of (first_page ∷ second_page ∷ third_page ∷ fourth_page ∷ [])

-- The answers of document 01's whole output.
abbrev answers : List ℕ
answers =
    0x80 ∷ 0 ∷ 0 ∷
    0x81 ∷ 0 ∷ 4 ∷ 0 ∷ 0 ∷ 0 ∷ 100 ∷
    0x83 ∷ 0 ∷ 4 ∷ 0 ∷ 0 ∷ 0 ∷ 100 ∷
    0x80 ∷ 0 ∷ 0 ∷ []

-- The sequence numbers of a pool's first pages, each in the four bytes behind the page's first three.
abbrev sequences_in : ℕ → List ℕ → List ℕ
sequences_in zero pool = []
sequences_in (suc n) pool = number_at 4 pool 3 ∷ sequences_in n (drop 512 pool)

-- The checkpoint of the second trace: the fields 14 of its three nodes, by ascending id.
abbrev scores_page : List ℕ
scores_page =
    0x10 ∷ 0 ∷ 4 ∷ 0 ∷ 0 ∷ 0 ∷ 0x0A ∷
    0x13 ∷ 0 ∷ 0x20 ∷ 0 ∷ 0 ∷ 0 ∷ 0 ∷ 0 ∷ 0 ∷ 0 ∷ 0 ∷ 0 ∷ 0 ∷ 0 ∷ 0 ∷ 0 ∷ 0 ∷ 0 ∷ 0 ∷ 0 ∷ 0 ∷ 0 ∷ 0 ∷ 0 ∷ 0 ∷ 0 ∷ 0 ∷ 0 ∷ 0 ∷ 0 ∷ 1 ∷ 0 ∷ 0 ∷ 0 ∷ 1 ∷
    0x14 ∷ 0 ∷ 6 ∷ 0 ∷ 0 ∷ 0 ∷ 0 ∷ 0 ∷ 0 ∷
    0x14 ∷ 0 ∷ 6 ∷ 0 ∷ 1 ∷ 0 ∷ 0 ∷ 0 ∷ 0 ∷
    0x14 ∷ 0 ∷ 6 ∷ 0 ∷ 2 ∷ 0 ∷ 0 ∷ 0 ∷ 0 ∷
    0x15 ∷ 0 ∷ 2 ∷ 0 ∷ 3 ∷
    0x1F ∷ 0 ∷ 4 ∷ 0x1D ∷ 0x88 ∷ 0x00 ∷ 0xBF ∷ []

-- Of a pool: how page 0 begins, page 5, the sequence numbers of six pages, how the nodes are filled.
abbrev shown_of : List ℕ → List (List ℕ)
shown_of pool = take 32 pool ∷ take 512 (drop 2560 pool) ∷ sequences_in 6 pool ∷ sizes_of pool ∷ []

pub record Traces : Type 0 where
  -- prepare
  pub prepared : prepared_pool tariff ≡ pool_of (first_page ∷ second_page ∷ [])
  -- THE FIRST TRACE: every buffer after the worked batch; "charge 14"
  pub first : batch_on tariff worked_batch ≡
      record {
        number = 0;
        pool = worked_pool;
        table = replicate 4096 0;
        answers = answers ++ replicate 492 7;
        length = 20;
        charges = 14 ∷ replicate 15 0;
      }
  -- THE SECOND TRACE: "tariff 0 0 0, 0 0 0, 1 1", keys 0 to 24
  pub second : shown_of (batch_on (tariff_of 0 0 0 0 0 0 1 1) (puts 25)).pool ≡
      first_page ∷ filled 512 scores_page ∷ (2 ∷ 3 ∷ 4 ∷ 7 ∷ 9 ∷ 10 ∷ []) ∷ (1 ∷ 12 ∷ 13 ∷ []) ∷ []

pub traces : Traces
unfolding computes
traces = record { prepared = refl; first = refl; second = refl }
