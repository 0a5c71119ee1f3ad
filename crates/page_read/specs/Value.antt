-- The values in single payloads. Assumes nothing.
use Rattle.std.specs.Prelude.{◌≡◌, refl, List, [], ℕ, ◌+◌}
use Rattle.laws.specs.BigEndian.{number_at}
use Rattle.laws.specs.Lay.{part}
use Rattle.account.specs.declared.Costs.{Costs}
use Rattle.page.specs.Decode.{tariff_of}
use Rattle.page_read.specs.declared.value.ScoreValue.{ScoreValue}

-- A payload of field 14.
unfoldable pub score_value : List ℕ → ScoreValue
score_value p = record { id = number_at 2 p 0; score = number_at 4 p 2 }

-- The costs of one mode in a payload of field 13.
unfoldable pub costs_at : List ℕ → ℕ → ℕ → Costs
costs_at p at enter =
    record { read = number_at 4 p at; edit = number_at 4 p (at + 4); rewrite = number_at 4 p (at + 8); enter = number_at 4 p enter }

pub score_value-empty : score_value [] ≡ record { id = 0; score = 0 }
unfolding score_value number_at part
score_value-empty = refl

pub costs_at-tariff : (p : List ℕ) → record { log = costs_at p 0 28; disk = costs_at p 12 24 } ≡ tariff_of p
unfolding costs_at tariff_of
costs_at-tariff p = refl
