-- The questions of each call by their numbers, in the documents' order, whatever is lent; and what each number leaves of the table. Assumes
-- nothing.
use Rattle.std.specs.Prelude.{◌≡◌, refl, List, [], ◌∷◌, map, ℕ, get_or, replicate}
use Rattle.laws.specs.Lay.{lay}
use Rattle.account.specs.declared.Tariff.{Tariff}
use Rattle.model.specs.Questions.{Question, of_buffers, of_desk, of_pool, of_prepare}
use Rattle.model.specs.Outcome.{table_after}
use Rattle.model.specs.Call.{Lent, DeskLent, batch, desk, questions}

abbrev pub numbers : List Question → List ℕ
numbers qs = map (λ (q : Question). q.0) qs

-- Document 01: "in this order".
pub batch_order : (pool : List ℕ) (l : Lent) → numbers (questions pool (batch l)) ≡ 1 ∷ 2 ∷ 3 ∷ 4 ∷ 5 ∷ 6 ∷ 7 ∷ 8 ∷ []
unfolding of_buffers of_pool
batch_order pool l = refl

pub prepare_order : (pool : List ℕ) (t : Tariff) → numbers (of_prepare pool t) ≡ 1 ∷ 10 ∷ []
unfolding of_prepare
prepare_order pool t = refl

-- Document 02, P5: 11 is "asked between 2 and 3".
pub desk_order : (pool : List ℕ) (d : DeskLent) → numbers (questions pool (desk d)) ≡ 1 ∷ 2 ∷ 11 ∷ 3 ∷ 4 ∷ 5 ∷ 6 ∷ 7 ∷ 8 ∷ []
unfolding of_desk of_pool
desk_order pool d = refl

-- "After refusals 1 and 2 the work table too" is as found; "otherwise its first 1,024 × B bytes are zero .. and bytes beyond are untouched": the first
-- byte, the last that is cleared and the next one, of a table full of 7 beside a pool of four blocks, after each number.
abbrev three_bytes : List ℕ → List ℕ
three_bytes table = get_or table 0 9 ∷ get_or table 4095 9 ∷ get_or table 4096 9 ∷ []

abbrev kept : List ℕ
kept = 7 ∷ 7 ∷ 7 ∷ []

abbrev wiped : List ℕ
wiped = 0 ∷ 0 ∷ 7 ∷ []

pub tables_left : map (λ n. three_bytes (table_after n 4 (replicate 4097 7))) (0 ∷ 1 ∷ 2 ∷ 3 ∷ 4 ∷ 5 ∷ 6 ∷ 7 ∷ 8 ∷ 11 ∷ []) ≡
    wiped ∷ kept ∷ kept ∷ wiped ∷ wiped ∷ wiped ∷ wiped ∷ wiped ∷ wiped ∷ wiped ∷ []
unfolding lay
tables_left = refl
