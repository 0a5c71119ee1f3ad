-- Commands and answers as bytes, and a batch of them on the pool that a prepare leaves, for the worked cases of document 02. Assumes nothing.
use Rattle.std.specs.Prelude.{List, [], ◌∷◌, ◌++◌, ℕ, replicate, take}
use Rattle.model.specs.Outcome.{Outcome}
use Rattle.model.specs.Call.{batch_of}
use Rattle.cases.specs.Pools.{pool_bytes, in_first, prepared}

-- A small number in four bytes; and the greatest.
abbrev pub small : ℕ → List ℕ
small n = 0 ∷ 0 ∷ 0 ∷ n ∷ []

abbrev pub greatest : List ℕ
greatest = replicate 4 255

-- Commands: panel, get, put, delete, scan, ceiling; the last of any four bytes.
abbrev pub panel : ℕ → List ℕ
panel p = 0x05 ∷ 0 ∷ 1 ∷ p ∷ []

abbrev pub get : ℕ → List ℕ
get k = 0x01 ∷ 0 ∷ 4 ∷ small k

abbrev pub put : ℕ → ℕ → List ℕ
put k v = 0x02 ∷ 0 ∷ 8 ∷ small k ++ small v

abbrev pub delete : ℕ → List ℕ
delete k = 0x03 ∷ 0 ∷ 4 ∷ small k

abbrev pub scan : ℕ → ℕ → ℕ → List ℕ
scan low high most = 0x04 ∷ 0 ∷ 10 ∷ small low ++ small high ++ (0 ∷ most ∷ [])

abbrev pub ceiling_at : List ℕ → List ℕ
ceiling_at key = 0x07 ∷ 0 ∷ 4 ∷ key

abbrev pub ceiling : ℕ → List ℕ
ceiling k = ceiling_at (small k)

-- Answers: none; the value read; the value removed; the one pair listed; the pair found.
abbrev pub absent : List ℕ
absent = 0x80 ∷ 0 ∷ 0 ∷ []

abbrev pub got : ℕ → List ℕ
got v = 0x81 ∷ 0 ∷ 4 ∷ small v

abbrev pub deleted : ℕ → List ℕ
deleted v = 0x83 ∷ 0 ∷ 4 ∷ small v

abbrev pub listed : ℕ → ℕ → List ℕ
listed k v = 0x84 ∷ 0 ∷ 8 ∷ small k ++ small v

abbrev pub found_at : List ℕ → ℕ → List ℕ
found_at key v = 0x87 ∷ 0 ∷ 8 ∷ key ++ small v

abbrev pub found : ℕ → ℕ → List ℕ
found k v = found_at (small k) v

-- A batch with so many bytes for its answers; and its number, answers and charges.
pub record Result : Type 0 where
  pub number : ℕ
  pub answers : List ℕ
  pub charges : List ℕ

abbrev pub result : ℕ → List ℕ → List ℕ → Result
result n said paid = record { number = n; answers = said; charges = paid }

abbrev pub outcome_of : ℕ → List ℕ → Outcome
outcome_of room batch = batch_of (pool_bytes (in_first prepared)) (replicate 4096 7) batch (replicate room 7)

abbrev pub result_of : ℕ → List ℕ → Result
result_of room batch = let o = outcome_of room batch in result o.number (take o.length o.answers) o.charges

-- Nothing charged; all charged to panel 0.
abbrev pub none : List ℕ
none = replicate 16 0

abbrev pub first : ℕ → List ℕ
first charge = charge ∷ replicate 15 0
