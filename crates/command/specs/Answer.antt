-- Answers (document 01, "Commands and answers"; document 02, P3): the number and the values of each case. Assumes nothing.
use Rattle.std.specs.Prelude.{List, [], ◌∷◌, ◌++◌, ℕ, Option, None, Some}
use Rattle.laws.specs.BigEndian.{big_endian}
use Rattle.pairs.specs.Pairs.{Pair}
use Rattle.wire.specs.Field.{field}
use Rattle.command.specs.declared.Answer.{Answer}
use Rattle.command.specs.declared.Answer.TheVariants.{Absent, Got, Replaced, Deleted, Refused}

-- 80, length 0: no such route, for a hang newly hung. 81 with the card word, 82 with the old word, 83 with the word removed.
-- 8F, length 1: refused, with the number.
abbrev pub answer_tag : Answer → ℕ
answer_tag Absent = 0x80
answer_tag (Got v) = 0x81
answer_tag (Replaced v) = 0x82
answer_tag (Deleted v) = 0x83
answer_tag (Refused n) = 0x8F

abbrev pub answer_values : Answer → List ℕ
answer_values Absent = []
answer_values (Got v) = big_endian 4 v
answer_values (Replaced v) = big_endian 4 v
answer_values (Deleted v) = big_endian 4 v
answer_values (Refused n) = n ∷ []

unfoldable pub answer_bytes : Answer → List ℕ
answer_bytes a = field (answer_tag a) (answer_values a)

-- 84: route and word pairs, 8 bytes a pair.
abbrev pub pair_bytes : Pair → List ℕ
pair_bytes p = big_endian 4 p.0 ++ big_endian 4 p.1

abbrev pub pairs_bytes : List Pair → List ℕ
pairs_bytes [] = []
pairs_bytes (p ∷ ps) = pair_bytes p ++ pairs_bytes ps

abbrev pub scan_tag : ℕ
scan_tag = 0x84

unfoldable pub scan_bytes : List Pair → List ℕ
scan_bytes ps = field scan_tag (pairs_bytes ps)

-- 87, length 8: "route and word" of the next route up.
unfoldable pub ceiling_bytes : Pair → List ℕ
ceiling_bytes p = field 0x87 (pair_bytes p)

-- The answer with the value that there was, or that there was none.
abbrev pub value_or : (ℕ → Answer) → Option ℕ → Answer
value_or with None = Absent
value_or with (Some v) = with v
