-- The page that bytes spell, as question 5 of document 01 judges one page: a parser from field to field. Assumes nothing.
use Rattle.std.specs.Prelude.{Bool, true, false, ◌&&◌, ◌||◌, List, [], ◌∷◌, map, ℕ, zero, suc, ◌+◌, ◌-◌, ◌*◌, ◌/◌, eqb, leb, ltb, length, get_or, take, drop, Option, None, Some}
use Rattle.laws.specs.Tests.{choose}
use Rattle.laws.specs.BigEndian.{number, number_at}
use Rattle.layout.specs.Layout.{most_entries, first_scores, other_scores}
use Rattle.pairs.specs.Pairs.{Pair}
use Rattle.account.specs.declared.Tariff.{Tariff}
use Rattle.node.specs.declared.Shape.{Shape}
use Rattle.node.specs.declared.Shape.TheVariants.{Leaf, Branch}
use Rattle.node.specs.Node.{Node, node}
use Rattle.node.specs.Change.{Change, put, remove, link}
use Rattle.wire.specs.Sum.{sums_of}
use Rattle.wire.specs.Field.{payload_at}
use Rattle.page.specs.Page.{Entry, Score, log, whole, checkpoint, Page, page}

-- What a page is: blank, written, or bytes that do not check.
pub data Decoded : Type 0 where
  blank : Decoded
  written : Page → Decoded
  bad : Decoded

-- Every byte is FF.
unfoldable pub all_blank : List ℕ → Bool
all_blank [] = true
all_blank (x ∷ xs) = eqb x 255 && all_blank xs

-- A payload was found.
abbrev pub found : List ℕ → Bool
found [] = false
found (x ∷ p) = true

-- The bytes that a field takes with its payload; none where there is no such field.
abbrev pub taken : List ℕ → ℕ
taken p = choose (found p) (3 + length p) 0

-- Field 1F stands at a place and holds the sums of all before it; FF to the end behind it.
unfoldable pub sealed_at : List ℕ → ℕ → Bool
sealed_at s end =
    eqb (length (payload_at s end 0x1F)) 4 &&
    (eqb (number_at 2 (payload_at s end 0x1F) 0) (sums_of (take end s)).b &&
    (eqb (number_at 2 (payload_at s end 0x1F) 2) (sums_of (take end s)).a && all_blank (drop (end + 7) s)))

-- How many fields of a tag stand one behind another from a place on, each taking `step` bytes and with a payload that
-- passes a test; at most so many.
unfoldable pub run : (List ℕ → Bool) → ℕ → ℕ → ℕ → List ℕ → ℕ → ℕ
run ok tag step zero s at = 0
run ok tag step (suc most) s at =
    elim (ok (payload_at s at tag)) [ true ↦ suc (run ok tag step most s (at + step)) | false ↦ 0 ]

-- Their payloads.
unfoldable pub payloads : ℕ → ℕ → ℕ → List ℕ → ℕ → List (List ℕ)
payloads tag step zero s at = []
payloads tag step (suc n) s at = payload_at s at tag ∷ payloads tag step n s (at + step)

-- Kinds 1 to 4; 2 has pointer 0, 3 and 4 have key 0.
unfoldable pub change_ok : ℕ → ℕ → ℕ → Bool
change_ok kind key pointer =
    choose (eqb kind 1) true
    (choose (eqb kind 2) (eqb pointer 0) (choose (eqb kind 3) (eqb key 0) (choose (eqb kind 4) (eqb key 0) false)))

unfoldable pub change_of : ℕ → ℕ → ℕ → Change
change_of kind key pointer =
    choose (eqb kind 1) (put key pointer)
    (choose (eqb kind 2) (remove key) (choose (eqb kind 3) (link Leaf pointer) (link Branch pointer)))

-- An entry that a log page of this sequence number may have: "a version is below the page's stamp", and versions are from 1.
unfoldable pub entry_ok : ℕ → List ℕ → Bool
entry_ok s p =
    eqb (length p) 15 &&
    (leb 1 (number_at 4 p 2) &&
    (ltb (number_at 4 p 2) s && change_ok (get_or p 6 0) (number_at 4 p 7) (number_at 4 p 11)))

-- The entry that a payload of field 12 spells.
unfoldable pub entry_of : List ℕ → Entry
entry_of p =
    record {
      id = number_at 2 p 0;
      version = number_at 4 p 2;
      change = change_of (get_or p 6 0) (number_at 4 p 7) (number_at 4 p 11);
    }

-- So many pairs from a place of a payload on.
unfoldable pub pairs_from : ℕ → List ℕ → ℕ → List Pair
pairs_from zero p at = []
pairs_from (suc n) p at = (number_at 4 p at, number_at 4 p (at + 4)) ∷ pairs_from n p (at + 8)

-- How many pairs a payload of field 11 has.
abbrev pub pairs_in : List ℕ → ℕ
pairs_in p = (length p - 7) / 8

abbrev pub shape_of_number : ℕ → Shape
shape_of_number n = choose (eqb n 3) Leaf Branch

-- A payload of field 11 was found, and says leaf or branch.
unfoldable pub node_ok : List ℕ → Bool
node_ok p = found p && (eqb (get_or p 2 0) 3 || eqb (get_or p 2 0) 4)

unfoldable pub node_of : List ℕ → Node
node_of p = node (shape_of_number (get_or p 2 0)) (pairs_from (pairs_in p) p 7) (number_at 4 p 3)

-- The tariff that a payload of field 13 spells.
unfoldable pub tariff_of : List ℕ → Tariff
tariff_of p =
    record {
      log = record { read = number_at 4 p 0; edit = number_at 4 p 4; rewrite = number_at 4 p 8; enter = number_at 4 p 28 };
      disk = record { read = number_at 4 p 12; edit = number_at 4 p 16; rewrite = number_at 4 p 20; enter = number_at 4 p 24 };
    }

-- A payload of field 14 was found; the score that it spells.
abbrev pub score_ok : List ℕ → Bool
score_ok p = eqb (length p) 6

unfoldable pub score_of : List ℕ → Score
score_of p = record { id = number_at 2 p 0; score = number_at 4 p 2 }

-- What a payload spells, where it was found.
abbrev pub read_if : {A : Type 0} → (List ℕ → A) → List ℕ → Option A
read_if of p = choose (found p) (Some (of p)) None

-- A page that passed a test.
unfoldable pub when : Bool → Page → Decoded
when ok p = choose ok (written p) bad

-- A log page: 1 to 27 fields 12, then the sums.
unfoldable pub decode_log : ℕ → ℕ → List ℕ → Decoded
decode_log s n b = when (leb 1 n && sealed_at b (7 + 18 * n)) (page s (log (map entry_of (payloads 0x12 18 n b 7))))

-- A node page: one field 11, then the sums.
unfoldable pub decode_node : ℕ → List ℕ → List ℕ → Decoded
decode_node s p b = when (node_ok p && sealed_at b (7 + taken p)) (page s (whole (number_at 2 p 0) (node_of p)))

-- How many fields 14 a checkpoint page has at most, by whether it is the first.
abbrev pub most_scores : Bool → ℕ
most_scores first = choose first first_scores other_scores

-- A checkpoint page: field 13 or not, n fields 14, field 15 or not, then the sums; "a page is filled before the next".
unfoldable pub decode_scores : ℕ → List ℕ → ℕ → ℕ → List ℕ → List ℕ → Decoded
decode_scores s t at n c b =
    when (leb 1 n && ((found c || eqb n (most_scores (found t))) && sealed_at b (at + 9 * n + taken c)))
    (page s (checkpoint (read_if tariff_of t) (map score_of (payloads 0x14 9 n b at)) (read_if number c)))

unfoldable pub decode_counted : ℕ → List ℕ → ℕ → ℕ → List ℕ → Decoded
decode_counted s t at n b = decode_scores s t at n (payload_at b (at + 9 * n) 0x15) b

unfoldable pub decode_checkpoint : ℕ → List ℕ → List ℕ → Decoded
decode_checkpoint s t b = decode_counted s t (7 + taken t) (run score_ok 0x14 9 (most_scores (found t)) b (7 + taken t)) b

-- One kind of content behind field 10, told by the tag there.
unfoldable pub decode_content : ℕ → ℕ → List ℕ → Decoded
decode_content s tag b =
    elim (eqb tag 0x12) [
      | true ↦ decode_log s (run (entry_ok s) 0x12 18 most_entries b 7) b
      | false ↦
          elim (eqb tag 0x11) [
            | true ↦ decode_node s (payload_at b 7 0x11) b
            | false ↦ decode_checkpoint s (payload_at b 7 0x13) b
          ]
    ]

-- The sequence number, from 1.
unfoldable pub decode_written : ℕ → List ℕ → Decoded
decode_written s b = elim (leb 1 s) [ true ↦ decode_content s (get_or b 7 0) b | false ↦ bad ]

unfoldable pub decode : List ℕ → Decoded
decode b = elim (all_blank b) [ true ↦ blank | false ↦ decode_written (number (payload_at b 0 0x10)) b ]
