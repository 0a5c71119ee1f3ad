-- What the headers of a page say of it as a page of the checkpoint (document 01, "Closing pages": "the first begins with field 13, length
-- 32, the tariff; then fields 14 ..; the last ends with field 15, length 2, the node count"). Assumes nothing.
use Rattle.std.specs.Prelude.{◌≡◌, refl, Bool, true, false, not, List, [], ◌∷◌, ℕ, ◌+◌, ◌*◌, ◌≤◌, ◌<◌, eqb, get_or, unwrap_or}
use Rattle.std.specs.Option.{is_some}
use Rattle.laws.specs.Tests.{choose}
use Rattle.laws.specs.BigEndian.{number}
use Rattle.wire.specs.Field.{payload_at}
use Rattle.page.specs.Decode.{run, found, taken, read_if, score_ok, most_scores}
use Rattle.mount_checkpoint_pages.specs.declared.checkpoint_page.Scores.{Scores}
use Rattle.mount_checkpoint_pages.specs.declared.checkpoint_page.CheckpointPage.{CheckpointPage}
use Rattle.layout.specs.Layout.{first_scores_at}

-- The sequence number of a page; 0 of a blank one.
abbrev pub number_of : List ℕ → ℕ
number_of b = number (payload_at b 0 0x10)

-- Whether the tariff stands behind it.
unfoldable pub has_tariff : List ℕ → Bool
has_tariff b = found (payload_at b 7 0x13)

-- Where the scores begin, how many stand there, and what stands behind them.
unfoldable pub scores_from : List ℕ → ℕ
scores_from b = 7 + taken (payload_at b 7 0x13)

unfoldable pub scores_on : List ℕ → ℕ
scores_on b = run score_ok 0x14 9 (most_scores (found (payload_at b 7 0x13))) b (scores_from b)

unfoldable pub count_part : List ℕ → List ℕ
count_part b = payload_at b (scores_from b + 9 * scores_on b) 0x15

pub record Standing (b : List ℕ) (r : Scores) : Type 0 where
  pub from : r.from ≡ scores_from b
  pub count : r.count ≡ scores_on b
  pub near : r.from ≤ first_scores_at
  pub few : r.count ≤ 54

-- The page as a checkpoint page of the checkpoint.
unfoldable pub checkpoint_page_of : List ℕ → CheckpointPage
checkpoint_page_of b = record { scores = scores_on b; nodes = read_if number (count_part b) }

-- Whether a field has a node count, and which; a page without one adds none.
pub found-count : (p : List ℕ) → is_some (read_if number p) ≡ found p
found-count [] = refl
found-count (x ∷ p) = refl

pub number-count : (p : List ℕ) → unwrap_or (read_if number p) 0 ≡ number p
number-count [] = refl
number-count (x ∷ p) = refl

pub record Read (b : List ℕ) (r : CheckpointPage) : Type 0 where
  pub is : r ≡ checkpoint_page_of b
  pub few : r.scores ≤ 54
  pub small : unwrap_or r.nodes 0 < 65536

-- Whether the node count stands where it must: on the newest page alone.
abbrev pub count_fits : Bool → Bool → Bool
count_fits true counted = counted
count_fits false counted = not counted

-- Whether a written page may stand in a checkpoint that ends with the newest page. The tag behind field 10 tells the kind of a page.
unfoldable pub fits_in : ℕ → Bool → List ℕ → Bool
fits_in newest counted b =
    choose (eqb (get_or b 7 0) 0x12) false
    (choose (eqb (get_or b 7 0) 0x11) false (count_fits (eqb (number_of b) newest) counted))
