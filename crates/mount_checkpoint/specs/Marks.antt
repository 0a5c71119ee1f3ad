-- "Each id below its count once" (document 01, question 6): ids marked in windows, one byte a mark. That there are as many scores as
-- nodes is asked before, so an id that is marked has one. Assumes nothing.
use Rattle.std.specs.Prelude.{◌≡◌, Bool, false, not, List, ℕ, ◌+◌, ◌-◌, ◌*◌, eqb, ltb, leb, length, get_or, set, replicate}
use Rattle.laws.specs.Tests.{choose}
use Rattle.laws.specs.Loops.{steps, all_from}
use Rattle.wire.specs.Field.{payload_at}
use Rattle.flash_blocks.specs.Pages.{page_at}
use Rattle.page_read.specs.Value.{score_value}
use Rattle.page_read.specs.declared.value.ScoreValue.{ScoreValue}
use Rattle.mount_checkpoint_pages.specs.CheckpointPage.{number_of, scores_from, scores_on}

-- The score at an index of a checkpoint page.
unfoldable pub score_at : List ℕ → ℕ → ScoreValue
score_at b i = score_value (payload_at b (scores_from b + 9 * i) 0x14)

-- An id marked in the window from a start on; an id outside of it changes nothing.
unfoldable pub marked : ℕ → ℕ → List ℕ → List ℕ
marked start id marks = choose (ltb id start) marks (choose (ltb (id - start) (length marks)) (set marks (id - start) 1) marks)

-- The ids of a page, where its number is not below the first; of n pages.
unfoldable pub mark_scores : ℕ → List ℕ → ℕ → List ℕ → List ℕ
mark_scores start b n marks = steps (λ i. marked start (score_at b i).id) n 0 marks

unfoldable pub mark_page : ℕ → ℕ → List ℕ → List ℕ → List ℕ
mark_page since start b marks = choose (ltb (number_of b) since) marks (mark_scores start b (scores_on b) marks)

unfoldable pub mark_pages : List (List ℕ) → ℕ → ℕ → ℕ → List ℕ → List ℕ
mark_pages ps n since start marks = steps (λ q. mark_page since start (page_at ps q)) n 0 marks

-- The marks of a window as wide as the scratch.
unfoldable pub marks_of : List (List ℕ) → ℕ → ℕ → ℕ → ℕ → List ℕ
marks_of ps n since start width = mark_pages ps n since start (replicate width 0)

abbrev pub is_marked : List ℕ → ℕ → Bool
is_marked marks i = not (eqb (get_or marks i 0) 0)

-- Whether each of `size` ids from a start on is marked.
unfoldable pub window_of : List (List ℕ) → ℕ → ℕ → ℕ → ℕ → ℕ → Bool
window_of ps n since start size width = all_from (is_marked (marks_of ps n since start width)) size 0

-- One window where that is enough, else two.
unfoldable pub covers_of : List (List ℕ) → ℕ → ℕ → ℕ → ℕ → Bool
covers_of ps n since nodes width =
    choose (leb nodes width) (window_of ps n since 0 nodes width)
    (choose (window_of ps n since 0 width width)
    (choose (leb (nodes - width) width) (window_of ps n since width (nodes - width) width) false)
    false)

-- The marks of the last window asked for.
unfoldable pub marks_left : List (List ℕ) → ℕ → ℕ → ℕ → ℕ → List ℕ
marks_left ps n since nodes width =
    choose (leb nodes width) (marks_of ps n since 0 width)
    (choose (window_of ps n since 0 width width)
    (choose (leb (nodes - width) width) (marks_of ps n since width width) (marks_of ps n since 0 width))
    (marks_of ps n since 0 width))

pub record Windowed (ps : List (List ℕ)) (n since start size width : ℕ) (marks : List ℕ) (r : Bool) : Type 0 where
  pub is : r ≡ window_of ps n since start size width
  pub marks_are : marks ≡ marks_of ps n since start width

pub record Covered (ps : List (List ℕ)) (n since nodes width : ℕ) (marks : List ℕ) (r : Bool) : Type 0 where
  pub is : r ≡ covers_of ps n since nodes width
  pub marks_are : marks ≡ marks_left ps n since nodes width
