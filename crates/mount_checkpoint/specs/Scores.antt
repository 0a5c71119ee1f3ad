-- The scores of the checkpoint taken into the rows of their nodes (document 01: the work table "holds, while a batch runs, the mode, the
-- score and the pages of each node"), and "scores below the limit". Assumes nothing.
use Rattle.std.specs.Prelude.{List, ℕ, ltb, get_or, set}
use Rattle.laws.specs.Tests.{choose}
use Rattle.laws.specs.Loops.{steps}
use Rattle.flash_rows.specs.Row.{no_row}
use Rattle.flash_rows.specs.Step.{scored}
use Rattle.flash_rows.specs.declared.Row.{Row}
use Rattle.flash_blocks.specs.Pages.{page_at}
use Rattle.mount_checkpoint_pages.specs.CheckpointPage.{number_of, scores_on}
use Rattle.mount_checkpoint.specs.Marks.{score_at}

-- The score of one node; an id that is no node's is passed over.
unfoldable pub score_taken : ℕ → ℕ → ℕ → List Row → List Row
score_taken nodes id score rows = choose (ltb id nodes) (set rows id (scored score (get_or rows id no_row))) rows

-- The first n scores of a page; of a page whose number is not below the first; of n pages.
unfoldable pub take_scores : ℕ → List ℕ → ℕ → List Row → List Row
take_scores nodes b n rows = steps (λ i. score_taken nodes (score_at b i).id (score_at b i).score) n 0 rows

unfoldable pub take_page : ℕ → ℕ → List ℕ → List Row → List Row
take_page since nodes b rows = choose (ltb (number_of b) since) rows (take_scores nodes b (scores_on b) rows)

unfoldable pub take_pages : List (List ℕ) → ℕ → ℕ → ℕ → List Row → List Row
take_pages ps n since nodes rows = steps (λ q. take_page since nodes (page_at ps q)) n 0 rows
