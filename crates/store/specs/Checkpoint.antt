-- The checkpoint (document 01: closing set): its pages from tariff and scores, how it is written, and how it is read back from the
-- pages of greatest sequence numbers. Assumes nothing.
use Rattle.std.specs.Prelude.{Bool, true, false, ◌&&◌, List, [], ◌∷◌, ◌++◌, ℕ, zero, suc, eqb, length, take, drop, Option, None, Some}
use Rattle.laws.specs.Tests.{choose}
use Rattle.laws.specs.Counts.{count}
use Rattle.layout.specs.Layout.{first_scores, other_scores}
use Rattle.account.specs.declared.Tariff.{Tariff}
use Rattle.page.specs.Page.{Entry, Score, Content, Page, page, log, whole, checkpoint}
use Rattle.store.specs.Pool.{find}
use Rattle.store.specs.Live.{checkpoint_since}
use Rattle.store.specs.Store.{Store}
use Rattle.store.specs.Run.{Run, write, flush_run}

-- What a checkpoint page holds: the tariff where it is the first, scores, the node count where it is the last.
pub record CheckpointPage : Type 0 where
  pub tariff : Option Tariff
  pub scores : List Score
  pub count : Option ℕ

abbrev pub checkpoint_page : Option Tariff → List Score → Option ℕ → CheckpointPage
checkpoint_page t scores count = record { tariff = t; scores = scores; count = count }

abbrev pub checkpoint_page_content : CheckpointPage → Content
checkpoint_page_content x = checkpoint x.tariff x.scores x.count

-- One score for every node from node i on: "fields 14 are written by ascending node id" (document 02, P1).
abbrev pub scores_from : ℕ → ℕ → (ℕ → ℕ) → List Score
scores_from i zero score = []
scores_from i (suc k) score = record { id = i; score = score i } ∷ scores_from (suc i) k score

-- "A page is filled before the next": parts of a width, the first argument being as many as there can be.
abbrev pub parts : ℕ → ℕ → List Score → List (List Score)
parts zero width scores = []
parts (suc most) width [] = []
parts (suc most) width (x ∷ xs) = take width (x ∷ xs) ∷ parts most width (drop width (x ∷ xs))

-- "The last ends with field 15, the node count."
abbrev pub count_if_last : ℕ → List (List Score) → Option ℕ
count_if_last nodes [] = Some nodes
count_if_last nodes (x ∷ xs) = None

abbrev pub later_checkpoint_pages : ℕ → List (List Score) → List CheckpointPage
later_checkpoint_pages nodes [] = []
later_checkpoint_pages nodes (x ∷ xs) = checkpoint_page None x (count_if_last nodes xs) ∷ later_checkpoint_pages nodes xs

abbrev pub later_parts : List Score → List (List Score)
later_parts scores = parts (length scores) other_scores (drop first_scores scores)

-- "The first begins with field 13, the tariff"; 50 scores stand on it, 54 on each other page.
unfoldable pub checkpoint_pages : Tariff → List Score → List CheckpointPage
checkpoint_pages t scores =
    checkpoint_page (Some t) (take first_scores scores) (count_if_last (length scores) (later_parts scores)) ∷
    later_checkpoint_pages (length scores) (later_parts scores)

-- "Entries .. written .. at closing if not empty."
abbrev pub drain_by : List Entry → Run → Run
drain_by [] run = run
drain_by (e ∷ es) run = flush_run run

abbrev pub drain : Run → Run
drain run = drain_by run.now.buffer run

-- The checkpoint pages written one after another.
abbrev pub write_checkpoint_pages : (Page → Bool) → List CheckpointPage → Run → Run
write_checkpoint_pages closing [] run = run
write_checkpoint_pages closing (x ∷ xs) run = write_checkpoint_pages closing xs (write closing (checkpoint_page_content x) run.now.buffer run)

-- The end of a batch: "an accepted batch, the empty one too, writes a closing set".
unfoldable pub close : Tariff → (ℕ → ℕ) → Run → Run
close t score run =
    let drained = drain run in
    write_checkpoint_pages (checkpoint_since drained.now.last) (checkpoint_pages t (scores_from 0 run.nodes score)) drained

-- Read back: "the pages of greatest stamp, back to the newest field 13". A page among them that is no checkpoint page leaves no set.
abbrev pub collect_by : Option Tariff → CheckpointPage → List CheckpointPage → (List CheckpointPage → List CheckpointPage) → List CheckpointPage
collect_by None x later rest = rest (x ∷ later)
collect_by (Some t) x later rest = x ∷ later

abbrev pub collect_at : Option Page → List CheckpointPage → (List CheckpointPage → List CheckpointPage) → List CheckpointPage
collect_at None later rest = rest later
collect_at (Some (page s (log es))) later rest = []
collect_at (Some (page s (whole n x))) later rest = []
collect_at (Some (page s (checkpoint t scores count))) later rest = collect_by t (checkpoint_page t scores count) later rest

unfoldable pub collect : (ℕ → Option Page) → ℕ → List CheckpointPage → List CheckpointPage
collect at zero later = []
collect at (suc s) later = collect_at (at (suc s)) later (collect at s)

unfoldable pub checkpoint_of : Store → List CheckpointPage
checkpoint_of st = collect (λ s. find s st.blocks) st.last []

abbrev pub tariff_in : List CheckpointPage → Option Tariff
tariff_in [] = None
tariff_in (x ∷ xs) = x.tariff

abbrev pub scores_in : List CheckpointPage → List Score
scores_in [] = []
scores_in (x ∷ xs) = x.scores ++ scores_in xs

abbrev pub count_or : Option ℕ → ℕ → ℕ
count_or None n = n
count_or (Some m) n = m

abbrev pub count_in : List CheckpointPage → ℕ
count_in [] = 0
count_in (x ∷ xs) = count_or x.count (count_in xs)

-- The score of a node, 0 where none is given.
unfoldable pub score_in : List Score → ℕ → ℕ
score_in [] n = 0
score_in (x ∷ xs) n = choose (eqb n x.id) x.score (score_in xs n)

-- "A complete closing set, each id below its count once": the count stands on the last page alone; every id below it has one score, in whatever order;
-- and there are no more scores than that.
abbrev pub no_count : Option ℕ → Bool
no_count None = true
no_count (Some n) = false

abbrev pub has_count : Option ℕ → Bool
has_count None = false
has_count (Some n) = true

abbrev pub count_last : List CheckpointPage → Bool
count_last [] = false
count_last (x ∷ []) = has_count x.count
count_last (x ∷ y ∷ xs) = no_count x.count && count_last (y ∷ xs)

abbrev pub score_of : ℕ → Score → Bool
score_of n x = eqb n x.id

abbrev pub once_below : ℕ → List Score → Bool
once_below zero scores = true
once_below (suc n) scores = eqb (count (score_of n) scores) 1 && once_below n scores

unfoldable pub complete : List CheckpointPage → Bool
complete xs = count_last xs && (eqb (length (scores_in xs)) (count_in xs) && once_below (count_in xs) (scores_in xs))
