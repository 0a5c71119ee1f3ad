-- A pool without its scores. The tests of blocks and pages, the contents and modes of the nodes, and the checkpoint's tariff and node count do not
-- depend on fields 14: two pools that are the same without them differ in nothing else. Assumes nothing.
use Rattle.std.specs.Prelude.{◌≡◌, refl, Bool, true, false, ◌&&◌, List, [], ◌∷◌, map, ℕ, zero, suc, ◌+◌, max, eqb, leb, take, drop, Option, None, Some, option_map}
use Rattle.std.proofs.Common.{sym, ap₂, ◌∙◌}
use Rattle.std.proofs.Math.Path.{ap, fun_ext}
use Rattle.std.proofs.lemmas.List.{length-map}
use Rattle.laws.specs.Tests.{choose}
use Rattle.laws.specs.Lists.{take-map, drop-map}
use Rattle.laws.specs.Counts.{bit, count, tally, empty}
use Rattle.layout.specs.Layout.{pages_in_block}
use Rattle.page.specs.Page.{Entry, Page, page, log, whole, checkpoint, sequence}
use Rattle.store.specs.View.{View, greatest}
use Rattle.store.specs.Pool.{Blocks, numbered, page_in, or_else, find, items_at}
use Rattle.store.specs.Allocate.{blanks}
use Rattle.store.specs.Store.{Store, view, mode_at, mode_of}
use Rattle.store.specs.Checkpoint.{CheckpointPage, checkpoint_page, collect_at, collect, checkpoint_of, tariff_in, count_or, count_in, no_count, count_last}
use Rattle.store.specs.Reopen.{Cells, block_in, blocks_in, greatest_of, newest, store_of, reopened, blank, filled, all_filled, differ_in, differ}
use Rattle.store.specs.Reopen.{full_or_all, blocks_pass, versions_pass, page_passes, every, every_page, pages_pass}

-- A page without its fields 14; the cells of a pool, its blocks and a checkpoint page without them.
abbrev pub unscored : Page → Page
unscored (page s (log es)) = page s (log es)
unscored (page s (whole n x)) = page s (whole n x)
unscored (page s (checkpoint t scores count)) = page s (checkpoint t [] count)

abbrev pub unscored_cells : Cells → Cells
unscored_cells c = map (option_map unscored) c

abbrev unscored_blocks : Blocks → Blocks
unscored_blocks bs = map (map unscored) bs

abbrev unscored_page : CheckpointPage → CheckpointPage
unscored_page x = checkpoint_page x.tariff [] x.count

-- ---- the blocks

block-unscored : (c : Cells) → block_in (unscored_cells c) ≡ map unscored (block_in c)
block-unscored [] = refl
block-unscored (None ∷ c) = refl
block-unscored (Some p ∷ c) = ap {B = List Page} (λ z. unscored p ∷ z) (block-unscored c)

blocks-unscored : (width k : ℕ) (c : Cells) → blocks_in width k (unscored_cells c) ≡ unscored_blocks (blocks_in width k c)
blocks-unscored width zero c = refl
blocks-unscored width (suc k) c =
    ap₂ {B = Blocks} ◌∷◌ (ap block_in (take-map (option_map unscored) width c) ∙ block-unscored (take width c))
    (ap (blocks_in width k) (drop-map (option_map unscored) width c) ∙ blocks-unscored width k (drop width c))

sequence-unscored : (p : Page) → sequence (unscored p) ≡ sequence p
sequence-unscored (page s (log es)) = refl
sequence-unscored (page s (whole n x)) = refl
sequence-unscored (page s (checkpoint t scores count)) = refl

numbered-unscored : (s : ℕ) (p : Page) → numbered s (unscored p) ≡ numbered s p
numbered-unscored s p = ap (λ (z : ℕ). eqb z s) (sequence-unscored p)

count-unscored : (s : ℕ) (b : List Page) → count (numbered s) (map unscored b) ≡ count (numbered s) b
count-unscored s [] = refl
count-unscored s (p ∷ b) = ap₂ (λ (t : Bool) (n : ℕ). bit t + n) (numbered-unscored s p) (count-unscored s b)

tally-unscored : (s : ℕ) (bs : Blocks) → tally (numbered s) (unscored_blocks bs) ≡ tally (numbered s) bs
tally-unscored s [] = refl
tally-unscored s (b ∷ bs) = ap₂ ◌+◌ (count-unscored s b) (tally-unscored s bs)

greatest-unscored : (b : List Page) → greatest_of (map unscored b) ≡ greatest_of b
greatest-unscored [] = refl
greatest-unscored (p ∷ b) = ap₂ max (sequence-unscored p) (greatest-unscored b)

newest-unscored : (bs : Blocks) → newest (unscored_blocks bs) ≡ newest bs
newest-unscored [] = refl
newest-unscored (b ∷ bs) = ap₂ max (greatest-unscored b) (newest-unscored bs)

-- ---- the tests of blocks and pages

blank-unscored : (c : Cells) → blank (unscored_cells c) ≡ blank c
blank-unscored [] = refl
blank-unscored (None ∷ c) = blank-unscored c
blank-unscored (Some p ∷ c) = refl

filled-unscored : (c : Cells) → filled (unscored_cells c) ≡ filled c
filled-unscored [] = refl
filled-unscored (None ∷ c) = blank-unscored c
filled-unscored (Some p ∷ c) = filled-unscored c

all-filled-unscored : (width k : ℕ) (c : Cells) → all_filled width k (unscored_cells c) ≡ all_filled width k c
all-filled-unscored width zero c = refl
all-filled-unscored width (suc k) c =
    ap₂ ◌&&◌ (ap filled (take-map (option_map unscored) width c) ∙ filled-unscored (take width c))
    (ap (all_filled width k) (drop-map (option_map unscored) width c) ∙ all-filled-unscored width k (drop width c))

differ_in_unscored : (b : List Page) (bs : Blocks) → differ_in (map unscored b) (unscored_blocks bs) ≡ differ_in b bs
differ_in_unscored [] bs = refl
differ_in_unscored (p ∷ b) bs =
    rw (sequence-unscored p, count-unscored (sequence p) b, tally-unscored (sequence p) bs, differ_in_unscored b bs) refl

differ-unscored : (bs : Blocks) → differ (unscored_blocks bs) ≡ differ bs
differ-unscored [] = refl
differ-unscored (b ∷ bs) = ap₂ ◌&&◌ (differ_in_unscored b bs) (differ-unscored bs)

empty-unscored : (b : List Page) → empty (map unscored b) ≡ empty b
empty-unscored [] = refl
empty-unscored (p ∷ b) = refl

blanks-unscored : (bs : Blocks) → blanks (unscored_blocks bs) ≡ blanks bs
blanks-unscored [] = refl
blanks-unscored (b ∷ bs) = ap₂ (λ (t : Bool) (n : ℕ). bit t + n) (empty-unscored b) (blanks-unscored bs)

full-unscored : (width s : ℕ) (bs : Blocks) → full_or_all width s (unscored_blocks bs) ≡ full_or_all width s bs
full-unscored width s [] = refl
full-unscored width s (b ∷ bs) = rw (empty-unscored b, length-map b unscored, count-unscored s b, full-unscored width s bs) refl

blocks_pass_unscored : (width k : ℕ) (c : Cells) → blocks_pass width k (unscored_cells c) ≡ blocks_pass width k c
unfolding blocks_pass
blocks_pass_unscored width k c =
    let bs = blocks_in width k c in
    rw (
      length-map c (option_map unscored),
      all-filled-unscored width k c,
      blocks-unscored width k c,
      differ-unscored bs,
      blanks-unscored bs,
      newest-unscored bs,
      full-unscored width (newest bs) bs,
    )
    refl

versions_unscored : (s : ℕ) (bs : Blocks) (es : List Entry) → versions_pass s (unscored_blocks bs) es ≡ versions_pass s bs es
versions_unscored s bs [] = refl
versions_unscored s bs (e ∷ es) = rw (tally-unscored e.version bs, versions_unscored s bs es) refl

passes-unscored : (bs : Blocks) (p : Page) → page_passes (unscored_blocks bs) (unscored p) ≡ page_passes bs p
passes-unscored bs (page s (log es)) = ap (λ (t : Bool). leb 1 s && t) (versions_unscored s bs es)
passes-unscored bs (page s (whole n x)) = refl
passes-unscored bs (page s (checkpoint t scores count)) = refl

every-unscored : (all : Blocks) (b : List Page) → every (page_passes (unscored_blocks all)) (map unscored b) ≡ every (page_passes all) b
every-unscored all [] = refl
every-unscored all (p ∷ b) = ap₂ ◌&&◌ (passes-unscored all p) (every-unscored all b)

every_page_unscored : (all bs : Blocks) → every_page (page_passes (unscored_blocks all)) (unscored_blocks bs) ≡ every_page (page_passes all) bs
every_page_unscored all [] = refl
every_page_unscored all (b ∷ bs) = ap₂ ◌&&◌ (every-unscored all b) (every_page_unscored all bs)

pass_unscored : (blocks : ℕ) (c : Cells) → pages_pass blocks (unscored_cells c) ≡ pages_pass blocks c
unfolding pages_pass
pass_unscored blocks c =
    let bs = blocks_in pages_in_block blocks c in
    rw (blocks_pass_unscored pages_in_block blocks c, blocks-unscored pages_in_block blocks c, every_page_unscored bs bs) refl

-- ---- the nodes

page_in_unscored : (s : ℕ) (b : List Page) → page_in s (map unscored b) ≡ option_map unscored (page_in s b)
page_in_unscored s [] = refl
page_in_unscored s (p ∷ b) = rw (numbered-unscored s p, page_in_unscored s b) (go (numbered s p))
  where
    go : (t : Bool) → choose t (Some (unscored p)) (option_map unscored (page_in s b)) ≡ option_map unscored (choose t (Some p) (page_in s b))
    go true = refl
    go false = refl

find-unscored : (s : ℕ) (bs : Blocks) → find s (unscored_blocks bs) ≡ option_map unscored (find s bs)
find-unscored s [] = refl
find-unscored s (b ∷ bs) = rw (page_in_unscored s b, find-unscored s bs) (go (page_in s b))
  where
    go : (o : Option Page) → or_else (option_map unscored o) (option_map unscored (find s bs)) ≡ option_map unscored (or_else o (find s bs))
    go None = refl
    go (Some p) = refl

items_unscored : (o : Option Page) → items_at (option_map unscored o) ≡ items_at o
items_unscored None = refl
items_unscored (Some (page s (log es))) = refl
items_unscored (Some (page s (whole n x))) = refl
items_unscored (Some (page s (checkpoint t scores count))) = refl

mode_at-unscored : (o : Option Page) → mode_at (option_map unscored o) ≡ mode_at o
mode_at-unscored None = refl
mode_at-unscored (Some (page s (log es))) = refl
mode_at-unscored (Some (page s (whole n x))) = refl
mode_at-unscored (Some (page s (checkpoint t scores count))) = refl

view-unscored : (bs : Blocks) → view (store_of (unscored_blocks bs)) ≡ view (store_of bs)
view-unscored bs =
    let items = fun_ext (λ (s : ℕ). ap items_at (find-unscored s bs) ∙ items_unscored (find s bs)) in
    let last = newest-unscored bs in
    λ i. record { at = items i; buffer = []; last = last i }

mode_unscored : (bs : Blocks) (n : ℕ) → mode_of (store_of (unscored_blocks bs)) n ≡ mode_of (store_of bs) n
unfolding mode_of
mode_unscored bs n =
    let g = greatest (view (store_of bs)) n in
    ap (λ (w : View). mode_at (find (greatest w n) (unscored_blocks bs))) (view-unscored bs) ∙ ap mode_at (find-unscored g bs) ∙ mode_at-unscored (find g bs)

-- ---- the checkpoint

-- The search for it from a number down.
abbrev collected : Blocks → ℕ → List CheckpointPage → List CheckpointPage
collected bs k = collect (λ s. find s bs) k

collect-unscored : (bs : Blocks) (k : ℕ) (later : List CheckpointPage) →
    collected (unscored_blocks bs) k (map unscored_page later) ≡ map unscored_page (collected bs k later)
unfolding collect
collect-unscored bs zero later = refl
collect-unscored bs (suc k) later =
    rw (find-unscored (suc k) bs) (go (find (suc k) bs) (collected (unscored_blocks bs) k) (collected bs k) (collect-unscored bs k))
  where
    go : (o : Option Page) (bare scored : List CheckpointPage → List CheckpointPage) →
        ((xs : List CheckpointPage) → bare (map unscored_page xs) ≡ map unscored_page (scored xs)) →
        collect_at (option_map unscored o) (map unscored_page later) bare ≡ map unscored_page (collect_at o later scored)
    go None bare scored r = r later
    go (Some (page s (log es))) bare scored r = refl
    go (Some (page s (whole n x))) bare scored r = refl
    go (Some (page s (checkpoint None scores count))) bare scored r = r (checkpoint_page None scores count ∷ later)
    go (Some (page s (checkpoint (Some t) scores count))) bare scored r = refl

checkpoint-unscored : (bs : Blocks) → checkpoint_of (store_of (unscored_blocks bs)) ≡ map unscored_page (checkpoint_of (store_of bs))
unfolding checkpoint_of
checkpoint-unscored bs =
    ap (λ (k : ℕ). collected (unscored_blocks bs) k []) (newest-unscored bs) ∙ collect-unscored bs (newest bs) []

tariff-unscored : (xs : List CheckpointPage) → tariff_in (map unscored_page xs) ≡ tariff_in xs
tariff-unscored [] = refl
tariff-unscored (x ∷ xs) = refl

count_in_unscored : (xs : List CheckpointPage) → count_in (map unscored_page xs) ≡ count_in xs
count_in_unscored [] = refl
count_in_unscored (x ∷ xs) = ap (count_or x.count) (count_in_unscored xs)

count-last-unscored : (xs : List CheckpointPage) → count_last (map unscored_page xs) ≡ count_last xs
count-last-unscored [] = refl
count-last-unscored (x ∷ []) = refl
count-last-unscored (x ∷ y ∷ xs) = ap (λ (t : Bool). no_count x.count && t) (count-last-unscored (y ∷ xs))

-- TWO POOLS THAT ARE THE SAME WITHOUT THEIR SCORES pass the same tests, say the same of every node, and have the same tariff and node count.
pub record Alike (blocks : ℕ) (c d : Cells) : Type 0 where
  pub pass : pages_pass blocks c ≡ pages_pass blocks d
  pub views : view (reopened blocks c) ≡ view (reopened blocks d)
  pub modes : (n : ℕ) → mode_of (reopened blocks c) n ≡ mode_of (reopened blocks d) n
  pub tariff : tariff_in (checkpoint_of (reopened blocks c)) ≡ tariff_in (checkpoint_of (reopened blocks d))
  pub count : count_in (checkpoint_of (reopened blocks c)) ≡ count_in (checkpoint_of (reopened blocks d))
  pub last : count_last (checkpoint_of (reopened blocks c)) ≡ count_last (checkpoint_of (reopened blocks d))

module _ (blocks : ℕ) where
  without : (c : Cells) → reopened blocks (unscored_cells c) ≡ store_of (unscored_blocks (blocks_in pages_in_block blocks c))
  unfolding reopened
  without c = ap store_of (blocks-unscored pages_in_block blocks c)

  view_same : (c : Cells) → view (reopened blocks (unscored_cells c)) ≡ view (reopened blocks c)
  unfolding reopened
  view_same c = ap view (without c) ∙ view-unscored (blocks_in pages_in_block blocks c)

  mode_same : (n : ℕ) (c : Cells) → mode_of (reopened blocks (unscored_cells c)) n ≡ mode_of (reopened blocks c) n
  unfolding reopened
  mode_same n c = ap (λ (st : Store). mode_of st n) (without c) ∙ mode_unscored (blocks_in pages_in_block blocks c) n

  checkpoint_same : (c : Cells) → checkpoint_of (reopened blocks (unscored_cells c)) ≡ map unscored_page (checkpoint_of (reopened blocks c))
  unfolding reopened
  checkpoint_same c = ap checkpoint_of (without c) ∙ checkpoint-unscored (blocks_in pages_in_block blocks c)

  module _ (c d : Cells) (e : unscored_cells c ≡ unscored_cells d) where
    -- What does not depend on the scores is the same of both.
    both_say : {A : Type 0} (f : Cells → A) → ((x : Cells) → f (unscored_cells x) ≡ f x) → f c ≡ f d
    both_say f h = sym (h c) ∙ ap f e ∙ h d

    abbrev set_of : Cells → List CheckpointPage
    set_of x = checkpoint_of (reopened blocks x)

    pub alike : Alike blocks c d
    alike =
        record {
          pass = both_say (pages_pass blocks) (pass_unscored blocks);
          views = both_say (λ x. view (reopened blocks x)) view_same;
          modes = λ n. both_say (λ x. mode_of (reopened blocks x) n) (mode_same n);
          tariff = both_say (λ x. tariff_in (set_of x)) (λ x. ap tariff_in (checkpoint_same x) ∙ tariff-unscored (set_of x));
          count = both_say (λ x. count_in (set_of x)) (λ x. ap count_in (checkpoint_same x) ∙ count_in_unscored (set_of x));
          last = both_say (λ x. count_last (set_of x)) (λ x. ap count_last (checkpoint_same x) ∙ count-last-unscored (set_of x));
        }
