-- Question 6: what the code finds is the store's checkpoint. It is complete in both or in none, and tariff, node count and first page are
-- the same. Assumes nothing.
use Rattle.std.specs.Prelude.{◌≡◌, Bool, ◌&&◌, ◌⊎◌, ℕ, zero, suc, ◌+◌, ◌-◌, ◌*◌, ◌≤◌, ◌<◌, leb, ltb, length, get_or, Option, None, Some, is_some}
use Rattle.std.proofs.Math.Path.{refl, sym, ap, ap₂, subst}
use Rattle.std.proofs.Common.{◌∙◌, inl, inr, arith}
use Rattle.std.proofs.Math.Bool.{true, false}
use mathlib.Core.List.{List, [], ◌∷◌}
use Rattle.std.proofs.Math.Dec.{eqb}
use borrow.Author.Tests.{eqb-true, le-leb, leb-true}
use Rattle.laws.specs.Options.{some_same}
use Rattle.laws.specs.Tests.{choose, and_left, and_right, test_clash}
use Rattle.laws.specs.Order.{le_or}
use Rattle.laws.specs.Loops.{sum_from_le}
use Rattle.layout.specs.Layout.{table_bytes}
use Rattle.account.specs.declared.Tariff.{Tariff}
use Rattle.wire.specs.Field.{payload_at}
use Rattle.page.specs.Page.{Page, page, log, whole, checkpoint}
use Rattle.page.specs.Decode.{run, found, score_ok, most_scores, tariff_of, read_if}
use Rattle.page.specs.Limits.{given}
use Rattle.page.specs.Runs.{run_goes, run_stops}
use Rattle.store.specs.Pool.{page_in, find}
use Rattle.store.specs.Store.{Store}
use Rattle.store.specs.Checkpoint.{
  CheckpointPage,
  checkpoint_page,
  collect_at,
  collect,
  checkpoint_of,
  tariff_in,
  scores_in,
  count_in,
  count_last,
  once_below,
  complete,
}
use Rattle.store.specs.Reopen.{Cells, greatest_of, reopened}
use Rattle.flash_blocks.specs.Pages.{pages_of, page_at}
use Rattle.store_laws.specs.WrittenPages.{pages_in}
use Rattle.mount_checkpoint_pages.specs.CheckpointPage.{number_of, scores_from, scores_on}
use Rattle.mount_checkpoint_pages.specs.Extent.{extent_of}
use Rattle.mount_checkpoint_pages.specs.Totals.{totals_of}
use Rattle.mount_checkpoint_pages.specs.declared.extent.Extent.{Extent}
use Rattle.mount_checkpoint_pages.specs.declared.totals.Totals.{Totals}
use Rattle.mount_checkpoint.specs.Marks.{covers_of}
use Rattle.mount_checkpoint.specs.declared.find.Checkpoint.{Checkpoint}
use Rattle.mount_checkpoint.specs.Find.{complete_as, tariff_at, adds_up, found_by, totals_in, checkpoint_in}
use Rattle.mount_refines.specs.Checkpoint.Header.{number_in, checkpoint_page_in}
use Rattle.mount_refines.specs.Checkpoint.Written.{number_in_le}
use Rattle.mount_refines.specs.Checkpoint.Collect.{opens, Reach, gathered, collect-gathered, tariff-gathered, Reached, collected}
use Rattle.mount_refines.specs.Checkpoint.Pool.{Judged, length-cells, headers, last-is, find-is, own-number}
use Rattle.mount_refines.specs.Checkpoint.Extent.{newest-is, first-place, first-opens, opens-below}
use Rattle.mount_refines.specs.Checkpoint.Totals.{from_bytes, scores-sum, no_foreign, scores_are, nodes_are, fits_are}
use Rattle.mount_refines.specs.Checkpoint.Marks.{covers_are}

-- ---- the store's pages are those of the cells

collect-ext : (f g : ℕ → Option Page) → ((s : ℕ) → f s ≡ g s) → (n : ℕ) (later : List CheckpointPage) → collect f n later ≡ collect g n later
unfolding collect
collect-ext f g h zero later = refl
collect-ext f g h (suc s) later =
    ap (λ (x : Option Page). collect_at x later (collect f s)) (h (suc s)) ∙ go (g (suc s)) (λ l. collect-ext f g h s l)
  where
    go : (x : Option Page) → ((l : List CheckpointPage) → collect f s l ≡ collect g s l) → collect_at x later (collect f s) ≡ collect_at x later (collect g s)
    go None r = r later
    go (Some (page n (log es))) r = refl
    go (Some (page n (whole m y))) r = refl
    go (Some (page n (checkpoint None ss c))) r = r (checkpoint_page None ss c ∷ later)
    go (Some (page n (checkpoint (Some t) ss c))) r = refl

-- ---- few scores

run_le : (ok : List ℕ → Bool) (tag step most : ℕ) (b : List ℕ) (at : ℕ) → run ok tag step most b at ≤ most
unfolding run
run_le ok tag step zero b at = omega arith
run_le ok tag step (suc most) b at = go (ok (payload_at b at tag)) refl (run_le ok tag step most b (at + step))
  where
    go : (t : Bool) → ok (payload_at b at tag) ≡ t → run ok tag step most b (at + step) ≤ most → run ok tag step (suc most) b at ≤ suc most
    go true e r = rw (run_goes ok tag step most b at e) (omega arith)
    go false e r = rw (run_stops ok tag step most b at e) (omega arith)

scores_on_le : (b : List ℕ) → scores_on b ≤ 54
unfolding scores_on
scores_on_le b = go (found (payload_at b 7 0x13)) (run_le score_ok 0x14 9 (most_scores (found (payload_at b 7 0x13))) b (scores_from b))
  where
    go : (t : Bool) → scores_on b ≤ most_scores t → scores_on b ≤ 54
    go true l = omega arith
    go false l = l

pub scores_few : (ps : List (List ℕ)) (n since newest : ℕ) → (totals_of ps n since newest).scores ≤ 54 * n
scores_few ps n since newest =
    rw (scores-sum ps n since newest)
    (sum_from_le (λ q. from_bytes since scores_on (page_at ps q)) 54 n 0 (λ q. few (ltb (number_of (page_at ps q)) since) (page_at ps q)))
  where
    few : (t : Bool) (b : List ℕ) → choose t 0 (scores_on b) ≤ 54
    few true b = omega arith
    few false b = scores_on_le b

-- ---- the set that the code spans

-- What a complete checkpoint of a store is told as: its tariff, its node count, and the number of its first page, the newest that has a
-- tariff.
pub record Completes (st : Store) (t : Tariff) (nodes since : ℕ) : Type 0 where
  pub whole : complete (checkpoint_of st) ≡ true
  pub tariff-is : tariff_in (checkpoint_of st) ≡ Some t
  pub nodes_are : count_in (checkpoint_of st) ≡ nodes
  pub first : opens (find since st.blocks) ≡ true
  pub later : (s : ℕ) → since < s → opens (find s st.blocks) ≡ false

-- The set from a number to the newest.
pub record Spans (c : Cells) (since : ℕ) : Type 0 where
  pub below : ℕ
  pub length : ℕ
  pub begin : since ≡ suc below
  pub end : greatest_of (pages_in c) ≡ suc (below + length)
  pub reach : Reach (λ s. page_in s (pages_in c)) below length

module _ {pool : List ℕ} {blocks : ℕ} {c : Cells} (j : Judged pool blocks c) where
  abbrev at : ℕ → Option Page
  at s = page_in s (pages_in c)

  abbrev last : ℕ
  last = greatest_of (pages_in c)

  abbrev ps : List (List ℕ)
  ps = pages_of pool

  abbrev n : ℕ
  n = 32 * blocks

  abbrev ext : Extent
  ext = extent_of ps n

  abbrev tot : Totals
  tot = totals_in ps n ext

  pub checkpoint-is : checkpoint_of (reopened blocks c) ≡ collect at last []
  unfolding checkpoint_of
  checkpoint-is =
      collect-ext (λ s. find s (reopened blocks c).blocks) at (find-is j) (reopened blocks c).last [] ∙ ap (λ (k : ℕ). collect at k []) (last-is j)

  since_le : 1 ≤ ext.since → ext.since ≤ last
  since_le l = go (own-number c ext.since)
    where
      go : (at ext.since ≡ None) ⊎ (number_in (at ext.since) ≡ ext.since) → ext.since ≤ last
      go (inl e) = absurd (test_clash (opens (at ext.since)) (first-opens j l) (ap opens e))
      go (inr e) = omega (arith, e, ap number_in (first-place j l), number_in_le c ext.place)

  not_open : (s : ℕ) → ext.since < s → opens (at s) ≡ false
  not_open s l = go (opens (at s)) refl
    where
      go : (t : Bool) → opens (at s) ≡ t → t ≡ false
      go false e = refl
      go true e = absurd (omega (arith, opens-below j s e))

  tot-is : (s : ℕ) → ext.since ≡ suc s → tot ≡ totals_of ps n (suc s) last
  unfolding totals_in
  tot-is s e = ap₂ (totals_of ps n) e (newest-is j)

  -- where every page fits
  fit_spans : 1 ≤ ext.since → tot.misfits ≡ 0 → Spans c ext.since
  fit_spans l m = go ext.since refl
    where
      go : (k : ℕ) → ext.since ≡ k → Spans c ext.since
      go zero e = absurd (omega arith)
      go (suc s) e =
          let z : (totals_of ps n (suc s) last).misfits ≡ 0 = sym (ap (λ (t : Totals). t.misfits) (tot-is s e)) ∙ m in
          let d : last ≡ suc (s + (last - suc s)) = omega (arith, since_le l) in
          record {
            below = s;
            length = last - suc s;
            begin = e;
            end = d;
            reach =
                record {
                  first = ap (λ (k : ℕ). opens (at k)) (sym e) ∙ first-opens j l;
                  kind = λ i a b. no_foreign j s z i (omega arith) (omega arith);
                  later = λ i a b. not_open i (omega arith);
                };
          }

  -- where the store collects a set, it is this one
  reached_spans : Reached at last → Spans c ext.since
  reached_spans r =
      record { below = r.below; length = r.length; begin = same (le_or ext.since (suc r.below)); end = r.end; reach = r.reach }
    where
      low : suc r.below ≤ ext.since
      low = opens-below j (suc r.below) r.reach.first

      same : (ext.since ≤ suc r.below) ⊎ (suc r.below < ext.since) → ext.since ≡ suc r.below
      same (inl h) = omega (arith, low)
      same (inr h) =
          absurd
          (test_clash (opens (at ext.since)) (first-opens j (omega arith))
          (r.reach.later ext.since h (omega (arith, since_le (omega arith), r.end))))

  pub checkpoint_spans : (since : ℕ) (sp : Spans c since) → checkpoint_of (reopened blocks c) ≡ gathered at sp.below sp.length []
  checkpoint_spans since sp =
      checkpoint-is ∙ ap (λ (k : ℕ). collect at k []) sp.end ∙ collect-gathered at sp.below sp.length [] sp.reach

  module _ (width : ℕ) (wide : table_bytes blocks ≤ width) where
    abbrev code : Bool
    code = adds_up ext tot && covers_of ps n ext.since tot.nodes width

    module _ (sp : Spans c ext.since) where
      abbrev xs : List CheckpointPage
      xs = gathered at sp.below sp.length []

      tot-here : tot ≡ totals_of ps n (suc sp.below) last
      tot-here = tot-is sp.below sp.begin

      scores-here : tot.scores ≡ length (scores_in xs)
      scores-here = scores_are j sp.below sp.length sp.reach sp.end tot tot-here

      fits-here : eqb tot.misfits 0 ≡ count_last xs
      fits-here = fits_are j sp.below sp.length sp.reach sp.end tot tot-here

      nodes-here : count_last xs ≡ true → tot.nodes ≡ count_in xs
      nodes-here = nodes_are j sp.below sp.length sp.reach sp.end tot tot-here

      few_here : tot.scores ≤ 54 * n
      unfolding totals_in
      few_here = scores_few ps n ext.since ext.newest

      covers-here : count_last xs ≡ true → length (scores_in xs) ≡ count_in xs →
          covers_of ps n ext.since tot.nodes width ≡ once_below (count_in xs) (scores_in xs)
      covers-here e f =
          ap₂ (λ (s m : ℕ). covers_of ps n s m width) sp.begin (nodes-here e) ∙
          covers_are j sp.below sp.length sp.reach sp.end (count_in xs) width (omega (arith, f, scores-here, few_here)) f

      abbrev covers : Bool
      covers = covers_of ps n ext.since tot.nodes width

      -- THE TESTS OF THE CODE are those of the store.
      code_is : code ≡ complete xs
      unfolding adds_up complete
      code_is =
          ap (λ (t : Bool). (t && (eqb tot.misfits 0 && eqb tot.scores tot.nodes)) && covers)
          (le-leb 1 ext.since (omega (arith, sp.begin))) ∙
          ap (λ (t : Bool). (t && eqb tot.scores tot.nodes) && covers) fits-here ∙
          go (count_last xs) refl
        where
          sized : (t : Bool) → eqb (length (scores_in xs)) (count_in xs) ≡ t → count_last xs ≡ true →
              (t && covers) ≡ (t && once_below (count_in xs) (scores_in xs))
          sized true e f = covers-here f (eqb-true _ _ e)
          sized false e f = refl

          go : (t : Bool) → count_last xs ≡ t →
              ((t && eqb tot.scores tot.nodes) && covers) ≡
              (t && (eqb (length (scores_in xs)) (count_in xs) && once_below (count_in xs) (scores_in xs)))
          go true e =
              ap (λ (b : Bool). b && covers) (ap₂ eqb scores-here (nodes-here e)) ∙ sized (eqb (length (scores_in xs)) (count_in xs)) refl e
          go false e = refl

    -- a set that the code takes for complete is one
    code_up : code ≡ true → (1 ≤ ext.since) × (eqb tot.misfits 0 ≡ true)
    unfolding adds_up
    code_up e =
        let u = and_left (adds_up ext tot) (covers_of ps n ext.since tot.nodes width) e in
        let m = and_right (leb 1 ext.since) (eqb tot.misfits 0 && eqb tot.scores tot.nodes) u in (
          leb-true 1 ext.since (and_left (leb 1 ext.since) (eqb tot.misfits 0 && eqb tot.scores tot.nodes) u),
          and_left (eqb tot.misfits 0) (eqb tot.scores tot.nodes) m,
        )

    code_spans : code ≡ true → Spans c ext.since
    code_spans e = let u = code_up e in fit_spans u.0 (eqb-true tot.misfits 0 u.1)

    spans_collect : (sp : Spans c ext.since) → collect at last [] ≡ gathered at sp.below sp.length []
    spans_collect sp = ap (λ (k : ℕ). collect at k []) sp.end ∙ collect-gathered at sp.below sp.length [] sp.reach

    -- without a set both say no
    code-none : collect at last [] ≡ [] → code ≡ false
    code-none z = go code refl
      where
        go : (t : Bool) → code ≡ t → t ≡ false
        go false e = refl
        go true e =
            let sp = code_spans e in
            sym (code_up e).1 ∙ fits-here sp ∙ ap count_last (sym (spans_collect sp) ∙ z)

    -- QUESTION 6: the code says yes exactly if the store's checkpoint is complete.
    pub question_six : is_some (checkpoint_in ps blocks width) ≡ complete (checkpoint_of (reopened blocks c))
    unfolding checkpoint_in found_by complete
    question_six = told code ∙ go (collected at last []) ∙ sym (ap complete checkpoint-is)
      where
        told : (t : Bool) → is_some (choose t (complete_as (tariff_at ps ext.place) tot.nodes ext.since) None) ≡ t
        told true = refl
        told false = refl

        go : (collect at last [] ≡ []) ⊎ Reached at last → code ≡ complete (collect at last [])
        go (inl z) = code-none z ∙ sym (ap complete z)
        go (inr r) =
            let sp = reached_spans r in
            code_is sp ∙ ap complete (sym (spans_collect sp))

    -- ---- what a complete checkpoint is told as

    told-parts : (t : Bool) (x y : Tariff) (a b u v : ℕ) → choose t (complete_as x a u) None ≡ complete_as y b v →
        (t ≡ true) × (x ≡ y) × (a ≡ b) × (u ≡ v)
    told-parts true x y a b u v e =
        let r = some_same e in
        (refl, ap (λ (k : Checkpoint). k.tariff) r, ap (λ (k : Checkpoint). k.nodes) r, ap (λ (k : Checkpoint). k.since) r)
    told-parts false x y a b u v e = absurd (let z : ◌≡◌ {A = ℕ} 0 1 = cc in omega arith)

    first-inside : (d : Cells) (q : ℕ) → opens (get_or d q None) ≡ true → q < length d
    first-inside [] q e = absurd (test_clash false e refl)
    first-inside (x ∷ d) zero e = omega arith
    first-inside (x ∷ d) (suc q) e = omega (arith, first-inside d q e)

    read_some : (p : List ℕ) → given (read_if tariff_of p) ≡ true → read_if tariff_of p ≡ Some (tariff_of p)
    read_some [] e = absurd (test_clash false e refl)
    read_some (x ∷ p) e = refl

    -- THE TARIFF stands on the first page of the set.
    tariff-here : Spans c ext.since → tariff_in (collect at last []) ≡ Some (tariff_at ps ext.place)
    unfolding tariff_at
    tariff-here sp =
        let l : 1 ≤ ext.since = omega (arith, sp.begin) in
        let cell = first-place j l in
        let o : opens (get_or c ext.place None) ≡ true = sym (ap opens cell) ∙ first-opens j l in
        let h = headers j ext.place (omega (arith, first-inside c ext.place o, length-cells j)) in
        ap tariff_in (spans_collect sp) ∙
        tariff-gathered at sp.below sp.length [] sp.reach.first ∙
        ap (λ (k : ℕ). (checkpoint_page_in (at k)).tariff) (sym sp.begin) ∙
        ap (λ (x : Option Page). (checkpoint_page_in x).tariff) cell ∙
        sym h.tariff ∙
        read_some (payload_at (page_at ps ext.place) 7 0x13) (ap given h.tariff ∙ o)

    -- THE SET that is told is the store's checkpoint.
    pub found-set : (t : Tariff) (nodes since : ℕ) → checkpoint_in ps blocks width ≡ complete_as t nodes since → Spans c since
    unfolding checkpoint_in found_by
    found-set t nodes since e =
        let f = told-parts code (tariff_at ps ext.place) t tot.nodes nodes ext.since since e in
        subst (Spans c) f.3 (code_spans f.0)

    pub found_values : (t : Tariff) (nodes since : ℕ) → checkpoint_in ps blocks width ≡ complete_as t nodes since →
        Completes (reopened blocks c) t nodes since
    unfolding checkpoint_in found_by complete
    found_values t nodes since e =
        let f = told-parts code (tariff_at ps ext.place) t tot.nodes nodes ext.since since e in
        let sp = code_spans f.0 in
        let u : complete (gathered at sp.below sp.length []) ≡ true = sym (code_is sp) ∙ f.0 in
        let is : checkpoint_of (reopened blocks c) ≡ gathered at sp.below sp.length [] = checkpoint-is ∙ spans_collect sp in
        record {
          whole = ap complete is ∙ u;
          tariff-is = ap tariff_in checkpoint-is ∙ tariff-here sp ∙ ap Some f.1;
          nodes_are = ap count_in is ∙ sym (nodes-here sp (and_left (count_last (xs sp)) _ u)) ∙ f.2;
          first = ap opens (find-is j since) ∙ ap (λ (k : ℕ). opens (at k)) (sym f.3) ∙ first-opens j (omega (arith, sp.begin));
          later = λ s l. ap opens (find-is j s) ∙ not_open s (omega (arith, f.3));
        }
