-- Marks and scores of one page, and the questions of a checkpoint, by cases. Assumes nothing.
use Rattle.std.proofs.Common.{◌≡◌, refl, sym, ap, subst, ◌∙◌, Bool, true, false, ◌&&◌, List, [], length, get_or, take, drop, replicate}
use Rattle.std.proofs.Common.{ℕ, zero, suc, ◌+◌, ◌-◌, ◌*◌, ◌≤◌, ◌<◌, add-one, arith, eq-eqb, ne_eqb, lt-ltb, le-ltb, le-leb, drop-cons}
use Rattle.std.proofs.Math.ListN.{set}
use Rattle.std.proofs.lemmas.Bool.{lt-leb}
use Rattle.std.specs.List.{list_all}
use Rattle.laws.specs.Lay.{part}
use Rattle.laws.specs.BigEndian.{number_at}
use Rattle.laws.specs.Loops.{all_from}
use Rattle.account.specs.declared.Tariff.{Tariff}
use Rattle.flash_rows.specs.Row.{no_row}
use Rattle.flash_rows.specs.Step.{scored}
use Rattle.flash_rows.specs.declared.Row.{Row}
use Rattle.wire.specs.Field.{payload_at}
use Rattle.page.specs.Decode.{tariff_of}
use Rattle.page_read.specs.Value.{score_value}
use Rattle.page_read.specs.declared.value.ScoreValue.{ScoreValue}
use Rattle.mount_checkpoint_pages.specs.CheckpointPage.{number_of, scores_on, Standing}
use Rattle.mount_checkpoint_pages.specs.declared.checkpoint_page.Scores.{Scores}
use Rattle.mount_checkpoint_pages.specs.Extent.{extent_of}
use Rattle.mount_checkpoint_pages.specs.Totals.{totals_of}
use Rattle.mount_checkpoint_pages.specs.declared.extent.Extent.{Extent}
use Rattle.mount_checkpoint_pages.specs.declared.totals.Totals.{Totals}
use Rattle.mount_checkpoint.specs.Marks.{
  score_at,
  marked,
  mark_scores,
  mark_page,
  mark_pages,
  marks_of,
  is_marked,
  window_of,
  covers_of,
  marks_left,
  Windowed,
  Covered,
}
use Rattle.mount_checkpoint.specs.Find.{tariff_at, adds_up, found_by, scratch_by, totals_in, checkpoint_in, scratch_left, complete_as, Found}
use Rattle.mount_checkpoint.specs.declared.find.Checkpoint.{Checkpoint}
use Rattle.std.specs.Prelude.{Option, None}
use Rattle.mount_checkpoint.specs.Scores.{score_taken, take_scores, take_page}

-- A score read where the scores of the page begin.
pub score_same : (b : List ℕ) (s : Scores) → Standing b s → (i : ℕ) (v : ScoreValue) → v ≡ score_value (payload_at b (s.from + 9 * i) 0x14) →
    v ≡ score_at b i
unfolding score_at
score_same b s h i v e = e ∙ ap (λ (k : ℕ). score_value (payload_at b (k + 9 * i) 0x14)) h.from

-- One id marked: below the window, inside, behind.
module _ (start id : ℕ) (marks : List ℕ) where
  pub mark_below : id < start → marks ≡ marked start id marks
  unfolding marked
  mark_below h = rw (lt-ltb id start h) refl

  module _ (h : start ≤ id) where
    pub mark_inside : id - start < length marks → set marks (id - start) 1 ≡ marked start id marks
    unfolding marked
    mark_inside l = rw (le-ltb id start h, lt-ltb (id - start) (length marks) l) refl

    pub mark_behind : length marks ≤ id - start → marks ≡ marked start id marks
    unfolding marked
    mark_behind l = rw (le-ltb id start h, le-ltb (id - start) (length marks) l) refl

-- The first n marks, one after another.
pub all_first : (g : ℕ → Bool) (xs : List ℕ) (k i : ℕ) → i + k ≤ length xs → list_all g (take k (drop i xs)) ≡ all_from (λ j. g (get_or xs j 0)) k i
unfolding all_from
all_first g xs zero i h = refl
all_first g xs (suc k) i h = rw (add-one i, drop-cons xs i 0 (omega arith)) (ap (λ (t : Bool). g (get_or xs i 0) && t) (rw (sym (add-one i)) (all_first g xs k (i + 1) (omega arith))))

-- The ids of a page: none where its number is below the first, else all.
module _ (since start : ℕ) (b marks : List ℕ) (n : ℕ) (own : n ≡ number_of b) where
  pub page_unmarked : n < since → marks ≡ mark_page since start b marks
  unfolding mark_page
  page_unmarked h = rw (← own, lt-ltb n since h) refl

  pub page_marked : since ≤ n → (k : ℕ) → k ≡ scores_on b → mark_scores start b k marks ≡ mark_page since start b marks
  unfolding mark_page
  page_marked h k e = rw (← own, le-ltb n since h, ← e) refl

-- One score taken, and those of a page.
module _ (nodes id score : ℕ) (rows : List Row) where
  pub score_in_lem : id < nodes → (r s : Row) (out : List Row) → r ≡ get_or rows id no_row → s ≡ scored score r → out ≡ set rows id s →
      out ≡ score_taken nodes id score rows
  unfolding score_taken
  score_in_lem h r s out er es eo = rw (lt-ltb id nodes h, ← er, ← es) eo

  pub score_out : nodes ≤ id → rows ≡ score_taken nodes id score rows
  unfolding score_taken
  score_out h = rw (le-ltb id nodes h) refl

module _ (since nodes : ℕ) (b : List ℕ) (rows : List Row) (n : ℕ) (own : n ≡ number_of b) where
  pub page_untaken : n < since → rows ≡ take_page since nodes b rows
  unfolding take_page
  page_untaken h = rw (← own, lt-ltb n since h) refl

  pub page_taken : since ≤ n → (k : ℕ) → k ≡ scores_on b → take_scores nodes b k rows ≡ take_page since nodes b rows
  unfolding take_page
  page_taken h k e = rw (← own, le-ltb n since h, ← e) refl

-- The tariff of no bytes.
pub tariff-none : ◌≡◌ {A = Tariff}
    (record {
      log = record { read = 0; edit = 0; rewrite = 0; enter = 0 };
      disk = record
          { read = 0; edit = 0; rewrite = 0; enter = 0 };
    }) (tariff_of [])
unfolding tariff_of number_at part
tariff-none = refl

-- ---- one window, and two

module _ (ps : List (List ℕ)) (n since start size width : ℕ) (blank marks : List ℕ) where
  pub window-is : blank ≡ replicate width 0 → marks ≡ mark_pages ps n since start blank → (r : Bool) → r ≡ all_from (is_marked marks) size 0 →
      Windowed ps n since start size width marks r
  unfolding window_of marks_of
  window-is eb em r e =
      let f : marks ≡ mark_pages ps n since start (replicate width 0) = em ∙ ap (mark_pages ps n since start) eb in
      record { is = e ∙ ap (λ (m : List ℕ). all_from (is_marked m) size 0) f; marks_are = f }

module _ (ps : List (List ℕ)) (n since nodes width : ℕ) (marks : List ℕ) where
  pub covers_one : nodes ≤ width → (r : Bool) → Windowed ps n since 0 nodes width marks r → Covered ps n since nodes width marks r
  unfolding covers_of marks_left
  covers_one h r w = record { is = rw (le-leb nodes width h) w.is; marks_are = rw (le-leb nodes width h) w.marks_are }

  module _ (h : width < nodes) (x : Bool) (is : x ≡ window_of ps n since 0 width width) where
    pub covers-first : x ≡ false → marks ≡ marks_of ps n since 0 width → Covered ps n since nodes width marks false
    unfolding covers_of marks_left
    covers-first f e = record { is = rw (lt-leb nodes width h, ← is, f) refl; marks_are = rw (lt-leb nodes width h, ← is, f) e }

    module _ (f : x ≡ true) where
      pub covers_two : nodes - width ≤ width → (w : ℕ) → w ≡ width → (r : Bool) → Windowed ps n since width (nodes - width) w marks r →
          Covered ps n since nodes width marks r
      unfolding covers_of marks_left
      covers_two l w e r v =
          let y = subst (λ (k : ℕ). Windowed ps n since width (nodes - width) k marks r) e v in
          record {
            is = rw (lt-leb nodes width h, ← is, f, le-leb (nodes - width) width l) y.is;
            marks_are = rw (lt-leb nodes width h, ← is, f, le-leb (nodes - width) width l) y.marks_are;
          }

      pub covers_third : width < nodes - width → marks ≡ marks_of ps n since 0 width → Covered ps n since nodes width marks false
      unfolding covers_of marks_left
      covers_third l e =
          record {
            is = rw (lt-leb nodes width h, ← is, f, lt-leb (nodes - width) width l) refl;
            marks_are = rw (lt-leb nodes width h, ← is, f, lt-leb (nodes - width) width l) e;
          }

-- ---- the questions one after another

module _ (ps : List (List ℕ)) (blocks : ℕ) (scratch : List ℕ) (e : Extent) (he : e ≡ extent_of ps (32 * blocks)) where
  found-by : (t : Totals) → t ≡ totals_of ps (32 * blocks) e.since e.newest → (left : List ℕ) → left ≡ scratch_by
      ps (32 * blocks) scratch e t →
      (r : Option Checkpoint) → r ≡ found_by ps (32 * blocks) (length scratch) e t → Found ps blocks scratch left r
  unfolding checkpoint_in scratch_left totals_in
  found-by t ht left el r er =
      record {
        is = er ∙ ap (found_by ps (32 * blocks) (length scratch) e) ht ∙
            ap (λ (x : Extent). found_by ps (32 * blocks) (length scratch) x (totals_in ps (32 * blocks) x)) he;
        scratch_is = el ∙ ap (scratch_by ps (32 * blocks) scratch e) ht ∙
            ap (λ (x : Extent). scratch_by ps (32 * blocks) scratch x (totals_in ps (32 * blocks) x)) he;
      }

  not_up : (t : Totals) → t ≡ totals_of ps (32 * blocks) e.since e.newest → adds_up e t ≡ false → Found ps blocks scratch scratch None
  unfolding found_by scratch_by
  not_up t ht f = found-by t ht scratch (rw f refl) None (rw f refl)

  pub found_bare : e.since < 1 → Found ps blocks scratch scratch None
  unfolding adds_up
  found_bare h = not_up (totals_of ps (32 * blocks) e.since e.newest) refl (rw (lt-leb 1 e.since h) refl)

  module _ (h : 1 ≤ e.since) (t : Totals) (ht : t ≡ totals_of ps (32 * blocks) e.since e.newest) where
    pub found-misfit : (t.misfits ≡ 0 → ⊥) → Found ps blocks scratch scratch None
    unfolding adds_up
    found-misfit m = not_up t ht (rw (le-leb 1 e.since h, ne_eqb t.misfits 0 m) refl)

    module _ (m : t.misfits ≡ 0) where
      pub found_short : (t.scores ≡ t.nodes → ⊥) → Found ps blocks scratch scratch None
      unfolding adds_up
      found_short s = not_up t ht (rw (le-leb 1 e.since h, eq-eqb t.misfits 0 m, ne_eqb t.scores t.nodes s) refl)

      module _ (s : t.scores ≡ t.nodes) (marks : List ℕ) (r : Bool)
          (c : Covered ps (32 * blocks) e.since t.nodes (length scratch) marks r) where
        up : adds_up e t ≡ true
        unfolding adds_up
        up = rw (le-leb 1 e.since h, eq-eqb t.misfits 0 m, eq-eqb t.scores t.nodes s) refl

        pub found-complete : r ≡ true → (x : Tariff) → x ≡ tariff_at ps e.place → Found ps blocks scratch marks (complete_as x t.nodes e.since)
        unfolding found_by scratch_by
        found-complete f x ex =
            let g : covers_of ps (32 * blocks) e.since t.nodes (length scratch) ≡ true = sym c.is ∙ f in
            found-by t ht marks (rw up c.marks_are) (complete_as x t.nodes e.since) (rw (up, g, ex) refl)

        pub found_uncovered : r ≡ false → Found ps blocks scratch marks None
        unfolding found_by scratch_by
        found_uncovered f =
            let g : covers_of ps (32 * blocks) e.since t.nodes (length scratch) ≡ false = sym c.is ∙ f in
            found-by t ht marks (rw up c.marks_are) None (rw (up, g) refl)
