-- The readers of a checkpoint page by cases, and a turn of each loop over pages. Assumes nothing.
use mathlib.Core.Path.{◌≡◌, refl, sym, ap, ◌∙◌}
use mathlib.Core.Bool.{Bool, true, false, ◌&&◌, not}
use mathlib.Core.List.{List, []}
use Rattle.std.proofs.Math.Bool.{and-false}
use Prim.Native.Nat.{ℕ, ◌+◌, ◌*◌, ◌≤◌, ◌<◌, max}
use native.Mathlib.Omega.{arith}
use lib.Dec.{ltb}
use lib.ListN.{length}
use borrow.Author.Tests.{lt-ltb, le-ltb}
use Rattle.std.specs.Option.{is_some}
use Rattle.std.specs.Prelude.{None, Some}
use Rattle.laws.specs.Tests.{choose}
use Rattle.laws.specs.Counts.{bit_le_one}
use Rattle.laws.specs.BigEndian.{number}
use Rattle.wire.specs.Field.{payload_at}
use Rattle.page.specs.Decode.{run, found, taken, score_ok, most_scores}
use Rattle.page.proofs.ReadBack.{taken-found}
use Rattle.page_read.specs.Payload.{found_true}
use Rattle.mount_checkpoint_pages.specs.CheckpointPage.{number_of, has_tariff, scores_from, scores_on, count_part, Standing, checkpoint_page_of, Read, fits_in}
use Rattle.mount_checkpoint_pages.specs.Extent.{extended}
use Rattle.mount_checkpoint_pages.specs.Totals.{plus, add_page, Added}
use Rattle.mount_checkpoint_pages.specs.declared.checkpoint_page.Scores.{Scores}
use Rattle.mount_checkpoint_pages.specs.declared.checkpoint_page.CheckpointPage.{CheckpointPage}
use Rattle.mount_checkpoint_pages.specs.declared.extent.Extent.{Extent}
use Rattle.mount_checkpoint_pages.specs.declared.totals.Totals.{Totals}

-- ---- the scores of a page

module _ (b : List ℕ) (n : ℕ) where
  pub scores_plain : payload_at b 7 0x13 ≡ [] → n ≡ run score_ok 0x14 9 54 b 7 → n ≤ 54 → Standing b (record { from = 7; count = n })
  unfolding scores_from scores_on
  scores_plain z e l =
      record {
        from = sym (ap (λ (p : List ℕ). 7 + taken p) z);
        count = e ∙ sym (ap (λ (p : List ℕ). run score_ok 0x14 9 (most_scores (found p)) b (7 + taken p)) z);
        near = omega arith;
        few = l;
      }

  pub scores-first : length (payload_at b 7 0x13) ≡ 32 → n ≡ run score_ok 0x14 9 50 b 42 → n ≤ 50 → Standing b (record { from = 42; count = n })
  unfolding scores_from scores_on
  scores-first z e l =
      let t = payload_at b 7 0x13 in
      let f : found t ≡ true = found_true t (omega arith) in
      let w : 7 + taken t ≡ 42 = omega (arith, taken-found t (omega arith)) in
      record {
        from = sym w;
        count =
            e ∙
            ap (λ (k : ℕ). run score_ok 0x14 9 50 b k) (sym w) ∙
            ap (λ (x : Bool). run score_ok 0x14 9 (most_scores x) b (7 + taken t)) (sym f);
        near = omega arith;
        few = omega arith;
      }

-- ---- the node count behind them

module _ (b : List ℕ) (s : Scores) (h : Standing b s) where
  count-place : payload_at b (s.from + 9 * s.count) 0x15 ≡ count_part b
  unfolding count_part
  count-place = rw (h.from, h.count) refl

  pub checkpoint_page_open : payload_at b (s.from + 9 * s.count) 0x15 ≡ [] → Read b (record { scores = s.count; nodes = None })
  unfolding checkpoint_page_of
  checkpoint_page_open z =
      let e : count_part b ≡ [] = sym count-place ∙ z in
      record { is = rw (e, h.count) refl; few = h.few; small = omega arith }

  pub checkpoint_page_counted : (p : List ℕ) → p ≡ payload_at b (s.from + 9 * s.count) 0x15 → length p ≡ 2 →
      (n : ℕ) → n ≡ number p → n < 65536 →
      Read b (record { scores = s.count; nodes = Some n })
  unfolding checkpoint_page_of
  checkpoint_page_counted p e l n en small =
      let q : p ≡ count_part b = e ∙ count-place in
      let f : found (count_part b) ≡ true = ap found (sym q) ∙ found_true p (omega arith) in
      let m : n ≡ number (count_part b) = en ∙ ap number q in
      record { is = rw (f, m, h.count) refl; few = h.few; small = small }

-- ---- the extent, one page more

module _ (q : ℕ) (b : List ℕ) (e : Extent) (n m : ℕ) (own : n ≡ number_of b) (most : m ≡ max e.newest n) where
  tariff-found : length (payload_at b 7 0x13) ≡ 32 → has_tariff b ≡ true
  unfolding has_tariff
  tariff-found l = found_true (payload_at b 7 0x13) (omega arith)

  pub extended-later : length (payload_at b 7 0x13) ≡ 32 → e.since < n → record { newest = m; since = n; place = q } ≡ extended q b e
  unfolding extended
  extended-later l h = rw (← own, tariff-found l, lt-ltb e.since n h, most) refl

  pub extended_older : n ≤ e.since → record { newest = m; since = e.since; place = e.place } ≡ extended q b e
  unfolding extended
  extended_older h = rw (← own, le-ltb e.since n h, and-false (has_tariff b), most) refl

  pub extended_none : payload_at b 7 0x13 ≡ [] → record { newest = m; since = e.since; place = e.place } ≡ extended q b e
  unfolding extended has_tariff
  extended_none z = rw (z, ← own, most) refl

pub extended-place : (q n : ℕ) (b : List ℕ) (e : Extent) → q < n → e.place < n → (extended q b e).place < n
unfolding extended
extended-place q n b e h k = go (has_tariff b && ltb e.since (number_of b))
  where
    go : (t : Bool) →
        (choose {A = Extent} t (record { newest = max e.newest (number_of b); since = number_of b; place = q })
        (record { newest = max e.newest (number_of b); since = e.since; place = e.place })).place < n
    go true = h
    go false = k

-- ---- the totals, one page more

module _ (since newest : ℕ) (b : List ℕ) (t : Totals) (n : ℕ) (own : n ≡ number_of b) where
  pub add-below : n < since → Added since newest b t t
  unfolding add_page
  add-below h = record { is = rw (← own, lt-ltb n since h) refl; misfits = omega arith; scores = omega arith; nodes = omega arith }

  pub add-from : since ≤ n → (s : CheckpointPage) → Read b s → (fit : Bool) → fit ≡ fits_in newest (is_some s.nodes) b →
      Added since newest b t (plus fit s t)
  unfolding add_page plus
  add-from h s r fit e =
      let f : fit ≡ fits_in newest (is_some (checkpoint_page_of b).nodes) b =
      e ∙ ap (λ (x : CheckpointPage). fits_in newest (is_some x.nodes) b) r.is in
      record {
        is = rw (← own, le-ltb n since h, ← f, ← r.is) refl;
        misfits = omega (arith, bit_le_one (not fit));
        scores = omega (arith, r.few);
        nodes = omega (arith, r.small);
      }
