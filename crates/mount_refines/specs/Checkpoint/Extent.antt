-- How far the checkpoint reaches, by places: the greatest number of all is the store's last, and the greatest of a page with the tariff is
-- the first number of the set. Assumes nothing.
use Rattle.std.specs.Prelude.{◌≡◌, Bool, true, false, ◌&&◌, ◌⊎◌, List, ℕ, ◌+◌, ◌*◌, ◌≤◌, ◌<◌, max, ltb, get_or, Option, None, Some}
use Rattle.std.proofs.Math.Path.{refl}
use Rattle.std.proofs.Common.{sym, ap, subst, ◌∙◌, inr, arith, ltb-true, ltb-false}
use Rattle.std.proofs.Math.Logic.{inl}
use Rattle.std.proofs.Math.Numerals.{lt_of_le_of_ne}
use Rattle.laws.specs.Tests.{choose, and_left, and_right, test_clash}
use Rattle.laws.specs.Order.{eq_or, le_or}
use Rattle.laws.specs.Loops.{steps-keep}
use Rattle.page.specs.Page.{Page, sequence}
use Rattle.wire.specs.Field.{payload_at}
use Rattle.page.specs.Limits.{given}
use Rattle.store.specs.Pool.{page_in}
use Rattle.store.specs.Reopen.{Cells, greatest_of}
use Rattle.flash_blocks.specs.Pages.{pages_of, page_at}
use Rattle.page.proofs.Exact.{found-given}
use Rattle.store_laws.specs.WrittenPages.{pages_in}
use Rattle.mount_checkpoint_pages.specs.CheckpointPage.{has_tariff}
use Rattle.mount_checkpoint_pages.specs.Extent.{extended, no_extent, extent_of}
use Rattle.mount_checkpoint_pages.specs.declared.extent.Extent.{Extent}
use Rattle.mount_refines.specs.Checkpoint.Header.{number_in, Header}
use Rattle.mount_refines.specs.Checkpoint.Written.{number_in_le, greatest_of_le, page_in-number, page_in-place, place-page_in}
use Rattle.mount_refines.specs.Checkpoint.Collect.{opens}
use Rattle.mount_refines.specs.Checkpoint.Pool.{Judged, length-cells, headers, once}

-- One page more, told by its cell.
abbrev later : Bool → ℕ → ℕ → Extent → Extent
later t q n e =
    choose t (record { newest = max e.newest n; since = n; place = q }) (record { newest = max e.newest n; since = e.since; place = e.place })

extended-is : (q : ℕ) (b : List ℕ) (x : Option Page) (e : Extent) → Header b x →
    extended q b e ≡ later (opens x && ltb e.since (number_in x)) q (number_in x) e
unfolding extended has_tariff
extended-is q b x e h =
    ap (λ (n : ℕ). later (has_tariff b && ltb e.since n) q n e) h.seq ∙
    ap (λ (t : Bool). later (t && ltb e.since (number_in x)) q (number_in x) e) (found-given (payload_at b 7 0x13) ∙ ap given h.tariff)

module _ (c : Cells) where
  -- What was seen of the first i cells.
  record Seen (i : ℕ) (e : Extent) : Type 0 where
    top : (q : ℕ) → q < i → number_in (get_or c q None) ≤ e.newest
    reached : (e.newest ≡ 0) ⊎ ((q : ℕ) × (number_in (get_or c q None) ≡ e.newest))
    first : (q : ℕ) → q < i → opens (get_or c q None) ≡ true → number_in (get_or c q None) ≤ e.since
    place : (e.since ≡ 0) ⊎ ((opens (get_or c e.place None) ≡ true) × (number_in (get_or c e.place None) ≡ e.since))

  seen_none : Seen 0 no_extent
  unfolding no_extent
  seen_none = record { top = λ q l. absurd (omega arith); reached = inl refl; first = λ q l o. absurd (omega arith); place = inl refl }

  module _ (i : ℕ) (e : Extent) (s : Seen i e) where
    abbrev x : Option Page
    x = get_or c i None

    below : (q : ℕ) → q < i + 1 → (q ≡ i → ⊥) → q < i
    below q l d = lt_of_le_of_ne (omega arith) d

    top-next : (q : ℕ) → q < i + 1 → (q ≡ i) ⊎ (q ≡ i → ⊥) → number_in (get_or c q None) ≤ max e.newest (number_in x)
    top-next q l (inl z) = rw z (omega arith)
    top-next q l (inr d) = omega (arith, s.top q (below q l d))

    reached-next : (e.newest ≤ number_in x) ⊎ (number_in x < e.newest) → (e.newest ≡ 0) ⊎ ((q : ℕ) × (number_in (get_or c q None) ≡ e.newest)) →
        (max e.newest (number_in x) ≡ 0) ⊎ ((q : ℕ) × (number_in (get_or c q None) ≡ max e.newest (number_in x)))
    reached-next (inl l) r = inr (i, omega arith)
    reached-next (inr l) (inl z) = absurd (omega arith)
    reached-next (inr l) (inr z) = inr (z.0, omega (arith, z.1))

    first_next : (since : ℕ) → e.since ≤ since → (opens x ≡ true → number_in x ≤ since) → (q : ℕ) → q < i + 1 → (q ≡ i) ⊎ (q ≡ i → ⊥) →
        opens (get_or c q None) ≡ true → number_in (get_or c q None) ≤ since
    first_next since l o q h (inl z) t = rw z (o (rw z at t))
    first_next since l o q h (inr d) t = omega (arith, s.first q (below q h d) t)

    seen_next : (t : Bool) → (opens x && ltb e.since (number_in x)) ≡ t → Seen (i + 1) (later t i (number_in x) e)
    seen_next true f =
        let o : opens x ≡ true = and_left (opens x) (ltb e.since (number_in x)) f in
        let l : e.since < number_in x = ltb-true _ _ (and_right (opens x) (ltb e.since (number_in x)) f) in
        record {
          top = λ q h. top-next q h (eq_or q i);
          reached = reached-next (le_or e.newest (number_in x)) s.reached;
          first = λ q h. first_next (number_in x) (omega arith) (λ z. omega arith) q h (eq_or q i);
          place = inr (o, refl);
        }
    seen_next false f =
        record {
          top = λ q h. top-next q h (eq_or q i);
          reached = reached-next (le_or e.newest (number_in x)) s.reached;
          first = λ q h. first_next e.since (omega arith) (λ z. ltb-false e.since (number_in x) (second z)) q h (eq_or q i);
          place = s.place;
        }
      where
        second : opens x ≡ true → ltb e.since (number_in x) ≡ false
        second z = ap (λ (y : Bool). y && ltb e.since (number_in x)) (sym z) ∙ f

module _ {pool : List ℕ} {blocks : ℕ} {c : Cells} (j : Judged pool blocks c) where
  abbrev ps : List (List ℕ)
  ps = pages_of pool

  abbrev ext : Extent
  ext = extent_of ps (32 * blocks)

  seen : Seen c (32 * blocks) ext
  unfolding extent_of
  seen =
      steps-keep (Seen c) (λ q. extended q (page_at ps q)) (32 * blocks)
      (λ i e l s. rw (extended-is i (page_at ps i) (get_or c i None) e (headers j i l)) (seen_next c i e s _ refl))
      no_extent (seen_none c)

  -- THE NEWEST NUMBER is the greatest of the cells.
  pub newest-is : ext.newest ≡ greatest_of (pages_in c)
  newest-is =
      let up = greatest_of_le ext.newest c (λ q l. seen.top q (omega (arith, length-cells j))) in
      go up seen.reached
    where
      go : greatest_of (pages_in c) ≤ ext.newest → (ext.newest ≡ 0) ⊎ ((q : ℕ) × (number_in (get_or c q None) ≡ ext.newest)) →
          ext.newest ≡ greatest_of (pages_in c)
      go u (inl z) = omega arith
      go u (inr z) = omega (arith, number_in_le c z.0, z.1)

  -- THE FIRST NUMBER of the set: the page of that number has the tariff, and none above it has.
  abbrev at : ℕ → Option Page
  at s = page_in s (pages_in c)

  pub first-place : 1 ≤ ext.since → at ext.since ≡ get_or c ext.place None
  first-place l = go (get_or c ext.place None) refl seen.place
    where
      go : (x : Option Page) → get_or c ext.place None ≡ x →
          (ext.since ≡ 0) ⊎ ((opens (get_or c ext.place None) ≡ true) × (number_in (get_or c ext.place None) ≡ ext.since)) →
          at ext.since ≡ x
      go x e (inl z) = absurd (omega arith)
      go None e (inr z) = absurd (omega (arith, z.1, ap number_in e))
      go (Some p) e (inr z) =
          let n : sequence p ≡ ext.since = sym (ap number_in e) ∙ z.1 in
          subst (λ (s : ℕ). page_in s (pages_in c) ≡ Some p) n (place-page_in c ext.place p (once j (sequence p)) e)

  pub first-opens : 1 ≤ ext.since → opens (at ext.since) ≡ true
  first-opens l = go seen.place
    where
      go : (ext.since ≡ 0) ⊎ ((opens (get_or c ext.place None) ≡ true) × (number_in (get_or c ext.place None) ≡ ext.since)) →
          opens (at ext.since) ≡ true
      go (inl z) = absurd (omega arith)
      go (inr z) = ap opens (first-place l) ∙ z.0

  pub opens-below : (s : ℕ) → opens (at s) ≡ true → s ≤ ext.since
  opens-below s o = go (at s) refl
    where
      go : (x : Option Page) → at s ≡ x → s ≤ ext.since
      go None e = absurd (test_clash (opens (at s)) o (ap opens e))
      go (Some p) e =
          let r = page_in-place s c p e in
          let f = seen.first r.at (omega (arith, r.inside, length-cells j)) (ap opens (r.is ∙ sym e) ∙ o) in
          omega (arith, f, ap number_in r.is, page_in-number s (pages_in c) p e)
