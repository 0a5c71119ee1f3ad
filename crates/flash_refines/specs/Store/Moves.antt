-- A compaction of pages and rows is the model's: the pages are the images of the compacted blocks, and each row names its own pages where they
-- are now. Assumes nothing.
use Rattle.std.specs.Prelude.{◌≡◌, refl, Bool, true, false, ◌⊎◌, ℕ, ◌+◌, ◌-◌, ◌*◌, ◌≤◌, ◌<◌, get_or, set, take, replicate, Option, None, Some, slice_get}
use Rattle.std.proofs.Math.Path.{sym, ap}
use Rattle.std.proofs.Common.{◌∙◌, subst, inl, inr, arith, lt-ltb, le-ltb, length-take}
use mathlib.Core.List.{List}
use Rattle.std.proofs.Math.ListN.{length}
use Rattle.std.proofs.Math.Numerals.{lt_of_le_of_ne}
use Rattle.laws.specs.Tests.{test_clash, test_same}
use Rattle.laws.specs.Order.{eq_or, le_or}
use Rattle.laws.specs.Counts.{count, count_le_length, filter, length-filter}
use Rattle.laws.specs.Elements.{get-below}
use Rattle.laws.specs.Options.{test}
use Rattle.page.specs.Page.{Page}
use Rattle.store.specs.Pool.{Blocks, block}
use Rattle.store.specs.Allocate as Model
use Rattle.store_laws.specs.PoolLaws.{Moves, compact_to, compact_from, compact-other}
use Rattle.flash_rows.specs.Step.{names, new_place}
use Rattle.flash_rows.specs.declared.Row.{Row}
use Rattle.flash_live.specs.Live.{marked}
use Rattle.flash_allocate.specs.Compact.{Copying, copying, copy_block, rename_rows, Compacted, emptied, move_block}
use Rattle.flash_refines.specs.Store.Mirror.{row_at, PagesAre, RowsName}
use Rattle.flash_refines.specs.Store.Pages.{place_apart, pages-erased}
use Rattle.flash_refines.specs.Store.Names.{mapped, names-mapped, names_unmapped, length-rename_rows, row_at-rename_rows}
use Rattle.flash_refines.specs.Store.Live.{Owned}
use Rattle.flash_refines.specs.Store.Copies.{rank, filter-rank, rank-filter, Copied, copied_all, take-block}

-- Places inside and outside of the block that moved.
new_inside : (base : ℕ) (places : List ℕ) (q : ℕ) → q < 32 → new_place base places (base + q) ≡ get_or places q 0
unfolding new_place
new_inside base places q l =
    let e : base + q - base ≡ q = omega arith in
    rw (le-ltb (base + q) base (omega arith), e, lt-ltb q 32 l) refl

new_outside : (base : ℕ) (places : List ℕ) (x : ℕ) → (x < base) ⊎ (base + 32 ≤ x) → new_place base places x ≡ x
unfolding new_place
new_outside base places x (inl l) = rw (lt-ltb x base l) refl
new_outside base places x (inr l) = rw (le-ltb x base (omega arith), le-ltb (x - base) 32 (omega arith)) refl

module _ {B rows_used : ℕ} {own : ℕ → Page → Bool} {rows : List Row} {bs : Blocks} (live : Page → Bool) {i j : ℕ} (v : Moves bs i j) (size : length bs ≡ B)
    (most : length (block bs i) ≤ 32) (named : RowsName B rows_used own rows bs) (o : Owned live own rows_used bs) (places : List ℕ)
    (went : (q : ℕ) → q < 32 → (p : Page) → slice_get (block bs i) q ≡ Some p → live p ≡ true → get_or places q 0 ≡ 32 * j + rank live q (block bs i)) where
  rank_below : (q : ℕ) → q < 32 → rank live q (block bs i) < 32
  rank_below q l = omega (arith, count_le_length live (take q (block bs i)), length-take q (block bs i))

  -- where a page that a row names was, and where it is now
  data Origin (n x : ℕ) : Type 0 where
    inside : (q : ℕ) (p : Page) → q < 32 → x ≡ 32 * i + q → slice_get (block bs i) q ≡ Some p → own n p ≡ true → new_place (32 * i) places x ≡ 32 * j +
        rank live q (block bs i) → Origin n x
    outside : (x < 32 * i) ⊎ (32 * i + 32 ≤ x) → new_place (32 * i) places x ≡ x → Origin n x

  origin : (n x : ℕ) → n < rows_used → names x (row_at rows n) ≡ true → Origin n x
  origin n x ln e = go (le_or (32 * i) x) (le_or (32 * i + 32) x)
    where
      within : (q : ℕ) → q < 32 → x ≡ 32 * i + q → (c : Option Page) → slice_get (block bs i) q ≡ c → Origin n x
      within q lq d None g =
          let z = ap (test (own n)) (sym g) ∙ sym (named.each n i q ln (omega (arith, v.from)) lq) ∙ ap (λ (y : ℕ). names y (row_at rows n)) (sym d) ∙ e in
          absurd (test_clash false z refl)
      within q lq d (Some p) g =
          let mine : own n p ≡ true = ap (test (own n)) (sym g) ∙ sym (named.each n i q ln (omega (arith, v.from)) lq) ∙ ap
          (λ (y : ℕ). names y (row_at rows n)) (sym d) ∙ e in
          inside q p lq d g mine (ap (new_place (32 * i) places) d ∙ new_inside (32 * i) places q lq ∙ went q lq p g (o.owned n ln p mine))

      go : (32 * i ≤ x) ⊎ (x < 32 * i) → (32 * i + 32 ≤ x) ⊎ (x < 32 * i + 32) → Origin n x
      go (inr l) h = outside (inl l) (new_outside (32 * i) places x (inl l))
      go (inl l) (inl h) = outside (inr h) (new_outside (32 * i) places x (inr h))
      go (inl l) (inr h) = within (x - 32 * i) (omega arith) (omega arith) (slice_get (block bs i) (x - 32 * i)) refl

  module _ (n a r : ℕ) (ln : n < rows_used) (la : a < B) (lr : r < 32) where
    -- a page that is named now is the row's own
    names-own : names (32 * a + r) (mapped (new_place (32 * i) places) (row_at rows n)) ≡ true →
        test (own n) (slice_get (block (Model.compact live bs i j) a) r) ≡ true
    names-own e =
        let u = names_unmapped (new_place (32 * i) places) (row_at rows n) (32 * a + r) e in
        go u.0 u.2 u.1 (origin n u.0 ln u.1) (eq_or a i) (eq_or a j)
      where
        go : (x : ℕ) → new_place (32 * i) places x ≡ 32 * a + r → names x (row_at rows n) ≡ true → Origin n x → (a ≡ i) ⊎ (a ≡ i → ⊥) → (a ≡ j) ⊎
            (a ≡ j → ⊥) →
            test (own n) (slice_get (block (Model.compact live bs i j) a) r) ≡ true
        go x d g (inside q p lq xq here mine now) ai (inl aj) =
            let z : r ≡ rank live q (block bs i) = omega (arith, d, now, aj) in
            rw (aj, z, compact_to live v, filter-rank live (block bs i) q p here (o.owned n ln p mine)) mine
        go x d g (inside q p lq xq here mine now) ai (inr aj) =
            absurd (place_apart a j r (rank live q (block bs i)) lr (rank_below q lq) aj (sym d ∙ now))
        go x d g (outside side now) (inl ai) aj = absurd (apart side)
          where
            apart : (x < 32 * i) ⊎ (32 * i + 32 ≤ x) → ⊥
            apart (inl h) = omega (arith, d, now, ai)
            apart (inr h) = omega (arith, d, now, ai)
        go x d g (outside side now) (inr ai) (inl aj) =
            let y : 32 * a + r ≡ x = sym d ∙ now in
            let z = sym (named.each n a r ln la lr ∙ ap (λ (k : List Page). test (own n) (slice_get k r)) (ap (block bs) aj ∙ v.blank)) ∙ ap
            (λ (k : ℕ). names k (row_at rows n)) y ∙ g in
            absurd (test_clash false z refl)
        go x d g (outside side now) (inr ai) (inr aj) =
            ap (λ (k : List Page). test (own n) (slice_get k r)) (compact-other live v a ai aj) ∙ sym (named.each n a r ln la lr) ∙ ap
            (λ (k : ℕ). names k (row_at rows n)) (sym d ∙ now) ∙ g

    -- and the row's own pages are named
    own-named : test (own n) (slice_get (block (Model.compact live bs i j) a) r) ≡ true →
        names (32 * a + r) (mapped (new_place (32 * i) places) (row_at rows n)) ≡ true
    own-named e = go (eq_or a i) (eq_or a j)
      where
        came : (c : Option Page) → slice_get (filter live (block bs i)) r ≡ c → test (own n) c ≡ true → a ≡ j → names (32 * a + r)
            (mapped (new_place (32 * i) places) (row_at rows n)) ≡ true
        came None d t aj = absurd (test_clash false t refl)
        came (Some p) d t aj =
            let h = rank-filter live (block bs i) r p d in
            let lq : h.place < 32 = omega (arith, get-below (block bs i) h.place p h.here) in
            let was : names (32 * i + h.place) (row_at rows n) ≡ true = named.each n i h.place ln (omega (arith, v.from)) lq ∙
            ap (test (own n)) h.here ∙ t in
            let now : new_place (32 * i) places (32 * i + h.place) ≡ 32 * a + r =
            new_inside (32 * i) places h.place lq ∙ went h.place lq p h.here h.passes ∙ omega (arith, h.ranked, aj) in
            ap (λ (k : ℕ). names k (mapped (new_place (32 * i) places) (row_at rows n))) (sym now) ∙ names-mapped (new_place (32 * i) places)
            (row_at rows n) (32 * i + h.place) was

        go : (a ≡ i) ⊎ (a ≡ i → ⊥) → (a ≡ j) ⊎ (a ≡ j → ⊥) → names (32 * a + r) (mapped (new_place (32 * i) places) (row_at rows n)) ≡ true
        go (inl ai) aj =
            let z = ap (λ (k : List Page). test (own n) (slice_get k r)) (sym (ap (block (Model.compact live bs i j)) ai ∙ compact_from live v)) ∙ e in
            absurd (test_clash false z refl)
        go (inr ai) (inl aj) =
            let z : test (own n) (slice_get (filter live (block bs i)) r) ≡ true =
            ap (λ (k : List Page). test (own n) (slice_get k r)) (sym (ap (block (Model.compact live bs i j)) aj ∙ compact_to live v)) ∙ e in
            came (slice_get (filter live (block bs i)) r) refl z aj
        go (inr ai) (inr aj) =
            let was : names (32 * a + r) (row_at rows n) ≡ true =
            named.each n a r ln la lr ∙ ap (λ (k : List Page). test (own n) (slice_get k r)) (sym (compact-other live v a ai aj)) ∙ e in
            ap (λ (k : ℕ). names k (mapped (new_place (32 * i) places) (row_at rows n))) (sym (new_outside (32 * i) places (32 * a + r) (side (le_or i a)))) ∙
            names-mapped (new_place (32 * i) places) (row_at rows n) (32 * a + r) was
          where
            side : (i ≤ a) ⊎ (a < i) → (32 * a + r < 32 * i) ⊎ (32 * i + 32 ≤ 32 * a + r)
            side (inr h) = inl (omega arith)
            side (inl h) = inr (omega (arith, lt_of_le_of_ne h (λ z. ai (sym z))))

  pub rows-compacted : RowsName B rows_used own (rename_rows rows_used (32 * i) places rows) (Model.compact live bs i j)
  rows-compacted =
      record {
        long = rw (length-rename_rows (32 * i) places rows rows_used) named.long;
        each = λ n a r ln la lr.
            ap (names (32 * a + r)) (row_at-rename_rows (32 * i) places rows rows_used n ln named.long) ∙
            test_same _ _ (names-own n a r ln la lr) (own-named n a r ln la lr);
      }

-- The whole compaction.
pub record Compaction (B : ℕ) (image : Page → List ℕ) (rows_used : ℕ) (own : ℕ → Page → Bool) (rows : List Row) (bs : Blocks) (live : Page → Bool)
    (i j : ℕ) (c : Compacted) : Type 0 where
  pub pages : PagesAre B image c.pages (Model.compact live bs i j)
  pub names : RowsName B rows_used own c.rows (Model.compact live bs i j)
  pub fill : c.fill ≡ length (block (Model.compact live bs i j) j)
  pub long : length c.rows ≡ length rows
  pub same : (n : ℕ) → n < rows_used → (g : ℕ → ℕ) × (row_at c.rows n ≡ mapped g (row_at rows n))

module _ {B rows_used : ℕ} {image : Page → List ℕ} {own : ℕ → Page → Bool} {ps : List (List ℕ)} {rows : List Row} {bs : Blocks} (live : Page → Bool)
    {i j : ℕ} (v : Moves bs i j)
    (pages : PagesAre B image ps bs) (named : RowsName B rows_used own rows bs) (o : Owned live own rows_used bs) (m : List ℕ)
    (mark : (q : ℕ) → q < 32 → marked (get_or m (32 * i + q) 0) ≡ test live (slice_get (block bs i) q)) where
  pub move_block-is : Compaction B image rows_used own rows bs live i j (move_block m rows_used i j ps rows)
  unfolding move_block emptied
  move_block-is =
      record {
        pages =
            pages-erased (subst (λ (b : List Page). PagesAre B image w.pages (set bs j (filter live b))) whole c.pages) i
            (omega (arith, v.from, pages.size));
        names = rows-compacted live v pages.size (pages.most i) named o w.places c.places;
        fill =
            c.fill ∙ ap (count live) whole ∙ sym (length-filter live (block bs i)) ∙ ap length (sym (compact_to live v));
        long = length-rename_rows (32 * i) w.places rows rows_used;
        same = λ n l. (new_place (32 * i) w.places, row_at-rename_rows (32 * i) w.places rows rows_used n l named.long);
      }
    where
      w : Copying
      w = copy_block m (32 * i) (32 * j) (copying ps (replicate 32 0) 0)

      c : Copied live v pages m mark 32 w
      c = copied_all live v pages m mark

      whole : take 32 (block bs i) ≡ block bs i
      whole = take-block live v pages m mark
