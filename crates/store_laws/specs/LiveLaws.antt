-- How many pages can be live: a page counts for each number at most once, so a node's live pages are no more than it lies on.
-- What is dead has nothing of any node's greatest version, so a compaction prunes. Assumes nothing.
use Rattle.std.specs.Prelude.{◌≡◌, refl, Bool, true, false, not, ◌&&◌, ◌||◌, ◌⊎◌, List, [], ◌∷◌, ℕ, zero, suc, ◌+◌, ◌*◌, ◌≤◌, ◌<◌, leb, Option, None, Some}
use Rattle.std.proofs.Math.Path.{ap}
use Rattle.std.proofs.Common.{◌∙◌, inl, inr, eq-eqb, leb-true, le-leb, lt-ltb}
use Rattle.std.proofs.Math.Bool.{or-true}
use native.Mathlib.Omega.{arith}
use Rattle.std.proofs.lemmas.Bool.{not-false}
use Rattle.laws.specs.Tests.{choose, and_right, or_left, or_right}
use Rattle.laws.specs.Order.{eq_or, le_or, le_suc_or}
use Rattle.laws.specs.Counts.{bit, count, count_mono, tally, tally_mono, tally_or, empty, empty-nil}
use Rattle.laws.specs.Options.{test}
use Rattle.page.specs.Page.{Entry, Page, sequence}
use Rattle.store.specs.Item.{items_of, pieces_in}
use Rattle.store.specs.View.{View, sum_to, some?, greatest, pages}
use Rattle.store.specs.Pool.{Blocks, numbered, above, page_in, or_else, find, items_at}
use Rattle.store.specs.Store.{seen}
use Rattle.store.specs.Live.{carries, live}
use Rattle.store.specs.Allocate.{compact}
use Rattle.store_laws.specs.ViewLaws.{sum_to-ext}
use Rattle.store_laws.specs.Steps.{Pruned, Fate}
use Rattle.store_laws.specs.Steps as Steps
use Rattle.store_laws.specs.PoolLaws.{page_in-none, Moves, Found, stays, goes, find-compact}

-- a dead page has nothing of a greatest version
live_dead : (w : View) (closing : Page → Bool) (N : ℕ) (p : Page) → live w closing N p ≡ false → (n : ℕ) → n < N →
    pieces_in n (greatest w n) (items_of p) ≡ []
unfolding carries
live_dead w closing zero p e n l = absurd (omega arith)
live_dead w closing (suc k) p e n l = go (eq_or n k) (λ h. live_dead w closing k p (or_right (carries w k p) (live w closing k p) e) n h)
  where
    own : pieces_in k (greatest w k) (items_of p) ≡ []
    own = empty-nil (pieces_in k (greatest w k) (items_of p)) (not-false _ (or_left (carries w k p) (live w closing k p) e))

    go : (n ≡ k) ⊎ (n ≡ k → ⊥) → (n < k → pieces_in n (greatest w n) (items_of p) ≡ []) → pieces_in n (greatest w n) (items_of p) ≡ []
    go (inl q) r = rw q own
    go (inr q) r = r (omega arith)

-- a page that carries a node below the count is live, and so is one of the checkpoint being written
pub live-carries : (w : View) (closing : Page → Bool) (N : ℕ) (p : Page) (n : ℕ) → n < N → carries w n p ≡ true → live w closing N p ≡ true
live-carries w closing zero p n l e = absurd (omega arith)
live-carries w closing (suc k) p n l e = go (eq_or n k) (λ h. live-carries w closing k p n h e)
  where
    go : (n ≡ k) ⊎ (n ≡ k → ⊥) → (n < k → live w closing k p ≡ true) → (carries w k p || live w closing k p) ≡ true
    go (inl q) r = rw (← q, e) refl
    go (inr q) r = rw (r (omega arith)) (or-true (carries w k p))

pub live_closing : (w : View) (closing : Page → Bool) (N : ℕ) (p : Page) → closing p ≡ true → live w closing N p ≡ true
live_closing w closing zero p e = e
live_closing w closing (suc n) p e = rw (live_closing w closing n p e) (or-true (carries w n p))

-- COMPACTION IS INVISIBLE: what goes is dead
pub compact_pruned : (closing : Page → Bool) (N : ℕ) {bs : Blocks} (buffer : List Entry) (last : ℕ) {i j : ℕ} → Moves bs i j →
    ((s : ℕ) → tally (numbered s) bs ≤ 1) →
    Pruned N (seen bs buffer last) (seen (compact (live (seen bs buffer last) closing N) bs i j) buffer last)
compact_pruned closing N {bs} buffer last {i} {j} m once =
    record { last = refl; buffer = refl; each = λ s. go s (find-compact keep m s (once s)) }
  where
    w : View
    w = seen bs buffer last

    keep : Page → Bool
    keep = live w closing N

    go : (s : ℕ) → Found keep (find s bs) (find s (compact keep bs i j)) → Fate N w (seen (compact keep bs i j) buffer last) s
    go s (stays e) = Steps.stays (ap items_at e)
    go s (goes p e a d) =
        Steps.goes (ap items_at e) (λ n l. ap (λ o. pieces_in n (greatest w n) (items_at o)) a ∙ live_dead w closing N p d n l)

count-number : (f : Page → Bool) (s : ℕ) (b : List Page) → count (numbered s) b ≤ 1 →
    count (λ p. f p && numbered s p) b ≤ bit (test f (page_in s b))
count-number f s [] l = omega arith
count-number f s (p ∷ b) l = go (numbered s p) refl (f p) refl (λ h. count-number f s b h)
  where
    rest : count (λ p. f p && numbered s p) b ≤ count (numbered s) b
    rest = count_mono (λ p. f p && numbered s p) (numbered s) b (λ x. and_right (f x) (numbered s x))

    go : (t : Bool) → numbered s p ≡ t → (u : Bool) → f p ≡ u →
        (count (numbered s) b ≤ 1 → count (λ p. f p && numbered s p) b ≤ bit (test f (page_in s b))) →
        bit (f p && numbered s p) + count (λ p. f p && numbered s p) b ≤ bit (test f (choose (numbered s p) (Some p) (page_in s b)))
    go true e true d r = rw (e, d) (omega (arith, ap bit e, rest))
    go true e false d r = rw (e, d) (omega (arith, ap bit e, rest))
    go false e true d r = rw (e, d) (omega (arith, r (omega arith)))
    go false e false d r = rw (e, d) (omega (arith, r (omega arith)))

tally-number : (f : Page → Bool) (s : ℕ) (bs : Blocks) → tally (numbered s) bs ≤ 1 →
    tally (λ p. f p && numbered s p) bs ≤ bit (test f (find s bs))
tally-number f s [] l = omega arith
tally-number f s (b ∷ bs) l = go (le_or (count (numbered s) b) 0) (tally-number f s bs (omega arith))
  where
    left : (o r : Option Page) → bit (test f o) ≤ bit (test f (or_else o r))
    left None r = omega arith
    left (Some p) r = omega arith

    go : (count (numbered s) b ≤ 0) ⊎ (0 < count (numbered s) b) → tally (λ p. f p && numbered s p) bs ≤ bit (test f (find s bs)) →
        count (λ p. f p && numbered s p) b + tally (λ p. f p && numbered s p) bs ≤ bit (test f (or_else (page_in s b) (find s bs)))
    go (inl h) r =
        rw (page_in-none s b (omega arith))
        (omega (arith, count_mono (λ p. f p && numbered s p) (numbered s) b (λ x. and_right (f x) (numbered s x))))
    go (inr h) r =
        omega (
          arith,
          count-number f s b (omega arith),
          tally_mono (λ p. f p && numbered s p) (numbered s) bs (λ x. and_right (f x) (numbered s x)),
          left (page_in s b) (find s bs),
        )

-- the pages that pass, number by number
up_to : ℕ → Page → Bool
up_to k p = leb (sequence p) k

tally-up_to : (f : Page → Bool) (bs : Blocks) → ((s : ℕ) → tally (numbered s) bs ≤ 1) → tally (numbered 0) bs ≡ 0 → (k : ℕ) →
    tally (λ p. f p && up_to k p) bs ≤ sum_to (λ s. bit (test f (find s bs))) k
unfolding up_to
tally-up_to f bs once z zero =
    omega (
      arith,
      tally_mono (λ p. f p && up_to 0 p) (numbered 0) bs
          (λ p e. eq-eqb (sequence p) 0 (omega (arith, leb-true (sequence p) 0 (and_right (f p) (up_to 0 p) e)))),
    )
tally-up_to f bs once z (suc k) =
    omega (
      arith,
      tally-up_to f bs once z k,
      tally-number f (suc k) bs (once (suc k)),
      tally_mono (λ p. f p && up_to (suc k) p) (λ p. (f p && up_to k p) || (f p && numbered (suc k) p)) bs (λ p. step (f p) p),
      tally_or (λ p. f p && up_to k p) (λ p. f p && numbered (suc k) p) bs,
    )
  where
    step : (t : Bool) (p : Page) → (t && up_to (suc k) p) ≡ true → ((t && up_to k p) || (t && numbered (suc k) p)) ≡ true
    step true p e = go (le_suc_or (sequence p) k (leb-true (sequence p) (suc k) e))
      where
        go : (sequence p ≤ k) ⊎ (sequence p ≡ suc k) → (up_to k p || numbered (suc k) p) ≡ true
        go (inl h) = rw (le-leb (sequence p) k h)
        go (inr h) = rw (eq-eqb (sequence p) (suc k) h) (or-true (up_to k p))
    step false p e = e

tally-all : (f : Page → Bool) (bs : Blocks) (k : ℕ) → ((s : ℕ) → tally (numbered s) bs ≤ 1) → tally (numbered 0) bs ≡ 0 →
    tally (above k) bs ≡ 0 → tally f bs ≤ sum_to (λ s. bit (test f (find s bs))) k
unfolding up_to above
tally-all f bs k once z o =
    omega (
      arith,
      tally-up_to f bs once z k,
      tally_mono f (λ p. (f p && up_to k p) || above k p) bs (λ p. step (f p) p),
      tally_or (λ p. f p && up_to k p) (above k) bs,
    )
  where
    step : (t : Bool) (p : Page) → t ≡ true → ((t && up_to k p) || above k p) ≡ true
    step true p e = go (le_or (sequence p) k)
      where
        go : (sequence p ≤ k) ⊎ (k < sequence p) → (up_to k p || above k p) ≡ true
        go (inl h) = rw (le-leb (sequence p) k h)
        go (inr h) = rw (lt-ltb k (sequence p) h) (or-true (up_to k p))
    step false p e = cc

module _ (bs : Blocks) (buffer : List Entry) (last : ℕ) (once : (s : ℕ) → tally (numbered s) bs ≤ 1) (z : tally (numbered 0) bs ≡ 0)
    (o : tally (above last) bs ≡ 0) where
  -- the pages that carry a node are no more than it lies on
  pub carries-pages : (n : ℕ) → tally (carries (seen bs buffer last) n) bs ≤ pages (seen bs buffer last) n
  unfolding pages carries
  carries-pages n =
      omega (
        arith,
        tally-all (carries w n) bs last once z o,
        sum_to-ext (λ s. bit (test (carries w n) (find s bs))) (λ s. some? (pieces_in n (greatest w n) (items_at (find s bs)))) last
            (λ s l. ap bit (go (find s bs))),
      )
    where
      w : View
      w = seen bs buffer last

      go : (x : Option Page) → test (carries (seen bs buffer last) n) x ≡ not (empty (pieces_in n (greatest (seen bs buffer last) n) (items_at x)))
      go None = refl
      go (Some p) = refl

  -- so many a node, and the checkpoint being written
  pub live_bound : (closing : Page → Bool) (most N : ℕ) → ((n : ℕ) → n < N → pages (seen bs buffer last) n ≤ most) →
      tally (live (seen bs buffer last) closing N) bs ≤ N * most + tally closing bs
  live_bound closing most zero h = omega arith
  live_bound closing most (suc n) h =
      omega (
        arith,
        live_bound closing most n (λ m l. h m (omega arith)),
        h n (omega arith),
        carries-pages n,
        tally_or (carries (seen bs buffer last) n) (live (seen bs buffer last) closing n) bs,
      )
