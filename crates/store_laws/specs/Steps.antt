-- The three ways in which a view changes, and what each does to a node: the next number is taken; entries join the buffer; pages
-- with nothing of any greatest version go. Assumes nothing.
use Rattle.std.specs.Prelude.{◌≡◌, refl, ◌⊎◌}
use Rattle.std.proofs.Common.{sym, ◌∙◌, inl, inr, le_trans}
use Rattle.std.proofs.Math.Path.{ap, ap₂, fun_ext}
use mathlib.Core.List.{List, [], ◌++◌, append_assoc}
use Prim.Native.Nat.{ℕ, suc, ◌+◌, ◌≤◌, ◌<◌, max}
use native.Mathlib.Omega.{arith}
use Rattle.laws.specs.Order.{le_or}
use Rattle.laws.specs.Counts.{empty}
use Rattle.node.specs.Replay.{Piece}
use Rattle.store.specs.Item.{Item, pieces_in, greatest_in}
use Rattle.store.specs.View.{View, gather, sum_to, greatest_to, some?, greatest, pieces, buffered, pages, pieces_at, pages_at}
use Rattle.store_laws.specs.ItemLaws.{pieces_in-append, greatest_in-append, pieces_in-above, pieces_in-greatest}
use Rattle.store_laws.specs.ViewLaws.{
  gather_ext,
  gather-nil,
  sum_to-ext,
  sum_to-zero,
  greatest_to-ext,
  le_greatest_to,
  greatest_to_le,
  Reached,
  greatest_to-reached,
}

-- No version is above the last number taken, and no page has a number above it.
pub record Fit (w : View) : Type 0 where
  pub versions : (n : ℕ) → greatest w n ≤ w.last
  pub beyond : (s : ℕ) → w.last < s → w.at s ≡ []

-- Above a node's greatest version neither page nor buffer has anything.
at_above : (w : View) (n v : ℕ) → greatest w n < v → (s : ℕ) → 0 < s → s ≤ w.last → pieces_in n v (w.at s) ≡ []
unfolding greatest
at_above w n v h s p l =
    pieces_in-above n v (w.at s) (omega (arith, le_greatest_to (λ i. greatest_in n (w.at i)) w.last s p l))

pub buffer_above : (w : View) (n v : ℕ) → greatest w n < v → pieces_in n v w.buffer ≡ []
unfolding greatest
buffer_above w n v h = pieces_in-above n v w.buffer (omega arith)

pub fit_buffer : {w : View} → Fit w → (n : ℕ) → greatest_in n w.buffer ≤ w.last
unfolding greatest
fit_buffer f n = omega (arith, f.versions n)

-- The next number is taken: `new` is what its page holds (nothing, where it is a version), `rest` the buffer afterwards.
pub record Wrote (w w' : View) (new rest : List Item) : Type 0 where
  pub last : w'.last ≡ suc w.last
  pub page : w'.at (suc w.last) ≡ new
  pub old : (s : ℕ) → (s ≡ suc w.last → ⊥) → w'.at s ≡ w.at s
  pub buffer : w'.buffer ≡ rest

module _ {w w' : View} {new rest : List Item} (r : Wrote w w' new rest) (n : ℕ) where
  pub wrote_greatest : greatest w' n ≡ max (greatest_to (λ s. greatest_in n (w.at s)) w.last) (max (greatest_in n new) (greatest_in n rest))
  unfolding greatest
  wrote_greatest =
      rw (r.last, r.page, r.buffer)
      (omega (
        arith,
        greatest_to-ext (λ s. greatest_in n (w'.at s)) (λ s. greatest_in n (w.at s)) w.last
            (λ s l. ap (greatest_in n) (r.old s (λ q. omega arith))),
      ))

  -- with the version held fast
  wrote_pieces_at : (v : ℕ) → pieces_at w' n v ≡ gather (λ s. pieces_in n v (w.at s)) w.last ++ (pieces_in n v new ++ pieces_in n v rest)
  wrote_pieces_at v =
      rw (
        r.last,
        r.page,
        r.buffer,
        gather_ext (λ s. pieces_in n v (w'.at s)) (λ s. pieces_in n v (w.at s)) w.last
            (λ s l. ap (pieces_in n v) (r.old s (λ q. omega arith))),
      )
      (simp append_assoc)

  wrote_pages_at : (v : ℕ) → pages_at w' n v ≡ pages_at w n v + some? (pieces_in n v new)
  wrote_pages_at v =
      rw (
        r.last,
        r.page,
        sum_to-ext (λ s. some? (pieces_in n v (w'.at s))) (λ s. some? (pieces_in n v (w.at s))) w.last
            (λ s l. ap (λ z. some? (pieces_in n v z)) (r.old s (λ q. omega arith))),
      )

  -- the version stays: what was there stays, and what is new is added
  pub wrote_same : greatest w' n ≡ greatest w n →
      (pieces w' n ≡ gather (λ s. pieces_in n (greatest w n) (w.at s)) w.last ++ (pieces_in n (greatest w n) new ++ pieces_in n (greatest w n) rest)) ×
      (pages w' n ≡ pages w n + some? (pieces_in n (greatest w n) new)) ×
      (buffered w' n ≡ pieces_in n (greatest w n) rest)
  unfolding pieces pages buffered
  wrote_same e = (
    rw e (wrote_pieces_at (greatest w n)),
    rw e (wrote_pages_at (greatest w n)),
    rw e (ap (pieces_in n (greatest w n)) r.buffer),
  )

  -- the version is new: only what is new counts
  pub wrote_fresh : (v : ℕ) → greatest w n < v → greatest w' n ≡ v →
      (pieces w' n ≡ pieces_in n v new ++ pieces_in n v rest) ×
      (pages w' n ≡ some? (pieces_in n v new)) ×
      (buffered w' n ≡ pieces_in n v rest)
  unfolding pieces pages buffered
  wrote_fresh v l e = (
    rw e (wrote_pieces_at v ∙ rw (gather-nil (λ s. pieces_in n v (w.at s)) w.last (at_above w n v l)) refl),
    rw e
        (wrote_pages_at v ∙
        omega (
          arith,
          sum_to-zero (λ s. some? (pieces_in n v (w.at s))) w.last (λ s p k. ap some? (at_above w n v l s p k)),
        )),
    rw e (ap (pieces_in n v) r.buffer),
  )

-- Entries join the buffer, under a version that stays.
pub record Added (w w' : View) (new : List Item) : Type 0 where
  pub last : w'.last ≡ w.last
  pub old : (s : ℕ) → w'.at s ≡ w.at s
  pub buffer : w'.buffer ≡ w.buffer ++ new

module _ {w w' : View} {new : List Item} (r : Added w w' new) (n : ℕ) where
  pub added-greatest : greatest w' n ≡ max (greatest w n) (greatest_in n new)
  unfolding greatest
  added-greatest =
      rw (r.last, r.buffer, greatest_in-append)
      (omega (
        arith,
        greatest_to-ext (λ s. greatest_in n (w'.at s)) (λ s. greatest_in n (w.at s)) w.last (λ s l. ap (greatest_in n) (r.old s)),
      ))

  added-pieces_at : (v : ℕ) → pieces_at w' n v ≡ pieces_at w n v ++ pieces_in n v new
  added-pieces_at v =
      rw (
        r.last,
        r.buffer,
        pieces_in-append,
        gather_ext (λ s. pieces_in n v (w'.at s)) (λ s. pieces_in n v (w.at s)) w.last (λ s l. ap (pieces_in n v) (r.old s)),
      )
      (simp append_assoc)

  added-pages_at : (v : ℕ) → pages_at w' n v ≡ pages_at w n v
  added-pages_at v =
      rw (
        r.last,
        sum_to-ext (λ s. some? (pieces_in n v (w'.at s))) (λ s. some? (pieces_in n v (w.at s))) w.last
            (λ s l. ap (λ z. some? (pieces_in n v z)) (r.old s)),
      )

  pub added_same : greatest w' n ≡ greatest w n →
      (pieces w' n ≡ pieces w n ++ pieces_in n (greatest w n) new) ×
      (pages w' n ≡ pages w n) ×
      (buffered w' n ≡ buffered w n ++ pieces_in n (greatest w n) new)
  unfolding pieces pages buffered
  added_same e = (
    rw e (added-pieces_at (greatest w n)),
    rw e (added-pages_at (greatest w n)),
    rw (e, r.buffer) (pieces_in-append n (greatest w n) w.buffer new),
  )

-- A page goes, or stays; one that goes has nothing of the greatest version of a node below N.
pub data Fate (N : ℕ) (w w' : View) (s : ℕ) : Type 0 where
  stays : w'.at s ≡ w.at s → Fate N w w' s
  goes : w'.at s ≡ [] → ((n : ℕ) → n < N → pieces_in n (greatest w n) (w.at s) ≡ []) → Fate N w w' s

pub record Pruned (N : ℕ) (w w' : View) : Type 0 where
  pub last : w'.last ≡ w.last
  pub buffer : w'.buffer ≡ w.buffer
  pub each : (s : ℕ) → Fate N w w' s

module _ {N : ℕ} {w w' : View} (r : Pruned N w w') (n : ℕ) where
  pruned_in : (s : ℕ) → greatest_in n (w'.at s) ≤ greatest_in n (w.at s)
  pruned_in s = go (r.each s)
    where
      go : Fate N w w' s → greatest_in n (w'.at s) ≤ greatest_in n (w.at s)
      go (stays e) = rw e (omega arith)
      go (goes e d) = rw e (omega arith)

  pruned_down : greatest_to (λ s. greatest_in n (w'.at s)) w.last ≤ greatest_to (λ s. greatest_in n (w.at s)) w.last
  pruned_down =
      greatest_to_le (λ s. greatest_in n (w'.at s)) w.last _
      (λ s p k. le_trans (pruned_in s) (le_greatest_to (λ s. greatest_in n (w.at s)) w.last s p k))

  pruned_greatest_le : greatest w' n ≤ greatest w n
  unfolding greatest
  pruned_greatest_le = rw (r.last, r.buffer) (omega (arith, pruned_down))

pub pruned_fit : {N : ℕ} {w w' : View} → Pruned N w w' → Fit w → Fit w'
pruned_fit {N} {w} {w'} r f =
    record {
      versions = λ n. omega (arith, pruned_greatest_le r n, f.versions n, r.last);
      beyond = λ s l. go s (r.each s) (f.beyond s (rw r.last at l));
    }
  where
    go : (s : ℕ) → Fate N w w' s → w.at s ≡ [] → w'.at s ≡ []
    go s (stays e) q = e ∙ q
    go s (goes e d) q = e

module _ {N : ℕ} {w w' : View} (r : Pruned N w w') (n : ℕ) (l : n < N) where
  -- a page with the greatest version is kept
  pruned_kept : (s : ℕ) → 0 < greatest w n → greatest_in n (w.at s) ≡ greatest w n → w'.at s ≡ w.at s
  pruned_kept s p e = go (r.each s)
    where
      go : Fate N w w' s → w'.at s ≡ w.at s
      go (stays d) = d
      go (goes d x) =
          let a = pieces_in-greatest n (greatest w n) (w.at s) p e in
          let b = ap empty (x n l) in
          cc

  pub pruned_greatest : greatest w' n ≡ greatest w n
  unfolding greatest
  pruned_greatest =
      rw (r.last, r.buffer)
      (go (le_or (greatest_to f w.last) (greatest_in n w.buffer)) (greatest_to-reached f w.last))
    where
      f : ℕ → ℕ
      f s = greatest_in n (w.at s)

      f' : ℕ → ℕ
      f' s = greatest_in n (w'.at s)

      go : (greatest_to f w.last ≤ greatest_in n w.buffer) ⊎ (greatest_in n w.buffer < greatest_to f w.last) →
          (greatest_to f w.last ≡ 0) ⊎ Reached f w.last →
          max (greatest_to f' w.last) (greatest_in n w.buffer) ≡ max (greatest_to f w.last) (greatest_in n w.buffer)
      go (inl a) b = omega (arith, pruned_down r n)
      go (inr a) (inl b) = absurd (omega arith)
      go (inr a) (inr b) =
          omega (
            arith,
            pruned_down r n,
            le_greatest_to f' w.last b.number b.positive b.within,
            b.is,
            ap (greatest_in n) (pruned_kept b.number (omega arith) (omega (arith, b.is))),
          )

  -- on every page there is of it what there was
  pub pruned_at : (s : ℕ) → pieces_in n (greatest w' n) (w'.at s) ≡ pieces_in n (greatest w n) (w.at s)
  pruned_at s = rw pruned_greatest (go (r.each s))
    where
      go : Fate N w w' s → pieces_in n (greatest w n) (w'.at s) ≡ pieces_in n (greatest w n) (w.at s)
      go (stays d) = ap (pieces_in n (greatest w n)) d
      go (goes d x) = ap (pieces_in n (greatest w n)) d ∙ sym (x n l)

  pub pruned_pieces : pieces w' n ≡ pieces w n
  unfolding pieces
  pruned_pieces =
      ap₂ {B = List Piece} ◌++◌ (ap₂ gather (fun_ext pruned_at) r.last) (rw (pruned_greatest, r.buffer))

  pub pruned_pages : pages w' n ≡ pages w n
  unfolding pages
  pruned_pages = ap₂ sum_to (fun_ext (λ s. ap some? (pruned_at s))) r.last

  pub pruned_buffered : buffered w' n ≡ buffered w n
  unfolding buffered
  pruned_buffered = rw pruned_greatest (ap (pieces_in n (greatest w n)) r.buffer)
