-- What flush, edit, fresh start, node page and checkpoint page do to a view: the node written has exactly what was written, every
-- other node is as it was, and the three-page rule is kept. Each is one of the steps, seen from its node and from another.
-- Assumes nothing.
use Rattle.std.specs.Prelude.{◌≡◌, refl, not, ◌⊎◌, List, [], ◌∷◌, ◌++◌, ℕ, suc, ◌+◌, ◌≤◌, ◌<◌}
use Rattle.std.proofs.Common.{ap₂, ◌∙◌, inl, inr, append-nil}
use native.Mathlib.Omega.{arith}
use Rattle.laws.specs.Order.{eq_or}
use Rattle.laws.specs.Counts.{bit_le_one, empty}
use Rattle.layout.specs.Layout.{most_log_pages}
use Rattle.node.specs.Replay.{Piece}
use Rattle.store.specs.Item.{Item, pieces_in, greatest_in, group}
use Rattle.store.specs.View.{View, some?, greatest, pieces, buffered, pages}
use Rattle.store_laws.specs.ItemLaws.{
  pieces_in-append,
  greatest_in-append,
  pieces_in-group,
  pieces_in-group-other,
  greatest_in-group,
  greatest_in-group_any,
  greatest_in-group-other,
}
use Rattle.store_laws.specs.Steps.{Fit, buffer_above, Wrote, wrote_greatest, wrote_same, wrote_fresh, Added, added-greatest, added_same}

-- A node is as it was: version, content, number of pages, what the buffer has of it.
pub record Same (w w' : View) (m : ℕ) : Type 0 where
  pub greatest : greatest w' m ≡ greatest w m
  pub pieces : pieces w' m ≡ pieces w m
  pub pages : pages w' m ≡ pages w m
  pub buffered : buffered w' m ≡ buffered w m

pub same_trans : {w w' w'' : View} {m : ℕ} → Same w w' m → Same w' w'' m → Same w w'' m
same_trans a b =
    record {
      greatest = b.greatest ∙ a.greatest;
      pieces = b.pieces ∙ a.pieces;
      pages = b.pages ∙ a.pages;
      buffered = b.buffered ∙ a.buffered;
    }

-- A node has this version and content, lies on so many pages, and has this in the buffer.
pub record Now (w : View) (n v : ℕ) (xs : List Piece) (k : ℕ) (in_buffer : List Piece) : Type 0 where
  pub greatest : greatest w n ≡ v
  pub pieces : pieces w n ≡ xs
  pub pages : pages w n ≡ k
  pub buffered : buffered w n ≡ in_buffer

-- The new page has nothing of m, and the buffer what it had: m is as it was.
wrote_other : {w w' : View} {new rest : List Item} (r : Wrote w w' new rest) (m : ℕ) → greatest_in m new ≡ 0 →
    ((u : ℕ) → pieces_in m u new ≡ []) → greatest_in m rest ≡ greatest_in m w.buffer →
    ((u : ℕ) → pieces_in m u rest ≡ pieces_in m u w.buffer) → Same w w' m
unfolding greatest pieces buffered
wrote_other {w} {w'} {new} {rest} r m tx sx ty sy =
    let t : greatest w' m ≡ greatest w m = wrote_greatest r m ∙ omega arith in
    let a = wrote_same r m t in
    record {
      greatest = t;
      pieces = a.0 ∙ rw (sx, sy) refl;
      pages = a.1 ∙ rw sx (omega arith);
      buffered = a.2 ∙ sy (greatest w m);
    }

-- The buffer is written as the next page.
module _ {w w' : View} (r : Wrote w w' w.buffer []) (n : ℕ) where
  flush-greatest : greatest w' n ≡ greatest w n
  unfolding greatest
  flush-greatest = wrote_greatest r n ∙ omega arith

  pub flushed : Now w' n (greatest w n) (pieces w n) (pages w n + some? (buffered w n)) []
  unfolding pieces buffered
  flushed =
      let a = wrote_same r n flush-greatest in
      record { greatest = flush-greatest; pieces = a.0 ∙ simp append-nil; pages = a.1; buffered = a.2 }

-- One entry under the node's version.
module _ {w w' : View} (n : ℕ) (x : Piece) (r : Added w w' (group n (greatest w n) (x ∷ []))) where
  edit-greatest : greatest w' n ≡ greatest w n
  edit-greatest = added-greatest r n ∙ omega (arith, greatest_in-group_any n n (greatest w n) (x ∷ []))

  pub edited : Now w' n (greatest w n) (pieces w n ++ (x ∷ [])) (pages w n) (buffered w n ++ (x ∷ []))
  edited =
      let a = added_same r n edit-greatest in
      let own = pieces_in-group n (greatest w n) (x ∷ []) in
      record { greatest = edit-greatest; pieces = a.0 ∙ rw own; pages = a.1; buffered = a.2 ∙ rw own }

  pub edited_other : (m : ℕ) → (n ≡ m → ⊥) → Same w w' m
  edited_other m h =
      let t : greatest w' m ≡ greatest w m = added-greatest r m ∙ omega (arith, greatest_in-group-other m n (greatest w n) (x ∷ []) h) in
      let a = added_same r m t in
      let none = pieces_in-group-other m n (greatest w m) (greatest w n) (x ∷ []) h in
      record {
        greatest = t;
        pieces = a.0 ∙ rw none (append-nil (pieces w m));
        pages = a.1;
        buffered = a.2 ∙ rw none (append-nil (buffered w m));
      }

-- A fresh start: the next number is the version, and the whole content joins the buffer.
module _ {w w' : View} (fit : Fit w) (n : ℕ) (x : Piece) (xs : List Piece)
    (r : Wrote w w' [] (w.buffer ++ group n (suc w.last) (x ∷ xs))) where
  fresh-greatest : greatest w' n ≡ suc w.last
  unfolding greatest
  fresh-greatest =
      wrote_greatest r n ∙
      rw (
        greatest_in-append n w.buffer (group n (suc w.last) (x ∷ xs)),
        greatest_in-group n (suc w.last) x xs,
      )
      (omega (arith, fit.versions n))

  fresh-pieces : pieces_in n (suc w.last) (w.buffer ++ group n (suc w.last) (x ∷ xs)) ≡ x ∷ xs
  fresh-pieces =
      pieces_in-append n (suc w.last) w.buffer _ ∙
      ap₂ {B = List Piece} ◌++◌ (buffer_above w n (suc w.last) (omega (arith, fit.versions n)))
      (pieces_in-group n (suc w.last) (x ∷ xs))

  pub started : Now w' n (suc w.last) (x ∷ xs) 0 (x ∷ xs)
  started =
      let a = wrote_fresh r n (suc w.last) (omega (arith, fit.versions n)) fresh-greatest in
      record { greatest = fresh-greatest; pieces = a.0 ∙ fresh-pieces; pages = a.1; buffered = a.2 ∙ fresh-pieces }

  pub started-other : (m : ℕ) → (n ≡ m → ⊥) → Same w w' m
  started-other m h =
      wrote_other r m refl (λ u. refl)
      (greatest_in-append m w.buffer _ ∙ omega (arith, greatest_in-group-other m n (suc w.last) (x ∷ xs) h))
      (λ u.
      pieces_in-append m u w.buffer _ ∙
      rw (pieces_in-group-other m n u (suc w.last) (x ∷ xs) h) (append-nil (pieces_in m u w.buffer)))

-- A node page.
module _ {w w' : View} (fit : Fit w) (n : ℕ) (x : Piece) (r : Wrote w w' (group n (suc w.last) (x ∷ [])) w.buffer) where
  page_greatest : greatest w' n ≡ suc w.last
  unfolding greatest
  page_greatest = wrote_greatest r n ∙ rw (greatest_in-group n (suc w.last) x []) (omega (arith, fit.versions n))

  pub paged : Now w' n (suc w.last) (x ∷ []) 1 []
  paged =
      let a = wrote_fresh r n (suc w.last) (omega (arith, fit.versions n)) page_greatest in
      let b = buffer_above w n (suc w.last) (omega (arith, fit.versions n)) in
      let c = pieces_in-group n (suc w.last) (x ∷ []) in
      record { greatest = page_greatest; pieces = a.0 ∙ rw (b, c); pages = a.1 ∙ rw c; buffered = a.2 ∙ b }

  pub paged_other : (m : ℕ) → (n ≡ m → ⊥) → Same w w' m
  paged_other m h =
      wrote_other r m (greatest_in-group-other m n (suc w.last) (x ∷ []) h)
      (λ u. pieces_in-group-other m n u (suc w.last) (x ∷ []) h) refl (λ u. refl)

-- A page that says nothing of any node: a checkpoint page.
pub silent : {w w' : View} (r : Wrote w w' [] w.buffer) (m : ℕ) → Same w w' m
silent r m = wrote_other r m refl (λ u. refl) refl (λ u. refl)

-- Versions stay within the numbers taken.
pub wrote_fit : {w w' : View} {new rest : List Item} (r : Wrote w w' new rest) → Fit w → ((n : ℕ) → greatest_in n new ≤ suc w.last) →
    ((n : ℕ) → greatest_in n rest ≤ suc w.last) → Fit w'
unfolding greatest
wrote_fit {w} {w'} {new} {rest} r f hx hy =
    record {
      versions = λ n. rw (wrote_greatest r n, r.last) (omega (arith, f.versions n, hx n, hy n));
      beyond =
          λ s l.
          let l' : suc w.last < s = rw r.last at l in
          r.old s (λ q. omega arith) ∙ f.beyond s (omega arith);
    }

pub added_fit : {w w' : View} {new : List Item} (r : Added w w' new) → Fit w → ((n : ℕ) → greatest_in n new ≤ w.last) → Fit w'
added_fit {w} {w'} {new} r f hy =
    record {
      versions = λ n. rw (added-greatest r n, r.last) (omega (arith, f.versions n, hy n));
      beyond = λ s l. r.old s ∙ f.beyond s (rw r.last at l);
    }

-- The three-page rule in the form that each operation keeps: the pages of each node below N, and the one that the buffer is to be.
pub record Lean (N : ℕ) (w : View) : Type 0 where
  pub each : (n : ℕ) → n < N → pages w n + some? (buffered w n) ≤ most_log_pages

pub same_lean : {w w' : View} {N : ℕ} → Lean N w → ((m : ℕ) → m < N → Same w w' m) → Lean N w'
same_lean t o = record { each = λ m l. rw ((o m l).pages, (o m l).buffered) (t.each m l) }

-- One node has a known number of pages, the others are as they were; it may be the one that makes N grow.
lean_now : {w w' : View} {v k : ℕ} {xs held : List Piece} (N N' n : ℕ) → Lean N w → Now w' n v xs k held → k + some? held ≤ most_log_pages →
    ((m : ℕ) → m < N' → (n ≡ m → ⊥) → (m < N) × Same w w' m) → Lean N' w'
lean_now {w} {w'} N N' n t now b o = record { each = λ m l. go m l (eq_or n m) }
  where
    go : (m : ℕ) → m < N' → (n ≡ m) ⊎ (n ≡ m → ⊥) → pages w' m + some? (buffered w' m) ≤ most_log_pages
    go m l (inl e) = rw (← e) (rw (now.pages, now.buffered) b)
    go m l (inr e) = rw ((o m l e).1.pages, (o m l e).1.buffered) (t.each m (o m l e).0)

pub flushed_lean : {w w' : View} {N : ℕ} (r : Wrote w w' w.buffer []) → Lean N w → Lean N w'
flushed_lean r t = record { each = λ m l. rw ((flushed r m).pages, (flushed r m).buffered) (omega (arith, t.each m l)) }

pub edited_lean : {w w' : View} {N : ℕ} (n : ℕ) (x : Piece) (r : Added w w' (group n (greatest w n) (x ∷ []))) → pages w n < most_log_pages →
    Lean N w → Lean N w'
edited_lean {w} {N = N} n x r l t =
    lean_now N N n t (edited n x r) (omega (arith, bit_le_one (not (empty (buffered w n ++ (x ∷ []))))))
    (λ m k h. (k, edited_other n x r m h))

pub started_lean : {w w' : View} {N : ℕ} (fit : Fit w) (n : ℕ) (x : Piece) (xs : List Piece)
    (r : Wrote w w' [] (w.buffer ++ group n (suc w.last) (x ∷ xs))) (N' : ℕ) → ((m : ℕ) → m < N' → (n ≡ m → ⊥) → m < N) →
    Lean N w → Lean N' w'
started_lean {N = N} fit n x xs r N' g t =
    lean_now N N' n t (started fit n x xs r) (omega arith) (λ m k h. (g m k h, started-other fit n x xs r m h))

pub paged_lean : {w w' : View} {N : ℕ} (fit : Fit w) (n : ℕ) (x : Piece) (r : Wrote w w' (group n (suc w.last) (x ∷ [])) w.buffer) →
    Lean N w → Lean N w'
paged_lean {N = N} fit n x r t = lean_now N N n t (paged fit n x r) (omega arith) (λ m k h. (k, paged_other fit n x r m h))
