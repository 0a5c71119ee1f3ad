-- Question 11, way out by way out, and after a yes where each queue lies. Assumes nothing.
use Rattle.std.specs.Prelude.{◌≡◌, false, List, ℕ, suc, ◌+◌, ◌*◌, ◌≤◌, ◌<◌, length}
use Rattle.std.proofs.Math.Path.{refl, ap}
use Rattle.std.proofs.Common.{◌∙◌, add-one, arith}
use borrow.Author.Tests.{eq-eqb, ne_eqb, le-leb, lt-leb}
use Rattle.std.proofs.Math.Dec.{eqb}
use Rattle.layout.specs.Layout.{panels, length_bytes}
use Rattle.desk_queues.specs.Queues.{queue_count, length_at, start_at, queue_at, fills}
use Rattle.desk_laws.specs.QueueLaws.{Filled, start_le, queue_length}

-- A turn of the loop over the lengths.
pub start-next : (lengths : List ℕ) (p : ℕ) → start_at lengths (p + 1) ≡ start_at lengths p + length_at lengths p
start-next lengths p = ap (start_at lengths) (add-one p)

-- The ways out: too many lengths, part of one, and the test of the sum.
module _ (lengths queues : List ℕ) where
  pub fills_many : panels < queue_count lengths → false ≡ fills lengths queues
  unfolding fills
  fills_many h = rw (lt-leb (queue_count lengths) panels h) refl

  module _ (few : queue_count lengths ≤ panels) where
    pub fills_cut : (length_bytes * queue_count lengths ≡ length lengths → ⊥) → false ≡ fills lengths queues
    unfolding fills
    fills_cut h = rw (le-leb (queue_count lengths) panels few, ne_eqb (length_bytes * queue_count lengths) (length lengths) h) refl

    pub fills-sum : length_bytes * queue_count lengths ≡ length lengths → (sum p : ℕ) → sum ≡ start_at lengths p → p ≡ queue_count lengths →
        eqb sum (length queues) ≡ fills lengths queues
    unfolding fills
    fills-sum h sum p e f =
        rw (le-leb (queue_count lengths) panels few, eq-eqb (length_bytes * queue_count lengths) (length lengths) h)
        (ap (λ (n : ℕ). eqb n (length queues)) (e ∙ ap (start_at lengths) f))

-- After a yes: a queue ends within the buffer, and is as long as its length says.
module _ (lengths queues : List ℕ) (f : Filled lengths queues) (p : ℕ) (l : p < queue_count lengths) where
  pub queue_in : start_at lengths p + length_at lengths p ≤ length queues
  queue_in = omega (arith, start_le lengths (suc p) (queue_count lengths) l, f.full)

  pub queue_size : length (queue_at lengths queues p) ≡ length_at lengths p
  queue_size = queue_length lengths queues (queue_count lengths) p (omega (arith, f.full)) l
