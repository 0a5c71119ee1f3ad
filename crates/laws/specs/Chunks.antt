-- A buffer seen as chunks of one size: pages of a pool, rows of a table. A whole chunk laid in its place is an element set, so
-- that code over bytes is spoken of as code over lists. One kit for every size. Assumes nothing.
use Rattle.std.specs.Prelude.{◌≡◌, ◌⊎◌, get_or, set}
use Rattle.std.proofs.Math.Path.{refl, sym, ap, ap₂}
use Rattle.std.proofs.Common.{◌∙◌, inl, inr, add_assoc, mul-suc, mul-zero, not-suc-le-zero, le_of_suc-le-suc, add-one, length-drop, length-take-le, take_at, drop_at, take-add, drop-drop, get_or-set_same}
use mathlib.Core.List.{List, [], ◌∷◌, ◌++◌, map, append_assoc}
use Prim.Native.Nat.{ℕ, zero, suc, ◌+◌, ◌*◌, ◌/◌, ◌≤◌, ◌<◌}
use native.Mathlib.Omega.{arith}
use Rattle.std.proofs.Math.ListN.{length, take, drop, replicate, length-set}
use Rattle.std.proofs.lemmas.List.{length-replicate, replicate-append-replicate}
use Rattle.std.proofs.Math.Seq.{get_or-set_other}
use Rattle.laws.specs.Order.{eq_or, le_or}
use Rattle.laws.specs.Lay.{lay, part, lay-next, lay-nil, length-lay, drop-lay, part-lay, part-zero}

-- The first n chunks of a buffer.
unfoldable pub first_chunks : ℕ → ℕ → List ℕ → List (List ℕ)
first_chunks size zero s = []
first_chunks size (suc n) s = part s 0 size ∷ first_chunks size n (drop size s)

-- All whole chunks of a buffer.
unfoldable pub chunks : ℕ → List ℕ → List (List ℕ)
chunks size s = first_chunks size (length s / size) s

-- The list with k elements from the i-th on all the same.
unfoldable pub set_run : {A : Type 0} → ℕ → ℕ → A → List A → List A
set_run zero i a xs = xs
set_run (suc k) i a xs = set_run k (i + 1) a (set xs i a)

-- A write behind the front of a buffer leaves the front, and is a write to the rest.
module _ (s : List ℕ) (front at : ℕ) (xs : List ℕ) (h : front + at ≤ length s) where
  split-lay : lay s (front + at) xs ≡ take front s ++ lay (drop front s) at xs
  unfolding lay
  split-lay =
      ap (λ (l : List ℕ). l ++ (xs ++ drop (front + at + length xs) s)) (take-add front at s) ∙
      append_assoc (take front s) (take at (drop front s)) (xs ++ drop (front + at + length xs) s) ∙
      ap (λ (l : List ℕ). take front s ++ (take at (drop front s) ++ (xs ++ l)))
      (ap (λ (n : ℕ). drop n s) (add_assoc front at (length xs)) ∙ sym (drop-drop (at + length xs) front s))

  length_front : length (take front s) ≡ front
  length_front = length-take-le front s (omega arith)

  pub take-lay-front : take front (lay s (front + at) xs) ≡ take front s
  take-lay-front = ap (take front) split-lay ∙ take_at (take front s) (lay (drop front s) at xs) front length_front

  pub drop-lay-front : drop front (lay s (front + at) xs) ≡ lay (drop front s) at xs
  drop-lay-front = ap (drop front) split-lay ∙ drop_at (take front s) (lay (drop front s) at xs) front length_front

pub length-first_chunks : (size n : ℕ) (s : List ℕ) → length (first_chunks size n s) ≡ n
unfolding first_chunks
length-first_chunks size zero s = refl
length-first_chunks size (suc n) s = ap suc (length-first_chunks size n (drop size s))

pub length-chunks : (size : ℕ) (s : List ℕ) → length (chunks size s) ≡ length s / size
unfolding chunks
length-chunks size s = length-first_chunks size (length s / size) s

mul-front : (w k : ℕ) → w * suc k ≡ w + w * k
mul-front w k = omega (arith, mul-suc w k)

module _ (size : ℕ) where
  -- a chunk as it stands in the bytes
  pub get-first_chunks : (n : ℕ) (s : List ℕ) (i : ℕ) (d : List ℕ) → i < n → get_or (first_chunks size n s) i d ≡ part s (size * i) size
  unfolding first_chunks part
  get-first_chunks zero s i d h = absurd (not-suc-le-zero h)
  get-first_chunks (suc n) s zero d h = ap (λ (k : ℕ). part s k size) (sym (mul-zero size))
  get-first_chunks (suc n) s (suc i) d h =
      get-first_chunks n (drop size s) i d (le_of_suc-le-suc h) ∙
      ap (take size) (drop-drop (size * i) size s ∙ ap (λ (k : ℕ). drop k s) (sym (mul-front size i)))

  -- a chunk laid in its place is an element set
  pub lay-first_chunks : (n : ℕ) (s : List ℕ) (i : ℕ) (p : List ℕ) → length p ≡ size → i < n → size * i + size ≤ length s →
      first_chunks size n (lay s (size * i) p) ≡ set (first_chunks size n s) i p
  unfolding first_chunks
  lay-first_chunks zero s i p e h k = absurd (not-suc-le-zero h)
  lay-first_chunks (suc n) s zero p e h k =
      ap (λ (at : ℕ). first_chunks size (suc n) (lay s at p)) (mul-zero size) ∙ ap₂ ◌∷◌ first (ap (first_chunks size n) rest)
    where
      first : part (lay s 0 p) 0 size ≡ p
      first = ap (part (lay s 0 p) 0) (sym e) ∙ part-lay s 0 p (omega arith)

      ends : 0 + length p + 0 ≡ size
      ends = omega arith

      rest : drop size (lay s 0 p) ≡ drop size s
      rest =
          ap (λ (k : ℕ). drop k (lay s 0 p)) (sym ends) ∙ drop-lay s 0 p 0 (omega arith) ∙ ap (λ (k : ℕ). drop k s) ends
  lay-first_chunks (suc n) s (suc i) p e h k =
      ap (λ (at : ℕ). first_chunks size (suc n) (lay s at p)) (mul-front size i) ∙
      ap₂ ◌∷◌
      (part-zero (lay s (size + size * i) p) size ∙ take-lay-front s size (size * i) p front ∙ sym (part-zero s size))
      (ap (first_chunks size n) (drop-lay-front s size (size * i) p front) ∙
      lay-first_chunks n (drop size s) i p e (le_of_suc-le-suc h) rest)
    where
      front : size + size * i ≤ length s
      front = omega (arith, mul-front size i)

      rest : size * i + size ≤ length (drop size s)
      rest = rw (length-drop size s) (omega (arith, mul-front size i))

  -- The same of all chunks; `i < length s / size` is the only bound that the chunks themselves give.
  pub get-chunks : (s : List ℕ) (i : ℕ) (d : List ℕ) → i < length s / size → get_or (chunks size s) i d ≡ part s (size * i) size
  unfolding chunks
  get-chunks s i d h = get-first_chunks (length s / size) s i d h

  module _ (s : List ℕ) (i : ℕ) (p : List ℕ) (e : length p ≡ size) (h : i < length s / size) (k : size * i + size ≤ length s) where
    pub lay-chunks : chunks size (lay s (size * i) p) ≡ set (chunks size s) i p
    unfolding chunks
    lay-chunks =
        ap (λ (n : ℕ). first_chunks size (n / size) (lay s (size * i) p)) (length-lay s (size * i) p (omega arith)) ∙
        lay-first_chunks (length s / size) s i p e h k

  -- a byte laid over k chunks sets them all to the chunk of that byte
  pub lay-run : (k : ℕ) (s : List ℕ) (i a : ℕ) → i + k ≤ length s / size → size * i + size * k ≤ length s →
      chunks size (lay s (size * i) (replicate (size * k) a)) ≡ set_run k i (replicate size a) (chunks size s)
  unfolding set_run
  lay-run zero s i a h l = ap (λ (n : ℕ). chunks size (lay s (size * i) (replicate n a))) (mul-zero size) ∙ ap (chunks size) (lay-nil s (size * i))
  lay-run (suc k) s i a h l =
      ap (chunks size) (ap (lay s (size * i)) run ∙ sym (lay-next s (size * i) one (replicate (size * k) a) (size * (i + 1)) (omega arith)
      (omega (arith, next, len)))) ∙
      lay-run k (lay s (size * i) one) (i + 1) a (rw same (omega arith)) (rw same (omega (arith, mul-front size k, next))) ∙
      ap (set_run k (i + 1) one) (lay-chunks s i one len (omega arith) (omega (arith, mul-front size k)))
    where
      one : List ℕ
      one = replicate size a

      len : length one ≡ size
      len = length-replicate size a

      next : size * (i + 1) ≡ size * i + size
      next = rw add-one (mul-suc size i)

      run : replicate (size * suc k) a ≡ one ++ replicate (size * k) a
      run = ap (λ (n : ℕ). replicate n a) (mul-front size k) ∙ sym (replicate-append-replicate size (size * k) a)

      same : length (lay s (size * i) one) ≡ length s
      same = length-lay s (size * i) one (omega (arith, mul-front size k, len))

-- A run of equal elements: its length, and what stands inside and outside of it.
module _ {A : Type 0} (a d : A) where
  pub length-set_run : (k i : ℕ) (xs : List A) → length (set_run k i a xs) ≡ length xs
  unfolding set_run
  length-set_run zero i xs = refl
  length-set_run (suc k) i xs = length-set_run k (i + 1) (set xs i a) ∙ length-set xs i a

  pub get-set_run_outside : (k i : ℕ) (xs : List A) (j : ℕ) → (j < i) ⊎ (i + k ≤ j) → get_or (set_run k i a xs) j d ≡ get_or xs j d
  unfolding set_run
  get-set_run_outside zero i xs j h = refl
  get-set_run_outside (suc k) i xs j (inl h) =
      get-set_run_outside k (i + 1) (set xs i a) j (inl (omega arith)) ∙ get_or-set_other xs i j a d (λ e. absurd (omega arith))
  get-set_run_outside (suc k) i xs j (inr h) =
      get-set_run_outside k (i + 1) (set xs i a) j (inr (omega arith)) ∙ get_or-set_other xs i j a d (λ e. absurd (omega arith))

  pub get-set_run-inside : (k i : ℕ) (xs : List A) (j : ℕ) → i ≤ j → j < i + k → j < length xs → get_or (set_run k i a xs) j d ≡ a
  unfolding set_run
  get-set_run-inside zero i xs j l h m = absurd (omega arith)
  get-set_run-inside (suc k) i xs j l h m = go (eq_or j i) (λ b. get-set_run-inside k (i + 1) (set xs i a) j b (omega arith) (rw (length-set xs i a) m))
    where
      above : (j ≡ i → ⊥) → (j ≤ i) ⊎ (i < j) → i + 1 ≤ j
      above n (inl b) = absurd (n (omega arith))
      above n (inr b) = omega arith

      go : (j ≡ i) ⊎ (j ≡ i → ⊥) → (i + 1 ≤ j → get_or (set_run k (i + 1) a (set xs i a)) j d ≡ a) → get_or (set_run k (i + 1) a (set xs i a)) j d ≡ a
      go (inl e) r =
          get-set_run_outside k (i + 1) (set xs i a) j (inl (omega arith)) ∙ rw e (get_or-set_same xs i a d (omega arith))
      go (inr n) r = r (above n (le_or j i))

-- Elements read through a function: a set below it is a set above it.
pub map-set : {A B : Type 0} (f : A → B) (xs : List A) (i : ℕ) (a : A) → map f (set xs i a) ≡ set (map f xs) i (f a)
map-set f [] i a = refl
map-set f (x ∷ xs) zero a = refl
map-set f (x ∷ xs) (suc i) a = ap (λ l. f x ∷ l) (map-set f xs i a)
