-- Lists added place by place, at once and one place after the other. Assumes nothing.
use mathlib.Core.Path.{◌≡◌, refl, ap}
use mathlib.Core.List.{List, [], ◌∷◌}
use Prim.Native.Nat.{ℕ, zero, suc, ◌+◌, ◌≤◌, ◌<◌}
use native.Mathlib.Numerals.{add-one}
use native.Mathlib.Omega.{arith}
use lib.ListN.{length, get_or, set}
use Rattle.wire.specs.Sum.{total, running}

-- Two lists added place by place.
abbrev pub plus : List ℕ → List ℕ → List ℕ
plus [] ys = []
plus (x ∷ xs) [] = []
plus (x ∷ xs) (y ∷ ys) = (x + y) ∷ plus xs ys

-- The same where the first n places are done already.
abbrev pub plus_from : ℕ → List ℕ → List ℕ → List ℕ
plus_from zero xs ys = plus xs ys
plus_from (suc n) [] ys = []
plus_from (suc n) (x ∷ xs) [] = []
plus_from (suc n) (x ∷ xs) (y ∷ ys) = x ∷ plus_from n xs ys

pub length-plus : (x y : List ℕ) → length x ≡ length y → length (plus x y) ≡ length x
length-plus [] y e = refl
length-plus (x ∷ xs) [] e = absurd (omega arith)
length-plus (x ∷ xs) (y ∷ ys) e = ap suc (length-plus xs ys (omega arith))

pub total-plus : (x y : List ℕ) → length x ≡ length y → total (plus x y) ≡ total x + total y
total-plus [] [] e = omega arith
total-plus [] (y ∷ ys) e = absurd (omega arith)
total-plus (x ∷ xs) [] e = absurd (omega arith)
total-plus (x ∷ xs) (y ∷ ys) e = omega (arith, total-plus xs ys (omega arith))

pub running-plus : (x y : List ℕ) (a b : ℕ) → length x ≡ length y → running (a + b) (plus x y) ≡ running a x + running b y
running-plus [] [] a b e = omega arith
running-plus [] (y ∷ ys) a b e = absurd (omega arith)
running-plus (x ∷ xs) [] a b e = absurd (omega arith)
running-plus (x ∷ xs) (y ∷ ys) a b e =
    let p : a + b + (x + y) ≡ (a + x) + (b + y) = omega arith in
    rw p (omega (arith, running-plus xs ys (a + x) (b + y) (omega arith)))

-- A turn adds at one place; before the first none is done, after the last all are.
pub plus_from-next : (x y : List ℕ) (i : ℕ) → i < length x → i < length y →
    plus_from (i + 1) (set x i (get_or x i 0 + get_or y i 0)) y ≡ plus_from i x y
plus_from-next x y i h k = rw (add-one i) (go x y i h k)
  where
    go : (x y : List ℕ) (i : ℕ) → i < length x → i < length y → plus_from (suc i) (set x i (get_or x i 0 + get_or y i 0)) y ≡ plus_from i x y
    go [] y i h k = absurd (omega arith)
    go (x ∷ xs) [] i h k = absurd (omega arith)
    go (x ∷ xs) (y ∷ ys) zero h k = refl
    go (x ∷ xs) (y ∷ ys) (suc i) h k = ap (λ (l : List ℕ). x ∷ l) (go xs ys i (omega arith) (omega arith))

-- What was passed may change.
pub plus_from-set : (x y : List ℕ) (i v : ℕ) → plus_from (i + 1) x (set y i v) ≡ plus_from (i + 1) x y
plus_from-set x y i v = rw (add-one i) (go x y i)
  where
    go : (x y : List ℕ) (i : ℕ) → plus_from (suc i) x (set y i v) ≡ plus_from (suc i) x y
    go [] y i = refl
    go (x ∷ xs) [] i = refl
    go (x ∷ xs) (y ∷ ys) zero = refl
    go (x ∷ xs) (y ∷ ys) (suc i) = ap (λ (l : List ℕ). x ∷ l) (go xs ys i)

pub plus_from_end : (x y : List ℕ) (n : ℕ) → length x ≡ length y → length x ≤ n → plus_from n x y ≡ x
plus_from_end [] y zero e h = refl
plus_from_end [] y (suc n) e h = refl
plus_from_end (x ∷ xs) y zero e h = absurd (omega arith)
plus_from_end (x ∷ xs) [] (suc n) e h = absurd (omega arith)
plus_from_end (x ∷ xs) (y ∷ ys) (suc n) e h = ap (λ (l : List ℕ). x ∷ l) (plus_from_end xs ys n (omega arith) (omega arith))

-- The sum at a place that is to come is in the whole.
pub plus_from_most : (x y : List ℕ) (i : ℕ) → i < length x → i < length y → get_or x i 0 + get_or y i 0 ≤ total (plus_from i x y)
plus_from_most [] y i h k = absurd (omega arith)
plus_from_most (x ∷ xs) [] i h k = absurd (omega arith)
plus_from_most (x ∷ xs) (y ∷ ys) zero h k = omega arith
plus_from_most (x ∷ xs) (y ∷ ys) (suc i) h k = omega (arith, plus_from_most xs ys i (omega arith) (omega arith))
