-- Lists by their length: empty ones, those of one element, and the others; two lists behind their seam; a part of the first elements; parts of a
-- mapped list. Assumes nothing.
use Rattle.std.specs.Prelude.{◌≡◌, refl, ◌⊎◌, List, [], ◌∷◌, ◌++◌, map, ℕ, zero, suc, ◌+◌, ◌≤◌, length, get_or, set, take, drop, replicate}
use Rattle.std.proofs.Common.{sym, ap, ◌∙◌, inl, inr, zero-add, arith}
use Rattle.std.proofs.Math.Seq.{take-nil, take-append-add, drop-append-add}

pub length-zero : {A : Type 0} (xs : List A) → length xs ≡ 0 → xs ≡ []
length-zero [] e = refl
length-zero (x ∷ xs) e = absurd (omega arith)

pub empty_or : {A : Type 0} (xs : List A) → (xs ≡ []) ⊎ (1 ≤ length xs)
empty_or [] = inl refl
empty_or (x ∷ xs) = inr (omega arith)

pub nil-cons : {A : Type 0} (x : A) (xs : List A) → [] ≡ x ∷ xs → ⊥
nil-cons x xs e = let z : ◌≡◌ {A = ℕ} 0 1 = cc in omega arith

pub length-one : {A : Type 0} (xs : List A) (d : A) → length xs ≡ 1 → get_or xs 0 d ∷ [] ≡ xs
length-one [] d e = absurd (omega arith)
length-one (x ∷ []) d e = refl
length-one (x ∷ y ∷ xs) d e = absurd (omega arith)

-- A list of one value reads as it everywhere, also past its end.
pub get_or-replicate_same : {A : Type 0} (n i : ℕ) (a : A) → get_or (replicate n a) i a ≡ a
get_or-replicate_same zero i a = refl
get_or-replicate_same (suc n) zero a = refl
get_or-replicate_same (suc n) (suc i) a = get_or-replicate_same n i a

-- Behind the seam of two lists: the first elements, those from a place on, and a store, are the second's.
pub take-append-right : {A : Type 0} (xs ys : List A) (n k : ℕ) → n ≡ length xs + k → take n (xs ++ ys) ≡ xs ++ take k ys
take-append-right xs ys n k e = rw e (take-append-add xs ys k)

pub drop-append-right : {A : Type 0} (xs ys : List A) (n k : ℕ) → n ≡ length xs + k → drop n (xs ++ ys) ≡ drop k ys
drop-append-right xs ys n k e = rw e (drop-append-add xs ys k)

pub set_append_right : {A : Type 0} (xs ys : List A) (n k : ℕ) (a : A) → n ≡ length xs + k → set (xs ++ ys) n a ≡ xs ++ set ys k a
set_append_right [] ys n k a e = ap (λ z. set ys z a) (omega arith)
set_append_right (x ∷ xs) ys zero k a e = absurd (omega arith)
set_append_right {A} (x ∷ xs) ys (suc n) k a e = ap {B = List A} (λ z. x ∷ z) (set_append_right xs ys n k a (omega arith))

-- Of the first elements, those from a place on.
pub drop-take : {A : Type 0} (k n : ℕ) (l : List A) → drop k (take (k + n) l) ≡ take n (drop k l)
drop-take zero n l = ap (λ (m : ℕ). take m l) (zero-add n)
drop-take (suc k) n [] = ap (drop (suc k)) (take-nil (suc k + n)) ∙ sym (take-nil n)
drop-take (suc k) n (x ∷ l) =
    let e : suc k + n ≡ suc (k + n) = omega arith in
    ap (λ (m : ℕ). drop (suc k) (take m (x ∷ l))) e ∙ drop-take k n l

-- The first elements mapped, and those behind them.
pub take-map : {A B : Type 0} (f : A → B) (n : ℕ) (xs : List A) → take n (map f xs) ≡ map f (take n xs)
take-map f zero xs = refl
take-map f (suc n) [] = refl
take-map {B = B} f (suc n) (x ∷ xs) = ap {B = List B} (λ z. f x ∷ z) (take-map f n xs)

pub drop-map : {A B : Type 0} (f : A → B) (n : ℕ) (xs : List A) → drop n (map f xs) ≡ map f (drop n xs)
drop-map f zero xs = refl
drop-map f (suc n) [] = refl
drop-map f (suc n) (x ∷ xs) = drop-map f n xs
