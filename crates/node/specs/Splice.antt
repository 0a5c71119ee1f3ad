-- An element put into a list at a place, and one taken out; lists side by side. Assumes nothing.
use Rattle.std.specs.Prelude.{◌≡◌, refl, List, [], ◌∷◌, ℕ, zero, suc, ◌-◌, ◌≤◌, ◌<◌, length, get_or, take, drop, set}
use Rattle.std.proofs.Common.{ap, arith}
use Rattle.pairs.specs.Pairs.{Pair}

module _ {A : Type 0} where
  -- the list with an element more, at a place
  abbrev pub insert_at : ℕ → A → List A → List A
  insert_at zero x xs = x ∷ xs
  insert_at (suc i) x [] = x ∷ []
  insert_at (suc i) x (y ∷ ys) = y ∷ insert_at i x ys

  -- the list without the element at a place
  abbrev pub remove_at : ℕ → List A → List A
  remove_at i [] = []
  remove_at zero (y ∷ ys) = ys
  remove_at (suc i) (y ∷ ys) = y ∷ remove_at i ys

  pub length-insert_at : (i : ℕ) (x : A) (xs : List A) → length (insert_at i x xs) ≡ suc (length xs)
  length-insert_at zero x xs = refl
  length-insert_at (suc i) x [] = refl
  length-insert_at (suc i) x (y ∷ ys) = ap suc (length-insert_at i x ys)

  pub length-remove_at : (i : ℕ) (xs : List A) → i < length xs → suc (length (remove_at i xs)) ≡ length xs
  length-remove_at i [] h = absurd (omega arith)
  length-remove_at zero (y ∷ ys) h = refl
  length-remove_at (suc i) (y ∷ ys) h = ap suc (length-remove_at i ys (omega arith))

  -- the element at each place of such a list: before, at and behind the place
  module _ (x : A) (d : A) where
    pub get_or-insert_at-before : (i j : ℕ) (xs : List A) → j < i → i ≤ length xs → get_or (insert_at i x xs) j d ≡ get_or xs j d
    get_or-insert_at-before zero j xs h k = absurd (omega arith)
    get_or-insert_at-before (suc i) j [] h k = absurd (omega arith)
    get_or-insert_at-before (suc i) zero (y ∷ ys) h k = refl
    get_or-insert_at-before (suc i) (suc j) (y ∷ ys) h k = get_or-insert_at-before i j ys (omega arith) (omega arith)

    pub get_or-insert_at_same : (i : ℕ) (xs : List A) → i ≤ length xs → get_or (insert_at i x xs) i d ≡ x
    get_or-insert_at_same zero xs k = refl
    get_or-insert_at_same (suc i) [] k = absurd (omega arith)
    get_or-insert_at_same (suc i) (y ∷ ys) k = get_or-insert_at_same i ys (omega arith)

    pub get_or-insert_at-behind : (i j : ℕ) (xs : List A) → i ≤ j → i ≤ length xs → get_or (insert_at i x xs) (suc j) d ≡ get_or xs j d
    get_or-insert_at-behind zero j xs h k = refl
    get_or-insert_at-behind (suc i) zero xs h k = absurd (omega arith)
    get_or-insert_at-behind (suc i) (suc j) [] h k = absurd (omega arith)
    get_or-insert_at-behind (suc i) (suc j) (y ∷ ys) h k = get_or-insert_at-behind i j ys (omega arith) (omega arith)

    -- behind, as the code counts
    pub get_or-insert_at-after : (i j : ℕ) (xs : List A) → i < j → i ≤ length xs → get_or (insert_at i x xs) j d ≡ get_or xs (j - 1) d
    get_or-insert_at-after i zero xs h k = absurd (omega arith)
    get_or-insert_at-after i (suc j) xs h k =
        let e : suc j - 1 ≡ j = omega arith in
        rw e (get_or-insert_at-behind i j xs (omega arith) k)

  -- the element at each place of the list without one: before the place, and from it on
  module _ (d : A) where
    pub get_or-remove_at-before : (i j : ℕ) (xs : List A) → j < i → i < length xs → get_or (remove_at i xs) j d ≡ get_or xs j d
    get_or-remove_at-before i j [] h k = refl
    get_or-remove_at-before zero j (y ∷ ys) h k = absurd (omega arith)
    get_or-remove_at-before (suc i) zero (y ∷ ys) h k = refl
    get_or-remove_at-before (suc i) (suc j) (y ∷ ys) h k = get_or-remove_at-before i j ys (omega arith) (omega arith)

    pub get_or-remove_at-behind : (i j : ℕ) (xs : List A) → i ≤ j → i < length xs → get_or (remove_at i xs) j d ≡ get_or xs (suc j) d
    get_or-remove_at-behind i j [] h k = absurd (omega arith)
    get_or-remove_at-behind zero j (y ∷ ys) h k = refl
    get_or-remove_at-behind (suc i) zero (y ∷ ys) h k = absurd (omega arith)
    get_or-remove_at-behind (suc i) (suc j) (y ∷ ys) h k = get_or-remove_at-behind i j ys (omega arith) (omega arith)

-- Keys and pointers side by side, as pairs.
abbrev pub zip : List ℕ → List ℕ → List Pair
zip [] ps = []
zip (k ∷ ks) [] = []
zip (k ∷ ks) (p ∷ ps) = (k, p) ∷ zip ks ps

pub length-zip : (ks ps : List ℕ) → length ks ≡ length ps → length (zip ks ps) ≡ length ks
length-zip [] ps e = refl
length-zip (k ∷ ks) [] e = absurd (omega arith)
length-zip (k ∷ ks) (p ∷ ps) e = ap suc (length-zip ks ps (omega arith))

pub get_d_zip : (ks ps : List ℕ) (i : ℕ) → length ks ≡ length ps → get_or (zip ks ps) i (0, 0) ≡ (get_or ks i 0, get_or ps i 0)
get_d_zip [] [] i e = refl
get_d_zip [] (p ∷ ps) i e = absurd (omega arith)
get_d_zip (k ∷ ks) [] i e = absurd (omega arith)
get_d_zip (k ∷ ks) (p ∷ ps) zero e = refl
get_d_zip (k ∷ ks) (p ∷ ps) (suc i) e = get_d_zip ks ps i (omega arith)

pub take-zip : (n : ℕ) (ks ps : List ℕ) → take n (zip ks ps) ≡ zip (take n ks) (take n ps)
take-zip zero ks ps = refl
take-zip (suc n) [] ps = refl
take-zip (suc n) (k ∷ ks) [] = refl
take-zip (suc n) (k ∷ ks) (p ∷ ps) = ap {B = List Pair} ((k, p) ∷◌) (take-zip n ks ps)

pub drop-zip : (n : ℕ) (ks ps : List ℕ) → length ks ≡ length ps → drop n (zip ks ps) ≡ zip (drop n ks) (drop n ps)
drop-zip zero ks ps e = refl
drop-zip (suc n) [] ps e = refl
drop-zip (suc n) (k ∷ ks) [] e = absurd (omega arith)
drop-zip (suc n) (k ∷ ks) (p ∷ ps) e = drop-zip n ks ps (omega arith)

pub zip-set : (ks ps : List ℕ) (i k p : ℕ) → zip (set ks i k) (set ps i p) ≡ set (zip ks ps) i (k, p)
zip-set [] ps i k p = refl
zip-set (x ∷ ks) [] zero k p = refl
zip-set (x ∷ ks) [] (suc i) k p = refl
zip-set (x ∷ ks) (y ∷ ps) zero k p = refl
zip-set (x ∷ ks) (y ∷ ps) (suc i) k p = ap {B = List Pair} ((x, y) ∷◌) (zip-set ks ps i k p)

pub zip-insert_at : (i k p : ℕ) (ks ps : List ℕ) → length ks ≡ length ps → zip (insert_at i k ks) (insert_at i p ps) ≡ insert_at i (k, p) (zip ks ps)
zip-insert_at zero k p ks ps e = refl
zip-insert_at (suc i) k p [] [] e = refl
zip-insert_at (suc i) k p [] (y ∷ ps) e = absurd (omega arith)
zip-insert_at (suc i) k p (x ∷ ks) [] e = absurd (omega arith)
zip-insert_at (suc i) k p (x ∷ ks) (y ∷ ps) e = ap {B = List Pair} ((x, y) ∷◌) (zip-insert_at i k p ks ps (omega arith))

pub zip-remove_at : (i : ℕ) (ks ps : List ℕ) → length ks ≡ length ps → zip (remove_at i ks) (remove_at i ps) ≡ remove_at i (zip ks ps)
zip-remove_at i [] [] e = refl
zip-remove_at i [] (y ∷ ps) e = absurd (omega arith)
zip-remove_at i (x ∷ ks) [] e = absurd (omega arith)
zip-remove_at zero (x ∷ ks) (y ∷ ps) e = refl
zip-remove_at (suc i) (x ∷ ks) (y ∷ ps) e = ap {B = List Pair} ((x, y) ∷◌) (zip-remove_at i ks ps (omega arith))
