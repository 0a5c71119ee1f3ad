-- A table as a function from numbers: changed at one number, its entries below a bound as a list, and their sum. Assumes nothing.
use Rattle.std.specs.Prelude.{◌≡◌, refl, ◌⊎◌, List, [], ◌∷◌, map, ℕ, zero, suc, ◌+◌, ◌*◌, ◌≤◌, ◌<◌, eqb, length, get_or, drop}
use Rattle.std.proofs.Common.{sym, ap, ap₂, ◌∙◌, inl, inr, arith, eq-eqb, ne_eqb, drop_of_length-le}
use Rattle.std.proofs.Math.Path.{fun_ext}
use Rattle.std.proofs.Math.Numerals.{lt_of_le_of_ne}
use Rattle.laws.specs.Tests.{choose}
use Rattle.laws.specs.Order.{eq_or}
use Rattle.laws.specs.Every.{Every, none, both}

-- The table with `a` at `n`.
unfoldable pub update : {A : Type 0} → (ℕ → A) → ℕ → A → ℕ → A
update table n a i = choose (eqb i n) a (table i)

module _ {A : Type 0} (table : ℕ → A) (n : ℕ) (a : A) where
  pub update_same : (i : ℕ) → i ≡ n → update table n a i ≡ a
  unfolding update
  update_same i e = rw (eq-eqb i n e)

  pub update_other : (i : ℕ) → (i ≡ n → ⊥) → update table n a i ≡ table i
  unfolding update
  update_other i e = rw (ne_eqb i n e)

  -- with what stood there it is the same table
  pub update_self : table n ≡ a → update table n a ≡ table
  update_self e = fun_ext (λ i. go i (eq_or i n))
    where
      go : (i : ℕ) → (i ≡ n) ⊎ (i ≡ n → ⊥) → update table n a i ≡ table i
      go i (inl q) = update_same i q ∙ sym e ∙ ap table (sym q)
      go i (inr q) = update_other i q

-- The sum of the entries below a bound.
abbrev pub sum_below : ℕ → (ℕ → ℕ) → ℕ
sum_below zero f = 0
sum_below (suc n) f = sum_below n f + f n

pub sum_below-ext : (n : ℕ) (f g : ℕ → ℕ) → ((i : ℕ) → i < n → f i ≡ g i) → sum_below n f ≡ sum_below n g
sum_below-ext zero f g h = refl
sum_below-ext (suc n) f g h = ap₂ ◌+◌ (sum_below-ext n f g (λ i l. h i (omega arith))) (h n (omega arith))

pub sum_below-add : (n : ℕ) (f g : ℕ → ℕ) → sum_below n (λ i. f i + g i) ≡ sum_below n f + sum_below n g
sum_below-add zero f g = refl
sum_below-add (suc n) f g = omega (arith, sum_below-add n f g)

-- Two tables that differ at one entry only.
pub sum_below-change : (n : ℕ) (f g : ℕ → ℕ) (k : ℕ) → k < n → ((i : ℕ) → (i ≡ k → ⊥) → g i ≡ f i) → sum_below n g + f k ≡ sum_below n f + g k
sum_below-change zero f g k l h = absurd (omega arith)
sum_below-change (suc n) f g k l h = go (eq_or n k) (λ m. sum_below-change n f g k m h)
  where
    go : (n ≡ k) ⊎ (n ≡ k → ⊥) → (k < n → sum_below n g + f k ≡ sum_below n f + g k) → sum_below (suc n) g + f k ≡ sum_below (suc n) f + g k
    go (inl e) r = omega (arith, sum_below-ext n g f (λ i q. h i (λ z. omega arith)), ap f e, ap g e)
    go (inr e) r = omega (arith, r (omega arith), h n e)

pub sum_below-zeros : (n : ℕ) → sum_below n (λ i. 0) ≡ 0
sum_below-zeros zero = refl
sum_below-zeros (suc n) = omega (arith, sum_below-zeros n)

-- One entry, entries of at most a number each, and entries of at least one each.
pub sum_below-at : (n : ℕ) (f : ℕ → ℕ) (i : ℕ) → i < n → f i ≤ sum_below n f
sum_below-at zero f i l = absurd (omega arith)
sum_below-at (suc n) f i l = go (eq_or i n) (λ h. sum_below-at n f i h)
  where
    go : (i ≡ n) ⊎ (i ≡ n → ⊥) → (i < n → f i ≤ sum_below n f) → f i ≤ sum_below n f + f n
    go (inl e) r = omega (arith, ap f e)
    go (inr e) r = omega (arith, r (lt_of_le_of_ne (omega arith) e))

pub sum_below_le : (n : ℕ) (f : ℕ → ℕ) (m : ℕ) → ((i : ℕ) → f i ≤ m) → sum_below n f ≤ m * n
sum_below_le zero f m h = omega arith
sum_below_le (suc n) f m h = omega (arith, sum_below_le n f m h, h n)

pub sum_below_ge : (n : ℕ) (f : ℕ → ℕ) → ((i : ℕ) → i < n → 1 ≤ f i) → n ≤ sum_below n f
sum_below_ge zero f h = omega arith
sum_below_ge (suc n) f h = omega (arith, sum_below_ge n f (λ i l. h i (omega arith)), h n (omega arith))

-- where each is at least one, one of them exceeds the others' least by what it has
pub sum_below_more : (n : ℕ) (f : ℕ → ℕ) → ((i : ℕ) → i < n → 1 ≤ f i) → (k : ℕ) → k < n → n + f k ≤ sum_below n f + 1
sum_below_more zero f h k l = absurd (omega arith)
sum_below_more (suc n) f h k l = go (eq_or k n) (λ m. sum_below_more n f (λ i q. h i (omega arith)) k m)
  where
    go : (k ≡ n) ⊎ (k ≡ n → ⊥) → (k < n → n + f k ≤ sum_below n f + 1) → suc n + f k ≤ sum_below n f + f n + 1
    go (inl e) r = omega (arith, ap f e, sum_below_ge n f (λ i q. h i (omega arith)))
    go (inr e) r = omega (arith, r (lt_of_le_of_ne (omega arith) e), h n (omega arith))

-- The entries below a bound as a list.
abbrev pub list_below : {A : Type 0} → ℕ → (ℕ → A) → List A
list_below zero f = []
list_below (suc n) f = f 0 ∷ list_below n (λ i. f (suc i))

pub length-below : {A : Type 0} (n : ℕ) (f : ℕ → A) → length (list_below n f) ≡ n
length-below zero f = refl
length-below (suc n) f = ap suc (length-below n (λ i. f (suc i)))

pub below_at : {A : Type 0} (n : ℕ) (f : ℕ → A) (i : ℕ) (d : A) → i < n → get_or (list_below n f) i d ≡ f i
below_at zero f i d l = absurd (omega arith)
below_at (suc n) f zero d l = refl
below_at (suc n) f (suc i) d l = below_at n (λ j. f (suc j)) i d (omega arith)

-- A list that has them at its places is that list.
pub below-is : {A : Type 0} (xs : List A) (n : ℕ) (f : ℕ → A) (d : A) → length xs ≡ n → ((i : ℕ) → i < n → get_or xs i d ≡ f i) →
    xs ≡ list_below n f
below-is [] zero f d e h = refl
below-is [] (suc n) f d e h = absurd (omega arith)
below-is (x ∷ xs) zero f d e h = absurd (omega arith)
below-is {A} (x ∷ xs) (suc n) f d e h =
    ap₂ {B = List A} ◌∷◌ (h 0 (omega arith)) (below-is xs n (λ i. f (suc i)) d (omega arith) (λ i l. h (suc i) (omega arith)))

-- Its elements from a place on, those of the mapped list, and what holds of each.
pub drop-below : {A : Type 0} (n : ℕ) (f : ℕ → A) (i : ℕ) → i < n → drop i (list_below n f) ≡ f i ∷ drop (suc i) (list_below n f)
drop-below zero f i l = absurd (omega arith)
drop-below (suc n) f zero l = refl
drop-below (suc n) f (suc i) l = drop-below n (λ j. f (suc j)) i (omega arith)

pub drop-below_past : {A : Type 0} (n : ℕ) (f : ℕ → A) (i : ℕ) → n ≤ i → drop i (list_below n f) ≡ []
drop-below_past n f i l = drop_of_length-le (list_below n f) {i = i} (omega (arith, length-below n f))

pub map_below : {A B : Type 0} (g : A → B) (n : ℕ) (f : ℕ → A) → map g (list_below n f) ≡ list_below n (λ i. g (f i))
map_below g zero f = refl
map_below {B = B} g (suc n) f = ap {B = List B} (g (f 0) ∷◌) (map_below g n (λ i. f (suc i)))

pub every-below : {A : Type 0} {P : A → Type 0} (n : ℕ) (f : ℕ → A) → ((i : ℕ) → P (f i)) → Every P (list_below n f)
every-below zero f h = none
every-below (suc n) f h = both (h 0) (every-below n (λ i. f (suc i)) (λ i. h (suc i)))

-- The sum of a list, and of that one.
abbrev pub sum : List ℕ → ℕ
sum [] = 0
sum (n ∷ ns) = n + sum ns

sum_below-first : (n : ℕ) (f : ℕ → ℕ) → sum_below (suc n) f ≡ f 0 + sum_below n (λ i. f (suc i))
sum_below-first zero f = omega arith
sum_below-first (suc n) f = omega (arith, sum_below-first n f)

pub sum_below_lem : (n : ℕ) (f : ℕ → ℕ) → sum (list_below n f) ≡ sum_below n f
sum_below_lem zero f = refl
sum_below_lem (suc n) f = omega (arith, sum_below_lem n (λ i. f (suc i)), sum_below-first n f)

-- A table with one entry, and nothing beside it.
abbrev pub only : ℕ → ℕ → ℕ → ℕ
only n amount i = choose (eqb i n) amount 0

pub only_same : (n amount i : ℕ) → i ≡ n → only n amount i ≡ amount
only_same n amount i e = rw (eq-eqb i n e) refl

pub only-other : (n amount i : ℕ) → (i ≡ n → ⊥) → only n amount i ≡ 0
only-other n amount i e = rw (ne_eqb i n e) refl

pub only_le : (n amount i : ℕ) → only n amount i ≤ amount
only_le n amount i = go (eq_or i n)
  where
    go : (i ≡ n) ⊎ (i ≡ n → ⊥) → only n amount i ≤ amount
    go (inl e) = omega (arith, only_same n amount i e)
    go (inr e) = omega (arith, only-other n amount i e)

pub sum-only : (n k amount : ℕ) → k < n → sum_below n (only k amount) ≡ amount
sum-only n k amount l =
    omega (
      arith,
      sum_below-change n (λ i. 0) (only k amount) k l (λ i e. only-other k amount i e),
      sum_below-zeros n,
      only_same k amount k refl,
    )
