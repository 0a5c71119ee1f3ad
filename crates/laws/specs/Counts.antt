-- Counting the elements of a list, and of a list of lists, that pass a test. Assumes nothing.
use Rattle.std.specs.Prelude.{◌≡◌, refl, Bool, true, false, not, ◌&&◌, ◌||◌, List, [], ◌∷◌, ◌++◌, ℕ, zero, suc, ◌+◌, ◌*◌, ◌≤◌, ◌<◌, eqb, length, get_or, set}
use Rattle.std.proofs.Common.{ap, ◌∙◌, suc-le-suc, not-suc-le-zero, le_of_suc-le-suc, arith, ne_eqb}

-- 1 for a test passed, 0 for one failed
abbrev pub bit : Bool → ℕ
bit true = 1
bit false = 0

pub bit_le_one : (b : Bool) → bit b ≤ 1
bit_le_one true = omega arith
bit_le_one false = omega arith

pub bit_or : (a b : Bool) → bit (a || b) ≤ bit a + bit b
bit_or true true = omega arith
bit_or true false = omega arith
bit_or false b = omega arith

pub bit_and_right : (a b : Bool) → bit (a && b) ≤ bit b
bit_and_right true b = omega arith
bit_and_right false b = omega arith

pub bit_mono : (a b : Bool) → (a ≡ true → b ≡ true) → bit a ≤ bit b
bit_mono true b h = omega (arith, ap bit (h refl))
bit_mono false b h = omega arith

module _ {A : Type 0} where
  -- how many elements pass
  abbrev pub count : (A → Bool) → List A → ℕ
  count f [] = 0
  count f (x ∷ xs) = bit (f x) + count f xs

  -- an element in front of a list, where its test passed
  abbrev pub cons_if : Bool → A → List A → List A
  cons_if true x r = x ∷ r
  cons_if false x r = r

  -- the elements that pass, in order
  abbrev pub filter : (A → Bool) → List A → List A
  filter f [] = []
  filter f (x ∷ xs) = cons_if (f x) x (filter f xs)

  pub count-append : (f : A → Bool) (xs ys : List A) → count f (xs ++ ys) ≡ count f xs + count f ys
  count-append f [] ys = omega arith
  count-append f (x ∷ xs) ys = omega (arith, count-append f xs ys)

  pub count_le_length : (f : A → Bool) (xs : List A) → count f xs ≤ length xs
  count_le_length f [] = omega arith
  count_le_length f (x ∷ xs) = omega (arith, count_le_length f xs, bit_le_one (f x))

  pub count_mono : (f g : A → Bool) (xs : List A) → ((x : A) → f x ≡ true → g x ≡ true) → count f xs ≤ count g xs
  count_mono f g [] h = omega arith
  count_mono f g (x ∷ xs) h = omega (arith, count_mono f g xs h, bit_mono (f x) (g x) (h x))

  pub count_none : (f : A → Bool) (xs : List A) → ((x : A) → f x ≡ false) → count f xs ≡ 0
  count_none f [] h = refl
  count_none f (x ∷ xs) h = omega (arith, ap bit (h x), count_none f xs h)

  -- two tests that never pass together, and each only where a third does
  pub count_apart : (f g h : A → Bool) (xs : List A) → ((x : A) → bit (f x) + bit (g x) ≤ bit (h x)) → count f xs + count g xs ≤ count h xs
  count_apart f g h [] e = omega arith
  count_apart f g h (x ∷ xs) e = omega (arith, e x, count_apart f g h xs e)

  pub count_or_lem : (f g : A → Bool) (xs : List A) → count (λ x. f x || g x) xs ≤ count f xs + count g xs
  count_or_lem f g [] = omega arith
  count_or_lem f g (x ∷ xs) = omega (arith, count_or_lem f g xs, bit_or (f x) (g x))

  pub cons_if-append : (b : Bool) (x : A) (xs ys : List A) → cons_if b x (xs ++ ys) ≡ cons_if b x xs ++ ys
  cons_if-append true x xs ys = refl
  cons_if-append false x xs ys = refl

  pub filter-append : (f : A → Bool) (xs ys : List A) → filter f (xs ++ ys) ≡ filter f xs ++ filter f ys
  filter-append f [] ys = refl
  filter-append f (x ∷ xs) ys = ap (cons_if (f x) x) (filter-append f xs ys) ∙ cons_if-append (f x) x (filter f xs) (filter f ys)

  count-cons_if : (f : A → Bool) (b : Bool) (x : A) (r : List A) → count f (cons_if b x r) ≡ bit (b && f x) + count f r
  count-cons_if f true x r = refl
  count-cons_if f false x r = omega arith

  pub count-filter : (f g : A → Bool) (xs : List A) → count f (filter g xs) ≡ count (λ x. g x && f x) xs
  count-filter f g [] = refl
  count-filter f g (x ∷ xs) = count-cons_if f (g x) x (filter g xs) ∙ omega (arith, count-filter f g xs)

  pub count-filter_le : (f g : A → Bool) (xs : List A) → count f (filter g xs) ≤ count f xs
  count-filter_le f g [] = omega arith
  count-filter_le f g (x ∷ xs) =
      rw count-cons_if (omega (arith, count-filter_le f g xs, bit_and_right (g x) (f x)))

  length-cons_if : (b : Bool) (x : A) (r : List A) → length (cons_if b x r) ≡ bit b + length r
  length-cons_if true x r = omega arith
  length-cons_if false x r = omega arith

  pub length-filter : (g : A → Bool) (xs : List A) → length (filter g xs) ≡ count g xs
  length-filter g [] = refl
  length-filter g (x ∷ xs) = length-cons_if (g x) x (filter g xs) ∙ omega (arith, length-filter g xs)

  -- two lists have the same elements, each as often: they differ in their order alone
  abbrev pub Reordered : List A → List A → Type 0
  Reordered xs ys = (f : A → Bool) → count f xs ≡ count f ys

  count-all : (xs : List A) → count (λ x. true) xs ≡ length xs
  count-all [] = refl
  count-all (x ∷ xs) = omega (arith, count-all xs)

  pub reordered_length : (xs ys : List A) → Reordered xs ys → length xs ≡ length ys
  reordered_length xs ys r = omega (arith, r (λ x. true), count-all xs, count-all ys)

  -- how many elements of all the lists pass
  abbrev pub tally : (A → Bool) → List (List A) → ℕ
  tally f [] = 0
  tally f (b ∷ bs) = count f b + tally f bs

  pub tally_mono : (f g : A → Bool) (bs : List (List A)) → ((x : A) → f x ≡ true → g x ≡ true) → tally f bs ≤ tally g bs
  tally_mono f g [] h = omega arith
  tally_mono f g (b ∷ bs) h = omega (arith, tally_mono f g bs h, count_mono f g b h)

  pub tally_apart : (f g h : A → Bool) (bs : List (List A)) → ((x : A) → bit (f x) + bit (g x) ≤ bit (h x)) → tally f bs + tally g bs ≤ tally h bs
  tally_apart f g h [] e = omega arith
  tally_apart f g h (b ∷ bs) e = omega (arith, count_apart f g h b e, tally_apart f g h bs e)

  pub tally_or : (f g : A → Bool) (bs : List (List A)) → tally (λ x. f x || g x) bs ≤ tally f bs + tally g bs
  tally_or f g [] = omega arith
  tally_or f g (b ∷ bs) = omega (arith, tally_or f g bs, count_or_lem f g b)

  pub tally-at : (f : A → Bool) (bs : List (List A)) (i : ℕ) → count f (get_or bs i []) ≤ tally f bs
  tally-at f [] i = omega arith
  tally-at f (b ∷ bs) zero = omega arith
  tally-at f (b ∷ bs) (suc i) = omega (arith, tally-at f bs i)

  pub tally-set : (f : A → Bool) (bs : List (List A)) (i : ℕ) (b : List A) → i < length bs →
      tally f (set bs i b) + count f (get_or bs i []) ≡ tally f bs + count f b
  tally-set f [] i b h = absurd (not-suc-le-zero h)
  tally-set f (c ∷ bs) zero b h = omega arith
  tally-set f (c ∷ bs) (suc i) b h = omega (arith, tally-set f bs i b (le_of_suc-le-suc h))

  -- whether a list has no element, and how many lists have one
  abbrev pub empty : List A → Bool
  empty [] = true
  empty (x ∷ xs) = false

  pub empty-nil : (xs : List A) → empty xs ≡ true → xs ≡ []
  empty-nil [] e = refl
  empty-nil (x ∷ xs) e = cc

  pub empty-length : (xs : List A) → eqb (length xs) 0 ≡ empty xs
  empty-length [] = refl
  empty-length (x ∷ xs) = ne_eqb (suc (length xs)) 0 (λ e. omega arith)

  abbrev pub occupied : List (List A) → ℕ
  occupied [] = 0
  occupied (b ∷ bs) = bit (not (empty b)) + occupied bs

  -- the pigeonhole principle: where each list that has an element has w that pass, all have w for each such list
  pub pigeonhole : (f : A → Bool) (w : ℕ) (bs : List (List A)) →
      ((i : ℕ) → i < length bs → empty (get_or bs i []) ≡ false → w ≤ count f (get_or bs i [])) →
      w * occupied bs ≤ tally f bs
  pigeonhole f w [] h = omega arith
  pigeonhole f w (b ∷ bs) h = go (empty b) refl (pigeonhole f w bs (λ i l e. h (suc i) (suc-le-suc l) e))
    where
      go : (t : Bool) → empty b ≡ t → w * occupied bs ≤ tally f bs → w * (bit (not (empty b)) + occupied bs) ≤ count f b + tally f bs
      go true e rest = rw e (omega arith)
      go false e rest = rw e (omega (arith, h 0 (omega arith) e))
