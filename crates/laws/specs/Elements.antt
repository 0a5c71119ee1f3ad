-- The element at a place of a list, where there is one: `slice_get`. Assumes nothing.
use Rattle.std.specs.Prelude.{◌≡◌, refl, Bool, List, [], ◌∷◌, ◌++◌, ℕ, zero, suc, ◌+◌, ◌≤◌, ◌<◌, length, get_or, take, None, Some, slice_get}
use Rattle.std.proofs.Common.{sym, ap, ◌∙◌, subst, add-one, arith}
use Rattle.laws.specs.Counts.{bit, count, tally, tally-at}
use Rattle.laws.specs.Every.{Every, none as every-none, both}
use Rattle.laws.specs.Options.{none_some, some_same}

module _ {A : Type 0} where
  pub get-below : (xs : List A) (i : ℕ) (a : A) → slice_get xs i ≡ Some a → i < length xs
  get-below [] i a e = absurd (none_some e)
  get-below (x ∷ xs) zero a e = omega arith
  get-below (x ∷ xs) (suc i) a e = omega (arith, get-below xs i a e)

  -- behind the last there is none
  pub get_past : (xs : List A) → slice_get xs (length xs) ≡ None
  get_past [] = refl
  get_past (x ∷ xs) = get_past xs

  -- a list with one element more
  pub get-snoc-old : (xs : List A) (a : A) (i : ℕ) → (i ≡ length xs → ⊥) → slice_get (xs ++ (a ∷ [])) i ≡ slice_get xs i
  get-snoc-old [] a zero d = absurd (d refl)
  get-snoc-old [] a (suc i) d = refl
  get-snoc-old (x ∷ xs) a zero d = refl
  get-snoc-old (x ∷ xs) a (suc i) d = get-snoc-old xs a i (λ e. d (ap suc e))

  pub get-snoc_new : (xs : List A) (a : A) → slice_get (xs ++ (a ∷ [])) (length xs) ≡ Some a
  get-snoc_new [] a = refl
  get-snoc_new (x ∷ xs) a = get-snoc_new xs a

  -- one place further
  take-suc_some : (xs : List A) (i : ℕ) (a : A) → slice_get xs i ≡ Some a → take (suc i) xs ≡ take i xs ++ (a ∷ [])
  take-suc_some [] i a e = absurd (none_some e)
  take-suc_some (x ∷ xs) zero a e = ap (λ (z : A). z ∷ []) (some_same e)
  take-suc_some (x ∷ xs) (suc i) a e = ap (λ (l : List A). x ∷ l) (take-suc_some xs i a e)

  take-suc-none : (xs : List A) (i : ℕ) → slice_get xs i ≡ None → take (suc i) xs ≡ take i xs
  take-suc-none [] zero e = refl
  take-suc-none [] (suc i) e = refl
  take-suc-none (x ∷ xs) zero e = absurd (none_some (sym e))
  take-suc-none (x ∷ xs) (suc i) e = ap (λ (l : List A). x ∷ l) (take-suc-none xs i e)

  pub take_get : (xs : List A) (i : ℕ) (a : A) → slice_get xs i ≡ Some a → take (i + 1) xs ≡ take i xs ++ (a ∷ [])
  take_get xs i a e = ap (λ (n : ℕ). take n xs) (add-one i) ∙ take-suc_some xs i a e

  pub take-get-none : (xs : List A) (i : ℕ) → slice_get xs i ≡ None → take (i + 1) xs ≡ take i xs
  take-get-none xs i e = ap (λ (n : ℕ). take n xs) (add-one i) ∙ take-suc-none xs i e

  -- what holds of every element holds of it, and it is counted where it passes
  pub every_get : {P : A → Type 0} {xs : List A} → Every P xs → (i : ℕ) (a : A) → slice_get xs i ≡ Some a → P a
  every_get every-none i a e = absurd (none_some e)
  every_get {P} (both p h) zero a e = subst P (some_same e) p
  every_get (both p h) (suc i) a e = every_get h i a e

  pub count-get : (f : A → Bool) (xs : List A) (i : ℕ) (a : A) → slice_get xs i ≡ Some a → bit (f a) ≤ count f xs
  count-get f [] i a e = absurd (none_some e)
  count-get f (x ∷ xs) zero a e = omega (arith, ap (λ (z : A). bit (f z)) (some_same e))
  count-get f (x ∷ xs) (suc i) a e = omega (arith, count-get f xs i a e)

  pub tally-get : (f : A → Bool) (bs : List (List A)) (i j : ℕ) (a : A) → slice_get (get_or bs i []) j ≡ Some a → bit (f a) ≤ tally f bs
  tally-get f bs i j a e = omega (arith, count-get f (get_or bs i []) j a e, tally-at f bs i)
