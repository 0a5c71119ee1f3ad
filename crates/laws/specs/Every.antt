-- What holds of every element of a list. Assumes nothing.
use Rattle.std.specs.Prelude.{◌≡◌, refl, Bool, true, false, List, [], ◌∷◌, ◌++◌, map, ℕ, zero, suc, get_or, take, drop, set, replicate}
use Rattle.std.proofs.Common.{ap₂}
use Rattle.laws.specs.Counts.{cons_if, filter}

pub data Every {A : Type 0} (P : A → Type 0) : List A → Type 0 where
  none : Every P []
  both : {x : A} {xs : List A} → P x → Every P xs → Every P (x ∷ xs)

module _ {A : Type 0} {P : A → Type 0} where
  pub every_append : {xs ys : List A} → Every P xs → Every P ys → Every P (xs ++ ys)
  every_append none b = b
  every_append (both p a) b = both p (every_append a b)

  pub every-append-left : (xs ys : List A) → Every P (xs ++ ys) → Every P xs
  every-append-left [] ys e = none
  every-append-left (x ∷ xs) ys (both p a) = both p (every-append-left xs ys a)

  pub every_weaken : {Q : A → Type 0} {xs : List A} → ((x : A) → P x → Q x) → Every P xs → Every Q xs
  every_weaken f none = none
  every_weaken f (both p a) = both (f _ p) (every_weaken f a)

pub every_map : {A B : Type 0} {P : B → Type 0} (f : A → B) {xs : List A} → Every (λ x. P (f x)) xs → Every P (map f xs)
every_map f none = none
every_map f (both p a) = both p (every_map f a)

-- Elements of one kind mapped to those of another.
pub every-map-by : {A B : Type 0} {P : A → Type 0} {Q : B → Type 0} (f : A → B) → ((a : A) → P a → Q (f a)) →
    (xs : List A) → Every P xs → Every Q (map f xs)
every-map-by f holds xs e = every_map f (every_weaken holds e)

pub every-replicate : {A : Type 0} {P : A → Type 0} (n : ℕ) (x : A) → P x → Every P (replicate n x)
every-replicate zero x p = none
every-replicate (suc n) x p = both p (every-replicate n x p)

-- Elements that a function sends back one by one it sends back as a list.
pub map_back : {A B : Type 0} {P : A → Type 0} (to : A → B) (from : B → A) → ((a : A) → P a → from (to a) ≡ a) →
    (xs : List A) → Every P xs → map from (map to xs) ≡ xs
map_back to from back [] none = refl
map_back to from back (x ∷ xs) (both h hs) = ap₂ ◌∷◌ (back x h) (map_back to from back xs hs)

-- of its parts: what is taken, left, picked out or put in place
module _ {A : Type 0} {P : A → Type 0} where
  pub every_take : (n : ℕ) (xs : List A) → Every P xs → Every P (take n xs)
  every_take zero xs e = none
  every_take (suc n) [] none = none
  every_take (suc n) (x ∷ xs) (both p e) = both p (every_take n xs e)

  pub every_drop : (n : ℕ) (xs : List A) → Every P xs → Every P (drop n xs)
  every_drop zero xs e = e
  every_drop (suc n) [] none = none
  every_drop (suc n) (x ∷ xs) (both p e) = every_drop n xs e

  pub every_set : (xs : List A) (i : ℕ) (x : A) → P x → Every P xs → Every P (set xs i x)
  every_set [] i x p none = none
  every_set (y ∷ xs) zero x p (both q e) = both p e
  every_set (y ∷ xs) (suc i) x p (both q e) = both q (every_set xs i x p e)

  pub every-cons_if : (t : Bool) (x : A) (xs : List A) → P x → Every P xs → Every P (cons_if t x xs)
  every-cons_if true x xs p e = both p e
  every-cons_if false x xs p e = e

  pub every-filter : (f : A → Bool) (xs : List A) → Every P xs → Every P (filter f xs)
  every-filter f [] none = none
  every-filter f (x ∷ xs) (both p e) = every-cons_if (f x) x (filter f xs) p (every-filter f xs e)

  -- one list of several
  pub every_in : (xss : List (List A)) (i : ℕ) → Every (Every P) xss → Every P (get_or xss i [])
  every_in [] i none = none
  every_in (xs ∷ xss) zero (both p e) = p
  every_in (xs ∷ xss) (suc i) (both p e) = every_in xss i e
