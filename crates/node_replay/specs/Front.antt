-- Values that stand in an array from a place on, moved down to its front; and what is known of keys by the first and the last of them. Assumes nothing.
use Rattle.std.specs.Prelude.{Bool, true, ◌&&◌, ◌||◌, ◌≡◌, ℕ, zero, suc, ◌+◌, ◌-◌, ◌≤◌, ◌<◌, eqb, ltb, List, [], ◌∷◌, ◌++◌, length, get_or, take, drop, set}
use Rattle.std.proofs.Common.{refl, sym, ap, ◌∙◌, add-one, arith, length-set, take-append-drop, length-take-le, take-suc-set, drop-cons, length-drop, length-append, take_at, get_or-take, get_or-drop}
use Rattle.std.proofs.Math.ListN.{get_or-append}
use Rattle.std.proofs.Math.Seq.{take-set-lt}
use Rattle.std.proofs.lemmas.List.{drop-set-add}
use Rattle.layout.specs.Layout.{most_keys}
use Rattle.node.specs.Splice.{insert_at, remove_at}

-- The two arrays that are lent for the keys and pointers of a draft have their whole length.
abbrev pub Arrays : List ℕ → List ℕ → Type 0
Arrays ks ps = (length ks ≡ most_keys) × (length ps ≡ most_keys)

-- The array once `count` values from `first` on have moved down.
unfoldable pub lowered : ℕ → ℕ → List ℕ → List ℕ
lowered first count xs = take count (drop first xs) ++ drop count xs

-- Whether a key is behind all others, with room for one more; what a yes says.
unfoldable pub behind_in : List ℕ → ℕ → ℕ → ℕ → Bool
behind_in ks first count key = ltb (first + count) most_keys && (eqb count 0 || ltb (get_or ks (first + count - 1) 0) key)

pub record BehindIn (ks : List ℕ) (first count key : ℕ) (r : Bool) : Type 0 where
  pub is : r ≡ behind_in ks first count key
  pub room : r ≡ true → first + count < most_keys
  pub above : r ≡ true → 0 < count → get_or ks (first + count - 1) 0 < key

-- Whether a key is the first; what a yes says.
unfoldable pub first_in : List ℕ → ℕ → ℕ → ℕ → Bool
first_in ks first count key = ltb 0 count && eqb (get_or ks first 0) key

pub record FirstIn (ks : List ℕ) (first count key : ℕ) (r : Bool) : Type 0 where
  pub is : r ≡ first_in ks first count key
  pub some : r ≡ true → 0 < count
  pub same : r ≡ true → get_or ks first 0 ≡ key

pub lowered_none : (count : ℕ) (xs : List ℕ) → lowered 0 count xs ≡ xs
unfolding lowered
lowered_none count xs = take-append-drop count xs

insert_at-behind : (n x : ℕ) (xs : List ℕ) → length xs ≡ n → insert_at n x xs ≡ xs ++ (x ∷ [])
insert_at-behind zero x [] e = refl
insert_at-behind zero x (y ∷ ys) e = absurd (omega arith)
insert_at-behind (suc n) x [] e = absurd (omega arith)
insert_at-behind (suc n) x (y ∷ ys) e = ap {B = List ℕ} (y ∷◌) (insert_at-behind n x ys (omega arith))

module _ (first count : ℕ) (xs : List ℕ) (h : first + count ≤ length xs) where
  length_front : length (take count (drop first xs)) ≡ count
  length_front = length-take-le count (drop first xs) (omega (arith, length-drop first xs))

  pub length-lowered : length (lowered first count xs) ≡ length xs
  unfolding lowered
  length-lowered =
      omega (arith, length-append (take count (drop first xs)) (drop count xs), length_front, length-drop count xs)

  pub take-lowered : take count (lowered first count xs) ≡ take count (drop first xs)
  unfolding lowered
  take-lowered = take_at (take count (drop first xs)) (drop count xs) count length_front

  pub get_or-lowered : (i : ℕ) → i < count → get_or (lowered first count xs) i 0 ≡ get_or xs (first + i) 0
  unfolding lowered
  get_or-lowered i l =
      get_or-append (take count (drop first xs)) (drop count xs) 0 i (omega (arith, length_front)) ∙
      get_or-take count (drop first xs) i 0 l ∙
      get_or-drop first xs i 0

-- One more behind them, the first one gone, and the first one replaced.
module _ (first count : ℕ) (xs : List ℕ) where
  pub lowered-behind : (x : ℕ) → first + count < length xs →
      take (count + 1) (lowered first (count + 1) (set xs (first + count) x)) ≡ insert_at count x (take count (lowered first count xs))
  lowered-behind x h =
      take-lowered first (count + 1) (set xs (first + count) x) (omega (arith, length-set xs (first + count) x)) ∙
      ap (take (count + 1)) (drop-set-add first xs count x) ∙
      ap (λ (n : ℕ). take n (set (drop first xs) count x)) (add-one count) ∙
      take-suc-set (drop first xs) count x (omega (arith, length-drop first xs)) ∙
      sym (insert_at-behind count x (take count (drop first xs)) (length-take-le count (drop first xs) (omega (arith, length-drop first xs)))) ∙
      ap (insert_at count x) (sym (take-lowered first count xs (omega arith)))

  pub lowered-ahead : 0 < count → first + count ≤ length xs →
      take (count - 1) (lowered (first + 1) (count - 1) xs) ≡ remove_at 0 (take count (lowered first count xs))
  lowered-ahead l h =
      let turn : count ≡ suc (count - 1) = omega arith in
      take-lowered (first + 1) (count - 1) xs (omega arith) ∙
      ap (λ (n : ℕ). take (count - 1) (drop n xs)) (add-one first) ∙
      sym
      (ap (remove_at 0) (take-lowered first count xs h) ∙
      ap (λ (n : ℕ). remove_at 0 (take n (drop first xs))) turn ∙
      ap (λ (r : List ℕ). remove_at 0 (take (suc (count - 1)) r)) (drop-cons xs first 0 (omega arith)))

  pub lowered-first : (x : ℕ) → 0 < count → first + count ≤ length xs →
      take count (lowered first count (set xs first x)) ≡ take count (set (lowered first count xs) 0 x)
  lowered-first x l h =
      let e : first ≡ first + 0 = omega arith in
      take-lowered first count (set xs first x) (omega (arith, length-set xs first x)) ∙
      ap (take count) (ap (λ (n : ℕ). drop first (set xs n x)) e ∙ drop-set-add first xs 0 x) ∙
      take-set-lt count (drop first xs) 0 x l ∙
      ap (λ (r : List ℕ). set r 0 x) (sym (take-lowered first count xs h)) ∙
      sym (take-set-lt count (lowered first count xs) 0 x l)
