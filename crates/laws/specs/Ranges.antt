-- A search over the numbers of a range, as std's `find`, `all` and `any` make it, is the search of a counting loop. Assumes nothing.
use Rattle.std.specs.Prelude.{◌≡◌, Bool, true, false, not, ◌&&◌, ◌||◌, ℕ, zero, suc, ◌+◌, ◌-◌, ◌≤◌, ◌<◌, ltb, eqb, cond}
use Rattle.std.specs.Prelude.{Option, Some, None, unwrap_or}
use Rattle.std.specs.List.{find, list_all, list_any, range_with_len}
use Rattle.std.specs.Option.{option_map}
use Rattle.std.proofs.Common.{refl, sym, ap, ◌∙◌, arith, eq-eqb, ne_eqb, lt-ltb, tests}
use Rattle.laws.specs.Loops.{first_from, all_from}
use Rattle.laws.specs.Tests.{choose}

module _ (f : ℕ → Bool) where
  pub all_from-range : (k a : ℕ) → all_from f k a ≡ list_all f (range_with_len a k)
  unfolding all_from
  all_from-range zero a = refl
  all_from-range (suc k) a = rw (all_from-range k (a + 1))

  pub first_from-range : (k a : ℕ) → first_from f k a ≡ unwrap_or (find f (range_with_len a k)) (a + k)
  unfolding first_from
  first_from-range zero a = omega arith
  first_from-range (suc k) a = go (f a) (first_from-range k (a + 1))
    where
      go : (t : Bool) → first_from f k (a + 1) ≡ unwrap_or (find f (range_with_len (a + 1) k)) (a + 1 + k) →
          choose t a (first_from f k (a + 1))
          ≡ unwrap_or (cond t (Some a) (find f (range_with_len (a + 1) k))) (a + suc k)
      go true e = refl
      go false e = let m : a + 1 + k ≡ a + suc k = omega arith in rw m at e

  -- Its bounds.
  pub first_from_low : (k a : ℕ) → a ≤ first_from f k a
  unfolding first_from
  first_from_low zero a = omega arith
  first_from_low (suc k) a = go (f a) (first_from_low k (a + 1))
    where
      go : (t : Bool) → a + 1 ≤ first_from f k (a + 1) → a ≤ choose t a (first_from f k (a + 1))
      go true h = omega arith
      go false h = omega arith

  pub first_from_high : (k a : ℕ) → first_from f k a ≤ a + k
  unfolding first_from
  first_from_high zero a = omega arith
  first_from_high (suc k) a = go (f a) (first_from_high k (a + 1))
    where
      go : (t : Bool) → first_from f k (a + 1) ≤ a + 1 + k → choose t a (first_from f k (a + 1)) ≤ a + suc k
      go true h = omega arith
      go false h = omega arith

  -- Whether `any` found one is whether the search stopped before the end; `all` asks the same of what fails.
  pub list_any-range : (k a : ℕ) → list_any f (range_with_len a k) ≡ ltb (first_from f k a) (a + k)
  unfolding first_from
  list_any-range zero a = grind (arith, tests)
  list_any-range (suc k) a = go (f a) (list_any-range k (a + 1))
    where
      go : (t : Bool) → list_any f (range_with_len (a + 1) k) ≡ ltb (first_from f k (a + 1)) (a + 1 + k) →
          (t || list_any f (range_with_len (a + 1) k)) ≡ ltb (choose t a (first_from f k (a + 1))) (a + suc k)
      go true e = let h : a < a + suc k = omega arith in sym (lt-ltb a (a + suc k) h)
      go false e = let m : a + 1 + k ≡ a + suc k = omega arith in rw m at e

  pub list_all-range : (k a : ℕ) → list_all f (range_with_len a k) ≡ eqb (first_from (λ (q : ℕ). not (f q)) k a) (a + k)
  unfolding first_from
  list_all-range zero a = sym (eq-eqb a (a + 0) (omega arith))
  list_all-range (suc k) a = go (f a) (list_all-range k (a + 1))
    where
      go : (t : Bool) →
          list_all f (range_with_len (a + 1) k) ≡ eqb (first_from (λ (q : ℕ). not (f q)) k (a + 1)) (a + 1 + k) →
          (t && list_all f (range_with_len (a + 1) k))
          ≡ eqb (choose (not t) a (first_from (λ (q : ℕ). not (f q)) k (a + 1))) (a + suc k)
      go true e = let m : a + 1 + k ≡ a + suc k = omega arith in rw m at e
      go false e = sym (ne_eqb a (a + suc k) (λ z. omega arith))

  -- What `any`, `all` and `find` over a..b found.
  pub any_found : (a b : ℕ) (r : Bool) → a ≤ b → r ≡ list_any f (range_with_len a (b - a)) →
      r ≡ ltb (first_from f (b - a) a) b
  any_found a b r le e =
      let m : a + (b - a) ≡ b = omega arith in
      let t : r ≡ ltb (first_from f (b - a) a) (a + (b - a)) = e ∙ list_any-range (b - a) a in
      rw m at t

  pub all_found : (a b : ℕ) (r : Bool) → a ≤ b → r ≡ list_all f (range_with_len a (b - a)) →
      r ≡ eqb (first_from (λ (q : ℕ). not (f q)) (b - a) a) b
  all_found a b r le e =
      let m : a + (b - a) ≡ b = omega arith in
      let t : r ≡ eqb (first_from (λ (q : ℕ). not (f q)) (b - a) a) (a + (b - a)) = e ∙ list_all-range (b - a) a in
      rw m at t

  pub first_found : (a b k : ℕ) (r : Option ℕ) → a + k ≡ b → option_map (λ (x : ℕ). x) r ≡ find f (range_with_len a k) →
      unwrap_or r b ≡ first_from f k a
  first_found a b k r m e = rw (← m) (go r e)
    where
      go : (r : Option ℕ) → option_map (λ (x : ℕ). x) r ≡ find f (range_with_len a k) → unwrap_or r (a + k) ≡ first_from f k a
      go None e = ap (λ (r : Option ℕ). unwrap_or r (a + k)) e ∙ sym (first_from-range k a)
      go (Some i) e = ap (λ (r : Option ℕ). unwrap_or r (a + k)) e ∙ sym (first_from-range k a)
