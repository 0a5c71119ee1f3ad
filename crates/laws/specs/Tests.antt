-- Tests are Bools: taking their answers apart and putting them together. Assumes nothing.
use Rattle.std.specs.Prelude.{◌≡◌, refl, Bool, true, false, not, ◌&&◌, ◌||◌, ◌⊎◌, ℕ, eqb, ltb}
use Rattle.std.proofs.Common.{sym, ◌∙◌, true≢false, inl, inr, arith, eqb-true, eq-eqb, ne_eqb, ltb-true, ltb-false}
use Rattle.std.proofs.Math.Bool.{and-false, or-true}

-- The first of two values where a test passed, else the second.
abbrev pub choose : {A : Type 0} → Bool → A → A → A
choose true a b = a
choose false a b = b

-- No test is both passed and failed.
pub test_clash : (b : Bool) → b ≡ true → b ≡ false → ⊥
test_clash b p q = true≢false (sym p ∙ q)

-- Two tests are the same where each passes with the other.
pub test_same : (a b : Bool) → (a ≡ true → b ≡ true) → (b ≡ true → a ≡ true) → a ≡ b
test_same true b f g = sym (f refl)
test_same false true f g = g refl
test_same false false f g = refl

pub and_left : (a b : Bool) → (a && b) ≡ true → a ≡ true
and_left true b e = refl
and_left false b e = e

pub and_right : (a b : Bool) → (a && b) ≡ true → b ≡ true
and_right true b e = e
and_right false b e = cc

pub and_both : (a b : Bool) → a ≡ true → b ≡ true → (a && b) ≡ true
and_both true b p q = q
and_both false b p q = p

pub and_not_right : (a b : Bool) → b ≡ false → (a && b) ≡ false
and_not_right a b e = rw e (and-false a)

-- Of four tests, the middle ones swapped.
pub and_swap : (a b x y : Bool) → ((a && b) && (x && y)) ≡ ((a && x) && (b && y))
and_swap true true x y = refl
and_swap true false true y = refl
and_swap true false false y = refl
and_swap false b x y = refl

pub or_left : (a b : Bool) → (a || b) ≡ false → a ≡ false
or_left true b e = e
or_left false b e = refl

pub or_right : (a b : Bool) → (a || b) ≡ false → b ≡ false
or_right true b e = cc
or_right false b e = e

-- One of two tests passed: which, and either of them.
pub or_cases : (a b : Bool) → (a || b) ≡ true → (a ≡ true) ⊎ (b ≡ true)
or_cases true b e = inl refl
or_cases false b e = inr e

pub or_by-left : (a b : Bool) → a ≡ true → (a || b) ≡ true
or_by-left a b e = rw e refl

pub or_by-right : (a b : Bool) → b ≡ true → (a || b) ≡ true
or_by-right a b e = rw e (or-true a)

-- A test beside one that passes wherever it does says nothing new.
pub or_absorb : (a b : Bool) → (b ≡ true → a ≡ true) → a ≡ (a || b)
or_absorb true b h = refl
or_absorb false true h = h refl
or_absorb false false h = refl

-- Tests of numbers: of two equalities that mean each other, and of a number above zero.
pub eqb_same : (a b c d : ℕ) → (a ≡ b → c ≡ d) → (c ≡ d → a ≡ b) → eqb a b ≡ eqb c d
eqb_same a b c d f g = test_same (eqb a b) (eqb c d) (λ e. eq-eqb c d (f (eqb-true a b e))) (λ e. eq-eqb a b (g (eqb-true c d e)))

pub not_positive : (n : ℕ) → not (ltb 0 n) ≡ eqb n 0
not_positive n = go (ltb 0 n) refl
  where
    go : (t : Bool) → ltb 0 n ≡ t → not t ≡ eqb n 0
    go true e = sym (ne_eqb n 0 (λ z. omega (arith, ltb-true 0 n e)))
    go false e = sym (eq-eqb n 0 (omega (arith, ltb-false 0 n e)))
