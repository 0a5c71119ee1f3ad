-- Whether the keys of a node ascend, as a test (document 01, "Sound": keys ascending and in bounds). Assumes nothing.
use Rattle.std.specs.Prelude.{◌≡◌, Bool, true, false, ◌&&◌, leb, ltb, length, drop, List, [], ◌∷◌, ℕ, zero, suc, ◌≤◌, ◌<◌}
use Rattle.std.proofs.Common.{refl, arith, drop_of_length-le, lt-ltb, le-ltb, le-leb, leb-true, ltb-true}
use borrow.Author.Tests.{lt-leb}
use Rattle.laws.specs.Tests.{and_left, and_right}
use Rattle.pairs.specs.Pairs.{Pair, Within}
use Rattle.node.specs.Search.{key_at}

-- Keys ascending and in bounds, from low up to below high: the test of `Within`.
unfoldable pub ascends : ℕ → ℕ → List Pair → Bool
ascends low high [] = true
ascends low high (p ∷ ps) = leb low p.0 && (ltb p.0 high && ascends (suc p.0) high ps)

pub ascends_within : (low high : ℕ) (ps : List Pair) → ascends low high ps ≡ true → Within low high ps
unfolding ascends Within
ascends_within low high [] e = tt
ascends_within low high (p ∷ ps) e =
    let rest = and_right (leb low p.0) (ltb p.0 high && ascends (suc p.0) high ps) e in (
      leb-true low p.0 (and_left (leb low p.0) (ltb p.0 high && ascends (suc p.0) high ps) e),
      ltb-true p.0 high (and_left (ltb p.0 high) (ascends (suc p.0) high ps) rest),
      ascends_within (suc p.0) high ps (and_right (ltb p.0 high) (ascends (suc p.0) high ps) rest),
    )

pub within_ascends : (low high : ℕ) (ps : List Pair) → Within low high ps → ascends low high ps ≡ true
unfolding ascends Within
within_ascends low high [] w = refl
within_ascends low high (p ∷ ps) w =
    rw (le-leb low p.0 w.0, lt-ltb p.0 high w.1) (within_ascends (suc p.0) high ps w.2)

-- The walk along the keys: at each place the test goes on, or has failed.
module _ (least high : ℕ) where
  pub ascends_low : (ps : List Pair) (i : ℕ) → i < length ps → key_at ps i < least → ascends least high (drop i ps) ≡ false
  unfolding ascends
  ascends_low [] i l h = absurd (omega arith)
  ascends_low (p ∷ ps) zero l h = rw (lt-leb least p.0 h)
  ascends_low (p ∷ ps) (suc i) l h = ascends_low ps i (omega arith) h

  pub ascends_high :
      (ps : List Pair) (i : ℕ) → i < length ps → least ≤ key_at ps i → high ≤ key_at ps i → ascends least high (drop i ps) ≡ false
  unfolding ascends
  ascends_high [] i l h k = absurd (omega arith)
  ascends_high (p ∷ ps) zero l h k = rw (le-leb least p.0 h, le-ltb p.0 high k)
  ascends_high (p ∷ ps) (suc i) l h k = ascends_high ps i (omega arith) h k

  pub ascends-next :
      (ps : List Pair) (i : ℕ) → i < length ps → least ≤ key_at ps i → key_at ps i < high →
      ascends least high (drop i ps) ≡ ascends (suc (key_at ps i)) high (drop (suc i) ps)
  unfolding ascends
  ascends-next [] i l h k = absurd (omega arith)
  ascends-next (p ∷ ps) zero l h k = rw (le-leb least p.0 h, lt-ltb p.0 high k)
  ascends-next (p ∷ ps) (suc i) l h k = ascends-next ps i (omega arith) h k

  pub ascends_end : (ps : List Pair) (i : ℕ) → length ps ≤ i → ascends least high (drop i ps) ≡ true
  unfolding ascends
  ascends_end ps i h = rw (drop_of_length-le ps h)
