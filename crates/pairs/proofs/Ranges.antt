-- A range over two lists: pairs below the low key do not count, and after a first list that holds a key above the high one, or
-- as many pairs as wanted, the second does not count. Assumes nothing.
use Rattle.std.specs.Prelude.{◌≡◌, ◌⊎◌, ltb}
use Rattle.std.proofs.Math.Path.{refl}
use Rattle.std.proofs.Common.{◌∙◌, inl, inr, ltb-false, le-ltb}
use Rattle.std.proofs.Math.Bool.{true, false}
use mathlib.Core.List.{List, [], ◌∷◌, ◌++◌}
use Prim.Native.Nat.{ℕ, zero, suc, ◌-◌, ◌≤◌, ◌<◌}
use Rattle.std.proofs.Math.Nat.{sub-zero, suc-sub-suc}
use native.Mathlib.Omega.{arith}
use Rattle.std.proofs.Math.ListN.{length}
use Rattle.laws.specs.Tests.{or_left, or_right, test_clash}
use Rattle.laws.specs.Order.{le_or}
use Rattle.pairs.specs.Pairs.{Pair, range, has_above, Within}
use Rattle.pairs.specs.Clauses.{range_skip, range_stop, range-take}

module _ (low high : ℕ) where
  pub length-range : (most : ℕ) (ps : List Pair) → length (range low high most ps) ≤ most
  unfolding range
  length-range zero ps = omega arith
  length-range (suc most) [] = omega arith
  length-range (suc most) (p ∷ ps) = go (le_or low p.0) (le_or p.0 high) (length-range (suc most) ps) (length-range most ps)
    where
      go : (low ≤ p.0) ⊎ (p.0 < low) → (p.0 ≤ high) ⊎ (high < p.0) → length (range low high (suc most) ps) ≤ suc most →
          length (range low high most ps) ≤ most → length (range low high (suc most) (p ∷ ps)) ≤ suc most
      go (inr l) h r s = rw (range_skip low high most p ps l) r
      go (inl l) (inr h) r s = rw (range_stop low high most p ps l h) (omega arith)
      go (inl l) (inl h) r s = rw (range-take low high most p ps l h) (omega arith)

  -- low above high
  pub range_none : (most : ℕ) (ps : List Pair) → high < low → range low high most ps ≡ []
  unfolding range
  range_none zero ps g = refl
  range_none (suc most) [] g = refl
  range_none (suc most) (p ∷ ps) g = go (le_or low p.0) (range_none (suc most) ps g)
    where
      go : (low ≤ p.0) ⊎ (p.0 < low) → range low high (suc most) ps ≡ [] → range low high (suc most) (p ∷ ps) ≡ []
      go (inl l) r = range_stop low high most p ps l (omega arith)
      go (inr l) r = range_skip low high most p ps l ∙ r

  pub range-append-below : (most bottom top : ℕ) (ps qs : List Pair) → top ≤ low → Within bottom top ps →
      range low high most (ps ++ qs) ≡ range low high most qs
  unfolding range Within
  range-append-below zero bottom top ps qs g w = refl
  range-append-below (suc most) bottom top [] qs g w = refl
  range-append-below (suc most) bottom top (p ∷ ps) qs g w =
      range_skip low high most p (ps ++ qs) (omega arith) ∙ range-append-below (suc most) (suc p.0) top ps qs g w.2

  -- the first list has a key above the high one
  pub range-append_stop : (most : ℕ) (ps qs : List Pair) → low ≤ high → has_above high ps ≡ true → range low high most (ps ++ qs) ≡ range low high most ps
  unfolding range has_above
  range-append_stop zero ps qs g e = refl
  range-append_stop (suc most) [] qs g e = absurd (test_clash (has_above high []) e refl)
  range-append_stop (suc most) (p ∷ ps) qs g e =
      go (le_or low p.0) (le_or p.0 high) (range-append_stop (suc most) ps qs g) (range-append_stop most ps qs g)
    where
      later : p.0 ≤ high → has_above high ps ≡ true
      later l = rw (le-ltb high p.0 l) at e

      go : (low ≤ p.0) ⊎ (p.0 < low) → (p.0 ≤ high) ⊎ (high < p.0) →
          (has_above high ps ≡ true → range low high (suc most) (ps ++ qs) ≡ range low high (suc most) ps) →
          (has_above high ps ≡ true → range low high most (ps ++ qs) ≡ range low high most ps) →
          range low high (suc most) (p ∷ ps ++ qs) ≡ range low high (suc most) (p ∷ ps)
      go (inr l) h r s = rw (range_skip low high most p ps l, range_skip low high most p (ps ++ qs) l) (r (later (omega arith)))
      go (inl l) (inr h) r s = rw (range_stop low high most p ps l h, range_stop low high most p (ps ++ qs) l h)
      go (inl l) (inl h) r s = rw (range-take low high most p ps l h, range-take low high most p (ps ++ qs) l h, s (later h))

  -- the first list gives all that are wanted
  pub range-append-full : (most : ℕ) (ps qs : List Pair) → most ≤ length (range low high most ps) → range low high most (ps ++ qs) ≡ range low high most ps
  unfolding range
  range-append-full zero ps qs g = refl
  range-append-full (suc most) [] qs g = absurd (omega arith)
  range-append-full (suc most) (p ∷ ps) qs g =
      go (le_or low p.0) (le_or p.0 high) (range-append-full (suc most) ps qs) (range-append-full most ps qs)
    where
      go : (low ≤ p.0) ⊎ (p.0 < low) → (p.0 ≤ high) ⊎ (high < p.0) →
          (suc most ≤ length (range low high (suc most) ps) → range low high (suc most) (ps ++ qs) ≡ range low high (suc most) ps) →
          (most ≤ length (range low high most ps) → range low high most (ps ++ qs) ≡ range low high most ps) →
          range low high (suc most) (p ∷ ps ++ qs) ≡ range low high (suc most) (p ∷ ps)
      go (inr l) h r s =
          rw (range_skip low high most p ps l, range_skip low high most p (ps ++ qs) l) (r (rw (range_skip low high most p ps l) at g))
      go (inl l) (inr h) r s = rw (range_stop low high most p ps l h, range_stop low high most p (ps ++ qs) l h)
      go (inl l) (inl h) r s =
          let m : most ≤ length (range low high most ps) = omega (arith, rw (range-take low high most p ps l h) at g) in
          rw (range-take low high most p ps l h, range-take low high most p (ps ++ qs) l h, s m)

  -- the first list does not end the range
  pub range-append_on : (most : ℕ) (ps qs : List Pair) → has_above high ps ≡ false →
      range low high most (ps ++ qs) ≡ range low high most ps ++ range low high (most - length (range low high most ps)) qs
  unfolding range has_above
  range-append_on zero ps qs e = refl
  range-append_on (suc most) [] qs e = rw sub-zero
  range-append_on (suc most) (p ∷ ps) qs e =
      go (le_or low p.0) (range-append_on (suc most) ps qs later) (range-append_on most ps qs later)
    where
      later : has_above high ps ≡ false
      later = or_right (ltb high p.0) (has_above high ps) e

      here : p.0 ≤ high
      here = ltb-false high p.0 (or_left (ltb high p.0) (has_above high ps) e)

      go : (low ≤ p.0) ⊎ (p.0 < low) →
          range low high (suc most) (ps ++ qs) ≡ range low high (suc most) ps ++ range low high (suc most - length (range low high (suc most) ps)) qs →
          range low high most (ps ++ qs) ≡ range low high most ps ++ range low high (most - length (range low high most ps)) qs →
          range low high (suc most) (p ∷ ps ++ qs) ≡
          range low high (suc most) (p ∷ ps) ++ range low high (suc most - length (range low high (suc most) (p ∷ ps))) qs
      go (inr l) r s = rw (range_skip low high most p ps l, range_skip low high most p (ps ++ qs) l) r
      go (inl l) r s = rw (range-take low high most p ps l here, range-take low high most p (ps ++ qs) l here, suc-sub-suc, s)
