-- Ids counted: 1 at an id itself and 0 elsewhere; 1 at the ids in use and 0 at the others. "Every id reached once" is then an
-- equation between numbers. Assumes nothing.
use Rattle.std.specs.Prelude.{◌≡◌, refl, ℕ, suc, ◌+◌, ◌≤◌, ◌<◌, eqb, ltb}
use Rattle.std.proofs.Common.{arith, lt-ltb, le-ltb, eq-eqb, ne_eqb}
use Rattle.laws.specs.Counts.{bit, bit_le_one}
use Rattle.laws.specs.Order.{Tri, less, same, more, tri}

pub id_same : (i id : ℕ) → i ≡ id → bit (eqb i id) ≡ 1
id_same i id e = rw (eq-eqb i id e)

pub id-self : (id : ℕ) → bit (eqb id id) ≡ 1
id-self id = id_same id id refl

pub id_other : (i id : ℕ) → (i ≡ id → ⊥) → bit (eqb i id) ≡ 0
id_other i id e = rw (ne_eqb i id e)

pub used_in : (count i : ℕ) → i < count → bit (ltb i count) ≡ 1
used_in count i l = rw (lt-ltb i count l)

pub used_out : (count i : ℕ) → count ≤ i → bit (ltb i count) ≡ 0
used_out count i l = rw (le-ltb i count l)

pub used_le : (count i : ℕ) → bit (ltb i count) ≤ 1
used_le count i = bit_le_one (ltb i count)

pub used-below : (count i : ℕ) → 1 ≤ bit (ltb i count) → i < count
used-below count i l = go (tri i count)
  where
    go : Tri i count → i < count
    go (less h) = h
    go (same h) = absurd (omega (arith, used_out count i (omega arith)))
    go (more h) = absurd (omega (arith, used_out count i (omega arith)))

pub used-suc : (count i : ℕ) → bit (ltb i (suc count)) ≡ bit (ltb i count) + bit (eqb i count)
used-suc count i = go (tri i count)
  where
    go : Tri i count → bit (ltb i (suc count)) ≡ bit (ltb i count) + bit (eqb i count)
    go (less h) = omega (arith, used_in count i h, used_in (suc count) i (omega arith), id_other i count (omega arith))
    go (same h) = omega (arith, used_out count i (omega arith), used_in (suc count) i (omega arith), id_same i count h)
    go (more h) = omega (arith, used_out count i (omega arith), used_out (suc count) i (omega arith), id_other i count (omega arith))
