-- Numbers that all differ: none stands again behind itself. A sorted list tells it by its neighbours. Assumes nothing.
use Rattle.std.specs.Prelude.{◌≡◌, refl, Bool, true, false, ◌&&◌, ◌⊎◌, List, [], ◌∷◌, ℕ, ◌+◌, ◌≤◌, eqb}
use Rattle.std.proofs.Common.{sym, ap, ◌∙◌, inl, inr, arith, eqb-true, eq-eqb, ne_eqb}
use Rattle.laws.specs.Tests.{and_left, and_right, and_both}
use Rattle.laws.specs.Order.{eq_or}
use Rattle.laws.specs.Counts.{bit, bit_le_one, count, Reordered}
use Rattle.mount_sequences.specs.Ascend.{Ascends}
use Rattle.mount_sequences.specs.Digits.{self}
use Rattle.mount_sequences.specs.Strict.{is, strict, strict_once, once_strict}

unfoldable pub differs : List ℕ → Bool
differs [] = true
differs (x ∷ xs) = eqb (count (is x) xs) 0 && differs xs

differs_once : (xs : List ℕ) → differs xs ≡ true → (v : ℕ) → count (is v) xs ≤ 1
unfolding differs
differs_once [] e v = omega arith
differs_once (x ∷ xs) e v = go (eq_or x v) (differs_once xs (and_right (eqb (count (is x) xs) 0) (differs xs) e) v)
  where
    none : count (is x) xs ≡ 0
    none = eqb-true (count (is x) xs) 0 (and_left (eqb (count (is x) xs) 0) (differs xs) e)

    go : (x ≡ v) ⊎ (x ≡ v → ⊥) → count (is v) xs ≤ 1 → bit (is v x) + count (is v) xs ≤ 1
    go (inl q) r = omega (arith, bit_le_one (is v x), none, ap (λ z. count (is z) xs) q)
    go (inr q) r = omega (arith, ap bit (ne_eqb x v q))

once_differs : (xs : List ℕ) → ((v : ℕ) → count (is v) xs ≤ 1) → differs xs ≡ true
unfolding differs
once_differs [] h = refl
once_differs (x ∷ xs) h =
    and_both (eqb (count (is x) xs) 0) (differs xs) (eq-eqb (count (is x) xs) 0 (omega (arith, h x, ap bit (eq-eqb x x refl))))
    (once_differs xs (λ v. omega (arith, h v)))

-- THE NEIGHBOURS OF A SORTED LIST tell whether the numbers of the list differ.
pub strict-differs : (sorted xs : List ℕ) → Reordered sorted xs → Ascends self sorted → strict sorted ≡ differs xs
strict-differs sorted xs same a = go (strict sorted) refl (differs xs) refl
  where
    go : (s : Bool) → strict sorted ≡ s → (d : Bool) → differs xs ≡ d → s ≡ d
    go true e true f = refl
    go false e false f = refl
    go true e false f = sym (once_differs xs (λ v. omega (arith, same (is v), strict_once sorted e v))) ∙ f
    go false e true f = sym e ∙ once_strict sorted a (λ v. omega (arith, same (is v), differs_once xs f v))
