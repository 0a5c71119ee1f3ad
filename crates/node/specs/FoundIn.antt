-- What a search in the keys alone finds, whatever the pointers beside them are. Assumes nothing.
use Rattle.std.specs.Prelude.{◌≡◌, List, ◌⊎◌, ℕ, ◌-◌, ◌≤◌, ◌<◌, get_or, Result, Ok, Err}
use Rattle.std.proofs.Common.{sym, ap, ◌∙◌, inl, inr, arith}
use Rattle.laws.specs.Order.{le_or}
use Rattle.layout.specs.Layout.{bound32}
use Rattle.node.specs.declared.NodeValue.{NodeValue}
use Rattle.node.specs.Found.{found}
use Rattle.node.specs.Search.{place}
use Rattle.node.specs.Value.{pairs_in, Held, length-pairs_in, key_at-pairs_in, place-value, found-at-value, found-above-value, found_end_value}
use Rattle.node.specs.Repoint.{place-key_at}

-- Every node with these keys, ascending, has the key where the answer says.
pub record FoundIn (keys : List ℕ) (count key : ℕ) (r : Result ℕ ℕ) : Type 0 where
  pub is : (v : NodeValue) → Held v → v.keys ≡ keys → v.count ≡ count → found key (pairs_in v) ≡ r

-- The key stands at the place.
pub found_in_at : (keys : List ℕ) (count key i : ℕ) → i < count → get_or keys i 0 ≡ key → FoundIn keys count key (Ok i)
found_in_at keys count key i l e = record { is = go }
  where
    go : (v : NodeValue) → Held v → v.keys ≡ keys → v.count ≡ count → found key (pairs_in v) ≡ Ok i
    go v h k n =
        let inside : i < v.count = omega arith in
        let same : get_or v.keys i 0 ≡ key = ap (λ (ks : List ℕ). get_or ks i 0) k ∙ e in
        let own = place-key_at 0 bound32 (pairs_in v) i h.ascending (omega (arith, length-pairs_in v h.sized)) in
        let here = own ∙ ap (λ (j : ℕ). place j (pairs_in v)) (key_at-pairs_in v h.sized i inside ∙ same) in
        sym (found-at-value v h key i here inside same)

-- The key before the place is below it, and the key there above it.
module _ (keys : List ℕ) (count key i : ℕ) (l : i ≤ count) (before : 0 < i → get_or keys (i - 1) 0 < key) (behind : i < count → key < get_or keys i 0) where
  above : (v : NodeValue) → Held v → v.keys ≡ keys → v.count ≡ count → found key (pairs_in v) ≡ Err i
  above v h k n = go (le_or count i)
    where
      same : (j : ℕ) → get_or v.keys j 0 ≡ get_or keys j 0
      same j = ap (λ (ks : List ℕ). get_or ks j 0) k

      here : i ≡ place key (pairs_in v)
      here =
          place-value v h key i (omega arith) (λ z. omega (arith, same (i - 1), before z))
          (λ z. omega (arith, same i, behind (omega arith)))

      go : (count ≤ i) ⊎ (i < count) → found key (pairs_in v) ≡ Err i
      go (inl m) = sym (found_end_value v h key i here (omega arith))
      go (inr m) = sym (found-above-value v h key i here (omega arith) (λ e. omega (arith, same i, behind m)))

  pub found_in_above : FoundIn keys count key (Err i)
  found_in_above = record { is = above }
