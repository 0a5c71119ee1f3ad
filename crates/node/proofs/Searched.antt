-- What std's searches say of the keys of a node is what the search of a node says. Assumes nothing.
use Rattle.std.proofs.Common.{◌≡◌, true, false, List, ◌⊎◌, ℕ, suc, ◌-◌, ◌≤◌, ◌<◌, leb, length, get_or, take, Result, Ok, Err, MatchResult, nat_cmp, refl, sym, ◌∙◌, inl, inr, arith, length-take-le, get_or-take, leb-true, leb-false}
use Rattle.std.specs.List.Sorted.{IsBinarySearchResult, IsPartitionPoint, IsPartitionedBy}
use Rattle.std.proofs.lemmas.List.Sorted.{searched, IsPartitionedBy-leb, IsNonDecreasingBy-from_default}
use Rattle.laws.specs.Order.{le_or}
use Rattle.layout.specs.Layout.{bound32}
use Rattle.node.specs.declared.NodeValue.{NodeValue}
use Rattle.node.specs.Found.{found}
use Rattle.node.specs.FoundIn.{found_in_at, found_in_above}
use Rattle.node.specs.Repoint.{place-key_at}
use Rattle.node.specs.Search.{key_at, child_place, lt_place}
use Rattle.node.specs.Value.{pairs_in, Held, length-pairs_in, key_at-pairs_in, place-value}

module _ (v : NodeValue) (h : Held v) where
  -- its keys, as the code lends them
  abbrev keys : List ℕ
  keys = take v.count v.keys

  size : length keys ≡ v.count
  size = length-take-le v.count v.keys (omega (arith, h.sized.size, h.sized.key_room))

  key-is : (i : ℕ) → i < v.count → get_or keys i 0 ≡ get_or v.keys i 0
  key-is i l = get_or-take v.count v.keys i 0 l

  -- They rise.
  rise : (i j : ℕ) → i ≤ j → j < length keys → get_or keys i 0 ≤ get_or keys j 0
  rise i j l m = go (le_or (get_or keys i 0) (get_or keys j 0))
    where
      inside : j < v.count
      inside = omega (arith, m, size)

      go : (get_or keys i 0 ≤ get_or keys j 0) ⊎ (get_or keys j 0 < get_or keys i 0) → get_or keys i 0 ≤ get_or keys j 0
      go (inl t) = t
      go (inr t) =
          let e = length-pairs_in v h.sized in
          let n = inside in
          let a = key_at-pairs_in v h.sized i (omega arith) in
          let b = key_at-pairs_in v h.sized j inside in
          let f = key-is i (omega arith) in
          let g = key-is j inside in
          let p = place-key_at 0 bound32 (pairs_in v) i h.ascending (omega arith) in
          let q = lt_place (key_at (pairs_in v) i) 0 bound32 (pairs_in v) j h.ascending (omega arith) (omega arith) in
          absurd (omega arith)

  pub found-searched : (key : ℕ) (r : Result ℕ ℕ) → IsBinarySearchResult (λ y. nat_cmp y key) keys r → r ≡ found key (pairs_in v)
  found-searched key r b = go r (searched keys key r b rise)
    where
      go :
          (r : Result ℕ ℕ) →
          MatchResult r (λ i. (i < length keys) × (get_or keys i 0 ≡ key))
          (λ i. (i ≤ length keys) × ((k : ℕ) → k < i → get_or keys k 0 < key) × ((k : ℕ) → i ≤ k → k < length keys → key < get_or keys k 0)) →
          r ≡ found key (pairs_in v)
      go (Ok i) m =
          let l : i < v.count = omega (arith, size) in
          sym ((found_in_at v.keys v.count key i l (sym (key-is i l) ∙ m.1)).is v h refl refl)
      go (Err i) m =
          sym ((found_in_above v.keys v.count key i (omega (arith, size)) (λ z. omega (arith, m.1 (i - 1) (omega arith), key-is (i - 1) (omega (arith, size))))
          (λ z. omega (arith, m.2 i (omega arith) (omega (arith, size)), key-is i z))).is v h refl refl)

  pub keys-partitioned : (key : ℕ) → IsPartitionedBy (λ y. leb y key) keys
  keys-partitioned key = IsPartitionedBy-leb (λ y. y) keys key (IsNonDecreasingBy-from_default (λ y. y) keys 0 rise)

  pub child_place-partitioned :
      (key i : ℕ) → i ≤ length keys → IsPartitionPoint (λ y. leb y key ≡ true) (λ y. leb y key ≡ false) keys i →
      (i ≡ child_place key (pairs_in v)) × (i ≤ v.count)
  child_place-partitioned key i l p = (
    place-value v h (suc key) i (omega (arith, size))
        (λ z. omega (arith, leb-true _ key (p.0 (i - 1) 0 (omega arith) (omega arith)), key-is (i - 1) (omega (arith, size))))
        (λ z. omega (arith, leb-false _ key (p.1 i 0 (omega arith) (omega (arith, size))), key-is i z)),
    omega (arith, size),
  )
