-- What std's copy within a slice makes of one array: the list with an element put in at a place, or taken out there. Assumes nothing.
use Rattle.std.proofs.Common.{◌≡◌, List, ◌⊎◌, ℕ, suc, ◌+◌, ◌-◌, ◌≤◌, ◌<◌, length, get_or, take, set, ◌≢◌, sym, ap, ◌∙◌, inl, inr, arith, length-take-le, get_or-take, get_or-set_same, get_or-set_other, length-set}
use Rattle.std.proofs.lemmas.List.{same_lists}
use Rattle.std.specs.List.{CopiedTo, SameBelow}
use Rattle.laws.specs.Order.{Tri, less, same, more, tri, le_or}
use Rattle.node.specs.Splice.{insert_at, remove_at, length-insert_at, length-remove_at, get_or-insert_at-before, get_or-insert_at_same, get_or-insert_at-after, get_or-remove_at-before, get_or-remove_at-behind}

module _ {A : Type 0} (xs ys : List A) (n at : ℕ) (long : length ys ≡ length xs) where
  module _ (x : A) (l : at ≤ n) (m : n < length xs) (copied : CopiedTo xs ys at (at + 1) (n - at)) (below : SameBelow xs ys (at + 1)) where
    size : length (take n xs) ≡ n
    size = length-take-le n xs (omega arith)

    element : (k : ℕ) (d : A) → k < n + 1 → Tri k at → get_or (set ys at x) k d ≡ get_or (insert_at at x (take n xs)) k d
    element k d h (less t) =
        let other : k ≢ at = omega arith in
        get_or-set_other ys at k x d other ∙ below k d (omega arith) ∙
        sym (get_or-insert_at-before x d at k (take n xs) t (omega (arith, size)) ∙ get_or-take n xs k d (omega arith))
    element k d h (same t) =
        ap (λ (j : ℕ). get_or (set ys at x) j d) t ∙ get_or-set_same ys at x d (omega (arith, long)) ∙
        sym (ap (λ (j : ℕ). get_or (insert_at at x (take n xs)) j d) t ∙ get_or-insert_at_same x d at (take n xs) (omega (arith, size)))
    element k d h (more t) =
        let other : k ≢ at = omega arith in
        let from : at + (k - (at + 1)) ≡ k - 1 = omega arith in
        get_or-set_other ys at k x d other ∙ copied k d (omega arith) (omega arith) ∙ ap (λ (j : ℕ). get_or xs j d) from ∙
        sym (get_or-insert_at-after x d at k (take n xs) t (omega (arith, size)) ∙ get_or-take n xs (k - 1) d (omega arith))

    pub insert_at-copied : take (n + 1) (set ys at x) ≡ insert_at at x (take n xs)
    insert_at-copied =
        let few : n + 1 ≤ length (set ys at x) = omega (arith, long, length-set ys at x) in
        let long' = length-take-le (n + 1) (set ys at x) few in
        same_lists _ _ (omega (arith, long', length-insert_at at x (take n xs), size))
        (λ k d h. get_or-take (n + 1) (set ys at x) k d (omega (arith, long')) ∙ element k d (omega (arith, long')) (tri k at))

  module _ (l : at < n) (m : n ≤ length xs) (copied : CopiedTo xs ys (at + 1) at (n - (at + 1))) (below : SameBelow xs ys at) where
    size' : length (take n xs) ≡ n
    size' = length-take-le n xs m

    element' : (k : ℕ) (d : A) → k < n - 1 → (at ≤ k) ⊎ (k < at) → get_or ys k d ≡ get_or (remove_at at (take n xs)) k d
    element' k d h (inr t) =
        below k d t ∙ sym (get_or-remove_at-before d at k (take n xs) t (omega (arith, size')) ∙ get_or-take n xs k d (omega arith))
    element' k d h (inl t) =
        let from : at + 1 + (k - at) ≡ suc k = omega arith in
        copied k d t (omega arith) ∙ ap (λ (j : ℕ). get_or xs j d) from ∙
        sym (get_or-remove_at-behind d at k (take n xs) t (omega (arith, size')) ∙ get_or-take n xs (suc k) d (omega arith))

    pub remove_at-copied : take (n - 1) ys ≡ remove_at at (take n xs)
    remove_at-copied =
        let long' = length-take-le (n - 1) ys (omega (arith, long)) in
        same_lists _ _ (omega (arith, long', length-remove_at at (take n xs) (omega (arith, size')), size'))
        (λ k d h. get_or-take (n - 1) ys k d (omega (arith, long')) ∙ element' k d (omega (arith, long')) (le_or at k))
