-- The change that makes the pointer at a place name another node: at a key, kind 1 with that key; behind all keys, the link
-- (document 01: "the old pointer to the left names the right"). Assumes nothing.
use Rattle.std.specs.Prelude.{◌≡◌, true, false, ℕ, zero, suc, ◌≤◌, ◌<◌, ltb, set, List, [], ◌∷◌, length}
use Rattle.std.proofs.Common.{sym, ap, ◌∙◌, arith, lt-ltb, le-ltb}
use Rattle.layout.specs.Layout.{bound32}
use Rattle.pairs.specs.Pairs.{Pair, insert, Within}
use Rattle.pairs.proofs.Bounds.{within_insert}
use Rattle.node.specs.declared.NodeValue.{NodeValue}
use Rattle.node.specs.Node.{Node, node}
use Rattle.node.specs.Change.{Change, put, link, change}
use Rattle.node.specs.Search.{place, key_at, place-first, place-below, within_key_at, insert-present}
use Rattle.node.specs.Value.{pairs_in, node_of, Held, Stands, Becomes, length-pairs_in}
use Rattle.node.specs.Edits.{becomes}

unfoldable pub repoint : ℕ → ℕ → Node → Change
repoint at p (node shape ps l) = elim (ltb at (length ps)) [ true ↦ put (key_at ps at) p | false ↦ link shape p ]

-- Every key of an ascending list stands at its own place.
pub place-key_at : (low high : ℕ) (ps : List Pair) (i : ℕ) → Within low high ps → i < length ps → i ≡ place (key_at ps i) ps
unfolding Within
place-key_at low high [] i w l = absurd (omega arith)
place-key_at low high (p ∷ ps) zero w l = sym (place-first p.0 p ps (omega arith))
place-key_at low high (p ∷ ps) (suc i) w l =
    let above = within_key_at (suc p.0) high ps i w.2 (omega arith) in
    ap suc (place-key_at (suc p.0) high ps i w.2 (omega arith)) ∙ sym (place-below (key_at ps i) p ps (omega arith))

-- A put at the key of a place replaces the pointer there.
pub insert-key_at :
    (low high : ℕ) (ps : List Pair) (i p : ℕ) → Within low high ps → i < length ps → insert (key_at ps i) p ps ≡ set ps i (key_at ps i, p)
insert-key_at low high ps i p w l =
    let e = place-key_at low high ps i w l in
    insert-present (key_at ps i) p ps (record { inside = omega arith; equal = ap (key_at ps) (sym e) }) ∙
    ap (λ (j : ℕ). set ps j (key_at ps i, p)) (sym e)

module _ (v r : NodeValue) (h : Held v) (at p : ℕ) where
  pub becomes_repointed :
      at < v.count → Stands r (node v.shape (set (pairs_in v) at (key_at (pairs_in v) at, p)) v.link) →
      Becomes r (change (repoint at p (node_of v)) (node_of v))
  unfolding repoint
  becomes_repointed l s =
      let ps = pairs_in v in
      let k : at < length ps = omega (arith, length-pairs_in v h.sized) in
      rw (lt-ltb at (length ps) k, repoint)
      (becomes r _ _ s (ap (λ (qs : List Pair). node v.shape qs v.link) (sym (insert-key_at 0 bound32 ps at p h.ascending k)))
      (within_insert (key_at ps at) p 0 bound32 ps (omega arith) (within_key_at 0 bound32 ps at h.ascending k).1 h.ascending))

  pub becomes_last :
      v.count ≤ at → Becomes r (change (link v.shape p) (node_of v)) → Becomes r (change (repoint at p (node_of v)) (node_of v))
  unfolding repoint
  becomes_last l b =
      let k : length (pairs_in v) ≤ at = omega (arith, length-pairs_in v h.sized) in
      rw (le-ltb at (length (pairs_in v)) k, repoint) b
