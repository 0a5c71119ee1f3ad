-- The code's question whether a pair fits is the tree's question whether at most 24 keys come of it. Assumes nothing.
use Rattle.std.specs.Prelude.{◌≡◌, ◌⊎◌, List, ℕ, ◌≤◌, ◌<◌, Ok, Err}
use Rattle.std.proofs.Math.Path.{refl, ap, subst}
use Rattle.std.proofs.Common.{sym, ◌∙◌, arith, lt-ltb, le-ltb, length-set}
use Rattle.std.proofs.Math.Logic.{inl, inr}
use Rattle.std.proofs.Math.ListN.{length}
use Rattle.laws.specs.Order.{eq_or, le_or}
use Rattle.laws.specs.Options.{none_some}
use Rattle.layout.specs.Layout.{most_keys, bound32}
use Rattle.pairs.specs.Pairs.{Pair, insert, Within}
use Rattle.pairs.proofs.Sizes.{length-insert}
use Rattle.pairs.proofs.Bounds.{within_insert}
use Rattle.pairs.proofs.MapLaws.{lookup-insert}
use Rattle.node.specs.declared.Shape.TheVariants.{Branch}
use Rattle.node.specs.Node.{Node, node, pairs_of}
use Rattle.node.specs.Change.{put, change}
use Rattle.node.specs.Splice.{length-insert_at}
use Rattle.node.specs.Search.{place, key_at, Present, Absent, present_or, insert-present, insert-absent, within_key_at, lookup_absent}
use Rattle.node.specs.Found.{found-present, found-absent, above-absent}
use Rattle.node.specs.Repoint.{repoint, place-key_at}
use Rattle.node.specs.BothEdits.{repoint-put}
use Rattle.node.specs.Fit.{fit_of, fit_at, fit_full, full-above, room-full}

-- A pair that fits, and one that does not.
module _ (key value : ℕ) (ps : List Pair) where
  length-present : Present key ps → length (insert key value ps) ≡ length ps
  length-present p = ap length (insert-present key value ps p) ∙ length-set ps (place key ps) (key, value)

  pub full_size : (at : ℕ) → fit_of key ps ≡ Err at → most_keys < length (insert key value ps)
  full_size at e =
      let f = full-above key ps at e in
      omega (
        arith,
        f.1,
        ap length (insert-absent key value ps (above-absent key ps at f.0)),
        length-insert_at (place key ps) (key, value) ps,
      )

  pub room-size : length ps ≤ most_keys → fit_of key ps ≡ Ok tt → length (insert key value ps) ≤ most_keys
  room-size l e = go (present_or key ps)
    where
      below : Absent key ps → (most_keys ≤ length ps) ⊎ (length ps < most_keys) → length (insert key value ps) ≤ most_keys
      below a (inl m) = absurd (room-full (place key ps) (sym e ∙ fit_full key ps (place key ps) (found-absent key ps a) m))
      below a (inr m) = omega (arith, length-insert key value ps)

      go : Present key ps ⊎ Absent key ps → length (insert key value ps) ≤ most_keys
      go (inl p) = omega (arith, length-present p)
      go (inr a) = below a (le_or most_keys (length ps))

module _ (key value : ℕ) (ps : List Pair) (low high : ℕ) (w : Within low high (insert key value ps)) where
  put-present : Present key (insert key value ps)
  put-present = go (present_or key (insert key value ps))
    where
      go : Present key (insert key value ps) ⊎ Absent key (insert key value ps) → Present key (insert key value ps)
      go (inl p) = p
      go (inr a) = absurd (none_some (sym (lookup_absent key low high (insert key value ps) w a) ∙ lookup-insert key value ps))

  put-room : fit_of key (insert key value ps) ≡ Ok tt
  put-room = fit_at key (insert key value ps) (place key (insert key value ps)) (found-present key (insert key value ps) put-present)

-- The pairs after a put.
pub pairs-put : (k v : ℕ) (n : Node) → pairs_of (change (put k v) n) ≡ insert k v (pairs_of n)
pairs-put k v (node shape qs l) = refl

-- A branch with both edits of a child's split: the pointer renamed first, as the code has it, or last, as the tree has it.
module _ (at middle left right : ℕ) (ps : List Pair) (last : ℕ) (w : Within 0 bound32 ps) (size : length ps ≤ most_keys) where
  abbrev branch : Node
  branch = node Branch ps last

  abbrev renamed : Node
  renamed = change (repoint at right branch) branch

  abbrev put_last : Node
  put_last = change (put middle left) renamed

  abbrev put_first : Node
  put_first = change (repoint at right branch) (change (put middle left) branch)

  module _ (inside : at < length ps) where
    abbrev old : ℕ
    old = key_at ps at

    old-small : old < bound32
    old-small = (within_key_at 0 bound32 ps at w inside).1

    put_within : (p : ℕ) → Within 0 bound32 (insert old p ps)
    put_within p = within_insert old p 0 bound32 ps (omega arith) old-small w

    old-size : (p : ℕ) → length (insert old p ps) ≡ length ps
    old-size p =
        length-present old p ps
        (let e = place-key_at 0 bound32 ps at w inside in record { inside = omega arith; equal = ap (key_at ps) (sym e) })

    renamed-key : pairs_of renamed ≡ insert old right ps
    unfolding repoint
    renamed-key = rw (lt-ltb at (length ps) inside, repoint) refl

    -- the middle key is the old one: no split
    same_key : old ≡ middle → (fit_of middle (pairs_of renamed) ≡ Ok tt) × (length (pairs_of put_first) ≤ most_keys)
    unfolding repoint
    same_key e =
        let both : length (insert old right (insert old left ps)) ≡ length ps =
        length-present old right (insert old left ps) (put-present old left ps 0 bound32 (put_within left)) ∙ old-size left in (
          ap (fit_of middle) renamed-key ∙ subst (λ (z : ℕ). fit_of z (insert old right ps) ≡ Ok tt) e (put-room old right ps 0 bound32 (put_within right)),
          rw (lt-ltb at (length ps) inside, repoint) (omega (arith, ap (λ (z : ℕ). length (insert old right (insert z left ps))) e)),
        )

  renamed-size : (length ps ≤ at) ⊎ (at < length ps) → length (pairs_of renamed) ≤ most_keys
  unfolding repoint
  renamed-size (inl l) = rw (le-ltb at (length ps) l, repoint) size
  renamed-size (inr l) = omega (arith, ap length (renamed-key l), old-size l right)

  -- one and the same node, or no split
  both_ways : (length ps ≤ at) ⊎ (at < length ps) → (key_at ps at ≡ middle) ⊎ (key_at ps at ≡ middle → ⊥) →
      (put_last ≡ put_first) ⊎ ((fit_of middle (pairs_of renamed) ≡ Ok tt) × (length (pairs_of put_first) ≤ most_keys))
  unfolding repoint
  both_ways (inl l) e = inl (rw (le-ltb at (length ps) l, repoint) refl)
  both_ways (inr l) (inl e) = inr (same_key l e)
  both_ways (inr l) (inr d) = inl (sym (repoint-put at right middle left branch d))

  pub halves_room : fit_of middle (pairs_of renamed) ≡ Ok tt → length (pairs_of put_first) ≤ most_keys
  halves_room r = go (both_ways (le_or (length ps) at) (eq_or (key_at ps at) middle))
    where
      go : (put_last ≡ put_first) ⊎ ((fit_of middle (pairs_of renamed) ≡ Ok tt) × (length (pairs_of put_first) ≤ most_keys)) → length (pairs_of put_first) ≤ most_keys
      go (inl e) =
          omega (
            arith,
            ap (λ (n : Node). length (pairs_of n)) e,
            ap length (pairs-put middle left renamed),
            room-size middle left (pairs_of renamed) (renamed-size (le_or (length ps) at)) r,
          )
      go (inr p) = p.1

  pub halves_full : (place : ℕ) → fit_of middle (pairs_of renamed) ≡ Err place → (put_last ≡ put_first) × (most_keys < length (pairs_of put_first))
  halves_full i f = go (both_ways (le_or (length ps) at) (eq_or (key_at ps at) middle))
    where
      go : (put_last ≡ put_first) ⊎ ((fit_of middle (pairs_of renamed) ≡ Ok tt) × (length (pairs_of put_first) ≤ most_keys)) →
          (put_last ≡ put_first) × (most_keys < length (pairs_of put_first))
      go (inl e) = (
        e,
        omega (arith, ap (λ (n : Node). length (pairs_of n)) e, ap length (pairs-put middle left renamed), full_size middle left (pairs_of renamed) i f),
      )
      go (inr p) = absurd (room-full i (sym p.0 ∙ f))
