-- The next key up (document 02, P3: "that route or the nearest above"): what it is, that nothing else is it, and that it is the first pair of a range
-- up to the greatest key. Assumes nothing.
use Rattle.std.specs.Prelude.{◌≡◌, refl, List, [], ◌∷◌, ◌⊎◌, ℕ, suc, ◌≤◌, ◌<◌, Option, None, Some}
use Rattle.std.proofs.Common.{sym, ap, ◌∙◌, inl, inr, arith, le-leb}
use Rattle.std.proofs.lemmas.Bool.{lt-leb}
use Rattle.laws.specs.Options.{some_same, none_some}
use Rattle.laws.specs.Order.{le_or, Tri, less, same, more, tri}
use Rattle.pairs.specs.Pairs.{Pair, lookup, range, ceiling, first, Within}
use Rattle.pairs.specs.Clauses.{lookup_same, lookup-other, range_skip, range-take}
use Rattle.pairs.proofs.Bounds.{lookup-below}
use Rattle.pairs.specs.Ceiling.{CeilingIs}

module _ (k : ℕ) (p : Pair) (ps : List Pair) where
  pub ceiling-here : k ≤ p.0 → ceiling k (p ∷ ps) ≡ Some p
  unfolding ceiling
  ceiling-here l = rw (le-leb k p.0 l, ceiling)

  pub ceiling-later : p.0 < k → ceiling k (p ∷ ps) ≡ ceiling k ps
  unfolding ceiling
  ceiling-later l = rw (lt-leb k p.0 l, ceiling)

-- behind a pair that is below the key
is_later : (k : ℕ) (p : Pair) (ps : List Pair) → p.0 < k → (o : Option Pair) → CeilingIs lookup k ps o → CeilingIs lookup k (p ∷ ps) o
is_later k p ps l None h = λ j m. lookup-other j p ps (omega arith) ∙ h j m
is_later k p ps l (Some q) h =
    record {
      above = h.above;
      there = lookup-other q.0 p ps (omega (arith, h.above)) ∙ h.there;
      between = λ j m n. lookup-other j p ps (omega arith) ∙ h.between j m n;
    }

-- THE CEILING IS THE NEAREST, and none where there is none.
pub ceiling-is : (k low high : ℕ) (ps : List Pair) → Within low high ps → CeilingIs lookup k ps (ceiling k ps)
unfolding Within lookup ceiling
ceiling-is k low high [] w = λ j m. refl
ceiling-is k low high (p ∷ ps) w = go (le_or k p.0) (ceiling-is k (suc p.0) high ps w.2)
  where
    go : (k ≤ p.0) ⊎ (p.0 < k) → CeilingIs lookup k ps (ceiling k ps) → CeilingIs lookup k (p ∷ ps) (ceiling k (p ∷ ps))
    go (inl l) r =
        rw (ceiling-here k p ps l)
        (record {
          above = l;
          there = lookup_same p.0 p ps refl;
          between = λ j m n. lookup-other j p ps (omega arith) ∙ lookup-below j (suc p.0) high ps (omega arith) w.2;
        })
    go (inr l) r = rw (ceiling-later k p ps l) (is_later k p ps l (ceiling k ps) r)

-- Nothing else is: two answers to which this applies are one.
pub nearest_one : (lookup : ℕ → List Pair → Option ℕ) (k : ℕ) (ps : List Pair) (o o' : Option Pair) → CeilingIs lookup k ps o →
    CeilingIs lookup k ps o' → o ≡ o'
nearest_one lookup k ps None None h h' = refl
nearest_one lookup k ps None (Some q) h h' = absurd (none_some (sym (h q.0 h'.above) ∙ h'.there))
nearest_one lookup k ps (Some p) None h h' = absurd (none_some (sym (h' p.0 h.above) ∙ h.there))
nearest_one lookup k ps (Some p) (Some q) h h' = go (tri p.0 q.0)
  where
    go : Tri p.0 q.0 → Some p ≡ Some q
    go (less l) = absurd (none_some (sym (h'.between p.0 h.above l) ∙ h.there))
    go (more l) = absurd (none_some (sym (h.between q.0 h'.above l) ∙ h'.there))
    go (same e) =
        let value : p.1 ≡ q.1 = some_same (sym h.there ∙ ap (λ (j : ℕ). lookup j ps) e ∙ h'.there) in
        ap (λ (x : ℕ). Some (x, p.1)) e ∙ ap (λ (x : ℕ). Some (q.0, x)) value

-- "80 if none is at or above", exactly then.
pub ceiling-none : (k low high : ℕ) (ps : List Pair) → Within low high ps → ((j : ℕ) → k ≤ j → lookup j ps ≡ None) → ceiling k ps ≡ None
ceiling-none k low high ps w h = nearest_one lookup k ps (ceiling k ps) None (ceiling-is k low high ps w) h

-- It is the first pair of the range from the key to a high one that no key is above.
pub range-ceiling : (k low top high : ℕ) (ps : List Pair) → Within low top ps → top ≤ suc high → first (range k high 1 ps) ≡ ceiling k ps
unfolding Within range ceiling
range-ceiling k low top high [] w t = refl
range-ceiling k low top high (p ∷ ps) w t = go (le_or k p.0) (range-ceiling k (suc p.0) top high ps w.2 t)
  where
    go : (k ≤ p.0) ⊎ (p.0 < k) → first (range k high 1 ps) ≡ ceiling k ps → first (range k high 1 (p ∷ ps)) ≡ ceiling k (p ∷ ps)
    go (inl l) r = ap first (range-take k high 0 p ps l (omega (arith, w.1))) ∙ sym (ceiling-here k p ps l)
    go (inr l) r = ap first (range_skip k high 0 p ps l) ∙ r ∙ sym (ceiling-later k p ps l)
