-- The search in a node says what it should, and no other answer does: its place is the first at or above the wanted key, and the only one. Keys
-- need not ascend for it. Assumes nothing.
use Rattle.std.specs.Prelude.{◌≡◌, refl, Bool, true, false, List, [], ◌∷◌, ◌⊎◌, ℕ, zero, suc, ◌≤◌, ◌<◌, length, Result, Ok, Err}
use Rattle.std.proofs.Common.{sym, ap, ◌∙◌, inl, inr, arith}
use Rattle.laws.specs.Order.{le_or}
use Rattle.pairs.specs.Pairs.{Pair}
use Rattle.node.specs.Search.{place, key_at, place-below, place-first, place_le, place_le_length, Present, Absent}
use Rattle.node.specs.Found.{present, found, found_as, true_present, false_absent, found-present, found-absent}
use Rattle.node.specs.Says.{First, Says}

-- The place is the first such, and the only one.
before-place : (wanted : ℕ) (ps : List Pair) (j : ℕ) → j < place wanted ps → key_at ps j < wanted
unfolding place
before-place wanted [] j l = absurd (omega arith)
before-place wanted (p ∷ ps) j l = go (le_or wanted p.0) j l (before-place wanted ps)
  where
    go :
        (wanted ≤ p.0) ⊎ (p.0 < wanted) → (j : ℕ) → j < place wanted (p ∷ ps) →
        ((j : ℕ) → j < place wanted ps → key_at ps j < wanted) →
        key_at (p ∷ ps) j < wanted
    go (inl h) j l r = absurd (omega (arith, place-first wanted p ps h))
    go (inr h) zero l r = h
    go (inr h) (suc j) l r = r j (omega (arith, place-below wanted p ps h))

here_place : (wanted : ℕ) (ps : List Pair) → place wanted ps < length ps → wanted ≤ key_at ps (place wanted ps)
unfolding place
here_place wanted [] l = absurd (omega arith)
here_place wanted (p ∷ ps) l = go (le_or wanted p.0) (here_place wanted ps)
  where
    go :
        (wanted ≤ p.0) ⊎ (p.0 < wanted) → (place wanted ps < length ps → wanted ≤ key_at ps (place wanted ps)) →
        wanted ≤ key_at (p ∷ ps) (place wanted (p ∷ ps))
    go (inl h) r = rw (place-first wanted p ps h) h
    go (inr h) r = rw (place-below wanted p ps h) (r (omega (arith, place-below wanted p ps h)))

module _ (wanted : ℕ) (ps : List Pair) where
  pub first-place : First wanted ps (place wanted ps)
  first-place = record { inside = place_le_length wanted ps; before = before-place wanted ps; here = λ l. omega (arith, here_place wanted ps l) }

  pub first-only : (i : ℕ) → First wanted ps i → i ≡ place wanted ps
  first-only i f = omega (arith, upper (le_or (length ps) i), lower (le_or i (place wanted ps)))
    where
      upper : (length ps ≤ i) ⊎ (i < length ps) → place wanted ps ≤ i
      upper (inl l) = omega (arith, place_le_length wanted ps)
      upper (inr l) = place_le wanted ps i l (f.here l)

      lower : (i ≤ place wanted ps) ⊎ (place wanted ps < i) → i ≤ place wanted ps
      lower (inl l) = l
      lower (inr l) = absurd (omega (arith, f.inside, f.before (place wanted ps) l, here_place wanted ps (omega (arith, f.inside))))

  -- What the search answers says so.
  pub search_says : Says wanted ps (found wanted ps)
  search_says = go (present wanted ps) refl
    where
      go : (b : Bool) → present wanted ps ≡ b → Says wanted ps (found_as b (place wanted ps))
      go true e = let w = true_present wanted ps e in (first-place, w.inside, w.equal)
      go false e = (first-place, λ l. omega (arith, here_place wanted ps l, (false_absent wanted ps e).other l))

  -- No other answer does.
  pub search_only : (r : Result ℕ ℕ) → Says wanted ps r → r ≡ found wanted ps
  search_only (Ok i) s =
      let e = first-only i s.0 in
      let w : Present wanted ps = record { inside = omega (arith, s.1); equal = ap (key_at ps) (sym e) ∙ s.2 } in
      ap Ok e ∙ sym (found-present wanted ps w)
  search_only (Err i) s =
      let e = first-only i s.0 in
      let a : Absent wanted ps = record { other = λ l f. omega (arith, s.1 (omega arith), ap (key_at ps) e) } in
      ap Err e ∙ sym (found-absent wanted ps a)
