-- What the code's search answers, by cases. Assumes nothing.
use Rattle.std.specs.Prelude.{◌≡◌, Bool, true, false, ◌&&◌, List, ℕ, eqb, ltb, length, Result, Ok, Err}
use Rattle.std.proofs.Common.{refl, sym, ◌∙◌, arith, lt-ltb, ltb-true, eqb-true, eq-eqb}
use Rattle.laws.specs.Tests.{and_left, and_right, and_both, test_clash}
use Rattle.pairs.specs.Pairs.{Pair}
use Rattle.node.specs.Search.{place, key_at, Present, Absent}

-- whether the key at its place is the key itself
unfoldable pub present : ℕ → List Pair → Bool
present key ps = ltb (place key ps) (length ps) && eqb (key_at ps (place key ps)) key

abbrev pub found_as : Bool → ℕ → Result ℕ ℕ
found_as true i = Ok i
found_as false i = Err i

-- the place of the first key at or above the wanted one, and whether it is equal
abbrev pub found : ℕ → List Pair → Result ℕ ℕ
found key ps = found_as (present key ps) (place key ps)

-- the place that an answer names, whether the key there is equal or above
abbrev pub place_of : Result ℕ ℕ → ℕ
place_of (Ok i) = i
place_of (Err i) = i

place_of_as : (b : Bool) (i : ℕ) → place_of (found_as b i) ≡ i
place_of_as true i = refl
place_of_as false i = refl

pub place_of-found : (key : ℕ) (ps : List Pair) → place_of (found key ps) ≡ place key ps
place_of-found key ps = place_of_as (present key ps) (place key ps)

module _ (key : ℕ) (ps : List Pair) where
  pub present_true : Present key ps → present key ps ≡ true
  unfolding present
  present_true w =
      and_both (ltb (place key ps) (length ps)) (eqb (key_at ps (place key ps)) key)
      (lt-ltb (place key ps) (length ps) w.inside)
      (eq-eqb (key_at ps (place key ps)) key w.equal)

  pub true_present : present key ps ≡ true → Present key ps
  unfolding present
  true_present e =
      record {
        inside = ltb-true (place key ps) (length ps) (and_left (ltb (place key ps) (length ps)) (eqb (key_at ps (place key ps)) key) e);
        equal = eqb-true (key_at ps (place key ps)) key (and_right (ltb (place key ps) (length ps)) (eqb (key_at ps (place key ps)) key) e);
      }

  pub false_absent : present key ps ≡ false → Absent key ps
  false_absent e = record { other = λ l f. test_clash (present key ps) (present_true (record { inside = l; equal = f })) e }

  pub absent_false : Absent key ps → present key ps ≡ false
  absent_false a = go (present key ps) refl
    where
      go : (b : Bool) → present key ps ≡ b → b ≡ false
      go true e = absurd (a.other (true_present e).inside (true_present e).equal)
      go false e = refl

  pub found-present : Present key ps → found key ps ≡ Ok (place key ps)
  found-present w = rw (present_true w)

  pub found-absent : Absent key ps → found key ps ≡ Err (place key ps)
  found-absent a = rw (absent_false a)

  -- from the answer back to what it says
  pub at-present : (i : ℕ) → found key ps ≡ Ok i → Present key ps
  at-present i e = true_present (go (present key ps) refl)
    where
      go : (b : Bool) → present key ps ≡ b → b ≡ true
      go true f = refl
      go false f = absurd (let g : Err (place key ps) ≡ Ok i = rw f at e in let z : ◌≡◌ {A = ℕ} 0 1 = cc in omega arith)

  pub at_place : (i : ℕ) → found key ps ≡ Ok i → i ≡ place key ps
  at_place i e = let g : Ok (place key ps) ≡ Ok i = sym (found-present (at-present i e)) ∙ e in cc

  pub above-absent : (i : ℕ) → found key ps ≡ Err i → Absent key ps
  above-absent i e = false_absent (go (present key ps) refl)
    where
      go : (b : Bool) → present key ps ≡ b → b ≡ false
      go true f = absurd (let g : Ok (place key ps) ≡ Err i = rw f at e in let z : ◌≡◌ {A = ℕ} 0 1 = cc in omega arith)
      go false f = refl

  pub above_place : (i : ℕ) → found key ps ≡ Err i → i ≡ place key ps
  above_place i e = let g : Err (place key ps) ≡ Err i = sym (found-absent (above-absent i e)) ∙ e in cc
