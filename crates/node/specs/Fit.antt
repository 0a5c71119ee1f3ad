-- Whether a pair fits a node: "a leaf of 25" splits, and so does a branch (document 01, "Nodes and tree"). Assumes nothing.
use Rattle.std.specs.Prelude.{◌≡◌, Bool, List, ℕ, ◌≤◌, ◌<◌, Result, Ok, Err, true, false, ltb, length}
use Rattle.std.proofs.Common.{refl, ap, ◌∙◌, arith, lt-ltb, le-ltb, ltb-false}
use Rattle.laws.specs.Tests.{choose}
use Rattle.layout.specs.Layout.{most_keys}
use Rattle.pairs.specs.Pairs.{Pair}
use Rattle.node.specs.Found.{found}

-- A key that is there takes no room; a new one needs it.
abbrev pub fit_as : Result ℕ ℕ → ℕ → Result (Unit {0}) ℕ
fit_as (Ok i) size = Ok tt
fit_as (Err i) size = choose (ltb size most_keys) (Ok tt) (Err i)

-- The first of two where a pair fits, else the second.
abbrev pub by_fit : {A : Type 0} → Result (Unit {0}) ℕ → A → A → A
by_fit (Ok x) fits splits = fits
by_fit (Err at) fits splits = splits

unfoldable pub fit_of : ℕ → List Pair → Result (Unit {0}) ℕ
fit_of key ps = fit_as (found key ps) (length ps)

pub room-full : (i : ℕ) → ◌≡◌ {A = Result (Unit {0}) ℕ} (Ok tt) (Err i) → ⊥
room-full i e = let z : ◌≡◌ {A = ℕ} 0 1 = cc in omega arith

module _ (key : ℕ) (ps : List Pair) where
  pub fit_at : (i : ℕ) → found key ps ≡ Ok i → fit_of key ps ≡ Ok tt
  unfolding fit_of
  fit_at i e = ap (λ (f : Result ℕ ℕ). fit_as f (length ps)) e

  pub fit_room : (i : ℕ) → found key ps ≡ Err i → length ps < most_keys → fit_of key ps ≡ Ok tt
  unfolding fit_of
  fit_room i e l = ap (λ (f : Result ℕ ℕ). fit_as f (length ps)) e ∙ rw (lt-ltb (length ps) most_keys l) refl

  pub fit_full : (i : ℕ) → found key ps ≡ Err i → most_keys ≤ length ps → fit_of key ps ≡ Err i
  unfolding fit_of
  fit_full i e l = ap (λ (f : Result ℕ ℕ). fit_as f (length ps)) e ∙ rw (le-ltb (length ps) most_keys l) refl

  -- Where it does not fit, the key is new and the node full.
  pub full-above : (at : ℕ) → fit_of key ps ≡ Err at → (found key ps ≡ Err at) × (most_keys ≤ length ps)
  unfolding fit_of
  full-above at e = go (found key ps) refl e
    where
      sized :
          (i : ℕ) (t : Bool) → ltb (length ps) most_keys ≡ t → choose {A = Result (Unit {0}) ℕ} t (Ok tt) (Err i) ≡ Err at →
          ◌≡◌ {A = Result ℕ ℕ} (Err i) (Err at) × (most_keys ≤ length ps)
      sized i true f e = absurd (room-full at e)
      sized i false f e = (cc, ltb-false (length ps) most_keys f)

      go : (f : Result ℕ ℕ) → found key ps ≡ f → fit_as f (length ps) ≡ Err at → (found key ps ≡ Err at) × (most_keys ≤ length ps)
      go (Ok i) g e = absurd (room-full at e)
      go (Err i) g e = let s = sized i (ltb (length ps) most_keys) refl e in (g ∙ s.0, s.1)
