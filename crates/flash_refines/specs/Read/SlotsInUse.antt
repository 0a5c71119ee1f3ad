-- A page that a row names is in one of the slots in use: the first, the first two or all three. Assumes nothing.
use Rattle.std.specs.Prelude.{◌≡◌, true, ◌||◌, ◌⊎◌, ℕ, ◌<◌, eqb, ltb}
use Rattle.std.proofs.Common.{sym, arith, ltb-true}
use Rattle.std.proofs.Math.Path.{subst}
use Rattle.std.proofs.Math.Logic.{inl, inr}
use Rattle.laws.specs.Tests.{and_left, or_cases}
use Rattle.flash_rows.specs.Step.{holds, names}
use Rattle.flash_rows.specs.declared.Row.{Row}
use Rattle.flash_refines.specs.Store.Names.{holds-slot}

-- What holds of the page holds of a slot in use.
module _ (P : ℕ → Type 0) {x : ℕ} (h : P x) (r : Row) (e : names x r ≡ true) where
  Used : ℕ → ℕ → Type 0
  Used k y = (k < r.pages) × P y

  used : (k y : ℕ) → holds k r.pages y x ≡ true → Used k y
  unfolding holds Used
  used k y q = (ltb-true k r.pages (and_left (ltb k r.pages) (eqb y x) q), subst P (sym (holds-slot k r.pages y x q)) h)

  in_slot : Used 0 r.first ⊎ (Used 1 r.second ⊎ Used 2 r.third)
  unfolding names
  in_slot = go (or_cases (holds 0 r.pages r.first x) _ e)
    where
      late : (holds 1 r.pages r.second x ≡ true) ⊎ (holds 2 r.pages r.third x ≡ true) → Used 1 r.second ⊎ Used 2 r.third
      late (inl q) = inl (used 1 r.second q)
      late (inr q) = inr (used 2 r.third q)

      go : (holds 0 r.pages r.first x ≡ true) ⊎ ((holds 1 r.pages r.second x || holds 2 r.pages r.third x) ≡ true) →
          Used 0 r.first ⊎ (Used 1 r.second ⊎ Used 2 r.third)
      go (inl q) = inl (used 0 r.first q)
      go (inr q) = inr (late (or_cases (holds 1 r.pages r.second x) _ q))

  pub in_one : r.pages < 2 → P r.first
  unfolding Used
  in_one l = go in_slot
    where
      go : Used 0 r.first ⊎ (Used 1 r.second ⊎ Used 2 r.third) → P r.first
      go (inl u) = u.1
      go (inr (inl u)) = absurd (omega (arith, u.0))
      go (inr (inr u)) = absurd (omega (arith, u.0))

  pub in_two : r.pages < 3 → P r.first ⊎ P r.second
  unfolding Used
  in_two l = go in_slot
    where
      go : Used 0 r.first ⊎ (Used 1 r.second ⊎ Used 2 r.third) → P r.first ⊎ P r.second
      go (inl u) = inl u.1
      go (inr (inl u)) = inr u.1
      go (inr (inr u)) = absurd (omega (arith, u.0))

  pub in_three : P r.first ⊎ (P r.second ⊎ P r.third)
  unfolding Used
  in_three = go in_slot
    where
      go : Used 0 r.first ⊎ (Used 1 r.second ⊎ Used 2 r.third) → P r.first ⊎ (P r.second ⊎ P r.third)
      go (inl u) = inl u.1
      go (inr (inl u)) = inr (inl u.1)
      go (inr (inr u)) = inr (inr u.1)
