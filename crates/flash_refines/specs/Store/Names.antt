-- What a row names after its slots were read through a function, and the rows after all of them were. Assumes nothing.
use Rattle.std.specs.Prelude.{◌≡◌, Bool, true, ◌||◌, ◌⊎◌, List, eqb, ltb, length, set}
use Rattle.std.proofs.Math.Path.{refl}
use Rattle.std.proofs.Common.{ap, ◌∙◌, inl, inr, arith, eqb-true, eq-eqb, get_or-set_same}
use Prim.Native.Nat.{ℕ, ◌+◌, ◌≤◌, ◌<◌}
use Rattle.std.proofs.Math.ListN.{length-set}
use Rattle.std.proofs.Math.Seq.{get_or-set_other}
use Rattle.std.proofs.Math.Numerals.{lt_of_le_of_ne}
use Rattle.laws.specs.Tests.{and_left, and_right, and_both, or_cases, or_by-left, or_by-right}
use Rattle.laws.specs.Order.{eq_or}
use Rattle.laws.specs.Loops.{steps-keep}
use Rattle.flash_rows.specs.Row.{no_row}
use Rattle.flash_rows.specs.Step.{holds, names, new_place, moved}
use Rattle.flash_rows.specs.declared.Row.{Row}
use Rattle.flash_allocate.specs.Compact.{rename_row, rename_rows}
use Rattle.flash_refines.specs.Store.Mirror.{row_at}

-- The row with each slot read through a function.
abbrev pub mapped : (ℕ → ℕ) → Row → Row
mapped f r =
    record {
      version = r.version;
      score = r.score;
      mode = r.mode;
      pages = r.pages;
      first = f r.first;
      second = f r.second;
      third = f r.third;
    }

pub holds-slot : (k n y x : ℕ) → holds k n y x ≡ true → y ≡ x
unfolding holds
holds-slot k n y x e = eqb-true y x (and_right (ltb k n) (eqb y x) e)

holds-other : (k n y x y' x' : ℕ) → holds k n y x ≡ true → y' ≡ x' → holds k n y' x' ≡ true
unfolding holds
holds-other k n y x y' x' e d = and_both (ltb k n) (eqb y' x') (and_left (ltb k n) (eqb y x) e) (eq-eqb y' x' d)

module _ (f : ℕ → ℕ) (r : Row) where
  pub names-mapped : (x : ℕ) → names x r ≡ true → names (f x) (mapped f r) ≡ true
  unfolding names
  names-mapped x e = go (or_cases a (b || c) e)
    where
      n : ℕ
      n = r.pages

      a : Bool
      a = holds 0 n r.first x

      b : Bool
      b = holds 1 n r.second x

      c : Bool
      c = holds 2 n r.third x

      a' : Bool
      a' = holds 0 n (f r.first) (f x)

      b' : Bool
      b' = holds 1 n (f r.second) (f x)

      c' : Bool
      c' = holds 2 n (f r.third) (f x)

      late : (b ≡ true) ⊎ (c ≡ true) → (b' || c') ≡ true
      late (inl h) = or_by-left b' c' (holds-other 1 n r.second x (f r.second) (f x) h (ap f (holds-slot 1 n r.second x h)))
      late (inr h) = or_by-right b' c' (holds-other 2 n r.third x (f r.third) (f x) h (ap f (holds-slot 2 n r.third x h)))

      go : (a ≡ true) ⊎ ((b || c) ≡ true) → (a' || (b' || c')) ≡ true
      go (inl h) = or_by-left a' (b' || c') (holds-other 0 n r.first x (f r.first) (f x) h (ap f (holds-slot 0 n r.first x h)))
      go (inr h) = or_by-right a' (b' || c') (late (or_cases b c h))

  pub names_unmapped : (y : ℕ) → names y (mapped f r) ≡ true → (x : ℕ) × (names x r ≡ true) × (f x ≡ y)
  unfolding names
  names_unmapped y e = go (or_cases a (b || c) e)
    where
      n : ℕ
      n = r.pages

      a : Bool
      a = holds 0 n (f r.first) y

      b : Bool
      b = holds 1 n (f r.second) y

      c : Bool
      c = holds 2 n (f r.third) y

      late : (b ≡ true) ⊎ (c ≡ true) → (x : ℕ) × (names x r ≡ true) × (f x ≡ y)
      late (inl h) =
          let x : ℕ = r.second in (
            x,
            or_by-right (holds 0 n r.first x) (holds 1 n x x || holds 2 n r.third x)
                (or_by-left (holds 1 n x x) (holds 2 n r.third x) (holds-other 1 n (f x) y x x h refl)),
            holds-slot 1 n (f x) y h,
          )
      late (inr h) =
          let x : ℕ = r.third in (
            x,
            or_by-right (holds 0 n r.first x) (holds 1 n r.second x || holds 2 n x x)
                (or_by-right (holds 1 n r.second x) (holds 2 n x x) (holds-other 2 n (f x) y x x h refl)),
            holds-slot 2 n (f x) y h,
          )

      go : (a ≡ true) ⊎ ((b || c) ≡ true) → (x : ℕ) × (names x r ≡ true) × (f x ≡ y)
      go (inl h) =
          let x : ℕ = r.first in
          (x, or_by-left (holds 0 n x x) (holds 1 n r.second x || holds 2 n r.third x) (holds-other 0 n (f x) y x x h refl), holds-slot 0 n (f x) y h)
      go (inr h) = late (or_cases b c h)

-- The first k rows are renamed, the others as they were.
record Renamed (base : ℕ) (places : List ℕ) (rows : List Row) (k : ℕ) (now : List Row) : Type 0 where
  pub long : length now ≡ length rows
  pub done : (n : ℕ) → n < k → n < length rows → row_at now n ≡ moved base places (row_at rows n)
  pub left : (n : ℕ) → k ≤ n → row_at now n ≡ row_at rows n

module _ (base : ℕ) (places : List ℕ) (rows : List Row) where
  renamed_more : (k : ℕ) (now : List Row) → Renamed base places rows k now → Renamed base places rows (k + 1) (rename_row base places k now)
  unfolding rename_row
  renamed_more k now h =
      record {
        long = length-set now k new ∙ h.long;
        done = λ n l m. done n l m (eq_or n k);
        left = λ n l. get_or-set_other now k n new no_row (λ e. absurd (omega arith)) ∙ h.left n (omega arith);
      }
    where
      new : Row
      new = moved base places (row_at now k)

      done : (n : ℕ) → n < k + 1 → n < length rows → (n ≡ k) ⊎ (n ≡ k → ⊥) → row_at (set now k new) n ≡ moved base places (row_at rows n)
      done n l m (inl e) = rw e (get_or-set_same now k new no_row (omega (arith, h.long)) ∙ ap (moved base places) (h.left k (omega arith)))
      done n l m (inr e) = get_or-set_other now k n new no_row e ∙ h.done n (lt_of_le_of_ne (omega arith) e) m

  all_renamed : (used : ℕ) → Renamed base places rows used (rename_rows used base places rows)
  unfolding rename_rows
  all_renamed used =
      steps-keep (Renamed base places rows) (rename_row base places) used (λ k now l h. renamed_more k now h) rows
      (record { long = refl; done = λ n l m. absurd (omega arith); left = λ n l. refl })

  pub length-rename_rows : (used : ℕ) → length (rename_rows used base places rows) ≡ length rows
  length-rename_rows used = (all_renamed used).long

  pub row_at-rename_rows : (used n : ℕ) → n < used → used ≤ length rows →
      row_at (rename_rows used base places rows) n ≡ mapped (new_place base places) (row_at rows n)
  unfolding moved
  row_at-rename_rows used n l m = (all_renamed used).done n l (omega arith)
