-- Whether bytes are all FF: byte by byte, and sixteen at a time by their sum. Assumes nothing.
use Rattle.std.specs.Prelude.{◌≡◌, Bool, true, false, ◌&&◌, List, [], ◌∷◌, ◌++◌, length, take}
use Rattle.std.proofs.Math.Path.{refl, ap}
use Rattle.std.proofs.Common.{sym, ◌∙◌, add-zero, length-drop, take-append-drop, drop-drop, take_all}
use Rattle.std.proofs.Math.Bool.{and-true, and_assoc}
use Prim.Native.Nat.{ℕ, zero, suc, ◌+◌, ◌-◌, ◌*◌, ◌≤◌, ◌<◌}
use Rattle.std.proofs.Math.Nat.{sub-zero}
use native.Mathlib.Omega.{arith}
use Rattle.std.proofs.Math.Dec.{eqb}
use Rattle.std.proofs.Math.ListN.{get_or, drop}
use borrow.Author.Tests.{eqb-true, eq-eqb}
use Rattle.laws.specs.Tests.{test_same, and_left, and_right, and_both}
use Rattle.laws.specs.Lay.{part, part-cons}
use Rattle.page.specs.Decode.{all_blank}

-- ---- byte by byte

pub all_each : (s : List ℕ) → ((k : ℕ) → k < length s → get_or s k 0 ≡ 255) → all_blank s ≡ true
unfolding all_blank
all_each [] h = refl
all_each (x ∷ s) h = rw (eq-eqb _ _ (h 0 (omega arith))) (all_each s (λ k l. h (suc k) (omega arith)))

pub each_all : (s : List ℕ) → all_blank s ≡ true → (k : ℕ) → k < length s → get_or s k 0 ≡ 255
unfolding all_blank
each_all [] t k l = absurd (omega arith)
each_all (x ∷ s) t zero l = eqb-true x 255 (and_left (eqb x 255) (all_blank s) t)
each_all (x ∷ s) t (suc k) l = each_all s (and_right (eqb x 255) (all_blank s) t) k (omega arith)

-- ---- sixteen bytes at a time

-- A byte added to the sum of n bytes: the sum is as high as it can be if and only if it was before, and the byte is FF.
sum-highest : (n sum x : ℕ) → sum ≤ 255 * n → x < 256 → eqb (sum + x) (255 * (n + 1)) ≡ (eqb sum (255 * n) && eqb x 255)
sum-highest n sum x h k = test_same (eqb (sum + x) (255 * (n + 1))) (eqb sum (255 * n) && eqb x 255) there back
  where
    there : eqb (sum + x) (255 * (n + 1)) ≡ true → (eqb sum (255 * n) && eqb x 255) ≡ true
    there t =
        let e = eqb-true (sum + x) (255 * (n + 1)) t in
        and_both (eqb sum (255 * n)) (eqb x 255) (eq-eqb sum (255 * n) (omega arith)) (eq-eqb x 255 (omega arith))

    back : (eqb sum (255 * n) && eqb x 255) ≡ true → eqb (sum + x) (255 * (n + 1)) ≡ true
    back t =
        let e = eqb-true sum (255 * n) (and_left (eqb sum (255 * n)) (eqb x 255) t) in
        let f = eqb-true x 255 (and_right (eqb sum (255 * n)) (eqb x 255) t) in
        eq-eqb (sum + x) (255 * (n + 1)) (omega arith)

module _ (s : List ℕ) (at : ℕ) where
  -- k bytes added up, and whether the others are FF
  unfoldable pub added_up : ℕ → ℕ → ℕ → Bool
  added_up n sum k = eqb sum (255 * k) && all_blank (part s (at + k) (n - k))

  pub added-begin : (n : ℕ) → added_up n 0 0 ≡ all_blank (part s at n)
  unfolding added_up
  added-begin n = rw (add-zero, sub-zero) refl

  pub added_next : (n sum k x : ℕ) → k < n → at + n ≤ length s → sum ≤ 255 * k → x ≡ get_or s (at + k) 0 → x < 256 →
      added_up n (sum + x) (k + 1) ≡ added_up n sum k
  unfolding added_up all_blank
  added_next n sum k x h l m e b =
      let f : part s (at + k) (n - k) ≡ x ∷ part s (at + (k + 1)) (n - (k + 1)) =
      ap (part s (at + k)) (turn h) ∙ part-cons s (at + k) (n - (k + 1)) (omega arith) ∙
      ap (λ (y : ℕ). y ∷ part s (at + k + 1) (n - (k + 1))) (sym e) ∙
      ap (λ (y : ℕ). x ∷ part s y (n - (k + 1))) (omega arith) in
      rw (f, sum-highest k sum x m b) (and_assoc (eqb sum (255 * k)) (eqb x 255) _)
    where
      turn : k < n → n - k ≡ suc (n - (k + 1))
      turn h = omega arith

  pub added_end : (n sum k : ℕ) → n ≤ k → k ≤ n → added_up n sum k ≡ eqb sum (255 * n)
  unfolding added_up all_blank part
  added_end n sum k g h =
      let e : n - k ≡ 0 = omega arith in
      let f : k ≡ n = omega arith in
      ap (λ (j : ℕ). eqb sum (255 * k) && all_blank (part s (at + k) j)) e ∙ and-true (eqb sum (255 * k)) ∙
      ap (λ (j : ℕ). eqb sum (255 * j)) f

-- All are FF from a place on where a part is, and all behind it; and not where the part is not.
all_blank-append : (a b : List ℕ) → all_blank (a ++ b) ≡ (all_blank a && all_blank b)
unfolding all_blank
all_blank-append [] b = refl
all_blank-append (x ∷ a) b = ap (eqb x 255 &&◌) (all_blank-append a b) ∙ sym (and_assoc (eqb x 255) (all_blank a) (all_blank b))

module _ (s : List ℕ) (i n : ℕ) where
  part-blank : all_blank (drop i s) ≡ (all_blank (part s i n) && all_blank (drop (i + n) s))
  unfolding part
  part-blank =
      ap all_blank (sym (take-append-drop n (drop i s)) ∙ ap (take n (drop i s) ++◌) (drop-drop n i s)) ∙
      all_blank-append (take n (drop i s)) (drop (i + n) s)

  pub part-next : true ≡ all_blank (part s i n) → all_blank (drop (i + n) s) ≡ all_blank (drop i s)
  part-next e = sym (rw (← e) at part-blank)

  pub part_stop : false ≡ all_blank (part s i n) → false ≡ all_blank (drop i s)
  part_stop e = sym (rw (← e) at part-blank)

-- Bytes that are FF from a place on are FF from any later place on.
blank-later : (s : List ℕ) (i j : ℕ) → i ≤ j → all_blank (drop i s) ≡ true → all_blank (drop j s) ≡ true
blank-later s i j h e =
    let p : (all_blank (part s i (j - i)) && all_blank (drop (i + (j - i)) s)) ≡ true = sym (part-blank s i (j - i)) ∙ e in
    ap (λ (k : ℕ). all_blank (drop k s)) (there i j h) ∙ and_right (all_blank (part s i (j - i))) (all_blank (drop (i + (j - i)) s)) p
  where
    there : (i j : ℕ) → i ≤ j → j ≡ i + (j - i)
    there i j h = omega arith

-- The last n bytes, where all bytes are FF that stand before some place among them.
pub last-blank : (s : List ℕ) (i last n : ℕ) → last ≤ i → length s ≤ last + n → all_blank (drop i s) ≡ all_blank s →
    all_blank (part s last n) ≡ all_blank s
unfolding part
last-blank s i last n h l e =
    let all : take n (drop last s) ≡ drop last s = take_all n (drop last s) (rw (length-drop last s) (omega arith)) in
    ap all_blank all ∙
    test_same (all_blank (drop last s)) (all_blank s) (λ p. sym e ∙ blank-later s last i h p) (λ p. blank-later s 0 last (omega arith) p)
