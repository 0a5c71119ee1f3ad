-- The sequence numbers of the written pages, in the order in which the pages lie; none, where a page does not check (document 01,
-- question 5, its part that is about one page).
use Rattle.std.specs.Prelude.{◌≡◌, List, [], ◌∷◌, ◌++◌, Option, None, Some, IfSome}
use Rattle.std.specs.Option.{option_map}
use Rattle.std.proofs.Math.Path.{refl}
use Rattle.std.proofs.Common.{sym, ap, ◌∙◌, append_assoc, append-nil}
use Prim.Native.Nat.{ℕ, zero, suc, ◌+◌, ◌-◌, ◌≤◌, ◌<◌}
use Rattle.std.proofs.Math.Nat.{sub-zero}
use native.Mathlib.Omega.{arith}
use Rattle.flash_blocks.specs.Pages.{page_at}
use Rattle.mount_sequences.specs.Row.{row}
use Rattle.mount_pages.specs.Seen.{Seen, Blank, Numbered, Bad, seen_of}

-- A page in front of others.
abbrev pub front : Seen → Option (List ℕ) → Option (List ℕ)
front Blank rest = rest
front (Numbered s) None = None
front (Numbered s) (Some ss) = Some (s ∷ ss)
front Bad rest = None

-- Of k pages from one on.
unfoldable pub sequences_from : List (List ℕ) → ℕ → ℕ → Option (List ℕ)
sequences_from pages zero q = Some []
sequences_from pages (suc k) q = front (seen_of (page_at pages q)) (sequences_from pages k (q + 1))

-- Numbers in front of others.
abbrev pub behind : List ℕ → Option (List ℕ) → Option (List ℕ)
behind xs None = None
behind xs (Some ys) = Some (xs ++ ys)

behind-nil : (o : Option (List ℕ)) → behind [] o ≡ o
behind-nil None = refl
behind-nil (Some ys) = refl

behind-one : (xs : List ℕ) (s : ℕ) (o : Option (List ℕ)) → behind (xs ++ (s ∷ [])) o ≡ behind xs (front (Numbered s) o)
behind-one xs s None = refl
behind-one xs s (Some ys) = ap Some (append_assoc xs (s ∷ []) ys)

behind_bad : (xs : List ℕ) → behind xs None ≡ None
behind_bad xs = refl

-- The start, a turn and the end of the loop that collects: the numbers so far, and those of the pages left.
module _ (pages : List (List ℕ)) (n : ℕ) where
  pub collect-begin : behind [] (sequences_from pages (n - 0) 0) ≡ sequences_from pages n 0
  collect-begin = behind-nil (sequences_from pages (n - 0) 0) ∙ rw sub-zero refl

  module _ (q : ℕ) (h : q < n) (xs : List ℕ) where
    turn : sequences_from pages (n - q) q ≡ front (seen_of (page_at pages q)) (sequences_from pages (n - (q + 1)) (q + 1))
    unfolding sequences_from
    turn =
        let e : n - q ≡ suc (n - (q + 1)) = omega arith in
        rw e refl

    pub collect-blank : seen_of (page_at pages q) ≡ Blank → behind xs (sequences_from pages (n - (q + 1)) (q + 1)) ≡ behind xs (sequences_from pages (n - q) q)
    collect-blank e = ap (behind xs) (sym (turn ∙ ap (λ x. front x (sequences_from pages (n - (q + 1)) (q + 1))) e))

    pub collect-numbered : (s : ℕ) → seen_of (page_at pages q) ≡ Numbered s →
        behind (xs ++ (s ∷ [])) (sequences_from pages (n - (q + 1)) (q + 1)) ≡ behind xs (sequences_from pages (n - q) q)
    collect-numbered s e =
        behind-one xs s (sequences_from pages (n - (q + 1)) (q + 1)) ∙
        ap (behind xs) (sym (turn ∙ ap (λ x. front x (sequences_from pages (n - (q + 1)) (q + 1))) e))

    pub collect_bad : seen_of (page_at pages q) ≡ Bad → behind xs (sequences_from pages (n - q) q) ≡ None
    collect_bad e = ap (behind xs) (turn ∙ ap (λ x. front x (sequences_from pages (n - (q + 1)) (q + 1))) e) ∙ behind_bad xs

  pub collect-done : (q : ℕ) (xs : List ℕ) → n ≤ q → behind xs (sequences_from pages (n - q) q) ≡ Some xs
  unfolding sequences_from
  collect-done q xs h =
      let e : n - q ≡ 0 = omega arith in
      rw e (ap Some (append-nil xs))

-- What was collected from so many pages: a row of all their numbers, where every page checks.
pub record Collecting (pages : List (List ℕ)) (count : ℕ) (t : List ℕ) (r : Option ℕ) : Type 0 where
  pub few : IfSome r (λ n. n ≤ count)
  pub is : sequences_from pages count 0 ≡ option_map (λ n. row n 0 t) r
