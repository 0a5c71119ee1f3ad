-- Blank blocks are the model's: as many, and the next one is the same. Assumes nothing.
use Rattle.std.specs.Prelude.{◌≡◌, Bool, List, [], ◌∷◌, length, Option, None, Some}
use Rattle.std.proofs.Math.Path.{refl, sym, ap, ap₂}
use Rattle.std.proofs.Common.{◌∙◌, subst, add-zero, not-suc-le-zero, le_of_suc-le-suc, arith}
use Rattle.std.proofs.Math.Bool.{true, false}
use Prim.Native.Nat.{ℕ, zero, suc, ◌+◌, ◌-◌, ◌≤◌, ◌<◌, suc-le-suc}
use borrow.Author.Tests.{lt-ltb, le-ltb}
use Rattle.laws.specs.Tests.{choose}
use Rattle.laws.specs.Counts.{bit, empty}
use Rattle.laws.specs.Loops.{sum_from, first_from}
use Rattle.store.specs.Pool.{Blocks, block}
use Rattle.store.specs.Allocate.{blanks, later, here_or, first_of}
use Rattle.store.specs.Allocate as Model
use Rattle.flash_blocks.specs.Blank.{blank_block, blank_bit, blank_blocks, blank_from, first_below, next_blank}

-- A sum over the blocks.
blanks-sum : (g : ℕ → ℕ) (cs : Blocks) (b : ℕ) → ((i : ℕ) → i < length cs → g (b + i) ≡ bit (empty (block cs i))) → sum_from g (length cs) b ≡ blanks cs
unfolding sum_from
blanks-sum g [] b h = refl
blanks-sum g (c ∷ cs) b h =
    ap₂ ◌+◌ (ap g (sym (add-zero b)) ∙ h 0 (omega arith)) (blanks-sum g cs (b + 1) (λ i l. ap g (omega arith) ∙ h (suc i) (suc-le-suc l)))

-- The number of a block found, or of all blocks.
abbrev or_all : ℕ → Option ℕ → ℕ
or_all all None = all
or_all all (Some i) = i

blank_from_past : (bs : Blocks) (x : ℕ) → length bs ≤ x → Model.blank_from x bs ≡ None
blank_from_past [] zero l = refl
blank_from_past [] (suc x) l = refl
blank_from_past (b ∷ bs) zero l = absurd (omega arith)
blank_from_past (b ∷ bs) (suc x) l = ap later (blank_from_past bs x (omega arith))

-- One block looked at.
abbrev or_here : Bool → ℕ → Option ℕ → Option ℕ
or_here true x found = Some x
or_here false x found = found

blank_from_look : (bs : Blocks) (x : ℕ) → x < length bs → Model.blank_from x bs ≡ or_here (empty (block bs x)) x (Model.blank_from (suc x) bs)
blank_from_look [] x l = absurd (not-suc-le-zero l)
blank_from_look (b ∷ bs) zero l = first (empty b) (Model.blank_from 0 bs)
  where
    first : (t : Bool) (found : Option ℕ) → here_or t found ≡ or_here t 0 (later found)
    first true found = refl
    first false found = refl
blank_from_look (b ∷ bs) (suc x) l = ap later (blank_from_look bs x (le_of_suc-le-suc l)) ∙ shift (empty (block bs x)) (Model.blank_from (suc x) bs)
  where
    shift : (t : Bool) (found : Option ℕ) → later (or_here t x found) ≡ or_here t (suc x) (later found)
    shift true found = refl
    shift false found = refl

-- What is found is one of the blocks.
abbrev Below : ℕ → Option ℕ → Type 0
Below n None = 0 ≤ n
Below n (Some i) = i < n

found_all : (bs : Blocks) (x : ℕ) → Below (length bs) (Model.blank_from x bs)
found_all [] zero = omega arith
found_all [] (suc x) = omega arith
found_all (b ∷ bs) zero = here (empty b) (Model.blank_from 0 bs) (found_all bs 0)
  where
    here : (t : Bool) (o : Option ℕ) → Below (length bs) o → Below (suc (length bs)) (here_or t o)
    here true o h = omega arith
    here false None h = omega arith
    here false (Some i) h = suc-le-suc h
found_all (b ∷ bs) (suc x) = next (Model.blank_from x bs) (found_all bs x)
  where
    next : (o : Option ℕ) → Below (length bs) o → Below (suc (length bs)) (later o)
    next None h = omega arith
    next (Some i) h = suc-le-suc h

found_below : (bs : Blocks) (x i : ℕ) → Model.blank_from x bs ≡ Some i → i < length bs
found_below bs x i e = subst (Below (length bs)) e (found_all bs x)

module _ (ps : List (List ℕ)) (bs : Blocks) (blank : (i : ℕ) → i < length bs → blank_block ps i ≡ empty (block bs i)) where
  pub blank_blocks-is : blank_blocks (length bs) ps ≡ blanks bs
  unfolding blank_blocks blank_bit
  blank_blocks-is = blanks-sum (blank_bit ps) bs 0 (λ i l. ap bit (ap (blank_block ps) (omega arith) ∙ blank i l))

  first-is : (k x : ℕ) → x + k ≡ length bs → first_from (blank_block ps) k x ≡ or_all (length bs) (Model.blank_from x bs)
  unfolding first_from
  first-is zero x e = sym (ap (or_all (length bs)) (blank_from_past bs x (omega arith)) ∙ omega arith)
  first-is (suc k) x e =
      ap (λ (t : Bool). choose t x (first_from (blank_block ps) k (x + 1))) (blank x (omega arith)) ∙
      ap (λ (n : ℕ). choose (empty (block bs x)) x n) (first-is k (x + 1) (omega arith) ∙
      ap (λ (n : ℕ). or_all (length bs) (Model.blank_from n bs)) (omega arith)) ∙
      sym (ap (or_all (length bs)) (blank_from_look bs x (omega arith)) ∙ by (empty (block bs x)) (Model.blank_from (suc x) bs))
    where
      by : (t : Bool) (found : Option ℕ) → or_all (length bs) (or_here t x found) ≡ choose t x (or_all (length bs) found)
      by true found = refl
      by false found = refl

  pub next_blank-is : (current : ℕ) → current < length bs → next_blank (length bs) current ps ≡ Model.next_blank bs current
  unfolding next_blank blank_from
  next_blank-is current l =
      ap₂ (first_below (length bs))
      (first-is (length bs - (current + 1)) (current + 1) (omega arith) ∙ ap (λ (n : ℕ). or_all (length bs) (Model.blank_from n bs)) (omega arith))
      (first-is (length bs - 0) 0 (omega arith)) ∙
      go (Model.blank_from (suc current) bs) refl (Model.blank_from 0 bs) refl
    where
      go : (a : Option ℕ) → Model.blank_from (suc current) bs ≡ a → (b : Option ℕ) → Model.blank_from 0 bs ≡ b →
          first_below (length bs) (or_all (length bs) a) (or_all (length bs) b) ≡ first_of a b
      go (Some i) e b f = rw (lt-ltb i (length bs) (found_below bs (suc current) i e)) refl
      go None e (Some i) f = rw (le-ltb (length bs) (length bs) (omega arith), lt-ltb i (length bs) (found_below bs 0 i f)) refl
      go None e None f = rw (le-ltb (length bs) (length bs) (omega arith)) refl
