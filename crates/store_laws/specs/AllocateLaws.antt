-- The block that is taken: the blank one found is blank; the one compacted has the fewest live pages, the lowest on a tie; and
-- since live pages are fewer than the written blocks hold, it has room. Assumes nothing.
use Rattle.std.specs.Prelude.{◌≡◌, refl, Bool, true, false, not, ◌⊎◌, List, [], ◌∷◌, ℕ, zero, suc, ◌+◌, ◌*◌, ◌≤◌, ◌<◌, leb, length, Option, None, Some}
use Rattle.std.proofs.Common.{ap, inl, inr, suc-le-suc, le_of_suc-le-suc, le_trans, arith, leb-true, leb-false}
use Rattle.laws.specs.Tests.{test_clash}
use Rattle.laws.specs.Order.{le_or}
use Rattle.laws.specs.Counts.{bit, bit_le_one, count, tally, empty, occupied, pigeonhole, empty-nil}
use Rattle.page.specs.Page.{Page}
use Rattle.store.specs.Pool.{Blocks, block}
use Rattle.store.specs.Allocate.{blanks, later, here_or, blank_from, first_of, next_blank, Choice, nothing, taken, better, compare, fewest, victim}

-- No written block has fewer live pages than `few`, and none below `i` has as few.
abbrev Least : (Page → Bool) → Blocks → ℕ → ℕ → Type 0
Least live bs i few =
    (j : ℕ) → j < length bs → empty (block bs j) ≡ false → (few ≤ count live (block bs j)) × (count live (block bs j) ≤ few → i ≤ j)

-- What a choice says.
abbrev pub Chosen : (Page → Bool) → Blocks → Choice → Type 0
Chosen live bs nothing = (i : ℕ) → i < length bs → empty (block bs i) ≡ true
Chosen live bs (taken i few) =
    (i < length bs) × (empty (block bs i) ≡ false) × (count live (block bs i) ≡ few) × Least live bs i few

module _ (live : Page → Bool) (b : List Page) (bs : Blocks) where
  chosen_blank : (c : Choice) → Chosen live bs c → empty b ≡ true → Chosen live (b ∷ bs) (compare true (count live b) c)
  chosen_blank nothing h e = go
    where
      go : (i : ℕ) → i < suc (length bs) → empty (block (b ∷ bs) i) ≡ true
      go zero l = e
      go (suc i) l = h i (le_of_suc-le-suc l)
  chosen_blank (taken i few) h e = (omega arith, h.1, h.2, go)
    where
      go : Least live (b ∷ bs) (suc i) few
      go zero l q = absurd (test_clash (empty b) e q)
      go (suc j) l q = let a = h.3 j (le_of_suc-le-suc l) q in (a.0, λ x. suc-le-suc (a.1 x))

  chosen_written : (c : Choice) → Chosen live bs c → empty b ≡ false → Chosen live (b ∷ bs) (compare false (count live b) c)
  chosen_written nothing h e = (omega arith, e, refl, go)
    where
      go : Least live (b ∷ bs) 0 (count live b)
      go zero l q = omega arith
      go (suc j) l q = absurd (test_clash (empty (block bs j)) (h j (le_of_suc-le-suc l)) q)
  chosen_written (taken i few) h e = pick (leb (count live b) few) refl
    where
      first : count live b ≤ few → Least live (b ∷ bs) 0 (count live b)
      first c zero l q = omega arith
      first c (suc j) l q = omega (arith, h.3 j (le_of_suc-le-suc l) q)

      other : few < count live b → Least live (b ∷ bs) (suc i) few
      other c zero l q = omega arith
      other c (suc j) l q = let a = h.3 j (le_of_suc-le-suc l) q in (a.0, λ x. suc-le-suc (a.1 x))

      pick : (t : Bool) → leb (count live b) few ≡ t → Chosen live (b ∷ bs) (better t (count live b) i few)
      pick true q = (omega arith, e, refl, first (leb-true _ _ q))
      pick false q = (omega arith, h.1, h.2, other (leb-false _ _ q))

  chosen_step : (c : Choice) → Chosen live bs c → (t : Bool) → empty b ≡ t → Chosen live (b ∷ bs) (compare t (count live b) c)
  chosen_step c h true e = chosen_blank c h e
  chosen_step c h false e = chosen_written c h e

-- THE CHOICE: fewest live pages, lowest number on a tie.
pub fewest_chosen : (live : Page → Bool) (bs : Blocks) → Chosen live bs (fewest live bs)
fewest_chosen live [] = λ i l. absurd (omega arith)
fewest_chosen live (b ∷ bs) = chosen_step live b bs (fewest live bs) (fewest_chosen live bs) (empty b) refl

occupied-none : (bs : Blocks) → ((i : ℕ) → i < length bs → empty (block bs i) ≡ true) → occupied bs ≡ 0
occupied-none [] h = refl
occupied-none (b ∷ bs) h = rw (h 0 (omega arith)) (omega (arith, occupied-none bs (λ i l. h (suc i) (suc-le-suc l))))

-- Where the written blocks hold more than is live, the block taken is written and has room.
pub record HasRoom (width : ℕ) (live : Page → Bool) (bs : Blocks) : Type 0 where
  pub inside : victim live bs < length bs
  pub written : empty (block bs (victim live bs)) ≡ false
  pub room : count live (block bs (victim live bs)) < width

pub victim-room : (width : ℕ) (live : Page → Bool) (bs : Blocks) → tally live bs < width * occupied bs → HasRoom width live bs
victim-room width live bs t = go (fewest live bs) refl (fewest_chosen live bs)
  where
    fits : (few : ℕ) → ((j : ℕ) → j < length bs → empty (block bs j) ≡ false → few ≤ count live (block bs j)) →
        (width ≤ few) ⊎ (few < width) → few < width
    fits few h (inl l) = absurd (omega (arith, pigeonhole live width bs (λ j lj q. le_trans l (h j lj q))))
    fits few h (inr l) = l

    go : (c : Choice) → fewest live bs ≡ c → Chosen live bs c → HasRoom width live bs
    go nothing e h =
        let none_of : width * occupied bs ≡ width * 0 = ap (λ k. width * k) (occupied-none bs h) in
        absurd (omega arith)
    go (taken i few) e h =
        record {
          inside = rw e h.0;
          written = rw e h.1;
          room = rw (e, h.2) (fits few (λ j lj q. (h.3 j lj q).0) (le_or width few));
        }

-- Blank and written blocks are all the blocks.
pub blanks-occupied : (bs : Blocks) → blanks bs + occupied bs ≡ length bs
blanks-occupied [] = refl
blanks-occupied (b ∷ bs) = omega (arith, blanks-occupied bs, flip (empty b))
  where
    flip : (t : Bool) → bit t + bit (not t) ≡ 1
    flip true = refl
    flip false = refl

pub blanks-positive : (bs : Blocks) (j : ℕ) → j < length bs → block bs j ≡ [] → 0 < blanks bs
blanks-positive [] j l e = absurd (omega arith)
blanks-positive (b ∷ bs) zero l e = rw e (omega arith)
blanks-positive (b ∷ bs) (suc j) l e = omega (arith, blanks-positive bs j (le_of_suc-le-suc l) e)

-- A blank block, and another.
pub record BlankAt (bs : Blocks) (apart : ℕ → Type 0) : Type 0 where
  pub number : ℕ
  pub inside : number < length bs
  pub other : apart number
  pub blank : block bs number ≡ []

pub a_blank : (bs : Blocks) → 0 < blanks bs → BlankAt bs (λ i. Unit {0})
a_blank [] h = absurd (omega arith)
a_blank (b ∷ bs) h = go (empty b) refl (λ q. a_blank bs q)
  where
    go : (t : Bool) → empty b ≡ t → (0 < blanks bs → BlankAt bs (λ i. Unit {0})) → BlankAt (b ∷ bs) (λ i. Unit {0})
    go true e r = record { number = 0; inside = omega arith; other = tt; blank = empty-nil b e }
    go false e r =
        let x = r (omega (arith, ap bit e)) in
        record { number = suc x.number; inside = omega (arith, x.inside); other = tt; blank = x.blank }

pub another_blank : (bs : Blocks) (j : ℕ) → 1 < blanks bs → BlankAt bs (λ i. i ≡ j → ⊥)
another_blank [] j h = absurd (omega arith)
another_blank (b ∷ bs) zero h =
    let x = a_blank bs (omega (arith, bit_le_one (empty b))) in
    record { number = suc x.number; inside = omega (arith, x.inside); other = omega arith; blank = x.blank }
another_blank (b ∷ bs) (suc j) h = go (empty b) refl (λ q. another_blank bs j q)
  where
    go : (t : Bool) → empty b ≡ t → (1 < blanks bs → BlankAt bs (λ i. i ≡ j → ⊥)) → BlankAt (b ∷ bs) (λ i. i ≡ suc j → ⊥)
    go true e r = record { number = 0; inside = omega arith; other = omega arith; blank = empty-nil b e }
    go false e r =
        let x = r (omega (arith, ap bit e)) in
        record {
          number = suc x.number;
          inside = omega (arith, x.inside);
          other = λ q. x.other (omega arith);
          blank = x.blank;
        }

-- The next blank block is the first from k on.
abbrev First : ℕ → Blocks → Option ℕ → Type 0
First k bs None = (i : ℕ) → k ≤ i → i < length bs → empty (block bs i) ≡ false
First k bs (Some j) = (k ≤ j) × (j < length bs) × (block bs j ≡ []) × ((i : ℕ) → k ≤ i → i < j → empty (block bs i) ≡ false)

first-later : (k : ℕ) (b : List Page) (bs : Blocks) (o : Option ℕ) → First k bs o → First (suc k) (b ∷ bs) (later o)
first-later k b bs None h = go
  where
    go : (i : ℕ) → suc k ≤ i → i < suc (length bs) → empty (block (b ∷ bs) i) ≡ false
    go zero l m = absurd (omega arith)
    go (suc i) l m = h i (omega arith) (omega arith)
first-later k b bs (Some j) h = (omega arith, omega arith, h.2, go)
  where
    go : (i : ℕ) → suc k ≤ i → i < suc j → empty (block (b ∷ bs) i) ≡ false
    go zero l m = absurd (omega arith)
    go (suc i) l m = h.3 i (omega arith) (omega arith)

first-here : (b : List Page) (bs : Blocks) (o : Option ℕ) → First 0 bs o → (t : Bool) → empty b ≡ t → First 0 (b ∷ bs) (here_or t o)
first-here b bs o h true e = (omega arith, omega arith, empty-nil b e, λ i l m. absurd (omega arith))
first-here b bs None h false e = go
  where
    go : (i : ℕ) → 0 ≤ i → i < suc (length bs) → empty (block (b ∷ bs) i) ≡ false
    go zero l m = e
    go (suc i) l m = h i (omega arith) (omega arith)
first-here b bs (Some j) h false e = (omega arith, omega arith, h.2, go)
  where
    go : (i : ℕ) → 0 ≤ i → i < suc j → empty (block (b ∷ bs) i) ≡ false
    go zero l m = e
    go (suc i) l m = h.3 i (omega arith) (omega arith)

pub blank_from-first : (k : ℕ) (bs : Blocks) → First k bs (blank_from k bs)
blank_from-first zero [] = λ i l m. absurd (omega arith)
blank_from-first (suc k) [] = λ i l m. absurd (omega arith)
blank_from-first zero (b ∷ bs) = first-here b bs (blank_from 0 bs) (blank_from-first 0 bs) (empty b) refl
blank_from-first (suc k) (b ∷ bs) = first-later k b bs (blank_from k bs) (blank_from-first k bs)

pub next_blank-blank : (bs : Blocks) (c j : ℕ) → j < length bs → block bs j ≡ [] → (next_blank bs c < length bs) × (block bs (next_blank bs c) ≡ [])
next_blank-blank bs c j l e = go (blank_from (suc c) bs) (blank_from-first (suc c) bs) (blank_from 0 bs) (blank_from-first 0 bs)
  where
    go : (x : Option ℕ) → First (suc c) bs x → (y : Option ℕ) → First 0 bs y → (first_of x y < length bs) × (block bs (first_of x y) ≡ [])
    go (Some i) h y h' = (h.1, h.2)
    go None h (Some i) h' = (h'.1, h'.2)
    go None h None h' = absurd (test_clash (empty (block bs j)) (ap empty e) (h' j (omega arith) l))
