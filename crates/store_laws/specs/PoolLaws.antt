-- Finding a page by its number: where none has it, where one block has it, after a page is added, and through a compaction. Each
-- number is a page's at most once, so what is copied is what is found. Assumes nothing.
use Rattle.std.specs.Prelude.{◌≡◌, refl, Bool, true, false, ◌⊎◌, List, [], ◌∷◌, ◌++◌, ℕ, zero, suc, ◌+◌, ◌≤◌, ◌<◌, length, set, take, Option, None, Some}
use Rattle.std.proofs.Common.{sym, ap, ◌∙◌, inl, inr, arith, lt-length-set, get_or-set_same, get_or-set_other}
use Rattle.laws.specs.Tests.{choose}
use Rattle.laws.specs.Order.{le_or}
use Rattle.laws.specs.Counts.{bit, count, count-filter_le, cons_if, filter, tally, tally-at, tally-set}
use Rattle.page.specs.Page.{Page}
use Rattle.store.specs.Pool.{Blocks, block, numbered, page_in, or_else, find}
use Rattle.store.specs.Allocate.{copied, compact}

-- no page has the number
pub page_in-none : (s : ℕ) (b : List Page) → count (numbered s) b ≡ 0 → page_in s b ≡ None
page_in-none s [] e = refl
page_in-none s (p ∷ b) e = go (numbered s p) refl (λ h. page_in-none s b h)
  where
    go : (t : Bool) → numbered s p ≡ t → (count (numbered s) b ≡ 0 → page_in s b ≡ None) →
        choose (numbered s p) (Some p) (page_in s b) ≡ None
    go true q f = absurd (omega (arith, ap bit q))
    go false q f = rw q (f (omega arith))

pub find_none : (s : ℕ) (bs : Blocks) → tally (numbered s) bs ≡ 0 → find s bs ≡ None
find_none s [] e = refl
find_none s (b ∷ bs) e = rw (page_in-none s b (omega arith)) (find_none s bs (omega arith))

-- one block alone has it
pub find-block : (s : ℕ) (bs : Blocks) (i : ℕ) → tally (numbered s) bs ≤ count (numbered s) (block bs i) → find s bs ≡ page_in s (block bs i)
find-block s [] i l = refl
find-block s (b ∷ bs) zero l = rw (find_none s bs (omega arith)) (right (page_in s b))
  where
    right : (o : Option Page) → or_else o None ≡ o
    right None = refl
    right (Some p) = refl
find-block s (b ∷ bs) (suc i) l =
    rw (page_in-none s b (omega (arith, tally-at (numbered s) bs i))) (find-block s bs i (omega arith))

-- a block changes that says the same of the number, before and after
pub find-set : (s : ℕ) (bs : Blocks) (i : ℕ) (b : List Page) → page_in s b ≡ page_in s (block bs i) → find s (set bs i b) ≡ find s bs
find-set s [] i b e = refl
find-set s (c ∷ bs) zero b e = rw e
find-set s (c ∷ bs) (suc i) b e = ap (or_else (page_in s c)) (find-set s bs i b e)

find-set-none : (s : ℕ) (bs : Blocks) (i : ℕ) (b : List Page) → count (numbered s) (block bs i) ≡ 0 → count (numbered s) b ≡ 0 →
    find s (set bs i b) ≡ find s bs
find-set-none s bs i b e f = find-set s bs i b (page_in-none s b f ∙ sym (page_in-none s (block bs i) e))

-- a second copy, in a block that was blank, is not seen
find_copy : (s : ℕ) (bs : Blocks) (j : ℕ) (b : List Page) → block bs j ≡ [] → page_in s b ≡ find s bs → find s (set bs j b) ≡ find s bs
find_copy s [] j b e q = refl
find_copy s (c ∷ bs) zero b e q = twice (page_in s b) (find s bs) (q ∙ rw e) ∙ rw e
  where
    twice : (x y : Option Page) → x ≡ y → or_else x y ≡ y
    twice None y h = refl
    twice (Some p) y h = h
find_copy s (c ∷ bs) (suc j) b e q = go (page_in s c) refl (λ h. find_copy s bs j b e h)
  where
    go : (o : Option Page) → page_in s c ≡ o → (page_in s b ≡ find s bs → find s (set bs j b) ≡ find s bs) →
        or_else (page_in s c) (find s (set bs j b)) ≡ or_else (page_in s c) (find s bs)
    go None h r = rw h (r (q ∙ rw h))
    go (Some p) h r = rw h

-- one page more at the end of a block
pub page_in-snoc : (s : ℕ) (b : List Page) (p : Page) → count (numbered s) b ≡ 0 → numbered s p ≡ true → page_in s (b ++ (p ∷ [])) ≡ Some p
page_in-snoc s [] p e q = rw q
page_in-snoc s (x ∷ b) p e q = go (numbered s x) refl (λ h. page_in-snoc s b p h q)
  where
    go : (t : Bool) → numbered s x ≡ t → (count (numbered s) b ≡ 0 → page_in s (b ++ (p ∷ [])) ≡ Some p) →
        choose (numbered s x) (Some x) (page_in s (b ++ (p ∷ []))) ≡ Some p
    go true r f = absurd (omega (arith, ap bit r))
    go false r f = rw r (f (omega arith))

pub page_in-snoc-other : (s : ℕ) (b : List Page) (p : Page) → numbered s p ≡ false → page_in s (b ++ (p ∷ [])) ≡ page_in s b
page_in-snoc-other s [] p q = rw q
page_in-snoc-other s (x ∷ b) p q = ap (choose (numbered s x) (Some x)) (page_in-snoc-other s b p q)

-- What becomes of the page of a number: it is found as before, or it was one that failed the test and is gone.
pub data Found (f : Page → Bool) (before after : Option Page) : Type 0 where
  stays : after ≡ before → Found f before after
  goes : (p : Page) → after ≡ None → before ≡ Some p → f p ≡ false → Found f before after

-- through a filter
page_in-filter : (s : ℕ) (f : Page → Bool) (b : List Page) → count (numbered s) b ≤ 1 → Found f (page_in s b) (page_in s (filter f b))
page_in-filter s f [] l = stays refl
page_in-filter s f (p ∷ b) l = go (f p) refl (numbered s p) refl (λ h. page_in-filter s f b h)
  where
    go : (t : Bool) → f p ≡ t → (u : Bool) → numbered s p ≡ u → (count (numbered s) b ≤ 1 → Found f (page_in s b) (page_in s (filter f b))) →
        Found f (page_in s (p ∷ b)) (page_in s (cons_if (f p) p (filter f b)))
    go true et true eu r = rw et (stays (rw eu))
    go true et false eu r = rw (et, eu) (r (omega arith))
    go false et true eu r =
        rw (et, eu)
        (goes p (page_in-none s (filter f b) (omega (arith, count-filter_le (numbered s) f b, ap bit eu))) refl et)
    go false et false eu r = rw (et, eu) (r (omega arith))

page_in-take : (s q : ℕ) (b : List Page) → (page_in s (take q b) ≡ page_in s b) ⊎ (page_in s (take q b) ≡ None)
page_in-take s zero b = inr refl
page_in-take s (suc q) [] = inl refl
page_in-take s (suc q) (p ∷ b) = go (numbered s p) refl (page_in-take s q b)
  where
    go : (t : Bool) → numbered s p ≡ t → (page_in s (take q b) ≡ page_in s b) ⊎ (page_in s (take q b) ≡ None) →
        (choose (numbered s p) (Some p) (page_in s (take q b)) ≡ choose (numbered s p) (Some p) (page_in s b)) ⊎
        (choose (numbered s p) (Some p) (page_in s (take q b)) ≡ None)
    go true e r = inl (rw e)
    go false e (inl r) = inl (ap (choose (numbered s p) (Some p)) r)
    go false e (inr r) = inr (rw (e, r))

-- A compaction of block i into the blank block j.
pub record Moves (bs : Blocks) (i j : ℕ) : Type 0 where
  pub from : i < length bs
  pub to : j < length bs
  pub apart : i ≡ j → ⊥
  pub blank : block bs j ≡ []

module _ (f : Page → Bool) {bs : Blocks} {i j : ℕ} (m : Moves bs i j) where
  copied_from : block (copied f bs i j) i ≡ block bs i
  copied_from = get_or-set_other bs j i (filter f (block bs i)) [] m.apart

  pub compact_to : block (compact f bs i j) j ≡ filter f (block bs i)
  compact_to =
      get_or-set_other (copied f bs i j) i j [] [] (λ q. m.apart (sym q)) ∙ get_or-set_same bs j (filter f (block bs i)) [] m.to

  pub compact_from : block (compact f bs i j) i ≡ []
  compact_from = get_or-set_same (copied f bs i j) i [] [] (lt-length-set bs j (filter f (block bs i)) m.from)

  pub compact-other : (x : ℕ) → (x ≡ i → ⊥) → (x ≡ j → ⊥) → block (compact f bs i j) x ≡ block bs x
  compact-other x xi xj =
      get_or-set_other (copied f bs i j) i x [] [] xi ∙ get_or-set_other bs j x (filter f (block bs i)) [] xj

  -- no count rises; what fails the test in block i is all that goes
  pub compact-tally : (g : Page → Bool) →
      tally g (compact f bs i j) + count g (block bs i) ≡ tally g bs + count g (filter f (block bs i))
  compact-tally g =
      omega (
        arith,
        tally-set g (copied f bs i j) i [] (lt-length-set bs j _ m.from),
        ap (count g) copied_from,
        tally-set g bs j (filter f (block bs i)) m.to,
        ap (count g) m.blank,
      )

  pub compact-tally_le : (g : Page → Bool) → tally g (compact f bs i j) ≤ tally g bs
  compact-tally_le g = omega (arith, compact-tally g, count-filter_le g f (block bs i))

  pub find-compact : (s : ℕ) → tally (numbered s) bs ≤ 1 → Found f (find s bs) (find s (compact f bs i j))
  find-compact s once = go (le_or (count (numbered s) (block bs i)) 0)
    where
      go : (count (numbered s) (block bs i) ≤ 0) ⊎ (0 < count (numbered s) (block bs i)) → Found f (find s bs) (find s (compact f bs i j))
      go (inl l) =
          stays
          (find-set-none s (copied f bs i j) i [] (ap (count (numbered s)) copied_from ∙ omega arith) refl ∙
          find-set-none s bs j (filter f (block bs i)) (ap (count (numbered s)) m.blank)
          (omega (arith, count-filter_le (numbered s) f (block bs i))))
      go (inr l) =
          let here = find-block s bs i (omega arith) in
          let there = find-block s (compact f bs i j) j (omega (arith, compact-tally (numbered s), ap (count (numbered s)) compact_to)) in
          rw (here, there, compact_to) (page_in-filter s f (block bs i) (omega (arith, tally-at (numbered s) bs i)))

  -- while pages are copied, nothing is seen of it
  pub find-copying : (s q : ℕ) → tally (numbered s) bs ≤ 1 → find s (set bs j (take q (filter f (block bs i)))) ≡ find s bs
  find-copying s q once = go (le_or (count (numbered s) (block bs i)) 0)
    where
      copies : List Page
      copies = take q (filter f (block bs i))

      unseen : page_in s copies ≡ None → find s (set bs j copies) ≡ find s bs
      unseen e = find-set s bs j copies (e ∙ ap (page_in s) (sym m.blank))

      go : (count (numbered s) (block bs i) ≤ 0) ⊎ (0 < count (numbered s) (block bs i)) → find s (set bs j copies) ≡ find s bs
      go (inl l) = taken (page_in-take s q (filter f (block bs i)))
        where
          gone : page_in s (filter f (block bs i)) ≡ None
          gone = page_in-none s (filter f (block bs i)) (omega (arith, count-filter_le (numbered s) f (block bs i)))

          taken : (page_in s copies ≡ page_in s (filter f (block bs i))) ⊎ (page_in s copies ≡ None) → find s (set bs j copies) ≡ find s bs
          taken (inl e) = unseen (e ∙ gone)
          taken (inr e) = unseen e
      go (inr l) =
          taken (page_in-take s q (filter f (block bs i))) (page_in-filter s f (block bs i) (omega (arith, tally-at (numbered s) bs i)))
        where
          here : find s bs ≡ page_in s (block bs i)
          here = find-block s bs i (omega arith)

          taken : (page_in s copies ≡ page_in s (filter f (block bs i))) ⊎ (page_in s copies ≡ None) →
              Found f (page_in s (block bs i)) (page_in s (filter f (block bs i))) → find s (set bs j copies) ≡ find s bs
          taken (inr e) r = unseen e
          taken (inl e) (goes p d a b) = unseen (e ∙ d)
          taken (inl e) (stays d) = find_copy s bs j copies m.blank (e ∙ d ∙ sym here)
