-- The tests of the blocks hold exactly where the block rules do: a pool that passes them gives the rules, with the block of the newest
-- page as the current one; and a pool that keeps the rules passes. Assumes nothing.
use Rattle.std.specs.Prelude.{◌≡◌, refl, Bool, true, false, ◌&&◌, ◌||◌, ◌⊎◌, List, [], ◌∷◌, ℕ, zero, suc, ◌+◌, ◌*◌, ◌≤◌, ◌<◌, max, eqb, leb, ltb, length}
use Rattle.std.proofs.Common.{ap, subst, ◌∙◌, inl, inr, suc-le-suc, le_trans, arith, eqb-true, eq-eqb, ne_eqb, leb-true, le-leb, ltb-true, ltb-false, lt-ltb, le-ltb}
use Rattle.std.proofs.Math.Bool.{or-true}
use Rattle.laws.specs.Tests.{and_left, and_right}
use Rattle.laws.specs.Order.{eq_or, le_or}
use Rattle.laws.specs.Counts.{bit, bit_le_one, count, tally, tally-at, empty, empty-nil}
use Rattle.page.specs.Page.{Page, sequence}
use Rattle.store.specs.Pool.{Blocks, block, numbered, above}
use Rattle.store.specs.Allocate.{blanks}
use Rattle.store.specs.Reopen.{Cells, cells, blocks_in, greatest_of, newest, here_or_next, block_of, all_filled, differ_in, differ, full_or, full_or_all, blocks_pass}
use Rattle.store_laws.specs.AllocateLaws.{a_blank, blanks-positive}
use Rattle.store_laws.specs.BlockRules.{Whole, BlockRules}
use Rattle.store_laws.specs.CellLaws.{length-cells, blocks_in-cells, all_filled-cells, length-blocks_in, block-blocks_in}

-- The numbers differ: each is counted at most once.
differ_in_once : (s : ℕ) (b : List Page) (bs : Blocks) → differ_in b bs ≡ true → tally (numbered s) bs ≤ 1 →
    count (numbered s) b + tally (numbered s) bs ≤ 1
differ_in_once s [] bs e h = omega arith
differ_in_once s (p ∷ b) bs e h = go (eq_or (sequence p) s) (differ_in_once s b bs (and_right own (differ_in b bs) e) h)
  where
    own : Bool
    own = eqb (count (numbered (sequence p)) b + tally (numbered (sequence p)) bs) 0

    alone : count (numbered (sequence p)) b + tally (numbered (sequence p)) bs ≡ 0
    alone = eqb-true _ 0 (and_left own (differ_in b bs) e)

    go : (sequence p ≡ s) ⊎ (sequence p ≡ s → ⊥) → count (numbered s) b + tally (numbered s) bs ≤ 1 →
        bit (numbered s p) + count (numbered s) b + tally (numbered s) bs ≤ 1
    go (inl q) r =
        omega (arith, ap (λ z. count (numbered z) b + tally (numbered z) bs) q, alone, bit_le_one (numbered s p))
    go (inr q) r = omega (arith, ap bit (ne_eqb (sequence p) s q))

pub differ_once : (bs : Blocks) → differ bs ≡ true → (s : ℕ) → tally (numbered s) bs ≤ 1
differ_once [] e s = omega arith
differ_once (b ∷ bs) e s =
    differ_in_once s b bs (and_left (differ_in b bs) (differ bs) e) (differ_once bs (and_right (differ_in b bs) (differ bs) e) s)

once_differ_in : (b : List Page) (bs : Blocks) → ((s : ℕ) → count (numbered s) b + tally (numbered s) bs ≤ 1) → differ_in b bs ≡ true
once_differ_in [] bs h = refl
once_differ_in (p ∷ b) bs h =
    rw (
    eq-eqb (count (numbered (sequence p)) b + tally (numbered (sequence p)) bs) 0
    (omega (arith, h (sequence p), ap bit (eq-eqb (sequence p) (sequence p) refl)))
    )
    (once_differ_in b bs (λ s. omega (arith, h s)))

once_differ : (bs : Blocks) → ((s : ℕ) → tally (numbered s) bs ≤ 1) → differ bs ≡ true
once_differ [] h = refl
once_differ (b ∷ bs) h = rw (once_differ_in b bs h) (once_differ bs (λ s. omega (arith, h s)))

-- The newest number: none is above it, and it is a page's.
greatest_of-above : (k : ℕ) (b : List Page) → greatest_of b ≤ k → count (above k) b ≡ 0
unfolding above
greatest_of-above k [] l = refl
greatest_of-above k (p ∷ b) l = omega (arith, ap bit (le-ltb k (sequence p) (omega arith)), greatest_of-above k b (omega arith))

pub newest-above : (k : ℕ) (bs : Blocks) → newest bs ≤ k → tally (above k) bs ≡ 0
newest-above k [] l = refl
newest-above k (b ∷ bs) l = omega (arith, greatest_of-above k b (omega arith), newest-above k bs (omega arith))

greatest_of_le : (k : ℕ) (b : List Page) → count (above k) b ≡ 0 → greatest_of b ≤ k
unfolding above
greatest_of_le k [] e = omega arith
greatest_of_le k (p ∷ b) e = go (le_or (sequence p) k) (greatest_of_le k b (omega arith))
  where
    go : (sequence p ≤ k) ⊎ (k < sequence p) → greatest_of b ≤ k → max (sequence p) (greatest_of b) ≤ k
    go (inl l) r = omega arith
    go (inr l) r = absurd (omega (arith, ap bit (lt-ltb k (sequence p) l)))

pub newest_le : (k : ℕ) (bs : Blocks) → tally (above k) bs ≡ 0 → newest bs ≤ k
newest_le k [] e = omega arith
newest_le k (b ∷ bs) e = omega (arith, greatest_of_le k b (omega arith), newest_le k bs (omega arith))

le_greatest_of : (k : ℕ) (b : List Page) → 0 < count (numbered k) b → k ≤ greatest_of b
le_greatest_of k [] l = absurd (omega arith)
le_greatest_of k (p ∷ b) l = go (eq_or (sequence p) k) (λ q. le_greatest_of k b q)
  where
    go : (sequence p ≡ k) ⊎ (sequence p ≡ k → ⊥) → (0 < count (numbered k) b → k ≤ greatest_of b) → k ≤ max (sequence p) (greatest_of b)
    go (inl q) r = omega arith
    go (inr q) r = omega (arith, r (omega (arith, ap bit (ne_eqb (sequence p) k q))))

pub le_newest : (k : ℕ) (bs : Blocks) → 0 < tally (numbered k) bs → k ≤ newest bs
le_newest k [] l = absurd (omega arith)
le_newest k (b ∷ bs) l = go (le_or 1 (count (numbered k) b)) (λ q. le_newest k bs q)
  where
    go : (1 ≤ count (numbered k) b) ⊎ (count (numbered k) b < 1) → (0 < tally (numbered k) bs → k ≤ newest bs) →
        k ≤ max (greatest_of b) (newest bs)
    go (inl q) r = omega (arith, le_greatest_of k b q)
    go (inr q) r = omega (arith, r (omega arith))

greatest_of_in : (k : ℕ) (b : List Page) → 0 < k → greatest_of b ≡ k → 0 < count (numbered k) b
greatest_of_in k [] l e = absurd (omega arith)
greatest_of_in k (p ∷ b) l e = go (eq_or (sequence p) k) (λ q. greatest_of_in k b l q)
  where
    go : (sequence p ≡ k) ⊎ (sequence p ≡ k → ⊥) → (greatest_of b ≡ k → 0 < count (numbered k) b) →
        0 < bit (numbered k p) + count (numbered k) b
    go (inl q) r = omega (arith, ap bit (eq-eqb (sequence p) k q))
    go (inr q) r = omega (arith, r (omega arith))

newest_in : (k : ℕ) (bs : Blocks) → 0 < k → newest bs ≡ k → 0 < tally (numbered k) bs
newest_in k [] l e = absurd (omega arith)
newest_in k (b ∷ bs) l e = go (eq_or (greatest_of b) k) (λ q. newest_in k bs l q)
  where
    go : (greatest_of b ≡ k) ⊎ (greatest_of b ≡ k → ⊥) → (newest bs ≡ k → 0 < tally (numbered k) bs) →
        0 < count (numbered k) b + tally (numbered k) bs
    go (inl q) r = omega (arith, greatest_of_in k b l q)
    go (inr q) r = omega (arith, r (omega arith))

-- The block of a number that some page has.
pub block_of-has : (s : ℕ) (bs : Blocks) → 0 < tally (numbered s) bs →
    (block_of s bs < length bs) × (0 < count (numbered s) (block bs (block_of s bs)))
block_of-has s [] h = absurd (omega arith)
block_of-has s (b ∷ bs) h = go (ltb 0 (count (numbered s) b)) refl (λ q. block_of-has s bs q)
  where
    go : (t : Bool) → ltb 0 (count (numbered s) b) ≡ t →
        (0 < tally (numbered s) bs → (block_of s bs < length bs) × (0 < count (numbered s) (block bs (block_of s bs)))) →
        (here_or_next t (block_of s bs) < suc (length bs)) × (0 < count (numbered s) (block (b ∷ bs) (here_or_next t (block_of s bs))))
    go true e r = (omega arith, ltb-true 0 (count (numbered s) b) e)
    go false e r =
        let x = r (omega (arith, ltb-false 0 (count (numbered s) b) e)) in
        (omega (arith, x.0), x.1)

-- two blocks together
two_blocks : (f : Page → Bool) (bs : Blocks) (i j : ℕ) → (i ≡ j → ⊥) → count f (block bs i) + count f (block bs j) ≤ tally f bs
two_blocks f [] i j h = omega arith
two_blocks f (b ∷ bs) zero zero h = absurd (h refl)
two_blocks f (b ∷ bs) zero (suc j) h = omega (arith, tally-at f bs j)
two_blocks f (b ∷ bs) (suc i) zero h = omega (arith, tally-at f bs i)
two_blocks f (b ∷ bs) (suc i) (suc j) h = omega (arith, two_blocks f bs i j (λ q. h (ap suc q)))

full_or-at : (width s : ℕ) (bs : Blocks) → full_or_all width s bs ≡ true → (i : ℕ) → full_or width s (block bs i) ≡ true
full_or-at width s [] e i = refl
full_or-at width s (b ∷ bs) e zero = and_left (full_or width s b) (full_or_all width s bs) e
full_or-at width s (b ∷ bs) e (suc i) = full_or-at width s bs (and_right (full_or width s b) (full_or_all width s bs) e) i

full_or-all : (width s : ℕ) (bs : Blocks) → ((i : ℕ) → i < length bs → full_or width s (block bs i) ≡ true) → full_or_all width s bs ≡ true
full_or-all width s [] h = refl
full_or-all width s (b ∷ bs) h = rw (h 0 (omega arith)) (full_or-all width s bs (λ i l. h (suc i) (suc-le-suc l)))

-- The tests of a pool, one by one.
pub record Passing (width k : ℕ) (c : Cells) : Type 0 where
  pub size : length c ≡ width * k
  pub filled : all_filled width k c ≡ true
  pub differ : differ (blocks_in width k c) ≡ true
  pub spare : 0 < blanks (blocks_in width k c)
  pub full : full_or_all width (newest (blocks_in width k c)) (blocks_in width k c) ≡ true

pub passing : (width k : ℕ) (c : Cells) → blocks_pass width k c ≡ true → Passing width k c
unfolding blocks_pass
passing width k c e =
    let bs = blocks_in width k c in
    let full = full_or_all width (newest bs) bs in
    let b = and_right (eqb (length c) (width * k)) (all_filled width k c && (differ bs && (leb 1 (blanks bs) && full))) e in
    let d = and_right (all_filled width k c) (differ bs && (leb 1 (blanks bs) && full)) b in
    let f = and_right (differ bs) (leb 1 (blanks bs) && full) d in
    record {
      size = eqb-true _ _ (and_left (eqb (length c) (width * k)) _ e);
      filled = and_left (all_filled width k c) _ b;
      differ = and_left (differ bs) _ d;
      spare = leb-true 1 (blanks bs) (and_left (leb 1 (blanks bs)) full f);
      full = and_right (leb 1 (blanks bs)) full f;
    }

pub passing_true : (width k : ℕ) (c : Cells) → Passing width k c → blocks_pass width k c ≡ true
unfolding blocks_pass
passing_true width k c p =
    rw (eq-eqb (length c) (width * k) p.size, p.filled, p.differ, le-leb 1 (blanks (blocks_in width k c)) p.spare) p.full

-- A POOL THAT PASSES keeps the rules, its newest page in the current block
pub passing_rules : (width k : ℕ) (c : Cells) → Passing width k c → tally (numbered 0) (blocks_in width k c) ≡ 0 → 0 < newest (blocks_in width k c) →
    BlockRules width k (blocks_in width k c) (block_of (newest (blocks_in width k c)) (blocks_in width k c)) (newest (blocks_in width k c))
passing_rules width k c p z l =
    record {
      size = length-blocks_in width k c;
      inside = omega (arith, here.0, length-blocks_in width k c);
      most = block-blocks_in width k c;
      spare = a_blank bs p.spare;
      whole = λ i q. whole i q (empty (block bs i)) refl (eqb (length (block bs i)) width) refl (full_or-at width (newest bs) bs p.full i);
      newest = newest bs;
      newest_here = here.1;
      none_newer = newest-above (newest bs) bs (omega arith);
      once = differ_once bs p.differ;
      from_one = z;
      within = newest-above (newest bs) bs (omega arith);
    }
  where
    bs : Blocks
    bs = blocks_in width k c

    here : (block_of (newest (blocks_in width k c)) (blocks_in width k c) < length (blocks_in width k c)) ×
        (0 < count (numbered (newest (blocks_in width k c))) (block (blocks_in width k c) (block_of (newest (blocks_in width k c)) (blocks_in width k c))))
    here = block_of-has (newest bs) bs (newest_in (newest bs) bs l refl)

    whole : (i : ℕ) → (i ≡ block_of (newest bs) bs → ⊥) → (t : Bool) → empty (block bs i) ≡ t → (u : Bool) → eqb (length (block bs i)) width ≡ u →
        (t || (u || ltb 0 (count (numbered (newest bs)) (block bs i)))) ≡ true → Whole width (block bs i)
    whole i q true e u d h = inl (empty-nil (block bs i) e)
    whole i q false e true d h = inr (eqb-true (length (block bs i)) width d)
    whole i q false e false d h =
        absurd
        (omega (
          arith,
          ltb-true 0 (count (numbered (newest bs)) (block bs i)) h,
          here.1,
          two_blocks (numbered (newest bs)) bs i (block_of (newest bs) bs) q,
          differ_once bs p.differ (newest bs),
        ))

-- Where the rules hold: the newest number and its block.
module _ {width B : ℕ} {bs : Blocks} {current last : ℕ} (r : BlockRules width B bs current last) where
  newest-has : 0 < tally (numbered r.newest) bs
  newest-has = le_trans r.newest_here (tally-at (numbered r.newest) bs current)

  pub rules_newest : r.newest ≡ newest bs
  rules_newest = omega (arith, newest_le r.newest bs r.none_newer, le_newest r.newest bs newest-has)

  -- the block of a number that the current block has is the current one
  block_of_current : (s : ℕ) → 0 < count (numbered s) (block bs current) → block_of s bs ≡ current
  block_of_current s h = go (eq_or (block_of s bs) current)
    where
      there : (block_of s bs < length bs) × (0 < count (numbered s) (block bs (block_of s bs)))
      there = block_of-has s bs (le_trans h (tally-at (numbered s) bs current))

      go : (block_of s bs ≡ current) ⊎ (block_of s bs ≡ current → ⊥) → block_of s bs ≡ current
      go (inl q) = q
      go (inr q) = absurd (omega (arith, there.1, two_blocks (numbered s) bs (block_of s bs) current q, r.once s))

  pub rules_current : block_of (newest bs) bs ≡ current
  rules_current = block_of_current (newest bs) (subst (λ s. 0 < count (numbered s) (block bs current)) rules_newest r.newest_here)

  pub rules_blocks : blocks_in width B (cells width bs) ≡ bs
  rules_blocks = subst (λ (z : ℕ). blocks_in width z (cells width bs) ≡ bs) r.size (blocks_in-cells width bs r.most)

  rules_full : (i : ℕ) → (i ≡ current) ⊎ (i ≡ current → ⊥) → full_or width (newest bs) (block bs i) ≡ true
  rules_full i (inl q) =
      rw (
        q,
        ← rules_newest,
        lt-ltb 0 (count (numbered r.newest) (block bs current)) r.newest_here,
        or-true (eqb (length (block bs current)) width),
      )
      (or-true (empty (block bs current)))
  rules_full i (inr q) = go (r.whole i q)
    where
      go : Whole width (block bs i) → full_or width (newest bs) (block bs i) ≡ true
      go (inl e) = rw e refl
      go (inr e) = rw (eq-eqb (length (block bs i)) width e) (or-true (empty (block bs i)))

  -- OUR OWN POOL PASSES
  pub rules_passing : Passing width B (cells width bs)
  rules_passing =
      record {
        size = length-cells width bs ∙ omega (arith, ap (λ z. width * z) r.size);
        filled = subst (λ (z : ℕ). all_filled width z (cells width bs) ≡ true) r.size (all_filled-cells width bs);
        differ = rw rules_blocks (once_differ bs r.once);
        spare = rw rules_blocks (blanks-positive bs r.spare.number r.spare.inside r.spare.blank);
        full = rw rules_blocks (full_or-all width (newest bs) bs (λ i l. rules_full i (eq_or i current)));
      }
