-- The block rules hold again after a place is found: it is found with at most one compaction, and never fails while live pages are fewer than all
-- blocks but one hold. Assumes nothing.
use Rattle.std.specs.Prelude.{◌≡◌, Bool, ◌⊎◌, List, [], ℕ, zero, suc, ◌*◌, ◌-◌, ◌≤◌, ◌<◌, length}
use Rattle.std.proofs.Math.Path.{refl, ap}
use Rattle.std.proofs.Common.{sym, ◌∙◌, inl, inr, le_trans, length-set}
use Rattle.std.proofs.Math.Bool.{true, false}
use native.Mathlib.Omega.{arith}
use borrow.Author.Tests.{leb-true, ltb-true, ltb-false}
use Rattle.std.proofs.Math.Dec.{leb, ltb}
use Rattle.laws.specs.Order.{eq_or}
use Rattle.laws.specs.Counts.{count, length-filter, filter, tally}
use Rattle.page.specs.Page.{Page}
use Rattle.store.specs.Pool.{Blocks, block, numbered, above}
use Rattle.store.specs.Allocate.{blanks, next_blank, copied, compact, spot_by, spot}
use Rattle.store_laws.specs.PoolLaws.{Moves, compact_to, compact_from, compact-other, compact-tally_le}
use Rattle.store_laws.specs.AllocateLaws.{another_blank}
use Rattle.store_laws.specs.BlockRules.{Whole, BlockRules, Ready, How, stays, moves, next-blank, spot_moves}

-- A compaction, where every block is blank or full: its copies leave room, and the old block is blank.
module _ {width B : ℕ} {bs : Blocks} {current k : ℕ} (keep : Page → Bool) (r : BlockRules width B bs current k) {i j : ℕ} (m : Moves bs i j)
    (few : count keep (block bs i) < width) (all : (x : ℕ) → Whole width (block bs x)) where
  compact_free : length (block (compact keep bs i j) j) < width
  compact_free = rw (compact_to keep m, length-filter keep (block bs i)) few

  compact-whole : (x : ℕ) → (x ≡ j → ⊥) → Whole width (block (compact keep bs i j) x)
  compact-whole x xj = go (eq_or x i)
    where
      go : (x ≡ i) ⊎ (x ≡ i → ⊥) → Whole width (block (compact keep bs i j) x)
      go (inl q) = inl (rw q (compact_from keep m))
      go (inr q) = rw (compact-other keep m x q xj) (all x)

  compact_most : (x : ℕ) → length (block (compact keep bs i j) x) ≤ width
  compact_most x = go (eq_or x j)
    where
      whole_most : (b : List Page) → Whole width b → length b ≤ width
      whole_most b (inl e) = rw e (omega arith)
      whole_most b (inr e) = omega arith

      go : (x ≡ j) ⊎ (x ≡ j → ⊥) → length (block (compact keep bs i j) x) ≤ width
      go (inl q) = rw q (omega (arith, compact_free))
      go (inr q) = whole_most (block (compact keep bs i j) x) (compact-whole x q)

  compact-size : length (compact keep bs i j) ≡ length bs
  compact-size = length-set (copied keep bs i j) i [] ∙ length-set bs j (filter keep (block bs i))

  compact_ready : Ready width B (compact keep bs i j) j k
  compact_ready =
      record {
        size = compact-size ∙ r.size;
        inside = omega (arith, m.to, r.size);
        most = compact_most;
        free = compact_free;
        spare =
            record { number = i; inside = omega (arith, m.from, compact-size); other = m.apart; blank = compact_from keep m };
        whole = compact-whole;
        once = λ s. le_trans (compact-tally_le keep m (numbered s)) (r.once s);
        from_one = omega (arith, compact-tally_le keep m (numbered 0), r.from_one);
        within = omega (arith, compact-tally_le keep m (above k), r.within);
      }

product_positive : (x y t : ℕ) → t < x * y → 0 < x
product_positive zero y t h = omega arith
product_positive (suc x) y t h = omega arith

module _ {width B : ℕ} {bs : Blocks} {current k : ℕ} (keep : Page → Bool) (r : BlockRules width B bs current k)
    (bound : tally keep bs < width * (B - 1)) where
  all_whole : ltb (length (block bs current)) width ≡ false → (i : ℕ) → Whole width (block bs i)
  all_whole e i = go (eq_or i current)
    where
      go : (i ≡ current) ⊎ (i ≡ current → ⊥) → Whole width (block bs i)
      go (inl q) = inr (rw q (omega (arith, r.most current, ltb-false (length (block bs current)) width e)))
      go (inr q) = r.whole i q

  -- the current block is not the blank one
  current_written : (i : ℕ) → block bs i ≡ [] → i ≡ current → ⊥
  current_written i e q =
      omega (arith, r.newest_here, ap (count (numbered r.newest)) (ap (λ z. block bs z) (sym q) ∙ e))

  -- NEVER STUCK: a place is found, with at most one compaction
  pub spot_ready : Ready width B (spot width keep bs current).blocks (spot width keep bs current).current k
  unfolding spot
  spot_ready = go (ltb (length (block bs current)) width) refl (leb 2 (blanks bs)) refl
    where
      go : (a : Bool) → ltb (length (block bs current)) width ≡ a → (b : Bool) → leb 2 (blanks bs) ≡ b →
          Ready width B (spot_by a b keep bs current).blocks (spot_by a b keep bs current).current k
      go true ea b eb =
          record {
            size = r.size;
            inside = r.inside;
            most = r.most;
            free = ltb-true (length (block bs current)) width ea;
            spare =
                record {
                  number = r.spare.number;
                  inside = r.spare.inside;
                  other = current_written r.spare.number r.spare.blank;
                  blank = r.spare.blank;
                };
            whole = r.whole;
            once = r.once;
            from_one = r.from_one;
            within = r.within;
          }
      go false ea true eb =
          record {
            size = r.size;
            inside = omega (arith, (next-blank keep r bound).0, r.size);
            most = r.most;
            free = rw (next-blank keep r bound).1 (product_positive width (B - 1) (tally keep bs) bound);
            spare = another_blank bs (next_blank bs current) (leb-true 2 (blanks bs) eb);
            whole = λ i q. all_whole ea i;
            once = r.once;
            from_one = r.from_one;
            within = r.within;
          }
      go false ea false eb = let x = spot_moves keep r bound eb in compact_ready keep r x.0 x.1 (all_whole ea)

  pub spot_how : How keep bs (spot width keep bs current).blocks
  unfolding spot
  spot_how = go (ltb (length (block bs current)) width) (leb 2 (blanks bs)) refl
    where
      go : (a b : Bool) → leb 2 (blanks bs) ≡ b → How keep bs (spot_by a b keep bs current).blocks
      go true b eb = stays
      go false true eb = stays
      go false false eb = moves (spot_moves keep r bound eb).0
