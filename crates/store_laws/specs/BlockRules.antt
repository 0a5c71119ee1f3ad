-- The block rules of document 01, and that they hold again after a page is written; and how a place for it comes about: where a block is compacted,
-- live pages leave it room. Assumes nothing.
use Rattle.std.specs.Prelude.{◌≡◌, Bool, ◌⊎◌, List, [], ◌∷◌, ◌++◌, ℕ, suc, ◌+◌, ◌*◌, ◌-◌, ◌≤◌, ◌<◌, length}
use Rattle.std.proofs.Math.Path.{ap}
use Rattle.std.proofs.Common.{sym, ◌∙◌, inl, inr, length-set, length-append, get_or-set_same, get_or-set_other}
use Rattle.std.proofs.Math.Bool.{false}
use native.Mathlib.Omega.{arith}
use borrow.Author.Tests.{eqb-true, eq-eqb, ne_eqb, leb-false, lt-ltb, le-ltb, ltb-true}
use Rattle.std.proofs.Math.Dec.{leb}
use Rattle.laws.specs.Tests.{test_clash}
use Rattle.laws.specs.Order.{eq_or}
use Rattle.laws.specs.Counts.{bit, count, count-append, tally, tally_mono, tally-set, empty, occupied}
use Rattle.page.specs.Page.{Page, sequence}
use Rattle.store.specs.Pool.{Blocks, block, numbered, above, add_to}
use Rattle.store.specs.Allocate.{blanks, next_blank, victim, compact}
use Rattle.store_laws.specs.PoolLaws.{Moves, compact-tally_le}
use Rattle.store_laws.specs.AllocateLaws.{victim-room, blanks-occupied, blanks-positive, BlankAt, next_blank-blank}

-- A block is blank or full.
abbrev pub Whole : ℕ → List Page → Type 0
Whole width b = (b ≡ []) ⊎ (length b ≡ width)

-- What holds between operations, of B blocks of some width: one is blank; all but the current are blank or full; the current one
-- holds the newest page; page numbers differ, are from 1 and at most `last`.
pub record BlockRules (width B : ℕ) (bs : Blocks) (current last : ℕ) : Type 0 where
  pub size : length bs ≡ B
  pub inside : current < B
  pub most : (i : ℕ) → length (block bs i) ≤ width
  -- "At least one block is wholly blank"
  pub spare : BlankAt bs (λ i. Unit {0})
  -- "at most one is partly written, and it holds the greatest stamp"
  pub whole : (i : ℕ) → (i ≡ current → ⊥) → Whole width (block bs i)
  pub newest : ℕ
  pub newest_here : 0 < count (numbered newest) (block bs current)
  pub none_newer : tally (above newest) bs ≡ 0
  -- "Page stamps all differ", "from 1"
  pub once : (s : ℕ) → tally (numbered s) bs ≤ 1
  pub from_one : tally (numbered 0) bs ≡ 0
  pub within : tally (above last) bs ≡ 0

-- What holds when a page is about to be written to the current block: it has room, and another is blank.
pub record Ready (width B : ℕ) (bs : Blocks) (current last : ℕ) : Type 0 where
  pub size : length bs ≡ B
  pub inside : current < B
  pub most : (i : ℕ) → length (block bs i) ≤ width
  pub free : length (block bs current) < width
  pub spare : BlankAt bs (λ i. i ≡ current → ⊥)
  pub whole : (i : ℕ) → (i ≡ current → ⊥) → Whole width (block bs i)
  pub once : (s : ℕ) → tally (numbered s) bs ≤ 1
  pub from_one : tally (numbered 0) bs ≡ 0
  pub within : tally (above last) bs ≡ 0

pub add_to-tally : (f : Page → Bool) (bs : Blocks) (i : ℕ) (p : Page) → i < length bs → tally f (add_to bs i p) ≡ tally f bs + bit (f p)
add_to-tally f bs i p l = omega (arith, tally-set f bs i (block bs i ++ (p ∷ [])) l, count-append f (block bs i) (p ∷ []))

-- no page has a number that is not taken yet
pub numbered-none : (k : ℕ) (bs : Blocks) → tally (above k) bs ≡ 0 → (s : ℕ) → k < s → tally (numbered s) bs ≡ 0
unfolding above
numbered-none k bs o s l =
    omega (arith, tally_mono (numbered s) (above k) bs (λ p e. lt-ltb k (sequence p) (omega (arith, eqb-true (sequence p) s e))))

above-suc : (k : ℕ) (bs : Blocks) → tally (above (suc k)) bs ≤ tally (above k) bs
unfolding above
above-suc k bs =
    tally_mono (above (suc k)) (above k) bs (λ p q. lt-ltb k (sequence p) (omega (arith, ltb-true (suc k) (sequence p) q)))

-- a number goes to a version
pub rules_later : {width B : ℕ} {bs : Blocks} {current k : ℕ} → BlockRules width B bs current k → BlockRules width B bs current (suc k)
rules_later {bs = bs} {k = k} r =
    record {
      size = r.size;
      inside = r.inside;
      most = r.most;
      spare = r.spare;
      whole = r.whole;
      newest = r.newest;
      newest_here = r.newest_here;
      none_newer = r.none_newer;
      once = r.once;
      from_one = r.from_one;
      within = omega (arith, above-suc k bs, r.within);
    }

-- A page of the next number is written.
module _ {width B : ℕ} {bs : Blocks} {current k : ℕ} (p : Page) (e : sequence p ≡ suc k) (r : Ready width B bs current k) where
  inside : current < length bs
  inside = omega (arith, r.size, r.inside)

  pub added_current : block (add_to bs current p) current ≡ block bs current ++ (p ∷ [])
  added_current = get_or-set_same bs current (block bs current ++ (p ∷ [])) [] inside

  added-other : (i : ℕ) → (i ≡ current → ⊥) → block (add_to bs current p) i ≡ block bs i
  added-other i q = get_or-set_other bs current i (block bs current ++ (p ∷ [])) [] q

  added_most : (i : ℕ) → (i ≡ current) ⊎ (i ≡ current → ⊥) → length (block (add_to bs current p) i) ≤ width
  added_most i (inl q) = rw (q, added_current) (omega (arith, length-append (block bs current) (p ∷ []), r.free))
  added_most i (inr q) = rw (added-other i q) (r.most i)

  added_once : (s : ℕ) → (s ≡ suc k) ⊎ (s ≡ suc k → ⊥) → tally (numbered s) (add_to bs current p) ≤ 1
  added_once s (inl q) =
      omega (
        arith,
        add_to-tally (numbered s) bs current p inside,
        numbered-none k bs r.within s (omega arith),
        ap bit (eq-eqb (sequence p) s (omega arith)),
      )
  added_once s (inr q) =
      omega (
        arith,
        add_to-tally (numbered s) bs current p inside,
        r.once s,
        ap bit (ne_eqb (sequence p) s (λ z. q (sym z ∙ e))),
      )

  added-above : tally (above (suc k)) (add_to bs current p) ≡ 0
  unfolding above
  added-above =
      omega (
        arith,
        add_to-tally (above (suc k)) bs current p inside,
        r.within,
        ap bit (le-ltb (suc k) (sequence p) (omega arith)),
        above-suc k bs,
      )

  pub written_rules : BlockRules width B (add_to bs current p) current (suc k)
  written_rules =
      record {
        size = length-set bs current _ ∙ r.size;
        inside = r.inside;
        most = λ i. added_most i (eq_or i current);
        spare =
            record {
              number = r.spare.number;
              inside = rw (length-set bs current (block bs current ++ (p ∷ []))) r.spare.inside;
              other = tt;
              blank = added-other r.spare.number r.spare.other ∙ r.spare.blank;
            };
        whole = λ i q. rw (added-other i q) (r.whole i q);
        newest = suc k;
        newest_here =
            rw added_current
            (omega (arith, count-append (numbered (suc k)) (block bs current) (p ∷ []), ap bit (eq-eqb (sequence p) (suc k) e)));
        none_newer = added-above;
        once = λ s. added_once s (eq_or s (suc k));
        from_one =
            add_to-tally (numbered 0) bs current p inside ∙
            omega (arith, r.from_one, ap bit (ne_eqb (sequence p) 0 (λ q. omega arith)));
        within = added-above;
      }

-- How a place comes about: nothing moves, or one block is moved.
pub data How (keep : Page → Bool) (bs : Blocks) : Blocks → Type 0 where
  stays : How keep bs bs
  moves : {i j : ℕ} → Moves bs i j → How keep bs (compact keep bs i j)

pub how_tally : {keep : Page → Bool} {bs bs' : Blocks} (f : Page → Bool) → How keep bs bs' → tally f bs' ≤ tally f bs
how_tally f stays = omega arith
how_tally {keep} f (moves m) = compact-tally_le keep m f

module _ {width B : ℕ} {bs : Blocks} {current k : ℕ} (keep : Page → Bool) (r : BlockRules width B bs current k)
    (bound : tally keep bs < width * (B - 1)) where
  pub next-blank : (next_blank bs current < length bs) × (block bs (next_blank bs current) ≡ [])
  next-blank = next_blank-blank bs current r.spare.number r.spare.inside r.spare.blank

  -- where one block alone is blank, the one that is compacted is another, and has room
  pub spot_moves : leb 2 (blanks bs) ≡ false → Moves bs (victim keep bs) (next_blank bs current) × (count keep (block bs (victim keep bs)) < width)
  spot_moves e =
      let one : blanks bs ≡ 1 =
      omega (arith, blanks-positive bs r.spare.number r.spare.inside r.spare.blank, leb-false 2 (blanks bs) e) in
      let others : occupied bs ≡ B - 1 = omega (arith, blanks-occupied bs, r.size) in
      let v = victim-room width keep bs (rw others bound) in (
        record {
          from = v.inside;
          to = next-blank.0;
          apart = λ q. test_clash (empty (block bs (victim keep bs))) (rw q (ap empty next-blank.1)) v.written;
          blank = next-blank.1;
        },
        v.room,
      )
