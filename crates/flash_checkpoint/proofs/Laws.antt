-- The records of scores one behind another, the image of a checkpoint page, and the steps of a checkpoint put together. Assumes nothing.
use mathlib.Core.Path.{◌≡◌, refl, sym, ap, ap₂, ◌∙◌}
use Rattle.std.specs.Prelude.{Bool, true, false, IfSome}
use Rattle.page.specs.Limits.{given}
use mathlib.Core.List.{List, [], ◌∷◌, ◌++◌, map, append_assoc}
use Prim.Native.Nat.{ℕ, zero, suc, ◌+◌, ◌-◌, ◌*◌, ◌≤◌, ◌<◌}
use native.Mathlib.Nat.{add-zero, sub-zero}
use native.Mathlib.Omega.{arith}
use lib.Dec.{eqb}
use lib.ListN.{length, get_or, set, take, drop, replicate, length-append}
use Rattle.std.proofs.Common.{◌⊎◌, inl, inr, min}
use Rattle.laws.specs.Order.{le_or}
use borrow.Author.Tests.{le-leb, lt-leb, eq-eqb, ne_eqb}
use Rattle.laws.specs.Every.{Every, none, both, map_back}
use Rattle.laws.specs.Lay.{lay, part, lay-nil, lay-next, part-append, part-front}
use Rattle.laws.specs.BigEndian.{Bytes}
use Rattle.layout.specs.Layout.{page_bytes, node_limit}
use Rattle.account.specs.declared.Tariff.{Tariff}
use Rattle.flash_rows.specs.Row.{no_row}
use Rattle.flash_rows.specs.declared.Row.{Row}
use Rattle.flash_rows.specs.Worktable.{Worktable, with_row}
use Rattle.page.specs.Page.{Score, page}
use Rattle.page.specs.Page as p
use Rattle.page.specs.Image.{score_bytes, tariff_bytes, count_bytes, fields, field_if, content_bytes, numbered, sealed, image}
use Rattle.page.specs.Decode.{most_scores}
use Rattle.page.specs.Decode as decode
use Rattle.page.specs.Spelled.{score_bytes_of, length-score_bytes}
use Rattle.page_write.specs.Chunks.{chunks}
use Rattle.std.specs.Bool.{then_some}
use Rattle.page_checkpoint.specs.Checkpoint.{scored, scores_in, records_page}
use Rattle.page.specs.ImageBytes.{bytes-score}
use Rattle.flash_allocate.specs.World.{World, world, spot, used, Good, Made, Kept}
use Rattle.flash_allocate.specs.Allocate.{allocate}
use Rattle.flash_allocate.specs.declared.flash.Flash.{Flash}
use Rattle.flash_allocate.specs.Flash.{Steps}
use Rattle.flash_allocate.specs.declared.state.State.{State}
use Rattle.flash_log.specs.Flush.{if_room, flush}
use Rattle.flash_log.proofs.Laws.{Beside, room_yes, room_no, allocated}
use Rattle.flash_checkpoint.specs.Scores.{scores_of, scores_bytes}
use Rattle.flash_checkpoint.specs.CheckpointPages.{scores_before, scores_of_page, ScoresOfPage, page_count, checkpoint_image, checkpoint_row}
use Rattle.flash_checkpoint.specs.CheckpointPages.{write_checkpoint_page, checkpoint_page, checkpoint_pages, drain, checkpoint}
use Rattle.flash_checkpoint.specs.CheckpointPages.{Closing, CheckpointPageWritten, Ended}
use Rattle.flash_allocate.specs.State.{next_sequence, page_counted}

-- ---- scores

pub length-scores_of : (rows : List Row) (from n : ℕ) → length (scores_of rows from n) ≡ n
unfolding scores_of
length-scores_of rows from zero = refl
length-scores_of rows from (suc n) = ap suc (length-scores_of rows (from + 1) n)

every-score : (ss : List Score) → Every (λ b. (length b ≡ 6) × Bytes b) (map score_bytes ss)
every-score [] = none
every-score (s ∷ ss) = both (length-score_bytes s, bytes-score s) (every-score ss)

-- The start, a turn and the end of the loop that lays records.
module _ (rows : List Row) (from n : ℕ) where
  pub records_begin : (records : List ℕ) → lay records (6 * 0) (scores_bytes (scores_of rows (from + 0) (n - 0))) ≡ lay
      records 0 (scores_bytes (scores_of rows from n))
  records_begin records = ap₂ (λ (i k : ℕ). lay records 0 (scores_bytes (scores_of rows i k))) (add-zero from) (sub-zero n)

  pub records_more : (records : List ℕ) (i : ℕ) → i < n → 6 * i ≤ length records →
      lay (lay records (6 * i) (score_bytes (scored (from + i) (get_or rows (from + i) no_row).score))) (6 * (i + 1))
      (scores_bytes (scores_of rows (from + (i + 1)) (n - (i + 1)))) ≡
      lay records (6 * i) (scores_bytes (scores_of rows (from + i) (n - i)))
  unfolding scores_of scores_bytes
  records_more records i h l =
      let first : Score = scored (from + i) (get_or rows (from + i) no_row).score in
      let turn : n - i ≡ suc (n - (i + 1)) = omega arith in
      let next : from + i + 1 ≡ from + (i + 1) = omega arith in
      let at : 6 * (i + 1) ≡ 6 * i + length (score_bytes first) = omega (arith, length-score_bytes first) in
      lay-next records (6 * i) (score_bytes first) (scores_bytes (scores_of rows (from + (i + 1)) (n - (i + 1)))) (6 * (i + 1)) l at ∙
      sym
      (ap (λ (k : ℕ). lay records (6 * i) (scores_bytes (scores_of rows (from + i) k))) turn ∙
      ap (λ (j : ℕ). lay records (6 * i) (score_bytes first ++ scores_bytes (scores_of rows j (n - (i + 1))))) next)

  pub records_done : (records : List ℕ) (i : ℕ) → n ≤ i → lay records (6 * i) (scores_bytes (scores_of rows (from + i) (n - i))) ≡ records
  unfolding scores_of scores_bytes
  records_done records i h =
      let over : n - i ≡ 0 = omega arith in
      ap (λ (k : ℕ). lay records (6 * i) (scores_bytes (scores_of rows (from + i) k))) over ∙ lay-nil records (6 * i)

-- The records taken apart again.
chunks-scores : (ss : List Score) (front rest : List ℕ) → chunks 6 (length ss) (front ++ (scores_bytes ss ++ rest)) (length front) ≡ map score_bytes ss
unfolding chunks scores_bytes
chunks-scores [] front rest = refl
chunks-scores (s ∷ ss) front rest =
    let whole : List ℕ = front ++ ((score_bytes s ++ scores_bytes ss) ++ rest) in
    let one : part whole (length front) 6 ≡ score_bytes s =
    ap (λ (i : ℕ). part whole i 6) (sym (add-zero (length front))) ∙
    part-append front ((score_bytes s ++ scores_bytes ss) ++ rest) 0 6 ∙
    ap (λ (l : List ℕ). part l 0 6) (append_assoc (score_bytes s) (scores_bytes ss) rest) ∙
    part-front (score_bytes s) (scores_bytes ss ++ rest) 6 (length-score_bytes s) in
    let same : whole ≡ (front ++ score_bytes s) ++ (scores_bytes ss ++ rest) = simp append_assoc in
    let at : length front + 6 ≡ length (front ++ score_bytes s) = sym
    (length-append front (score_bytes s) ∙ ap (λ (k : ℕ). length front + k) (length-score_bytes s)) in
    ap₂ ◌∷◌ one
    (ap₂ (λ (l : List ℕ) (i : ℕ). chunks 6 (length ss) l i) same at ∙ chunks-scores ss (front ++ score_bytes s) rest)

chunks_records : (ss : List Score) (n : ℕ) → length ss ≡ n → (base : List ℕ) → chunks 6 n (lay base 0 (scores_bytes ss)) 0 ≡ map score_bytes ss
unfolding lay
chunks_records ss n e base =
    ap (λ (k : ℕ). chunks 6 k (take 0 base ++ (scores_bytes ss ++ drop (0 + length (scores_bytes ss)) base)) 0) (sym e) ∙
    chunks-scores ss [] (drop (0 + length (scores_bytes ss)) base)

-- The image made from records is the page of these scores.
image_records : (number : ℕ) (first last : Bool) (t : Tariff) (ss : List Score) (n : ℕ) → length ss ≡ n → (base : List ℕ) (count : ℕ) →
    image (records_page number (then_some first t) n (lay base 0 (scores_bytes ss)) (then_some last count)) ≡ image (page number (p.checkpoint (then_some first t) ss (then_some last count)))
unfolding records_page scores_in image content_bytes
image_records number first last t ss n e base count =
    ap (λ (ps : List (List ℕ)). sealed page_bytes
    (numbered number (field_if 0x13 tariff_bytes (then_some first t) ++
    (fields 0x14 ps ++ field_if 0x15 count_bytes (then_some last count)))))
    (ap (λ (ps : List (List ℕ)). map score_bytes (map decode.score_of ps)) (chunks_records ss n e base) ∙
    map_back decode.score_of score_bytes (λ b f. score_bytes_of b f.1 f.0) (map score_bytes ss) (every-score ss))

-- ---- checkpoint pages

pub most_scores_lem : (k r : ℕ) → (k ≡ 0 → r ≤ 50) → r ≤ 54 → r ≤ most_scores (eqb k 0)
most_scores_lem zero r f h = f refl
most_scores_lem (suc k) r f h = rw (ne_eqb (suc k) 0 (λ e. omega arith)) h

module _ (k nodes start : ℕ) (e : start ≡ scores_before k) (h : scores_before k ≤ nodes) where
  size-full : 54 * k + 50 ≤ nodes → ScoresOfPage k nodes (54 * k + 50 - start)
  unfolding scores_of_page
  size-full l =
      record {
        is = rw (le-leb (54 * k + 50) nodes l, e) refl;
        inside = omega arith;
        few = omega arith;
        first = most_scores_lem k _ (λ z. omega arith) (omega arith);
      }

  size-rest : nodes < 54 * k + 50 → ScoresOfPage k nodes (nodes - start)
  unfolding scores_of_page
  size-rest l =
      record {
        is = rw (lt-leb (54 * k + 50) nodes l, e) refl;
        inside = omega arith;
        few = omega arith;
        first = most_scores_lem k _ (λ z. omega arith) (omega arith);
      }

  -- up to the first of the next page, or up to the last node
  pub size_min : (end : ℕ) → end ≡ min nodes (54 * k + 50) → ScoresOfPage k nodes (end - start)
  size_min end m = go (le_or (54 * k + 50) nodes)
    where
      go : (54 * k + 50 ≤ nodes) ⊎ (nodes < 54 * k + 50) → ScoresOfPage k nodes (end - start)
      go (inl l) = let whole : end ≡ 54 * k + 50 = omega (arith, m) in rw whole (size-full l)
      go (inr l) = let rest : end ≡ nodes = omega (arith, m) in rw rest (size-rest l)

-- What a page has, and its node count within two bytes.
pub given-then_some : {A : Type 0} (flag : Bool) (a : A) → given (then_some flag a) ≡ flag
given-then_some true a = refl
given-then_some false a = refl

pub count_fits : (flag : Bool) (nodes : ℕ) → nodes < 65536 → IfSome (then_some flag nodes) (λ n. n < 65536)
count_fits true nodes h = h
count_fits false nodes h = tt

pub page_image : (number : ℕ) (t : Tariff) (k nodes : ℕ) (rows : List Row) (from n count : ℕ) (records bytes : List ℕ) →
    from ≡ scores_before k → n ≡ scores_of_page k nodes → count ≡ page_count nodes → records ≡ lay (replicate 324 0) 0
    (scores_bytes (scores_of rows from n)) →
    bytes ≡ image (records_page number (then_some (eqb k 0) t) n records (then_some (eqb (k + 1) count) nodes)) → bytes ≡ checkpoint_image number t k nodes rows
unfolding checkpoint_image
page_image number t k nodes rows from n count records bytes f s c r b =
    b ∙
    ap (λ (l : List ℕ). image (records_page number (then_some (eqb k 0) t) n l (then_some (eqb (k + 1) count) nodes))) r ∙
    image_records number (eqb k 0) (eqb (k + 1) count) t (scores_of rows from n) n (length-scores_of rows from n) (replicate 324 0) nodes ∙
    ap₂ (λ (i m : ℕ). image (page number (p.checkpoint (then_some (eqb k 0) t) (scores_of rows i m) (then_some (eqb (k + 1) count) nodes)))) f s ∙
    ap (λ (m : ℕ). image (page number
    (p.checkpoint (then_some (eqb k 0) t) (scores_of rows (scores_before k) (scores_of_page k nodes))
    (then_some (eqb (k + 1) m) nodes)))) c

-- The page, the row and the state of a checkpoint page put together.
pub checkpoint_page_written : {P T P' T' : ℕ} (t : Tariff) (k : ℕ) (pages pages' : List (List ℕ))
    (v v' : Worktable) (s s₁ : State) (number : ℕ) →
    Good P T s → Closing k s → P' ≡ P → T' ≡ T → s.fill < 32 → number ≡ next_sequence s.last →
    pages' ≡ set pages (spot s) (checkpoint_image number t k s.nodes v.rows) → v' ≡ with_row (used s)
    (checkpoint_row number (spot s)) v → s₁ ≡ page_counted number s →
    CheckpointPageWritten P' T' s (world pages' v' s₁) (write_checkpoint_page t k (world pages v s))
unfolding write_checkpoint_page page_counted
checkpoint_page_written t k pages pages' v v' s s₁ number g w pl tl h e f r a =
    rw a
    (record {
      is = rw (f, r, e) refl;
      good =
          record {
            few = g.few;
            most = g.most;
            pool = pl ∙ g.pool;
            table = omega (arith, tl, g.table);
            inside = g.inside;
            full = omega arith;
            used = omega (arith, w.limit, w.needed, w.before, g.few);
            entries = g.entries;
          };
      blocks = refl;
      nodes = refl;
      checkpoint = omega arith;
    })

-- A state that no step of the log buffer changed where a checkpoint page looks.
pub closing_beside : (k : ℕ) (s s' : State) → Beside s s' → Closing k s → Closing k s'
closing_beside k s s' b w =
    record {
      limit = rw (b.nodes, b.blocks) w.limit;
      needed = rw b.nodes w.needed;
      before = rw b.checkpoint w.before;
    }

-- An allocation and a checkpoint page where it left room.
module _ {P T : ℕ} (t : Tariff) (k : ℕ) (w w₁ : World) (m : Made P T w₁ (allocate w)) where
  pub checkpoint_page_room : {P' T' : ℕ} (w₂ : World) → w₁.state.fill < 32 → CheckpointPageWritten P' T'
      w₁.state w₂ (write_checkpoint_page t k w₁) → CheckpointPageWritten P' T' w.state w₂ (checkpoint_page t k w)
  unfolding checkpoint_page
  checkpoint_page_room w₂ h x =
      let b = allocated (write_checkpoint_page t k) w w₁ m in
      record {
        is = x.is ∙ room_yes (write_checkpoint_page t k) w₁ h ∙ ap (if_room (write_checkpoint_page t k)) m.is;
        good = x.good;
        blocks = x.blocks ∙ b.blocks;
        nodes = x.nodes ∙ b.nodes;
        checkpoint = omega (arith, x.checkpoint, b.checkpoint);
      }

  pub checkpoint_page_stuck : 32 ≤ w₁.state.fill → CheckpointPageWritten P T w.state w₁ (checkpoint_page t k w)
  unfolding checkpoint_page
  checkpoint_page_stuck h =
      let b = allocated (write_checkpoint_page t k) w w₁ m in
      record {
        is = room_no (write_checkpoint_page t k) w₁ h ∙ ap (if_room (write_checkpoint_page t k)) m.is;
        good = m.good;
        blocks = b.blocks;
        nodes = b.nodes;
        checkpoint = omega (arith, b.checkpoint);
      }

-- The buffer empty, or written out.
module _ {P T : ℕ} (w : World) where
  pub drain-none : w.state.entries ≡ 0 → Good P T w.state → Kept P T w.state w (drain w)
  unfolding drain
  drain-none h g = rw (eq-eqb w.state.entries 0 h) (record { is = refl; good = g; blocks = refl; nodes = refl; checkpoint = refl })

  pub drain_some : (w₁ : World) → (w.state.entries ≡ 0 → ⊥) → Kept P T w.state w₁ (flush w) → Kept P T w.state w₁ (drain w)
  unfolding drain
  drain_some w₁ h x = rw (ne_eqb w.state.entries 0 h) x

-- What holds between two checkpoint pages.
pub record Between (before now : Flash) (k : ℕ) : Type 0 where
  pub same_pool : now.pool.ghost_name ≡ before.pool.ghost_name
  pub same_table : now.table.ghost_name ≡ before.table.ghost_name
  pub long : length now.table.now ≡ length before.table.now
  pub blocks : now.state.blocks ≡ before.state.blocks
  pub nodes : now.state.nodes ≡ before.state.nodes
  pub written : now.state.checkpoint ≤ k

pub between-begin : (f : Flash) → f.state.checkpoint ≡ 0 → Between f f 0
between-begin f h =
    record { same_pool = refl; same_table = refl; long = refl; blocks = refl; nodes = refl; written = omega arith }

pub between_closing : {f g : Flash} (k count : ℕ) → Between f g k → count ≡ page_count f.state.nodes →
    f.state.nodes ≤ node_limit f.state.blocks → k < count → Closing k g.state
between_closing k count b e l h =
    record {
      limit = rw (b.nodes, b.blocks) l;
      needed = rw (b.nodes, ← e) h;
      before = b.written;
    }

pub between_more : {f g h : Flash} {right : World} (k : ℕ) → Between f g k → Steps CheckpointPageWritten g h right → Between f h (k + 1)
between_more k b x =
    record {
      same_pool = x.same_pool ∙ b.same_pool;
      same_table = x.same_table ∙ b.same_table;
      long = x.long ∙ b.long;
      blocks = x.left.blocks ∙ b.blocks;
      nodes = x.left.nodes ∙ b.nodes;
      written = omega (arith, x.left.checkpoint, b.written);
    }

-- The buffer drained, then the checkpoint pages.
pub checkpoint-made : {P T P' T' : ℕ} (t : Tariff) (w w₁ w₂ : World) → Kept P T w.state w₁ (drain w) → Ended P' T'
    w₁.state w₂ (checkpoint_pages t w₁) → Ended P' T' w.state w₂ (checkpoint t w)
unfolding checkpoint
checkpoint-made t w w₁ w₂ d m =
    record {
      is = m.is ∙ ap (checkpoint_pages t) d.is;
      good = m.good;
      blocks = m.blocks ∙ d.blocks;
      nodes = m.nodes ∙ d.nodes;
      checkpoint = tt;
    }
