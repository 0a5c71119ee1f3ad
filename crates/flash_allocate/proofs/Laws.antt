-- The steps of a compaction put together, and the cases of an allocation. Assumes nothing.
use mathlib.Core.Path.{◌≡◌, refl, ap, ◌∙◌}
use mathlib.Core.Bool.{true, false}
use mathlib.Core.List.{List}
use Prim.Native.Nat.{ℕ, ◌+◌, ◌*◌, ◌≤◌, ◌<◌}
use native.Mathlib.Omega.{arith}
use lib.Dec.{eqb}
use lib.ListN.{get_or, replicate}
use borrow.Author.Tests.{not-true, not-false, lt-ltb, le-ltb, le-leb, lt-leb}
use Rattle.flash_rows.specs.declared.Row.{Row}
use Rattle.flash_rows.specs.Worktable.{Worktable, with_rows}
use Rattle.flash_blocks.specs.Pages.{erased}
use Rattle.flash_blocks.specs.Blank.{blank_blocks, next_blank}
use Rattle.flash_live.specs.Live.{live_map, marked}
use Rattle.flash_live.specs.Choose.{victim}
use Rattle.flash_allocate.specs.Compact.{Copying, copying, copy_page, copy_live, copy_block, rename_rows, compacted, emptied, move_block, compact}
use Rattle.flash_allocate.specs.World.{World, world, used, Good, Kept}
use Rattle.flash_allocate.specs.Allocate.{behind, next_block, allocate}
use Rattle.flash_allocate.specs.declared.state.State.{State}
use Rattle.flash_allocate.specs.State.{in_block}

-- Page k is not live, or it is and is copied.
module _ (live : List ℕ) (base first k : ℕ) (w : Copying) where
  pub copy_dead : marked (get_or live (base + k) 0) ≡ false → w ≡ copy_live live base first k w
  unfolding copy_live
  copy_dead t = rw (not-false (eqb (get_or live (base + k) 0) 0) t) refl

  pub copy_live_lem : marked (get_or live (base + k) 0) ≡ true → copy_page base first k w ≡ copy_live live base first k w
  unfolding copy_live
  copy_live_lem t = rw (not-true (eqb (get_or live (base + k) 0) 0) t) refl

-- Copies, new names, erasure: in this order they move a block.
pub move_steps : (live : List ℕ) (n block to : ℕ) (pages : List (List ℕ)) (rows : List Row)
    (pages₁ : List (List ℕ)) (places : List ℕ) (fill : ℕ) →
    copying pages₁ places fill ≡ copy_block live (32 * block) (32 * to) (copying pages (replicate 32 0) 0) →
    (rows₂ : List Row) → rows₂ ≡ rename_rows n (32 * block) places rows →
    (pages₃ : List (List ℕ)) → pages₃ ≡ erased block pages₁ → compacted pages₃ rows₂ fill ≡ move_block live n block to pages rows
unfolding move_block emptied
move_steps live n block to pages rows pages₁ places fill c rows₂ r pages₃ e = rw (e, r) (ap (emptied n block rows) c)

-- The live map and the choice, then the move: the compaction.
pub compact-steps : (n blocks to : ℕ) (pages : List (List ℕ)) (rows : List Row) (live : List ℕ) (block : ℕ) →
    live ≡ live_map n rows → block ≡ victim blocks pages live → move_block live n block to pages rows ≡ compact n blocks to pages rows
unfolding compact
compact-steps n blocks to pages rows live block l b = rw (← l, ← b) refl

-- Room in the current block.
pub allocate-room : (w : World) → w.state.fill < 32 → w ≡ allocate w
unfolding allocate
allocate-room w h = rw (lt-ltb w.state.fill 32 h) refl

-- None: two blank blocks or more, or a compaction.
module _ (pages : List (List ℕ)) (t : Worktable) (s : State) (to blank : ℕ) (h : 32 ≤ s.fill)
    (next : to ≡ next_blank s.blocks s.current pages) (b : blank ≡ blank_blocks s.blocks pages) where
  pub allocate-next : 2 ≤ blank → (s' : State) → s' ≡ in_block to 0 s → world pages t s' ≡ allocate (world pages t s)
  unfolding allocate next_block
  allocate-next k s' e = rw (le-ltb s.fill 32 h, ← next, ← b, le-leb 2 blank k, e) refl

  pub allocate-compact : blank < 2 → (pages' : List (List ℕ)) (rows' : List Row) (fill : ℕ) →
      compacted pages' rows' fill ≡ compact (used s) s.blocks to pages t.rows → (t' : Worktable) → t' ≡ with_rows rows' t →
      (s' : State) → s' ≡ in_block to fill s → world pages' t' s' ≡ allocate (world pages t s)
  unfolding allocate next_block
  allocate-compact k pages' rows' fill c t' w s' e =
      rw (le-ltb s.fill 32 h, ← next, ← b, lt-leb 2 blank k, e, w) (ap (behind to t s) c)

-- A good state with another current block is good.
pub good_in_block : {P T P' T' to fill : ℕ} {s s' : State} → Good P T s → P' ≡ P → T' ≡ T → to < s.blocks → fill ≤
    32 → s' ≡ in_block to fill s → Good P' T' s'
unfolding in_block
good_in_block g p t i f e =
    rw e
    (record {
      few = g.few;
      most = g.most;
      pool = p ∙ g.pool;
      table = omega (arith, t, g.table);
      inside = i;
      full = f;
      used = g.used;
      entries = g.entries;
    })

-- A world in another block, and still good: the same blocks, nodes and checkpoint pages.
pub kept_in_block : {P T : ℕ} {s s' : State} (w right : World) (to fill : ℕ) → w ≡ right → w.state ≡ s' → s' ≡ in_block to fill s →
    Good P T s' → Kept P T s w right
unfolding in_block
kept_in_block {P} {T} {s} w right to fill is e f g =
    record {
      is = is;
      good = rw e g;
      blocks = ap (λ (x : State). x.blocks) (e ∙ f);
      nodes = ap (λ (x : State). x.nodes) (e ∙ f);
      checkpoint = ap (λ (x : State). x.checkpoint) (e ∙ f);
    }
