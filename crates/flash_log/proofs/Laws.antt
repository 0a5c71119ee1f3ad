-- The cases of a claim, of room in a block and of room in the buffer, and what each step of a flush keeps. Assumes nothing.
use Rattle.std.specs.Prelude.{Option}
use mathlib.Core.Path.{◌≡◌, refl, sym, ap, ◌∙◌}
use mathlib.Core.Bool.{Bool, true, false}
use mathlib.Core.List.{List}
use Prim.Native.Nat.{ℕ, ◌+◌, ◌-◌, ◌/◌, ◌%◌, ◌≤◌, ◌<◌}
use native.Mathlib.Omega.{arith}
use lib.Dec.{ltb, leb}
use lib.ListN.{get_or, set}
use borrow.Author.Tests.{lt-ltb, le-ltb, ltb-true}
use Rattle.laws.specs.Tests.{choose}
use Rattle.laws.specs.Loops.{steps, steps-begin, steps_more, steps-done}
use Rattle.flash_rows.specs.Row.{no_row}
use Rattle.flash_rows.specs.Worktable.{Worktable, worktable}
use Rattle.flash_rows.specs.Step.{claim, settled}
use Rattle.flash_rows.specs.declared.Row.{Row}
use Rattle.flash_blocks.specs.Blank.{blank_blocks, next_blank}
use Rattle.node.specs.Change.{Change}
use Rattle.page.specs.Image.{change_number, change_key, change_pointer, entry_bytes}
use Rattle.flash_allocate.specs.World.{World, world, spot, used, Good, Made, Kept}
use Rattle.flash_allocate.specs.Compact.{compact}
use Rattle.flash_allocate.specs.Allocate.{behind, next_block, allocate}
use Rattle.flash_allocate.specs.declared.state.State.{State}
use Rattle.page_write.specs.Pages.{entry_record, entry_record-bytes, log_image}
use Rattle.flash_log.specs.Entry.{entry_of, Logged, logged, laid_at, entered, append}
use Rattle.flash_log.specs.Claim.{id_at, version_at, claim_row, claim_entry, claim_entries, claim_one, claimed}
use Rattle.flash_log.specs.Flush.{write_buffer, if_room, flush, room}
use Rattle.flash_allocate.specs.State.{in_block, with_entries, next_sequence, advanced, without_entries}

-- The bytes of an entry from its numbers, the id cut to two bytes.
pub record_entry : (id version : ℕ) (c : Change) (kind key pointer : ℕ) →
    kind ≡ change_number c → key ≡ change_key c → pointer ≡ change_pointer c →
    entry_record (id % 65536) version kind key pointer ≡ entry_bytes (entry_of id version c)
unfolding entry_record
record_entry id version c kind key pointer k y p =
    let high : id % 65536 / 256 % 256 ≡ id / 256 % 256 = omega arith in
    let low : id % 65536 % 256 ≡ id % 256 = omega arith in
    rw (k, y, p, high, low) (entry_record-bytes id version c)

-- An entry more, where the buffer has room.
pub append_in : (id version : ℕ) (c : Change) (t t' : Worktable) (s s' : State) → s.entries < 27 →
    t' ≡ laid_at s.entries (entry_bytes (entry_of id version c)) t → s' ≡ with_entries (s.entries + 1) s →
    logged t' s' ≡ append id version c (logged t s)
unfolding append entered
append_in id version c t t' s s' h e f = rw (lt-ltb s.entries 27 h, e, f) refl

pub append-full : (id version : ℕ) (c : Change) (t : Worktable) (s : State) → 27 ≤ s.entries → logged t s ≡ append id version c (logged t s)
unfolding append
append-full id version c t s h = rw (le-ltb s.entries 27 h) refl

-- The claim of an entry whose node exists, and of one whose node does not.
pub claim_in : (buffer : List ℕ) (nodes page k : ℕ) (rows rows' : List Row) (id version : ℕ) (r : Row) (x : Option Row) →
    id ≡ id_at buffer k → version ≡ version_at buffer k → id < nodes → r ≡ get_or rows id no_row → x ≡ claim version page
    r → rows' ≡ settled x id rows →
    rows' ≡ claim_entry buffer nodes page k rows
unfolding claim_entry claim_row
claim_in buffer nodes page k rows rows' id version r x i v h l m e = rw (← i, ← v, lt-ltb id nodes h, ← l, ← m) e

pub claim_out : (buffer : List ℕ) (nodes page k : ℕ) (rows : List Row) (id : ℕ) → id ≡ id_at buffer k → nodes ≤ id →
    rows ≡ claim_entry buffer nodes page k rows
unfolding claim_entry
claim_out buffer nodes page k rows id i h = rw (← i, le-ltb id nodes h) refl

-- The claims of the first n entries, once those of the first k are made: the buffer is the same, and those left give all.
pub record Claiming (nodes page n k : ℕ) (before now : Worktable) : Type 0 where
  pub buffer : now.buffer ≡ before.buffer
  pub rows : steps (claim_entry before.buffer nodes page) (n - k) k now.rows ≡ claim_entries before.buffer nodes page n before.rows

module _ (nodes page n : ℕ) where
  pub claiming_begin : (t : Worktable) → Claiming nodes page n 0 t t
  unfolding claim_entries
  claiming_begin t = record { buffer = refl; rows = steps-begin (claim_entry t.buffer nodes page) n t.rows }

  module _ (k : ℕ) where
    pub claiming_more : k < n → (t u v : Worktable) → Claiming nodes page n k t u → v ≡ claim_one nodes page k u → Claiming nodes page n (k + 1) t v
    claiming_more l t u v i e =
        rw e
        (record {
          buffer = i.buffer;
          rows =
              ap (λ (b : List ℕ). steps (claim_entry t.buffer nodes page) (n - (k + 1)) (k + 1) (claim_entry b nodes page k u.rows)) i.buffer ∙
              steps_more (claim_entry t.buffer nodes page) n k u.rows l ∙
              i.rows;
        })

    pub claiming_done : n ≤ k → (t u : Worktable) → Claiming nodes page n k t u → u ≡ claimed nodes page n t
    claiming_done l t u i =
        let rows = sym (steps-done (claim_entry t.buffer nodes page) n k u.rows l) ∙ i.rows in
        ap (λ (b : List ℕ). worktable b u.rows) i.buffer ∙ ap (worktable t.buffer) rows

-- A state good for other buffers: what an entry more leaves.
pub good_append : {P T : ℕ} (id version : ℕ) (c : Change) (l : Logged) → Good P T l.state → Good P T (append id version c l).state
unfolding append entered with_entries
good_append {P} {T} id version c l g = go (ltb s.entries 27) refl
  where
    s : State
    s = l.state

    go : (b : Bool) → ltb s.entries 27 ≡ b → Good P T (choose b (entered (entry_bytes (entry_of id version c)) l) l).state
    go true e =
        record {
          few = g.few;
          most = g.most;
          pool = g.pool;
          table = g.table;
          inside = g.inside;
          full = g.full;
          used = g.used;
          entries = omega (arith, ltb-true s.entries 27 e);
        }
    go false e = g

-- The numbers that no step of the log buffer changes.
pub record Beside (s s' : State) : Type 0 where
  pub blocks : s'.blocks ≡ s.blocks
  pub nodes : s'.nodes ≡ s.nodes
  pub checkpoint : s'.checkpoint ≡ s.checkpoint

pub beside-append : (id version : ℕ) (c : Change) (l : Logged) → Beside l.state (append id version c l).state
unfolding append entered with_entries
beside-append id version c l = go (ltb l.state.entries 27)
  where
    go : (b : Bool) → Beside l.state (choose b (entered (entry_bytes (entry_of id version c)) l) l).state
    go true = record { blocks = refl; nodes = refl; checkpoint = refl }
    go false = record { blocks = refl; nodes = refl; checkpoint = refl }

pub beside-allocate : (w : World) → Beside w.state (allocate w).state
unfolding allocate next_block in_block
beside-allocate w = go (ltb w.state.fill 32) (leb 2 (blank_blocks w.state.blocks w.pages))
  where
    to : ℕ
    to = next_blank w.state.blocks w.state.current w.pages

    go : (a b : Bool) →
        Beside w.state
        (choose a w
        (choose b
        (world w.pages w.table (in_block to 0 w.state))
        (behind to w.table w.state (compact (used w.state) w.state.blocks to w.pages w.table.rows)))).state
    go true b = record { blocks = refl; nodes = refl; checkpoint = refl }
    go false true = record { blocks = refl; nodes = refl; checkpoint = refl }
    go false false = record { blocks = refl; nodes = refl; checkpoint = refl }

-- Room in the current block, or none.
module _ (step : World → World) (w : World) where
  pub room_yes : w.state.fill < 32 → step w ≡ if_room step w
  unfolding if_room
  room_yes h = rw (lt-ltb w.state.fill 32 h) refl

  pub room_no : 32 ≤ w.state.fill → w ≡ if_room step w
  unfolding if_room
  room_no h = rw (le-ltb w.state.fill 32 h) refl

-- An allocation and a step where it left room.
module _ {P T : ℕ} (step : World → World) (w w₁ : World) (m : Made P T w₁ (allocate w)) where
  found : Beside w.state w₁.state
  found =
      let b = beside-allocate w in
      record {
        blocks = ap (λ (x : World). x.state.blocks) m.is ∙ b.blocks;
        nodes = ap (λ (x : World). x.state.nodes) m.is ∙ b.nodes;
        checkpoint = ap (λ (x : World). x.state.checkpoint) m.is ∙ b.checkpoint;
      }

  pub allocated : Beside w.state w₁.state
  allocated = found

  pub kept-room : {P' T' : ℕ} (w₂ : World) → w₁.state.fill < 32 → Kept P' T' w₁.state w₂ (step w₁) → Kept P' T'
      w.state w₂ (if_room step (allocate w))
  kept-room w₂ h k =
      record {
        is = k.is ∙ room_yes step w₁ h ∙ ap (if_room step) m.is;
        good = k.good;
        blocks = k.blocks ∙ found.blocks;
        nodes = k.nodes ∙ found.nodes;
        checkpoint = k.checkpoint ∙ found.checkpoint;
      }

  pub kept_stuck : 32 ≤ w₁.state.fill → Kept P T w.state w₁ (if_room step (allocate w))
  kept_stuck h =
      record {
        is = room_no step w₁ h ∙ ap (if_room step) m.is;
        good = m.good;
        blocks = found.blocks;
        nodes = found.nodes;
        checkpoint = found.checkpoint;
      }

-- A page written leaves a good state.
pub good_advanced : {P T P' T' : ℕ} (number : ℕ) (s : State) → Good P T s → P' ≡ P → T' ≡ T → s.fill < 32 → Good P'
    T' (advanced number s)
unfolding advanced
good_advanced number s g p t h =
    record {
      few = g.few;
      most = g.most;
      pool = p ∙ g.pool;
      table = omega (arith, t, g.table);
      inside = g.inside;
      full = omega arith;
      used = g.used;
      entries = g.entries;
    }

-- So does one that empties the buffer.
pub good_written : {P T P' T' : ℕ} {s s₁ s₂ : State} (number : ℕ) → Good P T s → P' ≡ P → T' ≡ T → s.fill < 32 →
    s₁ ≡ advanced number s → s₂ ≡ without_entries s₁ → Good P' T' s₂
unfolding advanced without_entries with_entries
good_written number g p t h a b =
    rw (b, a)
    (record {
      few = g.few;
      most = g.most;
      pool = p ∙ g.pool;
      table = omega (arith, t, g.table);
      inside = g.inside;
      full = omega arith;
      used = g.used;
      entries = omega arith;
    })

-- The page, the claims and the state of a flush put together.
pub buffer_written : {P T P' T' : ℕ} (pages pages' : List (List ℕ)) (w w' : Worktable) (s s₁ s₂ : State) (number : ℕ) →
    Good P T s → P' ≡ P → T' ≡ T → s.fill < 32 → number ≡ next_sequence s.last →
    pages' ≡ set pages (spot s) (log_image number s.entries w.buffer) → w' ≡ claimed s.nodes (spot s) s.entries w →
    s₁ ≡ advanced number s → s₂ ≡ without_entries s₁ → Kept P' T' s (world pages' w' s₂) (write_buffer (world pages w s))
unfolding write_buffer advanced without_entries with_entries
buffer_written pages pages' w w' s s₁ s₂ number g p t h n e f a b =
    rw (b, a, e, f, n)
    (record {
      is = refl;
      good =
          record {
            few = g.few;
            most = g.most;
            pool = p ∙ g.pool;
            table = omega (arith, t, g.table);
            inside = g.inside;
            full = omega arith;
            used = g.used;
            entries = omega arith;
          };
      blocks = refl;
      nodes = refl;
      checkpoint = refl;
    })

-- Room for k entries: the buffer written out, or as it is.
module _ {P T : ℕ} (k : ℕ) (w : World) where
  pub room_out : (w₁ : World) → 27 < k + w.state.entries → Kept P T w.state w₁ (flush w) → Kept P T w.state w₁ (room k w)
  unfolding room
  room_out w₁ h m = rw (lt-ltb 27 (k + w.state.entries) h) m

  pub room_in : k + w.state.entries ≤ 27 → Good P T w.state → Kept P T w.state w (room k w)
  unfolding room
  room_in h g =
      rw (le-ltb 27 (k + w.state.entries) h)
      (record { is = refl; good = g; blocks = refl; nodes = refl; checkpoint = refl })
