-- The entries of a whole content one by one, and the steps of a group, a node page and an edit put together. Assumes nothing.
use mathlib.Core.Path.{◌≡◌, refl, sym, ap, ap₂, ◌∙◌}
use mathlib.Core.List.{List, [], ◌∷◌, ◌++◌}
use Prim.Native.Nat.{ℕ, zero, suc, ◌+◌, ◌≤◌, ◌<◌}
use native.Mathlib.Numerals.{add-one}
use native.Mathlib.Omega.{arith}
use lib.ListN.{length, get_or, set, take, drop}
use Rattle.std.proofs.Common.{◌⊎◌, inl, inr}
use lib.Seq.{drop-cons}
use borrow.Author.Tests.{lt-ltb, le-ltb}
use Rattle.pairs.specs.Pairs.{Pair}
use Rattle.flash_rows.specs.Row.{no_row}
use Rattle.flash_rows.specs.declared.Row.{Row}
use Rattle.flash_rows.specs.Worktable.{Worktable, rows_for}
use Rattle.node.specs.declared.NodeValue.{NodeValue}
use Rattle.node.specs.Node.{Node, pairs_of}
use Rattle.node.specs.Change.{Change, put, puts, changes_of}
use Rattle.node.specs.Splice.{zip}
use Rattle.node.specs.Value.{pairs_in, Sized}
use Rattle.page.specs.Page.{page, whole}
use Rattle.page.specs.Image.{image}
use Rattle.page_write.specs.Pages.{first_pairs}
use Rattle.flash_allocate.specs.World.{World, world, spot, Good, Kept}
use Rattle.flash_allocate.specs.declared.state.State.{State}
use Rattle.flash_log.specs.Entry.{Logged, logged, besides, append, append_all}
use Rattle.flash_log.specs.Flush.{room}
use Rattle.flash_log.proofs.Laws.{Beside, beside-append, good_append, good_advanced}
use Rattle.flash_write.specs.Group.{begun, started, start, room_for, restart, group, start_next, create, Grown}
use Rattle.flash_write.specs.NodePage.{on_page, write_node}
use Rattle.flash_write.specs.Edit.{edit_by, edit_in, edit}
use Rattle.flash_allocate.specs.State.{next_sequence, advanced, with_sequence, with_nodes}

-- The pairs of a node by value, taken from the front.
zip_first : (n i : ℕ) (keys pointers : List ℕ) → i + n ≤ length keys → i + n ≤ length pointers →
    zip (take n (drop i keys)) (take n (drop i pointers)) ≡ first_pairs n keys pointers i
unfolding first_pairs
zip_first zero i keys pointers h l = refl
zip_first (suc n) i keys pointers h l =
    let a : i < length keys = omega arith in
    let b : i < length pointers = omega arith in
    rw (drop-cons keys i 0 a, drop-cons pointers i 0 b)
    (ap (λ (ps : List Pair). (get_or keys i 0, get_or pointers i 0) ∷ ps)
    (ap₂ (λ (x y : List ℕ). zip (take n x) (take n y)) (ap (λ (j : ℕ). drop j keys) (sym (add-one i)))
    (ap (λ (j : ℕ). drop j pointers) (sym (add-one i))) ∙
    zip_first n (i + 1) keys pointers (omega arith) (omega arith)))

pub pairs_first : (v : NodeValue) → Sized v → first_pairs v.count v.keys v.pointers 0 ≡ pairs_in v
unfolding pairs_in
pairs_first v s =
    sym (zip_first v.count 0 v.keys v.pointers (omega (arith, s.size, s.key_room)) (omega (arith, s.size, s.pointer_room)))

-- The entries of the pairs left: with one pair more, and with none.
module _ (id version : ℕ) (l : Logged) where
  pub entries_more : (k p : ℕ) (keys pointers keys' pointers' : List ℕ) → keys ≡ k ∷ keys' → pointers ≡ p ∷ pointers' →
      append_all id version (puts (zip keys' pointers')) (append id version (put k p) l) ≡
      append_all id version (puts (zip keys pointers)) l
  unfolding append_all
  entries_more k p keys pointers keys' pointers' e f = rw (e, f) refl

  pub entries-done : (keys pointers : List ℕ) → (length keys ≡ 0) ⊎ (length pointers ≡ 0) → l ≡ append_all id version (puts (zip keys pointers)) l
  unfolding append_all
  entries-done [] pointers e = refl
  entries-done (k ∷ keys) [] e = refl
  entries-done (k ∷ keys) (p ∷ pointers) e = absurd (elim e [ inl f ↦ omega (arith, f) | inr f ↦ omega (arith, f) ])

module _ (id version : ℕ) where
  -- one entry behind others
  pub append_all_last : (cs : List Change) (c : Change) (l : Logged) →
      append id version c (append_all id version cs l) ≡ append_all id version (cs ++ (c ∷ [])) l
  unfolding append_all
  append_all_last [] c l = refl
  append_all_last (x ∷ cs) c l = append_all_last cs c (append id version x l)

  good_append_all : {P T : ℕ} (cs : List Change) (l : Logged) → Good P T l.state → Good P T (append_all id version cs l).state
  unfolding append_all
  good_append_all [] l g = g
  good_append_all (c ∷ cs) l g = good_append_all cs (append id version c l) (good_append id version c l g)

  beside-append_all : (cs : List Change) (l : Logged) → Beside l.state (append_all id version cs l).state
  unfolding append_all
  beside-append_all [] l = record { blocks = refl; nodes = refl; checkpoint = refl }
  beside-append_all (c ∷ cs) l =
      let a = beside-append id version c l in
      let b = beside-append_all cs (append id version c l) in
      record {
        blocks = b.blocks ∙ a.blocks;
        nodes = b.nodes ∙ a.nodes;
        checkpoint = b.checkpoint ∙ a.checkpoint;
      }

-- A fresh start keeps the state good, with the same blocks, nodes and checkpoint pages.
module _ (n : ℕ) (row : Row) (version : ℕ) (x : Node) (t : Worktable) (s : State) where
  good_start : {P T T' : ℕ} → Good P T s → T' ≡ T → Good P T' (started n row version x t s).state
  unfolding with_sequence
  good_start g e =
      good_append_all n version (changes_of x) _
      (record {
        few = g.few;
        most = g.most;
        pool = g.pool;
        table = omega (arith, e, g.table);
        inside = g.inside;
        full = g.full;
        used = g.used;
        entries = g.entries;
      })

  beside-start : Beside s (started n row version x t s).state
  unfolding with_sequence
  beside-start =
      let b = beside-append_all n version (changes_of x) (begun n row version t s) in
      record { blocks = b.blocks; nodes = b.nodes; checkpoint = b.checkpoint }

-- Room, then the fresh start: what it leaves, and what it should.
module _ {P T T' : ℕ} (x : Node) (w w₁ : World) (k : ℕ) (e : k ≡ length (pairs_of x) + 1) (m : Kept P T w.state w₁ (room k w)) (t : T' ≡ T)
    (version : ℕ) (v : version ≡ next_sequence w₁.state.last) where
  start_is : (n : ℕ) (row row' : Row) (l : Logged) → row ≡ row' → l ≡ started n row version x w₁.table w₁.state →
      besides w₁.pages l ≡ start n row' x w₁
  unfolding start
  start_is n row row' l r st = rw (st, r, v) refl

  roomed : w₁ ≡ room_for x w
  roomed = m.is ∙ ap (λ (j : ℕ). room j w) e

  -- the numbers of a state that a fresh start left
  beside : (n : ℕ) (row : Row) (l : Logged) → l ≡ started n row version x w₁.table w₁.state → Beside w₁.state l.state
  beside n row l st = rw st (beside-start n row version x w₁.table w₁.state)

  pub group-made : (n : ℕ) (row : Row) (l : Logged) → row ≡ get_or w₁.table.rows n no_row →
      l ≡ started n row version x w₁.table w₁.state → Kept P T' w.state (besides w₁.pages l) (group n x w)
  unfolding group
  group-made n row l r st =
      let b = beside n row l st in
      record {
        is = start_is n row (get_or w₁.table.rows n no_row) l r st ∙ ap (restart n x) roomed;
        good = rw st (good_start n row version x w₁.table w₁.state m.good t);
        blocks = b.blocks ∙ m.blocks;
        nodes = b.nodes ∙ m.nodes;
        checkpoint = b.checkpoint ∙ m.checkpoint;
      }

  pub create-made : (row : Row) (l : Logged) (s : State) → row ≡ no_row →
      l ≡ started w₁.state.nodes row version x w₁.table w₁.state → s ≡ with_nodes (w₁.state.nodes + 1) l.state →
      w.state.nodes + w.state.checkpoint < rows_for w.state.blocks → Grown P T' w.state (world w₁.pages l.table s) (create x w)
  unfolding create with_nodes
  create-made row l s r st f h =
      let b = beside w₁.state.nodes row l st in
      let g : Good P T' l.state = rw st (good_start w₁.state.nodes row version x w₁.table w₁.state m.good t) in
      record {
        is =
            ap (world w₁.pages l.table) f ∙
            ap (λ (y : World). world y.pages y.table (with_nodes (w₁.state.nodes + 1) y.state))
            (start_is w₁.state.nodes row no_row l r st) ∙
            ap (start_next x) roomed;
        good =
            rw f
            (record {
              few = g.few;
              most = g.most;
              pool = g.pool;
              table = g.table;
              inside = g.inside;
              full = g.full;
              used = omega (arith, b.nodes, b.blocks, b.checkpoint, m.blocks, m.nodes, m.checkpoint);
              entries = g.entries;
            });
        blocks = ap (λ (z : State). z.blocks) f ∙ b.blocks ∙ m.blocks;
        nodes = ap (λ (z : State). z.nodes) f ∙ ap (λ (j : ℕ). j + 1) m.nodes;
        checkpoint = ap (λ (z : State). z.checkpoint) f ∙ b.checkpoint ∙ m.checkpoint;
      }

-- The page, the row and the state of a node page put together.
pub node_written : {P T P' T' : ℕ} (n : ℕ) (x : Node) (pages pages' : List (List ℕ)) (w w' : Worktable) (s s₁ : State) (number : ℕ) →
    Good P T s → P' ≡ P → T' ≡ T → s.fill < 32 → number ≡ next_sequence s.last →
    pages' ≡ set pages (spot s) (image (page number (whole n x))) → w' ≡ on_page n number (spot s) w → s₁ ≡ advanced number s →
    Kept P' T' s (world pages' w' s₁) (write_node n x (world pages w s))
unfolding write_node advanced
node_written n x pages pages' w w' s s₁ number g p t h e f r a =
    record {
      is = rw (f, r, a, e) refl;
      good = rw a (good_advanced number s g p t h);
      blocks = ap (λ (z : State). z.blocks) a ∙ same.blocks;
      nodes = ap (λ (z : State). z.nodes) a ∙ same.nodes;
      checkpoint = ap (λ (z : State). z.checkpoint) a ∙ same.checkpoint;
    }
  where
    same : Beside s (advanced number s)
    same = record { blocks = refl; nodes = refl; checkpoint = refl }

-- An edit, once there is room for its entry.
module _ {P T : ℕ} (n : ℕ) (c : Change) (x : Node) (w w₁ : World) (m : Kept P T w.state w₁ (room 1 w)) (row : Row)
    (r : row ≡ get_or w₁.table.rows n no_row) where
  pub edit-entry : {T' : ℕ} (l : Logged) → T' ≡ T → row.pages < 3 → l ≡ append n row.version c (logged w₁.table w₁.state) →
      Kept P T' w.state (besides w₁.pages l) (edit n c x w)
  unfolding edit edit_by
  edit-entry l t h e =
      let before = logged w₁.table w₁.state in
      let b = beside-append n row.version c before in
      let g = good_append n row.version c before m.good in
      record {
        is = entry ∙ ap (edit_in n c x) m.is;
        good = rw (t, e) g;
        blocks = ap (λ (z : Logged). z.state.blocks) e ∙ b.blocks ∙ m.blocks;
        nodes = ap (λ (z : Logged). z.state.nodes) e ∙ b.nodes ∙ m.nodes;
        checkpoint = ap (λ (z : Logged). z.state.checkpoint) e ∙ b.checkpoint ∙ m.checkpoint;
      }
    where
      entry : besides w₁.pages l ≡ edit_in n c x w₁
      entry = rw (← r, lt-ltb row.pages 3 h, e) refl

  pub edit-group : {P' T' : ℕ} (w₂ : World) → 3 ≤ row.pages → Kept P' T' w₁.state w₂ (group n x w₁) → Kept P' T'
      w.state w₂ (edit n c x w)
  unfolding edit edit_by
  edit-group w₂ h k =
      record {
        is = k.is ∙ whole-content ∙ ap (edit_in n c x) m.is;
        good = k.good;
        blocks = k.blocks ∙ m.blocks;
        nodes = k.nodes ∙ m.nodes;
        checkpoint = k.checkpoint ∙ m.checkpoint;
      }
    where
      whole-content : group n x w₁ ≡ edit_in n c x w₁
      whole-content = rw (← r, le-ltb row.pages 3 h) refl
