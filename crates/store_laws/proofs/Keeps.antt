-- The store keeps a table of nodes and their modes: after each request it holds exactly the table and modes that the request makes of
-- them. Each write is handed on as "this node has this, the others stay"; a switch writes the same content. Assumes nothing.
use Rattle.std.specs.Prelude.{◌≡◌, refl, Bool, true, false, ◌⊎◌, List, [], ◌∷◌, ◌++◌, map, ℕ, suc, ◌+◌, ◌≤◌, ◌<◌, max, leb, length}
use Rattle.std.proofs.Common.{sym, ap, ◌∙◌, subst, inl, inr, arith}
use Rattle.laws.specs.Order.{eq_or}
use Rattle.laws.specs.Every.{none, both, every_append}
use Rattle.laws.specs.Update.{update, update_same, update_other, update_self}
use Rattle.layout.specs.Layout.{most_entries, most_log_pages, node_limit}
use Rattle.account.specs.declared.Mode.{Mode}
use Rattle.account.specs.declared.Mode.TheVariants.{Log, Disk}
use Rattle.node.specs.Node.{Node, Neat}
use Rattle.node.specs.Change.{Change, change, changes_of, Suits}
use Rattle.node.specs.Replay.{Piece, step, made, redo, replay}
use Rattle.store.specs.View.{pieces, pages}
use Rattle.store.specs.Store.{Store, view, draft_of, node_in, node_of, mode_of}
use Rattle.store.specs.Run.{Run, write, room_by, make_room, write_group, edit_by, write_edit, write_node}
use Rattle.store.specs.Serve.{Work, read, edit, rewrite, work_on, switch, work, note, serve, create}
use Rattle.store_laws.specs.Versions.{InMode, mode_is}
use Rattle.node.specs.ReplayLaws.{replay-whole, replay-changes_of}
use Rattle.store_laws.specs.Contents.{replay_snoc, redo-made, neat_fits}
use Rattle.store_laws.specs.Good.{Keep, Done}
use Rattle.store_laws.proofs.Good.{write_group-done, write_edit-done, write_node-done}
use Rattle.store_laws.specs.Keeps.{Holds, Keeps, Fits}

pub holds_node : {st : Store} {n : ℕ} {x : Node} {m : Mode} → Holds st n x m → node_of st n ≡ x
unfolding node_of
holds_node h = ap node_in h.content

pub holds_mode : {st : Store} {n : ℕ} {x : Node} (m : Mode) → Holds st n x m → mode_of st n ≡ m
holds_mode {st} {n} m h = mode_is m st n h.mode

pub keep-holds : {a b : Store} {n : ℕ} {x : Node} {m : Mode} → Keep a b n → Holds a n x m → Holds b n x m
unfolding draft_of
keep-holds {m = m} k h = record { content = ap replay k.pieces ∙ h.content; mode = k.mode m h.mode }

-- one node is written, the others stay
done_keeps : {B N n : ℕ} {table : ℕ → Node} {modes : ℕ → Mode} {run run' : Run} {xs : List Piece} {m : Mode} {x : Node} (N' : ℕ) →
    Keeps B N table modes run → Done B n run run' xs m → replay xs ≡ made x → Neat x → run'.nodes ≡ N' →
    Keeps B N' (update table n x) (update modes n m) run'
unfolding draft_of
done_keeps {B} {N} {n} {table} {modes} {run} {run'} {xs} {m} {x} N' v d e h c =
    record { good = d.good; nodes = c; holds = λ k l. go k l (eq_or k n); neat = λ k l. tidy k l (eq_or k n) }
  where
    there : (k : ℕ) → k < N' → (k ≡ n → ⊥) → k < N
    there k l q = omega (arith, v.nodes, d.others k (omega (arith, c)) (λ z. q (sym z)))

    go : (k : ℕ) → k < N' → (k ≡ n) ⊎ (k ≡ n → ⊥) → Holds run'.now k (update table n x k) (update modes n m k)
    go k l (inl q) =
        rw (update_same table n x k q, update_same modes n m k q)
        (subst (λ z. Holds run'.now z x m) (sym q) (record { content = ap replay d.own ∙ e; mode = d.mode }))
    go k l (inr q) =
        rw (update_other table n x k q, update_other modes n m k q)
        (keep-holds (d.keep k (omega (arith, v.nodes, there k l q)) (λ z. q (sym z))) (v.holds k (there k l q)))

    tidy : (k : ℕ) → k < N' → (k ≡ n) ⊎ (k ≡ n → ⊥) → Neat (update table n x k)
    tidy k l (inl q) = rw (update_same table n x k q) h
    tidy k l (inr q) = rw (update_other table n x k q) (v.neat k (there k l q))

-- how many nodes there are after each write
pub make_room-nodes : (k : ℕ) (run : Run) → (make_room k run).nodes ≡ run.nodes
unfolding make_room write
make_room-nodes k run = go (leb (k + length run.now.buffer) most_entries)
  where
    go : (b : Bool) → (room_by b run).nodes ≡ run.nodes
    go true = refl
    go false = refl

pub write_group-nodes : (n : ℕ) (x : Node) (run : Run) → (write_group n x run).nodes ≡ max run.nodes (suc n)
unfolding write_group
write_group-nodes n x run = ap (λ z. max z (suc n)) (make_room-nodes (length (changes_of x)) run)

write_edit-nodes : (n : ℕ) (c : Change) (x : Node) (run : Run) → n < run.nodes → (write_edit n c x run).nodes ≡ run.nodes
unfolding write_edit
write_edit-nodes n c x run l = go (leb most_log_pages (pages (view (make_room 1 run).now) n))
  where
    go : (b : Bool) → (edit_by b n c x (make_room 1 run)).nodes ≡ run.nodes
    go true = write_group-nodes n x (make_room 1 run) ∙ omega (arith, make_room-nodes 1 run)
    go false = make_room-nodes 1 run

module _ {B N : ℕ} {table : ℕ → Node} {modes : ℕ → Mode} {run : Run} (v : Keeps B N table modes run) (n : ℕ) where
  -- A NODE PAGE
  pub write_node_keeps : n < N → (x : Node) → Neat x → Keeps B N (update table n x) (update modes n Disk) (write_node n x run)
  unfolding write
  write_node_keeps l x h = done_keeps N v (write_node-done v.good n x (omega (arith, v.nodes))) (replay-whole x) h v.nodes

  -- A GROUP; the node may be the next one
  pub write_group_keeps : (N' : ℕ) → n ≤ N → N' ≡ max N (suc n) → N' ≤ node_limit B → (x : Node) → Neat x →
      Keeps B N' (update table n x) (update modes n Log) (write_group n x run)
  write_group_keeps N' l e b x h =
      done_keeps N' v
      (write_group-done v.good n x (neat_fits x h) (omega (arith, v.nodes)) (omega (arith, v.nodes)))
      (replay-changes_of x h) h (write_group-nodes n x run ∙ omega (arith, v.nodes))

  -- AN EDIT in log mode
  pub write_edit_keeps : n < N → modes n ≡ Log → (c : Change) → Suits c (table n) → Neat (change c (table n)) →
      Keeps B N (update table n (change c (table n))) (update modes n Log) (write_edit n c (change c (table n)) run)
  unfolding draft_of
  write_edit_keeps l d c s h =
      go (write_edit-done v.good n c x (neat_fits x h) (omega (arith, v.nodes)) (subst (λ m. InMode m run.now n) d old.mode))
    where
      x : Node
      x = change c (table n)

      old : Holds run.now n (table n) (modes n)
      old = v.holds n l

      counted : (write_edit n c x run).nodes ≡ N
      counted = write_edit-nodes n c x run (omega (arith, v.nodes)) ∙ v.nodes

      one_more_lem : replay (pieces (view run.now) n ++ (step c ∷ [])) ≡ made (change c (table n))
      one_more_lem =
          replay_snoc (pieces (view run.now) n) c ∙ ap (λ z. redo z c) old.content ∙ redo-made c (table n) s h

      go : Done B n run (write_edit n c x run) (pieces (view run.now) n ++ (step c ∷ [])) Log ⊎
          Done B n run (write_edit n c x run) (map step (changes_of x)) Log →
          Keeps B N (update table n (change c (table n))) (update modes n Log) (write_edit n c (change c (table n)) run)
      go (inl y) = done_keeps N v y one_more_lem h counted
      go (inr y) = done_keeps N v y (replay-changes_of x h) h counted

  -- a switch, if there is one: the content stays
  switch_keeps : n < N → (m m' : Mode) → modes n ≡ m → Keeps B N table (update modes n m') (switch m m' n (table n) run)
  switch_keeps l Log Log d = subst (λ z. Keeps B N table z run) (sym (update_self modes n Log d)) v
  switch_keeps l Log Disk d =
      subst (λ z. Keeps B N z (update modes n Disk) (write_node n (table n) run)) (update_self table n (table n) refl)
      (write_node_keeps l (table n) (v.neat n l))
  switch_keeps l Disk Log d =
      subst (λ z. Keeps B N z (update modes n Log) (write_group n (table n) run)) (update_self table n (table n) refl)
      (write_group_keeps N (omega arith) (omega arith) (omega (arith, v.nodes, v.good.invariant.nodes)) (table n) (v.neat n l))
  switch_keeps l Disk Disk d = subst (λ z. Keeps B N table z run) (sym (update_self modes n Disk d)) v

module _ {B N : ℕ} {table : ℕ → Node} {modes : ℕ → Mode} {run : Run} (v : Keeps B N table modes run) (n : ℕ) (l : n < N) where
  -- the request's own change, in the mode that the node is in by then
  edit_keeps : (m : Mode) → modes n ≡ m → (c : Change) → Suits c (table n) → Neat (change c (table n)) →
      Keeps B N (update table n (change c (table n))) modes (work m n (edit c) (table n) run)
  edit_keeps Log d c s h =
      subst (λ z. Keeps B N (update table n (change c (table n))) z (write_edit n c (change c (table n)) run)) (update_self modes n Log d)
      (write_edit_keeps v n l d c s h)
  edit_keeps Disk d c s h =
      subst (λ z. Keeps B N (update table n (change c (table n))) z (write_node n (change c (table n)) run)) (update_self modes n Disk d)
      (write_node_keeps v n l (change c (table n)) h)

  rewrite_keeps : (m : Mode) → modes n ≡ m → (y : Node) → Neat y → Keeps B N (update table n y) modes (work m n (rewrite y) (table n) run)
  rewrite_keeps Log d y h =
      subst (λ z. Keeps B N (update table n y) z (write_group n y run)) (update_self modes n Log d)
      (write_group_keeps v n N (omega arith) (omega arith) (omega (arith, v.nodes, v.good.invariant.nodes)) y h)
  rewrite_keeps Disk d y h =
      subst (λ z. Keeps B N (update table n y) z (write_node n y run)) (update_self modes n Disk d) (write_node_keeps v n l y h)

  work_keeps : (m : Mode) → modes n ≡ m → (w : Work) → Fits w (table n) →
      Keeps B N (update table n (work_on w (table n))) modes (work m n w (table n) run)
  work_keeps m d read f = subst (λ z. Keeps B N z modes run) (sym (update_self table n (table n) refl)) v
  work_keeps m d (edit c) f = edit_keeps m d c f.0 f.1
  work_keeps m d (rewrite y) f = rewrite_keeps m d y f

note_keeps : {B N : ℕ} {table : ℕ → Node} {modes : ℕ → Mode} {run : Run} → Keeps B N table modes run → Keeps B N table modes (note run)
note_keeps v =
    record {
      good =
          record {
            invariant = v.good.invariant;
            versions = v.good.versions;
            small = v.good.small;
            passed = every_append v.good.passed (both v.good.invariant.lean none);
          };
      nodes = v.nodes;
      holds = v.holds;
      neat = v.neat;
    }

-- ONE REQUEST, served in a mode: its node has the new content and that mode, every other node what it had
pub serve_keeps : {B N : ℕ} {table : ℕ → Node} {modes : ℕ → Mode} {run : Run} → Keeps B N table modes run → (n : ℕ) → n < N → (m : Mode) (w : Work) →
    Fits w (table n) → Keeps B N (update table n (work_on w (table n))) (update modes n m) (serve m n w run)
unfolding serve
serve_keeps {B} {N} {table} {modes} {run} v n l m w f =
    rw (holds_node (v.holds n l), holds_mode (modes n) (v.holds n l))
    (note_keeps (work_keeps (switch_keeps v n l (modes n) m refl) n l m (update_same modes n m n refl) w f))

-- A CREATE: the next node, in log mode
pub create_keeps : {B N : ℕ} {table : ℕ → Node} {modes : ℕ → Mode} {run : Run} → Keeps B N table modes run → suc N ≤ node_limit B → (x : Node) →
    Neat x → Keeps B (suc N) (update table N x) (update modes N Log) (create N x run)
unfolding create
create_keeps {N = N} v b x h = note_keeps (write_group_keeps v N (suc N) (omega arith) (omega arith) b x h)
