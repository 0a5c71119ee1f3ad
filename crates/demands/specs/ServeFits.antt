-- A node request, whatever it asks and in whatever mode it is served, leaves a fitting store: a switch writes the content that the node
-- has, which has 32-bit numbers, and the request's own numbers have 32 bits. Assumes nothing.
use Rattle.std.specs.Prelude.{◌≡◌, refl, ℕ, suc, ◌+◌, ◌≤◌, ◌<◌}
use Rattle.std.proofs.Common.{subst, arith}
use Rattle.laws.specs.Every.{none, both, every_append}
use Rattle.laws.specs.Update.{update_same}
use Rattle.layout.specs.Layout.{node_limit, bound32}
use Rattle.account.specs.declared.Mode.{Mode}
use Rattle.account.specs.declared.Mode.TheVariants.{Log, Disk}
use Rattle.node.specs.Node.{Node, Neat}
use Rattle.node.specs.Change.{change}
use Rattle.page.specs.Limits.{bound16}
use Rattle.node.specs.Narrow.{Narrow, NarrowChange}
use Rattle.tree_laws.specs.NarrowLaws.{change_narrow}
use Rattle.store.specs.Run.{Run, write_group, write_node}
use Rattle.store.specs.Serve.{Work, read, edit, rewrite, switch, work, note, serve, create}
use Rattle.store_laws.specs.Contents.{neat_fits}
use Rattle.store_laws.specs.Versions.{InLog, InMode}
use Rattle.store_laws.specs.Good.{Good}
use Rattle.store_laws.specs.Keeps.{Keeps, Fits}
use Rattle.store_laws.proofs.Keeps.{holds_node, holds_mode, write_group_keeps}
use Rattle.store_laws.specs.Numbers.{last}
use Rattle.store_laws.proofs.Numbers.{write-last, write_group-last}
use Rattle.store_laws.specs.StoreFits.{RunFits}
use Rattle.demands.specs.NodesNarrow.{node_narrow}
use Rattle.store_laws.proofs.WriteFits.{write_group-fits, write_node-fits, write_edit-fits}

-- What a request brings has 32-bit numbers.
abbrev pub NarrowWork : Work → Type 0
NarrowWork read = Unit {0}
NarrowWork (edit c) = NarrowChange c
NarrowWork (rewrite y) = Narrow y

note-fits : {run : Run} → RunFits run → RunFits (note run)
note-fits h = record { now = h.now; passed = every_append h.passed (both h.now none) }

-- The request's own change, in the mode that the node is in by then.
module _ {run : Run} (h : RunFits run) (n : ℕ) (id : n < bound16) (old : Node) (narrow : Narrow old) where
  disk_work-fits : (w : Work) → Fits w old → NarrowWork w → 1 + last run < bound32 → RunFits (work Disk n w old run)
  disk_work-fits read f w b = h
  disk_work-fits (edit c) f w b = write_node-fits h n id (change c old) (change_narrow c old w narrow) f.1.size b
  disk_work-fits (rewrite y) f w b = write_node-fits h n id y w f.size b

  log_work-fits : {B : ℕ} → Good B run → n < run.nodes → InLog run.now n → (w : Work) → Fits w old → NarrowWork w →
      3 + last run < bound32 → RunFits (work Log n w old run)
  log_work-fits v there in_log read f w b = h
  log_work-fits v there in_log (edit c) f w b =
      write_edit-fits v h n id there in_log c w (change c old) (change_narrow c old w narrow) (neat_fits (change c old) f.1) b
  log_work-fits v there in_log (rewrite y) f w b = write_group-fits h n id y w (neat_fits y f) (omega arith)

module _ {B N : ℕ} {table : ℕ → Node} {modes : ℕ → Mode} {run : Run} (v : Keeps B N table modes run) (h : RunFits run) (n : ℕ)
    (there : n < N) (id : n < bound16) (w : Work) (fits : Fits w (table n)) (narrow : NarrowWork w) (room : 5 + last run < bound32) where
  old_narrow : Narrow (table n)
  old_narrow = subst Narrow (holds_node (v.holds n there)) (node_narrow h.now n)

  limit-kept : N ≤ node_limit B
  limit-kept = omega (arith, v.nodes, v.good.invariant.nodes)

  -- the switch first, if there is one
  switched-fits : (m m' : Mode) → modes n ≡ m → RunFits (work m' n w (table n) (switch m m' n (table n) run))
  switched-fits Log Log e =
      log_work-fits h n id (table n) old_narrow v.good (omega (arith, v.nodes))
      (subst (λ (m : Mode). InMode m run.now n) e (v.holds n there).mode) w fits narrow (omega arith)
  switched-fits Log Disk e =
      disk_work-fits (write_node-fits h n id (table n) old_narrow (v.neat n there).size (omega arith)) n id (table n) old_narrow w fits narrow
      (omega (arith, write_node-last))
    where
      write_node-last : last (write_node n (table n) run) ≡ suc (last run)
      write_node-last = write-last _ _ _ run
  switched-fits Disk Log e =
      let grouped = write_group_keeps v n N (omega arith) (omega arith) limit-kept (table n) (v.neat n there) in
      log_work-fits (write_group-fits h n id (table n) old_narrow (neat_fits (table n) (v.neat n there)) (omega arith)) n id (table n) old_narrow
      grouped.good (omega (arith, grouped.nodes))
      (subst (λ (m : Mode). InMode m (write_group n (table n) run).now n) (update_same modes n Log n refl) (grouped.holds n there).mode) w fits
      narrow (omega (arith, write_group-last n (table n) run))
  switched-fits Disk Disk e = disk_work-fits h n id (table n) old_narrow w fits narrow (omega arith)

  -- ONE REQUEST
  pub serve-fits : (m : Mode) → RunFits (serve m n w run)
  unfolding serve
  serve-fits m =
      rw (holds_node (v.holds n there), holds_mode (modes n) (v.holds n there)) (note-fits (switched-fits (modes n) m refl))

-- A CREATE
pub create-fits : {run : Run} → RunFits run → (n : ℕ) → n < bound16 → (x : Node) → Narrow x → Neat x → 2 + last run < bound32 →
    RunFits (create n x run)
unfolding create
create-fits h n id x narrow neat b = note-fits (write_group-fits h n id x narrow (neat_fits x neat) b)
