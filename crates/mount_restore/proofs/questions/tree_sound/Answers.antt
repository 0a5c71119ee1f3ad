-- `questions::tree_sound` meets its contract: the nodes are read by the rows kept, and zeros behind these give the rows back. Assumes nothing.
use mathlib.Core.Path.{ap, ap₂, ◌∙◌}
use Prim.Native.Nat.{ℕ, ◌+◌, ◌-◌, ◌*◌, ◌≤◌}
use native.Mathlib.Omega.{arith}
use lib.ListN.{length}
use Rattle.flash_blocks.specs.Pages.{pages_of}
use Rattle.flash_rows.specs.Worktable.{table_from}
use Rattle.tree.specs.Table.{Table}
use Rattle.tree.specs.Sound.{sound}
use Rattle.mount_restore.specs.Blank.{table_kept, table_back}
use Rattle.mount_restore.proofs.Laws.{checkable}
use Rattle.mount_restore.proofs.questions.tree_sound.Goals as goal

pub is_sound-sound-requires : goal.is_sound-sound-requires
is_sound-sound-requires c =
    let a = c.args in
    let p = c.requires in
    let l = c.node_limit-limit in
    checkable a.state l.result a.table.now p.4 (omega (arith, p.3, l.ensures.0)) l.ensures.1
    (omega (arith, p.2, l.ensures.0, p.0))

pub returns : goal.returns
returns c =
    let a = c.args in
    let p = c.requires in
    let l = c.node_limit-limit in
    let s = c.is_sound-sound in
    let few : a.state.nodes ≤ l.result = omega (arith, p.3, l.ensures.0) in
    let room : 416 + 16 * l.result ≤ length a.table.now = omega (arith, p.2, l.ensures.0, p.0) in (
      s.ensures.0 ∙
          ap₂ (λ (n : ℕ) (t : Table). sound n a.state.nodes t) l.ensures.0
          (table_kept l.result a.table.now room (pages_of a.pool.now) a.state few),
      ap table_from c.fill_part.ensures ∙
          table_back l.result a.table.now room s.new.table (1024 * a.state.blocks - (416 + 16 * l.result)) s.auto.table (omega (arith, p.2))
          s.ensures.1 (λ n h. p.5 n (omega arith)),
    )
