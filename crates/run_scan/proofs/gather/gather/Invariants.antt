use Rattle.std.proofs.Common.{◌-◌, ◌<◌}
use Rattle.layout.specs.Layout.{bound32}
use Rattle.flash_blocks.specs.Pages.{pages_of}
use Rattle.flash_rows.specs.Worktable.{table_from}
use Rattle.flash_read.specs.NodeTable.{table_of}
use Rattle.run_scan.specs.InLeaf.{Taking}
use Rattle.run_scan.specs.Along.{Along}
use Rattle.run_scan.proofs.gather.gather.Given as goal

abbrev pub invariant-keys : goal.invariant-keys
invariant-keys l = Taking l.low l.high l.most l.leaf l.initial.keys l.initial.values l.initial.count l.keys l.values l.count l.i

abbrev pub invariant-leaves : goal.invariant-leaves
invariant-leaves l = record {
  link : l.leaf.link < bound32;
  along :
      Along l.first (table_of (pages_of l.pool) (table_from l.table) l.state) l.state.nodes l.low l.high l.most l.keys l.values l.count
      l.leaves l.visited l.leaf;
}

abbrev pub decreases-leaves : goal.decreases-leaves
decreases-leaves l =
    l.state.nodes - l.visited
