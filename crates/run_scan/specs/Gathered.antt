-- What is gathered for a scan from a first leaf on: the pairs, and the leaves behind it by links. Assumes nothing.
use Rattle.std.specs.Prelude.{◌≡◌, List, ℕ, ◌≤◌, length, take}
use Rattle.layout.specs.Layout.{node_limit, most_blocks}
use Rattle.tree.specs.Table.{Table}
use Rattle.tree.specs.Scan.{pairs_from, leaves_after}
use Rattle.run_scan.specs.declared.gather.Gathered.{Gathered}
use Rattle.run_scan.specs.Pairs.{pairs_of, Sized}

-- Of a scan that starts at the leaf `first`: the ids of the leaves behind it stand in front of these ids.
pub record GatheredFrom (first : ℕ) (table : Table) (nodes low high most : ℕ) (ids : List ℕ) (r : Gathered) : Type 0 where
  pub pairs : pairs_of r.pairs ≡ pairs_from nodes table low high most first
  pub leaves : take r.visited ids ≡ leaves_after nodes table low high most first
  pub sized : Sized r.pairs
  pub wanted : r.pairs.count ≤ most
  pub few : r.visited ≤ nodes
  pub room : length ids ≡ node_limit most_blocks
