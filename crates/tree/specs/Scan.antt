-- Sweep (command 04): reads from root to the leaf of the low key, then leaf after leaf by links (document 01, "Nodes and tree").
-- Assumes nothing.
use Rattle.std.specs.Prelude.{Bool, true, false, ◌||◌, List, [], ◌∷◌, ◌++◌, map, ℕ, zero, suc, ◌-◌, eqb, ltb, leb, length}
use Rattle.layout.specs.Layout.{no_leaf}
use Rattle.pairs.specs.Pairs.{Pair, range, has_above}
use Rattle.node.specs.Node.{Node, pairs_of, link_of}
use Rattle.tree.specs.Table.{Table, path, leaf_for}
use Rattle.tree.specs.NodeRequest.{NodeRequest, read}

-- A scan stops in a leaf at the first key above the high one or at `most` pairs, or after the last leaf.
unfoldable pub stops_in : ℕ → ℕ → Node → List Pair → Bool
stops_in high most leaf got = has_above high (pairs_of leaf) || (leb most (length got) || eqb (link_of leaf) no_leaf)

-- The pairs of a leaf that a scan takes.
abbrev pub taken : ℕ → ℕ → ℕ → Node → List Pair
taken low high most leaf = range low high most (pairs_of leaf)

-- The pairs that a scan takes from a leaf on. The fuel is the node count.
unfoldable pub pairs_from : ℕ → Table → ℕ → ℕ → ℕ → ℕ → List Pair
pairs_from zero table low high most id = taken low high most (table id)
pairs_from (suc fuel) table low high most id =
    let got = taken low high most (table id) in
    elim (stops_in high most (table id) got) [
      | true ↦ got
      | false ↦ got ++ pairs_from fuel table low high (most - length got) (link_of (table id))
    ]

-- The leaves that it reads after that one, by links.
unfoldable pub leaves_after : ℕ → Table → ℕ → ℕ → ℕ → ℕ → List ℕ
leaves_after zero table low high most id = []
leaves_after (suc fuel) table low high most id =
    let got = taken low high most (table id) in
    elim (stops_in high most (table id) got) [
      | true ↦ []
      | false ↦ link_of (table id) ∷ leaves_after fuel table low high (most - length got) (link_of (table id))
    ]

-- The nodes that it reads, in order. Low above high: an empty list and no node read.
unfoldable pub scan_reads : ℕ → Table → ℕ → ℕ → ℕ → List ℕ
scan_reads count table low high most =
    elim (ltb high low) [
      | true ↦ []
      | false ↦ path count table low 0 ++ leaves_after count table low high most (leaf_for count table low 0)
    ]

abbrev pub scan_requests : ℕ → Table → ℕ → ℕ → ℕ → List NodeRequest
scan_requests count table low high most = map read (scan_reads count table low high most)

-- The pairs found, ascending.
unfoldable pub scan_answer : ℕ → Table → ℕ → ℕ → ℕ → List Pair
scan_answer count table low high most =
    elim (ltb high low) [ true ↦ [] | false ↦ pairs_from count table low high most (leaf_for count table low 0) ]
