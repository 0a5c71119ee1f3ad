-- The ways out of a leaf: what a scan has gathered where it stops, and the leaf that it goes on to. Assumes nothing.
use Rattle.std.specs.Prelude.{◌≡◌, List, ℕ, ◌+◌, ◌-◌, ◌≤◌, ◌<◌, length, get_or, set}
use Rattle.std.proofs.Common.{◌∙◌, arith, length-set}
use Rattle.layout.specs.Layout.{no_leaf, node_limit, most_blocks, most_pairs}
use Rattle.pairs.specs.Pairs.{range}
use Rattle.node.specs.declared.NodeValue.{NodeValue}
use Rattle.node.specs.Value.{pairs_in, Becomes}
use Rattle.tree.specs.Table.{Table}
use Rattle.run_scan.specs.declared.gather.Gathered.{Gathered}
use Rattle.run_scan.specs.Gathered.{GatheredFrom}
use Rattle.run_scan.specs.InLeaf.{Taking, taking_high, taking_last, taking_end}
use Rattle.run_scan.specs.Along.{Along, stops_above, stops_full, stops_last, goes_on, length-given, along_stop, along_out, along_next}

abbrev pub gathered : List ℕ → List ℕ → ℕ → ℕ → Gathered
gathered keys values count visited = record { pairs = record { keys = keys; values = values; count = count }; visited = visited }

module _ {first : ℕ} {table : Table} {nodes low high most : ℕ} {keys₀ values₀ : List ℕ} {count₀ : ℕ} {leaves : List ℕ} {visited : ℕ} {leaf : NodeValue}
    (order : low ≤ high) (bound : most ≤ most_pairs) (a : Along first table nodes low high most keys₀ values₀ count₀ leaves visited leaf)
    {keys values : List ℕ} {count i : ℕ} (t : Taking low high most leaf keys₀ values₀ count₀ keys values count i) where
  abbrev key : ℕ
  key = get_or leaf.keys i 0

  abbrev value : ℕ
  value = get_or leaf.pointers i 0

  few : count ≤ most
  few = omega (arith, t.wanted)

  -- at a key above the high one
  pub gathered_high : i < leaf.count → high < key → GatheredFrom first table nodes low high most leaves (gathered keys values count visited)
  gathered_high l h =
      let out = taking_high bound a.here.held t l order h in
      along_stop bound a keys values count t.key_room t.value_room few out.0
      (stops_above high (most - count₀) leaf (range low high (most - count₀) (pairs_in leaf)) out.1)

  -- with the last pair that is wanted
  pub gathered-last : i < leaf.count → key ≤ high → count + 1 ≡ most →
      GatheredFrom first table nodes low high most leaves (gathered (set keys count key) (set values count value) (count + 1) visited)
  gathered-last l h e =
      let all = taking_last bound a.here.held t l h e in
      let key_room : length (set keys count key) ≡ most_pairs = length-set keys count key ∙ t.key_room in
      let value_room : length (set values count value) ≡ most_pairs = length-set values count value ∙ t.value_room in
      let size = length-given bound a (set keys count key) (set values count value) (count + 1) key_room value_room (omega arith) all in
      along_stop bound a (set keys count key) (set values count value) (count + 1) key_room value_room (omega arith) all
      (stops_full high (most - count₀) leaf (range low high (most - count₀) (pairs_in leaf)) (omega arith))

  -- behind all keys of the leaf
  module _ (l : leaf.count ≤ i) where
    pub gathered_end : leaf.link ≡ no_leaf → GatheredFrom first table nodes low high most leaves (gathered keys values count visited)
    gathered_end e =
        let out = taking_end bound a.here.held t l in
        along_stop bound a keys values count t.key_room t.value_room few out.0
        (stops_last high (most - count₀) leaf (range low high (most - count₀) (pairs_in leaf)) e)

    pub gathered_out : visited ≡ nodes → GatheredFrom first table nodes low high most leaves (gathered keys values count visited)
    gathered_out e =
        let out = taking_end bound a.here.held t l in
        along_out bound a keys values count t.key_room t.value_room few out.0 e

    pub gathering_next : nodes ≤ node_limit most_blocks → (leaf.link ≡ no_leaf → ⊥) → (visited ≡ nodes → ⊥) → (v : NodeValue) → Becomes v
        (table leaf.link) →
        Along first table nodes low high most keys values count (set leaves visited leaf.link) (visited + 1) v
    gathering_next limit e o v b =
        let out = taking_end bound a.here.held t l in
        let size = length-given bound a keys values count t.key_room t.value_room few out.0 in
        along_next bound a keys values count t.key_room t.value_room few out.0 limit t.wanted o
        (goes_on high (most - count₀) leaf (range low high (most - count₀) (pairs_in leaf)) out.1 (omega (arith, t.wanted)) e) v b
