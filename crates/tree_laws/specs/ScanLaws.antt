-- A scan is the range of the map that the table spells, and it reads nodes that are there, at most as many as there are nodes: a leaf that does not
-- stop the scan hands on to the leaf that its link names. So the next key up is the map's too. Assumes nothing.
use Rattle.std.specs.Prelude.{◌≡◌, Bool, ◌||◌, eqb, ltb, leb}
use Rattle.std.proofs.Math.Path.{refl}
use Rattle.std.proofs.Common.{sym, ap, ◌∙◌, arith, ltb-true, ltb-false, leb-true, eqb-true, length-append}
use Rattle.std.proofs.Math.Bool.{true, false}
use mathlib.Core.List.{List, [], ◌++◌, append-nil}
use Prim.Native.Nat.{ℕ, zero, suc, ◌-◌, ◌≤◌, ◌<◌}
use Rattle.std.proofs.lemmas.Bool.{eqb-false}
use Rattle.std.proofs.Math.ListN.{length}
use Rattle.laws.specs.Every.{Every, none, both, every_append}
use Rattle.laws.specs.Tests.{or_left, or_right}
use Rattle.layout.specs.Layout.{no_leaf, last_key, bound32}
use Rattle.pairs.specs.Pairs.{Pair, range, ceiling, first, has_above}
use Rattle.pairs.proofs.Ranges.{range_none, range-append-below, range-append_stop, range-append-full, range-append_on}
use Rattle.pairs.proofs.Ceiling.{range-ceiling}
use Rattle.node.specs.Node.{Node, pairs_of, link_of}
use Rattle.tree.specs.Table.{Table, path, leaf_for}
use Rattle.tree.specs.Scan.{stops_in, taken, pairs_from, leaves_after, scan_reads, scan_answer}
use Rattle.tree.specs.Tree.{root_of, pairs_in}
use Rattle.tree.specs.Spells.{Spells}
use Rattle.tree_laws.specs.Ids.{used-below}
use Rattle.tree_laws.specs.Size.{depth_leaves, size-count, depth_count}
use Rattle.tree_laws.specs.LeafChain.{Chain, Onward, onward}
use Rattle.tree_laws.specs.GetLaws.{pairs_within, path-found}

-- Why a scan stops in a leaf.
data Stop (high most : ℕ) (leaf : Node) (got : List Pair) : Type 0 where
  above : has_above high (pairs_of leaf) ≡ true → Stop high most leaf got
  enough : most ≤ length got → Stop high most leaf got
  ended : link_of leaf ≡ no_leaf → Stop high most leaf got

stop_why : (high most : ℕ) (leaf : Node) (got : List Pair) → stops_in high most leaf got ≡ true → Stop high most leaf got
unfolding stops_in
stop_why high most leaf got e = go (has_above high (pairs_of leaf)) refl (leb most (length got)) refl (eqb (link_of leaf) no_leaf) refl
  where
    go : (x : Bool) → has_above high (pairs_of leaf) ≡ x → (y : Bool) → leb most (length got) ≡ y → (z : Bool) → eqb (link_of leaf) no_leaf ≡ z →
        Stop high most leaf got
    go true p y q z r = above p
    go false p true q z r = enough (leb-true most (length got) q)
    go false p false q true r = ended (eqb-true (link_of leaf) no_leaf r)
    go false p false q false r =
        let w : ◌≡◌ {A = Bool} false true = rw (p, q, r) at e in let n : ◌≡◌ {A = ℕ} 0 1 = cc in absurd (omega arith)

record GoesOn (high : ℕ) (leaf : Node) : Type 0 where
  below : has_above high (pairs_of leaf) ≡ false
  linked : link_of leaf ≡ no_leaf → ⊥

goes_on : (high most : ℕ) (leaf : Node) (got : List Pair) → stops_in high most leaf got ≡ false → GoesOn high leaf
unfolding stops_in
goes_on high most leaf got e =
    let x = has_above high (pairs_of leaf) in
    let y = leb most (length got) in
    let z = eqb (link_of leaf) no_leaf in
    record { below = or_left x (y || z) e; linked = eqb-false (link_of leaf) no_leaf (or_right y z (or_right x (y || z) e)) }

module _ (table : Table) (count low high : ℕ) (small : count ≤ no_leaf) where
  chain_end : (n id : ℕ) (pairs : List Pair) → Chain n table count id pairs → id ≡ no_leaf → pairs ≡ []
  unfolding Chain
  chain_end zero id pairs c e = c.1
  chain_end (suc n) id pairs c e = absurd (omega (arith, c.used))

  chain_used : (n id : ℕ) (pairs : List Pair) → Chain n table count id pairs → (id ≡ no_leaf → ⊥) → id < count
  unfolding Chain
  chain_used zero id pairs c e = absurd (e c.0)
  chain_used (suc n) id pairs c e = c.used

  pairs_from-range : (fuel n most id : ℕ) (pairs : List Pair) → low ≤ high → n ≤ suc fuel → (id ≡ no_leaf → ⊥) → Chain n table count id pairs →
      pairs_from fuel table low high most id ≡ range low high most pairs
  unfolding pairs_from Chain
  pairs_from-range fuel zero most id pairs g l z c = absurd (z c.0)
  pairs_from-range zero (suc zero) most id pairs g l z c = rw (c.content, c.joined, c.more.1, append-nil c.here)
  pairs_from-range zero (suc (suc n)) most id pairs g l z c = absurd (omega arith)
  pairs_from-range (suc fuel) (suc n) most id pairs g l z c =
      rw c.joined
      (go (stops_in high most (table id) (taken low high most (table id))) refl
      (λ m y. pairs_from-range fuel n m c.link c.later g (omega arith) y c.more))
    where
      got : List Pair
      got = range low high most c.here

      same_got : taken low high most (table id) ≡ got
      same_got = ap (λ (x : Node). range low high most (pairs_of x)) c.content

      stopped : Stop high most (table id) (taken low high most (table id)) → got ≡ range low high most (c.here ++ c.later)
      stopped (above e) = sym (range-append_stop low high most c.here c.later g (rw c.content at e))
      stopped (enough e) = sym (range-append-full low high most c.here c.later (rw same_got at e))
      stopped (ended e) =
          rw (chain_end n c.link c.later c.more (rw c.content at e), append-nil c.here)

      go : (b : Bool) → stops_in high most (table id) (taken low high most (table id)) ≡ b →
          ((m : ℕ) → (c.link ≡ no_leaf → ⊥) → pairs_from fuel table low high m c.link ≡ range low high m c.later) →
          pairs_from (suc fuel) table low high most id ≡ range low high most (c.here ++ c.later)
      go true e r =
          rw (e, pairs_from) (same_got ∙ stopped (stop_why high most (table id) (taken low high most (table id)) e))
      go false e r =
          let on = goes_on high most (table id) (taken low high most (table id)) e in
          rw (e, pairs_from, c.content, r (most - length got) (rw c.content at on.linked))
          (sym (range-append_on low high most c.here c.later (rw c.content at on.below)))

  leaves_after-used : (fuel n most id : ℕ) (pairs : List Pair) → (id ≡ no_leaf → ⊥) → Chain n table count id pairs →
      Every (λ i. i < count) (leaves_after fuel table low high most id) × (suc (length (leaves_after fuel table low high most id)) ≤ n)
  unfolding leaves_after Chain
  leaves_after-used fuel zero most id pairs z c = absurd (z c.0)
  leaves_after-used zero (suc n) most id pairs z c = (none, omega arith)
  leaves_after-used (suc fuel) (suc n) most id pairs z c =
      go (stops_in high most (table id) (taken low high most (table id))) refl (λ m y. leaves_after-used fuel n m c.link c.later y c.more)
    where
      go : (b : Bool) → stops_in high most (table id) (taken low high most (table id)) ≡ b →
          ((m : ℕ) → (c.link ≡ no_leaf → ⊥) →
          Every (λ i. i < count) (leaves_after fuel table low high m c.link) × (suc (length (leaves_after fuel table low high m c.link)) ≤ n)) →
          Every (λ i. i < count) (leaves_after (suc fuel) table low high most id) × (suc (length (leaves_after (suc fuel) table low high most id)) ≤ suc n)
      go true e r = rw (e, leaves_after) (none, omega arith)
      go false e r =
          let on : (c.link ≡ no_leaf → ⊥) = rw c.content at (goes_on high most (table id) (taken low high most (table id)) e).linked in
          let q = r (most - length (range low high most c.here)) on in
          rw (e, leaves_after, c.content) (both (chain_used n c.link c.later c.more on) q.0, omega (arith, q.1))

module _ (table : Table) (count : ℕ) (pairs : List Pair) (s : Spells table count pairs) (low high most : ℕ)
    (small : count ≤ no_leaf) (low_small : low < bound32) where
  scan_onward : Onward s.depth count table count low s.tree 0 0 []
  unfolding Chain
  scan_onward =
      onward s.depth count table count low s.tree 0 bound32 no_leaf 0 [] (omega arith) low_small (omega (arith, depth_count table count pairs s))
      (λ i l. used-below count i (omega (arith, s.ids i))) s.stands record { length = 0; bounded = omega arith; chain = (refl, refl) }

  abbrev start : ℕ
  start = leaf_for count table low (root_of s.depth s.tree)

  start_is : start ≡ leaf_for count table low 0
  start_is = rw s.root

  all-pairs : scan_onward.skipped ++ scan_onward.left ≡ pairs
  all-pairs = sym scan_onward.joined ∙ (append-nil (pairs_in s.depth s.tree) ∙ s.spelled)

  pub scan-answer : scan_answer count table low high most ≡ range low high most pairs
  unfolding scan_answer
  scan-answer = go (ltb high low) refl
    where
      o : Onward s.depth count table count low s.tree 0 0 []
      o = scan_onward

      go : (b : Bool) → ltb high low ≡ b → scan_answer count table low high most ≡ range low high most pairs
      go true e = rw (e, scan_answer, range_none low high most pairs (ltb-true high low e))
      go false e =
          rw (e, scan_answer, ← start_is)
          (pairs_from-range table count low high small count o.chained.length most start o.left (ltb-false high low e)
          (omega
          (arith, o.chained.bounded, depth_leaves s.depth s.tree, size-count table count pairs s))
          (omega (arith, o.used)) o.chained.chain ∙
          (sym (range-append-below low high most 0 o.bound o.skipped o.left o.from o.below) ∙ ap (range low high most) all-pairs))

  scan-leaves : Every (λ i. i < count) (leaves_after count table low high most start) ×
      (suc (length (leaves_after count table low high most start)) ≤ scan_onward.chained.length)
  scan-leaves =
      leaves_after-used table count low high small count scan_onward.chained.length most start scan_onward.left
      (omega (arith, scan_onward.used)) scan_onward.chained.chain

  -- nodes that are there are read, and no more than there are
  pub scan-found : Every (λ i. i < count) (scan_reads count table low high most)
  unfolding scan_reads
  scan-found = go (ltb high low)
    where
      go : (b : Bool) →
          Every (λ i. i < count) (elim b [ true ↦ [] | false ↦ path count table low 0 ++ leaves_after count table low high most (leaf_for count table low 0) ])
      go true = none
      go false = every_append (path-found table count pairs s low low_small).0 (rw start_is at scan-leaves.0)

  pub scan_few : length (scan_reads count table low high most) ≤ count
  unfolding scan_reads
  scan_few = go (ltb high low)
    where
      p : List ℕ
      p = path count table low 0

      q : List ℕ
      q = leaves_after count table low high most (leaf_for count table low 0)

      go : (b : Bool) → length {A = ℕ} (elim b [ true ↦ [] | false ↦ p ++ q ]) ≤ count
      go true = omega arith
      go false =
          let after : suc (length q) ≤ scan_onward.chained.length = rw start_is at scan-leaves.1 in
          omega (
            arith,
            length-append p q,
            (path-found table count pairs s low low_small).1,
            after,
            scan_onward.chained.bounded,
            depth_leaves s.depth s.tree,
            size-count table count pairs s,
          )

-- Document 02, P3: the first pair of a scan to the greatest key, with a most of 1, is the next key up of the map.
pub ceiling-answer : (table : Table) (count : ℕ) (pairs : List Pair) → Spells table count pairs → (k : ℕ) → count ≤ no_leaf → k < bound32 →
    first (scan_answer count table k last_key 1) ≡ ceiling k pairs
ceiling-answer table count pairs s k small l =
    ap first (scan-answer table count pairs s k last_key 1 small l) ∙
    range-ceiling k 0 bound32 last_key pairs (pairs_within table count pairs s) (omega arith)
