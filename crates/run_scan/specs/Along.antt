-- A scan a leaf at a time: what is left of it from a leaf gives the whole. Assumes nothing.
use Rattle.std.specs.Prelude.{◌≡◌, Bool, ◌||◌, List, [], ◌∷◌, ◌++◌, leb, length, take, set}
use Rattle.std.proofs.Math.Path.{refl}
use Rattle.std.proofs.Common.{sym, ap, ap₂, ◌∙◌, append-nil, append_assoc, add-one, length-set, length-append, take-suc-set}
use Rattle.std.proofs.Math.Bool.{true, false}
use Prim.Native.Nat.{ℕ, zero, suc, ◌+◌, ◌-◌, ◌≤◌, ◌<◌}
use Rattle.std.proofs.Math.Nat.{sub-zero}
use native.Mathlib.Omega.{arith}
use borrow.Author.Tests.{le-leb, lt-leb, eq-eqb, ne_eqb}
use Rattle.std.proofs.Math.Dec.{eqb}
use Rattle.layout.specs.Layout.{no_leaf, node_limit, most_blocks, most_pairs}
use Rattle.pairs.specs.Pairs.{Pair, range, has_above}
use Rattle.node.specs.declared.NodeValue.{NodeValue}
use Rattle.node.specs.Node.{Node, link_of}
use Rattle.node.specs.Value.{pairs_in, node_of, Becomes}
use Rattle.tree.specs.Table.{Table}
use Rattle.tree.specs.Scan.{stops_in, taken, pairs_from, leaves_after}
use Rattle.run_scan.specs.Pairs.{listed, listed-none, length-listed}
use Rattle.run_scan.specs.Gathered.{GatheredFrom}

-- A scan of m pairs more, from a leaf on: it stops there, or goes on by the link.
module _ (table : Table) (low high m id : ℕ) where
  abbrev got : List Pair
  got = taken low high m (table id)

  module _ (e : stops_in high m (table id) got ≡ true) where
    pairs_stop : (fuel : ℕ) → pairs_from fuel table low high m id ≡ got
    unfolding pairs_from
    pairs_stop zero = refl
    pairs_stop (suc fuel) = rw (e, pairs_from) refl

    leaves_stop : (fuel : ℕ) → leaves_after fuel table low high m id ≡ []
    unfolding leaves_after
    leaves_stop zero = refl
    leaves_stop (suc fuel) = rw (e, leaves_after) refl

  module _ (e : stops_in high m (table id) got ≡ false) (fuel : ℕ) where
    pairs_on : pairs_from (suc fuel) table low high m id ≡ got ++ pairs_from fuel table low high (m - length got) (link_of (table id))
    unfolding pairs_from
    pairs_on = rw (e, pairs_from) refl

    leaves_on : leaves_after (suc fuel) table low high m id ≡ link_of (table id) ∷ leaves_after fuel table low high (m - length got) (link_of (table id))
    unfolding leaves_after
    leaves_on = rw (e, leaves_after) refl

-- Why a scan stops in a leaf by value, and when it does not.
module _ (high m : ℕ) (leaf : NodeValue) (got : List Pair) where
  pub stops_above : has_above high (pairs_in leaf) ≡ true → stops_in high m (node_of leaf) got ≡ true
  unfolding stops_in
  stops_above e = rw e refl

  pub stops_full : m ≤ length got → stops_in high m (node_of leaf) got ≡ true
  unfolding stops_in
  stops_full l = go (has_above high (pairs_in leaf))
    where
      go : (b : Bool) → (b || (leb m (length got) || eqb leaf.link no_leaf)) ≡ true
      go true = refl
      go false = rw (le-leb m (length got) l) refl

  pub stops_last : leaf.link ≡ no_leaf → stops_in high m (node_of leaf) got ≡ true
  unfolding stops_in
  stops_last e = go (has_above high (pairs_in leaf)) (leb m (length got))
    where
      go : (b d : Bool) → (b || (d || eqb leaf.link no_leaf)) ≡ true
      go true d = refl
      go false true = refl
      go false false = eq-eqb leaf.link no_leaf e

  pub goes_on : has_above high (pairs_in leaf) ≡ false → length got < m → (leaf.link ≡ no_leaf → ⊥) → stops_in high m (node_of leaf) got ≡ false
  unfolding stops_in
  goes_on e l n = rw (e, lt-leb m (length got) l, ne_eqb leaf.link no_leaf n) refl

-- After so many links: the pairs found and the leaves gone to so far, and the leaf that the scan has come to.
pub record Along (first : ℕ) (table : Table) (nodes low high most : ℕ) (keys values : List ℕ) (count : ℕ) (leaves : List ℕ) (visited : ℕ)
    (leaf : NodeValue) : Type 0 where
  pub id : ℕ
  pub here : Becomes leaf (table id)
  pub links : visited ≤ nodes
  pub room : length leaves ≡ node_limit most_blocks
  pub key_room : length keys ≡ most_pairs
  pub value_room : length values ≡ most_pairs
  pub wanted : count < most
  pub pairs : listed count keys values ++ pairs_from (nodes - visited) table low high (most - count) id ≡ pairs_from nodes table low high most first
  pub on_path : take visited leaves ++ leaves_after (nodes - visited) table low high (most - count) id ≡ leaves_after nodes table low high most first

pub along_start : (first : ℕ) (table : Table) (nodes low high most : ℕ) (keys values leaves : List ℕ) (leaf : NodeValue) → Becomes leaf (table first) →
    length leaves ≡ node_limit most_blocks → length keys ≡ most_pairs → length values ≡ most_pairs → 0 < most →
    Along first table nodes low high most keys values 0 leaves 0 leaf
along_start first table nodes low high most keys values leaves leaf b room k v l =
    record {
      id = first;
      here = b;
      links = omega arith;
      room = room;
      key_room = k;
      value_room = v;
      wanted = l;
      pairs = rw (sub-zero nodes, sub-zero most, listed-none keys values) refl;
      on_path = rw (sub-zero nodes, sub-zero most) refl;
    }

module _ {first : ℕ} {table : Table} {nodes low high most : ℕ} {keys values : List ℕ} {count : ℕ} {leaves : List ℕ} {visited : ℕ} {leaf : NodeValue}
    (bound : most ≤ most_pairs) (a : Along first table nodes low high most keys values count leaves visited leaf) (keys' values' : List ℕ) (count' : ℕ)
    (key_room : length keys' ≡ most_pairs) (value_room : length values' ≡ most_pairs) (few : count' ≤ most)
    (all : listed count' keys' values' ≡ listed count keys values ++ range low high (most - count) (pairs_in leaf)) where
  -- what the leaf gives
  abbrev given : List Pair
  given = range low high (most - count) (pairs_in leaf)

  pub length-given : count' ≡ count + length given
  length-given =
      sym (length-listed count' keys' values' key_room value_room (omega arith)) ∙
      ap length all ∙
      length-append (listed count keys values) given ∙
      ap (λ (n : ℕ). n + length given) (length-listed count keys values a.key_room a.value_room (omega (arith, a.wanted)))

  at_leaf : (b : Bool) → stops_in high (most - count) (node_of leaf) given ≡ b →
      stops_in high (most - count) (table a.id) (taken low high (most - count) (table a.id)) ≡ b
  at_leaf b e = ap (λ (n : Node). stops_in high (most - count) n (taken low high (most - count) n)) (sym a.here.is) ∙ e

  given_is : taken low high (most - count) (table a.id) ≡ given
  given_is = ap (taken low high (most - count)) (sym a.here.is)

  result :
      (pairs_from (nodes - visited) table low high (most - count) a.id ≡ given) →
      (leaves_after (nodes - visited) table low high (most - count) a.id ≡ []) →
      GatheredFrom first table nodes low high most leaves
      (record { pairs = record { keys = keys'; values = values'; count = count' }; visited = visited })
  result e f =
      record {
        pairs = all ∙ ap (λ (ps : List Pair). listed count keys values ++ ps) (sym e) ∙ a.pairs;
        leaves = sym (append-nil (take visited leaves)) ∙ ap (λ (ns : List ℕ). take visited leaves ++ ns) (sym f) ∙ a.on_path;
        sized = record { size = omega arith; key_room = key_room; value_room = value_room };
        wanted = few;
        few = a.links;
        room = a.room;
      }

  -- the scan stops in the leaf
  pub along_stop : stops_in high (most - count) (node_of leaf) given ≡ true → GatheredFrom first table nodes low high most leaves
      (record { pairs = record { keys = keys'; values = values'; count = count' }; visited = visited })
  along_stop e =
      result (pairs_stop table low high (most - count) a.id (at_leaf true e) (nodes - visited) ∙ given_is)
      (leaves_stop table low high (most - count) a.id (at_leaf true e) (nodes - visited))

  -- no link is left
  pub along_out : visited ≡ nodes → GatheredFrom first table nodes low high most leaves
      (record { pairs = record { keys = keys'; values = values'; count = count' }; visited = visited })
  unfolding pairs_from leaves_after
  along_out e =
      let none : nodes - visited ≡ 0 = omega arith in
      result (ap (λ (n : ℕ). pairs_from n table low high (most - count) a.id) none ∙ given_is)
      (ap (λ (n : ℕ). leaves_after n table low high (most - count) a.id) none)

  -- on to the next leaf
  pub along_next : nodes ≤ node_limit most_blocks → count' < most → (visited ≡ nodes → ⊥) → stops_in high (most - count) (node_of leaf) given ≡ false →
      (v : NodeValue) →
      Becomes v (table leaf.link) → Along first table nodes low high most keys' values' count' (set leaves visited leaf.link) (visited + 1) v
  along_next limit w o e v b =
      let fuel : nodes - visited ≡ suc (nodes - (visited + 1)) = omega (arith, a.links) in
      let link : link_of (table a.id) ≡ leaf.link = ap link_of (sym a.here.is) in
      let left : (most - count) - length (taken low high (most - count) (table a.id)) ≡ most - count' =
      omega (arith, ap length given_is, length-given) in
      record {
        id = leaf.link;
        here = b;
        links = omega (arith, a.links);
        room = length-set leaves visited leaf.link ∙ a.room;
        key_room = key_room;
        value_room = value_room;
        wanted = w;
        pairs =
            ap (λ (ps : List Pair). ps ++ pairs_from (nodes - (visited + 1)) table low high (most - count') leaf.link) all ∙
            append_assoc (listed count keys values) given (pairs_from (nodes - (visited + 1)) table low high (most - count') leaf.link) ∙
            ap (λ (ps : List Pair). listed count keys values ++ ps)
            (sym
            (ap (λ (n : ℕ). pairs_from n table low high (most - count) a.id) fuel ∙
            pairs_on table low high (most - count) a.id (at_leaf false e) (nodes - (visited + 1)) ∙
            ap₂ (λ (ps : List Pair) (n : ℕ). ps ++ pairs_from (nodes - (visited + 1)) table low high n (link_of (table a.id))) given_is left ∙
            ap (λ (n : ℕ). given ++ pairs_from (nodes - (visited + 1)) table low high (most - count') n) link)) ∙
            a.pairs;
        on_path =
            ap (λ (ns : List ℕ). ns ++ leaves_after (nodes - (visited + 1)) table low high (most - count') leaf.link)
            (ap (λ (n : ℕ). take n (set leaves visited leaf.link)) (add-one visited) ∙
            take-suc-set leaves visited leaf.link (omega (arith, a.links, a.room))) ∙
            append_assoc (take visited leaves) (leaf.link ∷ []) (leaves_after (nodes - (visited + 1)) table low high (most - count') leaf.link) ∙
            ap (λ (ns : List ℕ). take visited leaves ++ ns)
            (sym
            (ap (λ (n : ℕ). leaves_after n table low high (most - count) a.id) fuel ∙
            leaves_on table low high (most - count) a.id (at_leaf false e) (nodes - (visited + 1)) ∙
            ap₂ (λ (l n : ℕ). l ∷ leaves_after (nodes - (visited + 1)) table low high n l) link left)) ∙
            a.on_path;
      }
