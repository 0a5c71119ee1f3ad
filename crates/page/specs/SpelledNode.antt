-- A whole node's payload and what it spells, both ways, by induction over its pairs. Assumes nothing.
use Rattle.std.specs.Prelude.{◌≡◌, refl, Bool, true, false, ◌||◌, ℕ, zero, suc, ◌+◌, ◌*◌, ◌%◌, ◌≤◌, ◌<◌, eqb}
use Rattle.std.proofs.Math.Path.{sym, ap, ap₂}
use Rattle.std.proofs.Common.{◌∙◌, add-zero, length-append}
use mathlib.Core.List.{List, [], ◌∷◌, ◌++◌, append_assoc}
use native.Mathlib.Omega.{arith}
use Rattle.std.proofs.Math.ListN.{length, get_or}
use borrow.Author.Tests.{eqb-true, leb-true}
use Rattle.laws.specs.Tests.{and_left, and_right}
use Rattle.laws.specs.Every.{Every, none, both}
use Rattle.laws.specs.Lay.{part, part-add, part-append, part-one}
use Rattle.laws.specs.BigEndian.{big_endian, number, number_at, Bytes, number-big_endian, big_endian-number_at, number_at_lt}
use Rattle.layout.specs.Layout.{most_keys, bound32}
use Rattle.pairs.specs.Pairs.{Pair}
use Rattle.node.specs.declared.Shape.{Shape}
use Rattle.node.specs.declared.Shape.TheVariants.{Leaf, Branch}
use Rattle.node.specs.Node.{Node, node, pairs_of, link_of}
use Rattle.node.specs.Narrow.{NarrowPair}
use Rattle.wire.specs.Tag.{node_bytes, is_node_bytes}
use Rattle.page.specs.Image.{shape_number, pairs_bytes, whole_bytes}
use Rattle.page.specs.Decode.{found, pairs_from, pairs_in, shape_of_number, node_ok, node_of}
use Rattle.page.specs.Limits.{bound16, NodeFits}
use Rattle.page.specs.Spelled.{parts_whole}

pub length-pairs_bytes : (ps : List Pair) → length (pairs_bytes ps) ≡ 8 * length ps
unfolding pairs_bytes
length-pairs_bytes [] = refl
length-pairs_bytes (p ∷ ps) = omega (arith, length-pairs_bytes ps)

pub length-whole_bytes : (id : ℕ) (shape : Shape) (ps : List Pair) (l : ℕ) → length (whole_bytes id (node shape ps l)) ≡ node_bytes (length ps)
unfolding whole_bytes
length-whole_bytes id shape ps l = omega (arith, length-pairs_bytes ps)

-- Pairs are read where they were laid.
pairs-front : (front : List ℕ) (k v : ℕ) (ps : List Pair) →
    front ++ pairs_bytes ((k, v) ∷ ps) ≡ (front ++ (big_endian 4 k ++ big_endian 4 v)) ++ pairs_bytes ps
unfolding pairs_bytes
pairs-front front k v ps =
    ap (λ (l : List ℕ). front ++ l) (sym (append_assoc (big_endian 4 k) (big_endian 4 v) (pairs_bytes ps))) ∙
    sym (append_assoc front (big_endian 4 k ++ big_endian 4 v) (pairs_bytes ps))

key-front : (front : List ℕ) (k v : ℕ) (ps : List Pair) → k < bound32 → number_at 4 (front ++ pairs_bytes ((k, v) ∷ ps)) (length front) ≡ k
unfolding number_at part pairs_bytes
key-front front k v ps h =
    ap (λ (i : ℕ). number_at 4 (front ++ pairs_bytes ((k, v) ∷ ps)) i) (sym (add-zero (length front))) ∙
    ap number (part-append front (pairs_bytes ((k, v) ∷ ps)) 0 4) ∙
    number-big_endian 4 k h

pointer_front : (front : List ℕ) (k v : ℕ) (ps : List Pair) → v < bound32 → number_at 4 (front ++ pairs_bytes ((k, v) ∷ ps)) (length front + 4) ≡ v
unfolding number_at part pairs_bytes
pointer_front front k v ps h = ap number (part-append front (pairs_bytes ((k, v) ∷ ps)) 4 4) ∙ number-big_endian 4 v h

pub pairs_from-bytes : (ps : List Pair) → Every NarrowPair ps → (front : List ℕ) → pairs_from (length ps) (front ++ pairs_bytes ps) (length front) ≡ ps
unfolding pairs_from
pairs_from-bytes [] none front = refl
pairs_from-bytes ((k, v) ∷ ps) (both h hs) front =
    let next : List ℕ = front ++ (big_endian 4 k ++ big_endian 4 v) in
    let l : length front + 8 ≡ length next = sym (length-append front (big_endian 4 k ++ big_endian 4 v)) in
    let again : pairs_from (length ps) (front ++ pairs_bytes ((k, v) ∷ ps)) (length front + 8) ≡ ps =
    ap₂ (λ (s : List ℕ) (i : ℕ). pairs_from (length ps) s i) (pairs-front front k v ps) l ∙ pairs_from-bytes ps hs next in
    ap₂ ◌∷◌ (ap₂ {C = Pair} (λ (a b : ℕ). (a, b)) (key-front front k v ps h.0) (pointer_front front k v ps h.1)) again

shape_of_number-number : (shape : Shape) → shape_of_number (shape_number shape) ≡ shape
shape_of_number-number Leaf = refl
shape_of_number-number Branch = refl

pub node_ok-bytes : (id : ℕ) (n : Node) → node_ok (whole_bytes id n) ≡ true
unfolding node_ok whole_bytes
node_ok-bytes id (node Leaf ps l) = refl
node_ok-bytes id (node Branch ps l) = refl

pub id_of-bytes : (id : ℕ) (n : Node) → id < bound16 → number_at 2 (whole_bytes id n) 0 ≡ id
unfolding whole_bytes number_at part
id_of-bytes id (node shape ps l) h = number-big_endian 2 id h

node_eq : {k k' : Shape} {a b : List Pair} {x y : ℕ} → k ≡ k' → a ≡ b → x ≡ y → node k a x ≡ node k' b y
node_eq e f g = rw (e, f, g)

module _ (id : ℕ) (shape : Shape) (ps : List Pair) (l : ℕ) (h : NodeFits ps l) where
  shape_read : shape_of_number (get_or (whole_bytes id (node shape ps l)) 2 0) ≡ shape
  unfolding whole_bytes
  shape_read = shape_of_number-number shape

  pairs-read : pairs_from (length ps) (whole_bytes id (node shape ps l)) 7 ≡ ps
  unfolding whole_bytes
  pairs-read = pairs_from-bytes ps h.numbers (big_endian 2 id ++ (shape_number shape ∷ big_endian 4 l))

  link_read : number_at 4 (whole_bytes id (node shape ps l)) 3 ≡ l
  unfolding whole_bytes number_at part
  link_read = number-big_endian 4 l h.link

  pub node_of-bytes : node_of (whole_bytes id (node shape ps l)) ≡ node shape ps l
  unfolding node_of
  node_of-bytes =
      let n : pairs_in (whole_bytes id (node shape ps l)) ≡ length ps = omega (arith, length-whole_bytes id shape ps l) in
      node_eq shape_read (ap (λ (k : ℕ). pairs_from k (whole_bytes id (node shape ps l)) 7) n ∙ pairs-read) link_read

-- Pairs that were read are those that stand there.
pub pairs_bytes_from : (n : ℕ) (p : List ℕ) (at : ℕ) → Bytes p → at + 8 * n ≤ length p → pairs_bytes (pairs_from n p at) ≡ part p at (8 * n)
unfolding pairs_bytes pairs_from part
pairs_bytes_from zero p at b h = refl
pairs_bytes_from (suc n) p at b h =
    let m : 8 * suc n ≡ 4 + (4 + 8 * n) = omega arith in
    let e : at + 4 + 4 ≡ at + 8 = omega arith in
    ap₂ ◌++◌ (big_endian-number_at 4 p at b (omega arith))
    (ap₂ ◌++◌ (big_endian-number_at 4 p (at + 4) b (omega arith)) (pairs_bytes_from n p (at + 8) b (omega arith))) ∙
    sym (ap (λ (k : ℕ). part p at k) m ∙ part-add p at 4 (4 + 8 * n) ∙
    ap (λ (l : List ℕ). part p at 4 ++ l) (part-add p (at + 4) 4 (8 * n) ∙ ap (λ (i : ℕ). part p (at + 4) 4 ++ part p i (8 * n)) e))

pub length-pairs_from : (n : ℕ) (p : List ℕ) (at : ℕ) → length (pairs_from n p at) ≡ n
unfolding pairs_from
length-pairs_from zero p at = refl
length-pairs_from (suc n) p at = ap suc (length-pairs_from n p (at + 8))

pairs_from-fits : (n : ℕ) (p : List ℕ) (at : ℕ) → Bytes p → at + 8 * n ≤ length p → Every NarrowPair (pairs_from n p at)
unfolding pairs_from
pairs_from-fits zero p at b h = none
pairs_from-fits (suc n) p at b h =
    both (number_at_lt 4 p at b (omega arith), number_at_lt 4 p (at + 4) b (omega arith)) (pairs_from-fits n p (at + 8) b (omega arith))

-- A payload of a length that field 11 may have, with a kind, is the bytes of its node.
module _ (p : List ℕ) (b : Bytes p) (m : is_node_bytes (length p) ≡ true) where
  pairs-size : length p ≡ 7 + 8 * pairs_in p
  unfolding is_node_bytes
  pairs-size =
      let r : length p % 8 ≡ 7 = eqb-true (length p % 8) 7 (and_left (eqb (length p % 8) 7) _ m) in
      omega arith

  pairs_few : length p ≤ node_bytes most_keys
  unfolding is_node_bytes
  pairs_few = leb-true (length p) (node_bytes most_keys) (and_right (eqb (length p % 8) 7) _ m)

  pub node_of-fits : NodeFits (pairs_of (node_of p)) (link_of (node_of p))
  unfolding node_of
  node_of-fits =
      record {
        few = omega (arith, length-pairs_from (pairs_in p) p 7, pairs-size, pairs_few);
        numbers = pairs_from-fits (pairs_in p) p 7 b (omega (arith, pairs-size));
        link = number_at_lt 4 p 3 b (omega (arith, pairs-size));
      }

  module _ (t : node_ok p ≡ true) where
    either_shape : (eqb (get_or p 2 0) 3 || eqb (get_or p 2 0) 4) ≡ true
    unfolding node_ok
    either_shape = and_right (found p) _ t

    shape_is : (x : Bool) → eqb (get_or p 2 0) 3 ≡ x → shape_number (shape_of_number (get_or p 2 0)) ≡ get_or p 2 0
    shape_is true e = rw e (sym (eqb-true (get_or p 2 0) 3 e))
    shape_is false e = rw e (sym (eqb-true (get_or p 2 0) 4 (rw e at either_shape)))

    pub whole_bytes_of : whole_bytes (number_at 2 p 0) (node_of p) ≡ p
    unfolding whole_bytes node_of
    whole_bytes_of =
        let z = pairs-size in
        let i : big_endian 2 (number_at 2 p 0) ≡ part p 0 2 = big_endian-number_at 2 p 0 b (omega arith) in
        let l : big_endian 4 (number_at 4 p 3) ≡ part p 3 4 = big_endian-number_at 4 p 3 b (omega arith) in
        let o : part p 2 1 ≡ get_or p 2 0 ∷ [] = part-one p 2 (omega arith) in
        let k : shape_number (shape_of_number (get_or p 2 0)) ∷ [] ≡ part p 2 1 =
        ap (λ (x : ℕ). x ∷ []) (shape_is (eqb (get_or p 2 0) 3) refl) ∙ sym o in
        ap₂ ◌++◌ i (ap₂ ◌++◌ k (ap₂ ◌++◌ l (pairs_bytes_from (pairs_in p) p 7 b (omega arith)))) ∙
        parts_whole 2 (1 ∷ 4 ∷ 8 * pairs_in p ∷ []) p (omega arith)

-- A whole node's payload has seven bytes at least.
pub node_long : (p : List ℕ) → is_node_bytes (length p) ≡ true → 7 ≤ length p
unfolding is_node_bytes
node_long p m =
    let r : length p % 8 ≡ 7 = eqb-true (length p % 8) 7 (and_left (eqb (length p % 8) 7) _ m) in
    omega arith
