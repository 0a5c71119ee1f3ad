-- `page_read::view::view_node` meets its contract. Each return is the view of the case that the tests before it pick; a payload
-- that is too short for a node is none. Assumes nothing.
use mathlib.Core.Path.{◌≡◌, sym, ap, ◌∙◌}
use mathlib.Core.Bool.{Bool, ◌||◌}
use mathlib.Core.List.{List}
use Prim.Native.Nat.{ℕ, ◌+◌, ◌≤◌}
use native.Mathlib.Omega.{arith}
use lib.Dec.{eqb}
use lib.ListN.{length, get_or}
use Rattle.laws.specs.BigEndian.{number_at}
use Rattle.wire.specs.Field.{payload_at}
use Rattle.page.specs.Decode.{sealed_at, taken, shape_of_number, pairs_in}
use Rattle.page.proofs.ReadBack.{taken-found}
use Rattle.page_read.specs.declared.view.PageView.TheVariants.{NodePage}
use Rattle.page_read.specs.Payload.{found_true, found_false, node_short}
use Rattle.page_read.specs.Steps.{node_none, node_other, node_unsealed, node_sealed}
use Rattle.page_read.proofs.view.view_node.Goals as goal

abbrev is_a_shape : List ℕ → Bool
is_a_shape x = eqb (get_or x 2 0) 3 || eqb (get_or x 2 0) 4

pub returns-then-bytes-lt7 : goal.returns-then-bytes-lt7
returns-then-bytes-lt7 c = let b = c.args.page.now in
    node_none c.args.sequence (payload_at b 7 0x11) b
    (found_false (payload_at b 7 0x11) (node_short b 7 (omega (arith, ap length c.payload-p.ensures))))

pub returns-then-not-is_shape : goal.returns-then-not-is_shape
returns-then-not-is_shape c =
    let b = c.args.page.now in
    let q = c.payload-p.ensures in
    let l : 1 ≤ length (payload_at b 7 0x11) = omega (arith, ap length q) in
    node_other c.args.sequence (payload_at b 7 0x11) b (found_true (payload_at b 7 0x11) l)
    (ap is_a_shape (sym q) ∙ sym c.is_shape.ensures ∙ c.if-not-is_shape.true)

pub returns : goal.returns
returns c =
    let b = c.args.page.now in
    let s = c.args.sequence in
    let q = c.payload-p.ensures in
    let p = payload_at b 7 0x11 in
    let l : 1 ≤ length p = omega (arith, ap length q) in
    let e : 7 + taken p ≡ 10 + length c.payload-p.result.now = omega (arith, taken-found p l, ap length q) in
    rw (c.read16.ensures.is, c.shape_of.ensures)
    (ap (λ (x : List ℕ). NodePage s (number_at 2 x 0) (shape_of_number (get_or x 2 0)) (pairs_in x)) q ∙
    node_sealed s p b (found_true p l) (ap is_a_shape (sym q) ∙ sym c.is_shape.ensures ∙ c.if-not-is_shape.false)
    (ap (sealed_at b) e ∙ sym c.is_sealed.ensures ∙ c.if-not-is_sealed.false))

pub returns-then-not-is_sealed : goal.returns-then-not-is_sealed
returns-then-not-is_sealed c =
    let b = c.args.page.now in
    let q = c.payload-p.ensures in
    let p = payload_at b 7 0x11 in
    let l : 1 ≤ length p = omega (arith, ap length q) in
    let e : 7 + taken p ≡ 10 + length c.payload-p.result.now = omega (arith, taken-found p l, ap length q) in
    node_unsealed c.args.sequence p b (found_true p l) (ap is_a_shape (sym q) ∙ sym c.is_shape.ensures ∙ c.if-not-is_shape.false)
    (ap (sealed_at b) e ∙ sym c.is_sealed.ensures ∙ c.if-not-is_sealed.true)
