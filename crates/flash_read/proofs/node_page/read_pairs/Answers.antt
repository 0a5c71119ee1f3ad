-- `node_page::read_pairs` meets its contract. The invariant: the pairs in the arrays, then those left, are the payload's, and those left, tested
-- from the least key that may come, give the whole test. Assumes nothing.
use Rattle.std.proofs.Common.{rules, ◌≡◌, sym, ap, ◌∙◌, List, ℕ, ◌+◌, ◌-◌, ◌*◌, arith, length-set}
use Rattle.layout.specs.Layout.{bound32}
use Rattle.pairs.specs.Pairs.{Pair}
use Rattle.node.specs.Ascends.{ascends}
use Rattle.node.specs.Node.{node}
use Rattle.node.specs.Value.{pairs_in}
use Rattle.page.specs.Decode as decode
use Rattle.flash_read.proofs.Laws.{redone_none, pairs_more, pairs-done, rising_low, rising_more, rising_done, node_loose, node_read}
use Rattle.flash_read.proofs.node_page.read_pairs.Goals as goal

pub returns-then-here-least : goal.returns-then-here-least
returns-then-here-least c =
    let key = c.read32-key in
    let l = c.loop-i in
    let a = c.args in
    redone_none c.no_node.result c.no_node.ensures l.keys l.pointers (l.invariant.1.0, l.invariant.1.1.0) _
    (node_loose a.shape (decode.pairs_from a.n a.p.now 7) a.link
    (sym l.invariant.1.1.1.1 ∙
    rising_low a.p.now a.n l.i l.least key.result c.loop-i-test.true key.ensures.is
    (omega (arith, c.if-here-least.true, c.from-here.ensures))))

pub loop-i-preserved : goal.loop-i-preserved
loop-i-preserved c =
    let l = c.loop-i in
    let a = c.args in
    let inside = c.loop-i-test.true in
    let here : c.from-here.result ≡ c.read32-key.result = c.from-here.ensures in (
      omega arith,
      (
        length-set l.keys l.i c.read32-key.result ∙ l.invariant.1.0,
        (
          length-set l.pointers l.i c.read32.result ∙ l.invariant.1.1.0,
          (
            pairs_more a.p.now a.n l.keys l.pointers l.i inside (omega arith) l.invariant.1.0 l.invariant.1.1.0
                c.read32-key.result c.read32.result c.read32-key.ensures.is c.read32.ensures.is ∙ l.invariant.1.1.1.0,
            ap (λ (k : ℕ). ascends (k + 1) bound32 (decode.pairs_from (a.n - (l.i + 1)) a.p.now (7 + 8 * (l.i + 1)))) here ∙
                rising_more a.p.now a.n l.i l.least c.read32-key.result inside c.read32-key.ensures.is
                (omega (arith, c.if-here-least.false, here)) (search rules) ∙ l.invariant.1.1.1.1,
          ),
        ),
      ),
    )

pub returns : goal.returns
unfolding pairs_in
returns c =
    let a = c.args in
    let l = c.loop-i in
    let over = c.loop-i-test.false in
    node_read a.shape (decode.pairs_from a.n a.p.now 7) a.link _
    (record {
      is =
          ap (λ (ps : List Pair). node a.shape ps a.link)
          (sym (pairs-done a.p.now a.n l.keys l.pointers l.i l.invariant.0 over) ∙ l.invariant.1.1.1.0);
      sized = record { size = omega arith; key_room = l.invariant.1.0; pointer_room = l.invariant.1.1.0 };
    })
    (sym l.invariant.1.1.1.1 ∙ rising_done a.p.now a.n l.i l.least over)
