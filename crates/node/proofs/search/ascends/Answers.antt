-- `node::search::ascends` meets its contract: the invariant says that what is left, tested from the least key that may come, gives
-- the whole test. Assumes nothing.
use Rattle.std.proofs.Common.{◌≡◌, ℕ, suc, ◌+◌, ◌<◌, sym, ap, ◌∙◌, arith, add-one, drop, length-take-le, get_or-take}
use Rattle.node.specs.Ascends.{ascends, ascends_low, ascends_high, ascends-next, ascends_end}
use Rattle.node.specs.Search.{key_at}
use Rattle.node.specs.Value.{pairs_in, key_at-pairs_in, length-pairs_in}
use Rattle.node.proofs.search.ascends.Goals as goal
use Rattle.node.proofs.search.ascends.Goals.{then-key-least-via-then-key-least, then-key-least-via-else-key-least+then-high-key}

pub returns-then-key-least : goal.returns-then-key-least
returns-then-key-least c =
    let v = c.args.v in
    let turn = c.loop-key in
    let size = length-pairs_in v c.requires in
    let long = length-take-le v.count v.keys (omega arith) in
    let inside : turn.key-index < v.count = omega arith in
    let key = key_at-pairs_in v c.requires turn.key-index inside in
    let read = c.from-key.ensures ∙ get_or-take v.count v.keys turn.key-index 0 inside in
    elim c.then-key-least.branch [
      | then-key-least-via-then-key-least w ↦
          sym (ascends_low turn.least c.args.high (pairs_in v) turn.key-index (omega arith) (omega arith)) ∙ turn.invariant
      | then-key-least-via-else-key-least+then-high-key w ↦
          sym (ascends_high turn.least c.args.high (pairs_in v) turn.key-index (omega arith) (omega arith) (omega arith)) ∙ turn.invariant
    ]

pub loop-key-preserved : goal.loop-key-preserved
loop-key-preserved c =
    let v = c.args.v in
    let high = c.args.high in
    let turn = c.loop-key in
    let i = turn.key-index in
    let size = length-pairs_in v c.requires in
    let long = length-take-le v.count v.keys (omega arith) in
    let inside : i < v.count = omega arith in
    let key = key_at-pairs_in v c.requires i inside in
    let read = c.from-key.ensures ∙ get_or-take v.count v.keys i 0 inside in
    let least : c.from-key.result + 1 ≡ suc (key_at (pairs_in v) i) = omega arith in
    ap (λ (n : ℕ). ascends (c.from-key.result + 1) high (drop n (pairs_in v))) (add-one i) ∙
    ap (λ (n : ℕ). ascends n high (drop (suc i) (pairs_in v))) least ∙
    sym (ascends-next turn.least high (pairs_in v) i (omega arith) (omega arith) (omega arith)) ∙
    turn.invariant

pub returns : goal.returns
returns c =
    let v = c.args.v in
    let turn = c.loop-key in
    let long = length-take-le v.count v.keys (omega arith) in
    sym (ascends_end turn.least c.args.high (pairs_in v) turn.key-index (omega (arith, length-pairs_in v c.requires, c.loop-key-test.false))) ∙
    turn.invariant
