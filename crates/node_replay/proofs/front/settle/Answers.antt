-- `front::settle` meets its contract: the values from the first place on are copied to the front. Assumes nothing.
use Rattle.std.proofs.Common.{◌≡◌, List, ◌++◌, ℕ, ◌+◌, ◌-◌, take, drop, sym, ap, ◌∙◌, arith}
use Rattle.std.specs.List.{copy_within}
use Rattle.node_replay.specs.Front.{lowered, lowered_none}
use Rattle.node_replay.proofs.front.settle.Goals as goal

-- The copy is the array once its values have moved down.
copied : (first count : ℕ) (xs : List ℕ) → copy_within xs first (first + count) 0 ≡ lowered first count xs
unfolding lowered
copied first count xs = ap (λ (n : ℕ). take (first + count - first) (drop first xs) ++ drop n xs) (omega arith) ∙
    ap (λ (n : ℕ). take n (drop first xs) ++ drop count xs) (omega arith)

pub returns-then-first-ne0 : goal.returns-then-first-ne0
returns-then-first-ne0 c =
    let a = c.args in (
      c.copy_within.ensures.after ∙ copied a.first a.count a.keys.now,
      c.copy_within-then-first-ne0.ensures.after ∙ copied a.first a.count a.pointers.now,
    )

pub returns-else-first-ne0 : goal.returns-else-first-ne0
returns-else-first-ne0 c =
    let a = c.args in
    let e = c.if-first-ne0.false in
    let none : (xs : List ℕ) → xs ≡ lowered a.first a.count xs = λ xs. sym (ap (λ (n : ℕ). lowered n a.count xs) e ∙ lowered_none a.count xs) in
    (none a.keys.now, none a.pointers.now)
