-- `due::child_due` meets its contract: a child beside a key, or the last one. Assumes nothing.
use mathlib.Core.Path.{sym, ap, ap₂, ◌∙◌}
use Prim.Native.Nat.{ℕ}
use native.Mathlib.Omega.{arith}
use Rattle.node.specs.Value.{pairs_in, length-pairs_in}
use Rattle.mount_tree.specs.declared.due.Due.{Due}
use Rattle.mount_tree.specs.Stack.{get-child, get-last}
use Rattle.mount_tree.proofs.due.child_due.Goals as goal

pub returns-then-at-v : goal.returns-then-at-v
returns-then-at-v c =
    let a = c.args in
    let size = length-pairs_in a.v c.requires.0 in
    ap₂ {C = Due} (λ (i h : ℕ). record { id = i; depth = a.depth; high = h }) c.pointer-id.ensures (c.from-high.ensures ∙ c.key.ensures) ∙
    sym (get-child a.depth (pairs_in a.v) a.v.link a.high a.at (omega (arith, c.if-at-v.true)))

pub returns : goal.returns
returns c = let a = c.args in
    let size = length-pairs_in a.v c.requires.0 in
    ap {B = Due} (λ (i : ℕ). record { id = i; depth = a.depth; high = a.high }) c.pointer-id.ensures ∙
    sym (get-last a.depth (pairs_in a.v) a.v.link a.high a.at (omega (arith, c.if-at-v.false, c.requires.1)))
