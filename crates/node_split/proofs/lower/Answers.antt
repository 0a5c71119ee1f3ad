-- `node_split::lower` meets its contract: its arrays are the first 12 of those with the new pair. Assumes nothing.
use Rattle.std.proofs.Common.{ℕ, ap, ◌∙◌, rules}
use Rattle.node.specs.Halves.{lower_link}
use Rattle.node_split.specs.Split.{becomes_lower}
use Rattle.node_split.proofs.lower.Goals as goal

pub returns : goal.returns
returns c =
    let a = c.args in
    let keys = c.values_from in
    let pointers = c.values_from-2 in
    becomes_lower a.v a.at a.key a.pointer c.requires a.upper c.lower_link.result keys.result pointers.result (search rules)
    keys.ensures.0 pointers.ensures.0 keys.ensures.1 pointers.ensures.1
    (c.lower_link.ensures ∙ ap (λ (x : ℕ). lower_link a.v.shape a.upper x) c.value_at-rising.ensures)
