-- `node::edit::added` meets its contract: both arrays have the value in at the place, so their pairs have the pair there. Assumes nothing.
use Rattle.node.specs.Edits.{stands_added}
use Rattle.node.proofs.edit.added.Goals as goal

pub returns : goal.returns
returns c =
    let a = c.args in
    let keys = c.insert in
    let pointers = c.insert-2 in
    stands_added a.v c.requires.0 a.at a.key a.pointer keys.new.a pointers.new.a c.requires.2
    keys.ensures.0
    pointers.ensures.0
    keys.ensures.1
    pointers.ensures.1
