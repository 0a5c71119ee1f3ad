-- A FULL NODE WITH A PAIR MORE, SPLIT (document 01, "Nodes and tree").
use Rattle.std.specs.Prelude.{Bool, [], ◌∷◌, ℕ, ◌+◌, ltb, None, Some}
use Rattle.laws.specs.Tests.{choose}
use Rattle.layout.specs.Layout.{node_limit}
use Rattle.account.specs.declared.Tariff.{Tariff}
use Rattle.node.specs.declared.Shape.TheVariants.{Branch}
use Rattle.node.specs.Node.{Node, node}
use Rattle.node.specs.Halves.{lower_half, middle_key, upper_half}
use Rattle.store.specs.Serve.{rewrite}
use Rattle.flash_allocate.specs.World.{World}
use Rattle.flash_write.specs.Group.{create}
use Rattle.run_serve.specs.Serve.{serve, charge}
use Rattle.run_split.specs.declared.Pending.TheVariants.{Halves}
use Rattle.run_split.specs.Absorbing.{Absorbing, absorbing}

-- A node more, where the limit leaves an id for it: a put that needs more ids was refused before.
unfoldable pub grow : Node → World → World
grow x w = choose (ltb w.state.nodes (node_limit w.state.blocks)) (create x w) w

-- "The first 12 stay (rewrite), 13 go to the next id (create); the parent gets two edits"; of a branch the 13th key rises.
unfoldable pub split_below : Tariff → ℕ → Node → World → Absorbing
split_below t id whole w =
    let next = w.state.nodes in
    let work = rewrite (lower_half whole next) in
    absorbing (grow (upper_half whole) (serve t id work w)) (charge t id work w) (Some (Halves (middle_key whole) id next))

-- "A splitting root makes two nodes, lower id lower half, then is rewritten above them."
unfoldable pub split_root : Tariff → Node → World → Absorbing
split_root t whole w =
    let left = w.state.nodes in
    let right = w.state.nodes + 1 in
    let grown = grow (upper_half whole) (grow (lower_half whole right) w) in
    let work = rewrite (node Branch ((middle_key whole, left) ∷ []) right) in
    absorbing (serve t 0 work grown) (charge t 0 work grown) None

unfoldable pub split : Tariff → Bool → ℕ → Node → World → Absorbing
split t root id whole w = choose root (split_root t whole w) (split_below t id whole w)
