-- A NODE TAKES WHAT IT HAS STILL TO TAKE (document 01, "Nodes and tree"): by edits where at most 24 keys come of it, else by its split.
use Rattle.std.specs.Prelude.{Bool, ℕ, ◌+◌, Option, None, Some}
use Rattle.account.specs.declared.Tariff.{Tariff}
use Rattle.node.specs.Node.{Node, pairs_of}
use Rattle.node.specs.Change.{Change, put, change}
use Rattle.node.specs.Search.{child_place}
use Rattle.node.specs.Repoint.{repoint}
use Rattle.store.specs.Serve.{edit}
use Rattle.flash_allocate.specs.World.{World}
use Rattle.flash_read.specs.NodeTable.{table_of}
use Rattle.run_serve.specs.Serve.{serve, charge}
use Rattle.run_split.specs.declared.Pending.{Pending}
use Rattle.run_split.specs.declared.Pending.TheVariants.{Pair, Halves}
use Rattle.node.specs.Fit.{by_fit, fit_of}
use Rattle.run_split.specs.Absorbing.{Absorbing, absorbing}
use Rattle.run_split.specs.Split.{split}

-- Node n as it is now.
abbrev pub node_at : ℕ → World → Node
node_at n w = table_of w.pages w.table w.state n

-- "A hang that fits" is one edit.
unfoldable pub absorb_edit : Tariff → ℕ → Change → World → Absorbing
absorb_edit t id c w = absorbing (serve t id (edit c) w) (charge t id (edit c) w) None

-- "The parent gets two edits".
unfoldable pub absorb_edits : Tariff → ℕ → Change → Change → World → Absorbing
absorb_edits t id first second w =
    let between = serve t id (edit first) w in
    absorbing (serve t id (edit second) between) (charge t id (edit first) w + charge t id (edit second) between) None

unfoldable pub absorb_pair : Tariff → Bool → ℕ → ℕ → ℕ → World → Absorbing
absorb_pair t root id key value w =
    by_fit (fit_of key (pairs_of (node_at id w))) (absorb_edit t id (put key value) w)
    (split t root id (change (put key value) (node_at id w)) w)

-- The edit by which the pointer to the child of a key names the right half.
abbrev pub renaming : ℕ → ℕ → Node → Change
renaming wanted right n = repoint (child_place wanted (pairs_of n)) right n

-- The middle key with the left as pointer, then the old pointer; "a full parent takes both in its own split", in either order.
abbrev pub absorb_halves_in : Node → Tariff → Bool → ℕ → ℕ → ℕ → ℕ → ℕ → World → Absorbing
absorb_halves_in n t root id wanted middle left right w =
    let renamed = change (renaming wanted right n) n in
    by_fit (fit_of middle (pairs_of renamed)) (absorb_edits t id (put middle left) (renaming wanted right n) w)
    (split t root id (change (put middle left) renamed) w)

unfoldable pub absorb_halves : Tariff → Bool → ℕ → ℕ → ℕ → ℕ → ℕ → World → Absorbing
absorb_halves t root id wanted middle left right w = absorb_halves_in (node_at id w) t root id wanted middle left right w

abbrev pub absorb : Tariff → ℕ → Bool → ℕ → Option Pending → World → Absorbing
absorb t wanted root id None w = absorbing w 0 None
absorb t wanted root id (Some (Pair key value)) w = absorb_pair t root id key value w
absorb t wanted root id (Some (Halves middle left right)) w = absorb_halves t root id wanted middle left right w
