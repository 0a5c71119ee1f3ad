-- A node that lies whole on its node page (document 01: disk page), as the payload of field 11 spells it.
use Rattle.std.specs.Prelude.{List, ℕ, ltb, length}
use Rattle.laws.specs.Tests.{choose}
use Rattle.layout.specs.Layout.{most_keys, bound32}
use Rattle.flash_blocks.specs.Pages.{page_at}
use Rattle.wire.specs.Field.{payload_at}
use Rattle.node.specs.Node.{Node, pairs_of}
use Rattle.node.specs.Replay.{Draft, made, broken}
use Rattle.node.specs.Ascends.{ascends}
use Rattle.page.specs.Decode.{pairs_in, pairs_from, node_of}

-- A node whose keys ascend; none where they do not.
unfoldable pub if_ascends : Node → Draft
if_ascends n = choose (ascends 0 bound32 (pairs_of n)) (made n) broken

-- The node of a payload; none where it is too short for one, has too many pairs, or keys that do not ascend.
unfoldable pub node_of_payload : List ℕ → Draft
node_of_payload p =
    choose (ltb (length p) 7) broken
    (choose (ltb most_keys (pairs_in p)) broken
    (choose (ascends 0 bound32 (pairs_from (pairs_in p) p 7)) (made (node_of p)) broken))

-- The node of a page.
unfoldable pub node_page_at : List (List ℕ) → ℕ → Draft
node_page_at pages q = node_of_payload (payload_at (page_at pages q) 7 0x11)
