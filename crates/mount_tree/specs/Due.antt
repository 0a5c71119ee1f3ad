-- A node due to be visited, in 16 bytes: its id (4), the depth of the leaves below it (4), and the bound of its keys (8), which is one more than
-- the greatest 32-bit key for the root. A stack of them is a buffer. Assumes nothing.
use Rattle.std.specs.Prelude.{◌≡◌, refl, List, [], ◌∷◌, ◌++◌, map, ℕ, ◌+◌, ◌*◌, ◌/◌, ◌%◌}
use Rattle.laws.specs.BigEndian.{big_endian, number_at}
use Rattle.laws.specs.Chunks.{chunks}
use Rattle.layout.specs.Layout.{bound32, due_bytes}
use Rattle.pairs.specs.Pairs.{Pair}
use Rattle.mount_tree.specs.declared.due.Due.{Due}

-- The node due that 16 bytes spell, and the bytes of one.
unfoldable pub decode : List ℕ → Due
decode s = record { id = number_at 4 s 0; depth = number_at 4 s 4; high = number_at 4 s 8 * bound32 + number_at 4 s 12 }

unfoldable pub encode : Due → List ℕ
encode d =
    big_endian 4 d.id ++ (big_endian 4 d.depth ++ (big_endian 4 (d.high / bound32) ++ big_endian 4 (d.high % bound32)))

-- What stands on a stack, slot by slot, and what is read behind it.
unfoldable pub dues_of : List ℕ → List Due
dues_of stack = map decode (chunks due_bytes stack)

pub dues_of-is : (stack : List ℕ) → dues_of stack ≡ map decode (chunks due_bytes stack)
unfolding dues_of
dues_of-is stack = refl

unfoldable pub no_due : Due
no_due = decode []

pub no_due-is : no_due ≡ decode []
unfolding no_due
no_due-is = refl

-- The children of a branch in order, with leaves so deep below them: each below the key beside it, the last below the branch's own bound.
unfoldable pub children_of : ℕ → List Pair → ℕ → ℕ → List Due
children_of depth [] last high = record { id = last; depth = depth; high = high } ∷ []
children_of depth (p ∷ ps) last high = record { id = p.1; depth = depth; high = p.0 } ∷ children_of depth ps last high
