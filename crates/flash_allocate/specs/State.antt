-- The state of a batch changed: what each step says of it. Assumes nothing.
use Rattle.std.specs.Prelude.{ℕ, ◌+◌, ltb}
use Rattle.laws.specs.Tests.{choose}
use Rattle.flash_allocate.specs.declared.state.State.{State}

-- The state of the same pool, with these parts. Every step below is this one; a part more is a line here.
abbrev pub restate : State → ℕ → ℕ → ℕ → ℕ → ℕ → ℕ → State
restate s current fill nodes checkpoint last entries =
    record {
      blocks = s.blocks;
      current = current;
      fill = fill;
      nodes = nodes;
      checkpoint = checkpoint;
      last = last;
      entries = entries;
    }

-- With another current block, filled so far.
unfoldable pub in_block : ℕ → ℕ → State → State
in_block current fill s = restate s current fill s.nodes s.checkpoint s.last s.entries

-- "Each new page takes the next" sequence number; a 32-bit number stays the greatest, which no run reaches.
unfoldable pub next_sequence : ℕ → ℕ
next_sequence last = choose (ltb last 4294967295) (last + 1) last

-- With another last sequence number, or another number of nodes.
unfoldable pub with_sequence : ℕ → State → State
with_sequence last s = restate s s.current s.fill s.nodes s.checkpoint last s.entries

unfoldable pub with_nodes : ℕ → State → State
with_nodes nodes s = restate s s.current s.fill nodes s.checkpoint s.last s.entries

-- With so many entries in the buffer, or with none.
unfoldable pub with_entries : ℕ → State → State
with_entries entries s = restate s s.current s.fill s.nodes s.checkpoint s.last entries

unfoldable pub without_entries : State → State
without_entries s = with_entries 0 s

-- Once a page of this sequence number stands behind the pages of the current block; and where it is a checkpoint page.
unfoldable pub advanced : ℕ → State → State
advanced number s = restate s s.current (s.fill + 1) s.nodes s.checkpoint number s.entries

unfoldable pub page_counted : ℕ → State → State
page_counted number s = restate s s.current (s.fill + 1) s.nodes (s.checkpoint + 1) number s.entries
