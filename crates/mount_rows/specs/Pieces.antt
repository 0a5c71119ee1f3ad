-- The pieces of nodes on one page, met field by field (document 01, "Pages"). A blank page has none, nor has a checkpoint page.
use Rattle.std.specs.Prelude.{true, false, List, ℕ, zero, suc, ◌+◌, eqb, ltb, length}
use Rattle.laws.specs.Tests.{choose}
use Rattle.laws.specs.BigEndian.{number, number_at}
use Rattle.account.specs.declared.Mode.TheVariants.{Log, Disk}
use Rattle.wire.specs.Field.{payload_at}
use Rattle.flash_rows.specs.declared.Row.{Row}
use Rattle.mount_rows.specs.Seen.{seen_at}

-- An entry of a log page, which names its node and its version.
unfoldable pub seen_entry : ℕ → ℕ → List ℕ → List Row → List Row
seen_entry nodes page p rows = seen_at nodes (number_at 2 p 0) (number_at 4 p 2) Log page rows

-- The fields 12 that stand one behind another from a place on, at most so many.
unfoldable pub seen_run : ℕ → ℕ → ℕ → List ℕ → ℕ → List Row → List Row
seen_run nodes page zero bytes at rows = rows
seen_run nodes page (suc most) bytes at rows =
    elim (eqb (length (payload_at bytes at 0x12)) 15) [
      | true ↦ seen_run nodes page most bytes (at + 18) (seen_entry nodes page (payload_at bytes at 0x12) rows)
      | false ↦ rows
    ]

-- The node of field 11, where there is one: "its version is its stamp".
unfoldable pub seen_node : ℕ → ℕ → List ℕ → List Row → List Row
seen_node nodes page bytes rows =
    choose (ltb (length (payload_at bytes 7 0x11)) 7) rows
    (seen_at nodes (number_at 2 (payload_at bytes 7 0x11) 0) (number (payload_at bytes 0 0x10)) Disk page rows)
