-- The commands of a batch (document 01, "Commands and answers"): look up, hang, strip and sweep, here get, put, delete and scan; of document 02, panel
-- (P2) and the next route up, here ceiling (P3). What a new command is in bytes, in range and in room is said here, case by case. Assumes nothing.
use Rattle.std.specs.Prelude.{Bool, ◌&&◌, List, [], ◌∷◌, ◌++◌, ℕ, ◌+◌, ◌-◌, ◌*◌, ◌≤◌, ◌<◌, eqb, leb, ltb, length, get_or, Option, None, Some, Result, Ok, Err}
use Rattle.laws.specs.Tests.{choose}
use Rattle.laws.specs.Lay.{part}
use Rattle.laws.specs.BigEndian.{big_endian, number_at}
use Rattle.layout.specs.Layout.{most_pairs, panels, bound32}
use Rattle.wire.specs.Field.{field, field_at}
use Rattle.wire.specs.declared.field.Span.{Span}
use Rattle.wire.specs.declared.field.Fault.{Fault}
use Rattle.command.specs.declared.Command.{Command}
use Rattle.command.specs.declared.Command.TheVariants.{Get, Put, Delete, Scan, Panel, Ceiling}

-- A sweep asks for 1 to 32 pairs.
unfoldable pub in_range : ℕ → Bool
in_range most = leb 1 most && leb most most_pairs

-- The bytes of a command: 01 route; 02 route, word; 03 route; 04 low, high, most; 05 panel; 07 route.
abbrev pub command_tag : Command → ℕ
command_tag (Get k) = 0x01
command_tag (Put k v) = 0x02
command_tag (Delete k) = 0x03
command_tag (Scan low high most) = 0x04
command_tag (Panel panel) = 0x05
command_tag (Ceiling k) = 0x07

abbrev pub command_values : Command → List ℕ
command_values (Get k) = big_endian 4 k
command_values (Put k v) = big_endian 4 k ++ big_endian 4 v
command_values (Delete k) = big_endian 4 k
command_values (Scan low high most) = big_endian 4 low ++ (big_endian 4 high ++ big_endian 2 most)
command_values (Panel panel) = panel ∷ []
command_values (Ceiling k) = big_endian 4 k

unfoldable pub command_bytes : Command → List ℕ
command_bytes c = field (command_tag c) (command_values c)

-- The command that a tag and a payload of its length say, none where `most` is out of range, where there is no such panel ("a panel above 15 gives
-- 3"), or where the tag is no command's.
unfoldable pub command_of : ℕ → List ℕ → Option Command
command_of tag p =
    choose (eqb tag 0x01) (Some (Get (number_at 4 p 0)))
    (choose (eqb tag 0x02) (Some (Put (number_at 4 p 0) (number_at 4 p 4)))
    (choose (eqb tag 0x03) (Some (Delete (number_at 4 p 0)))
    (choose (eqb tag 0x04 && in_range (number_at 2 p 8)) (Some (Scan (number_at 4 p 0) (number_at 4 p 4) (number_at 2 p 8)))
    (choose (eqb tag 0x05 && ltb (get_or p 0 0) panels) (Some (Panel (get_or p 0 0)))
    (choose (eqb tag 0x07) (Some (Ceiling (number_at 4 p 0))) None)))))

-- What stands at a place of a batch: a command with the place behind it, or none that is valid.
abbrev pub Step : Type 0
Step = Option (Command × ℕ)

abbrev pub step_as : ℕ → Option Command → Step
step_as next None = None
step_as next (Some c) = Some (c, next)

-- the command of a field that was looked for
abbrev pub field_step : List ℕ → ℕ → Result Span Fault → Step
field_step s tag (Ok p) = step_as p.end (command_of tag (part s p.start (p.end - p.start)))
field_step s tag (Err fault) = None

-- The command at a place, by the tag there, with the place behind it.
unfoldable pub command_at : List ℕ → ℕ → Step
command_at s at = field_step s (get_or s at 0) (field_at s at (get_or s at 0))

-- A command's numbers in range: a sweep's most is 1 to 32, a panel 0 to 15.
abbrev pub InRange : Command → Type 0
InRange (Get k) = Unit {0}
InRange (Put k v) = Unit {0}
InRange (Delete k) = Unit {0}
InRange (Scan low high most) = (1 ≤ most) × (most ≤ most_pairs)
InRange (Panel panel) = panel < panels
InRange (Ceiling k) = Unit {0}

-- .. and keys, values and bounds are 32-bit numbers, as they are in bytes.
abbrev pub Valid : Command → Type 0
Valid (Get k) = k < bound32
Valid (Put k v) = (k < bound32) × (v < bound32)
Valid (Delete k) = k < bound32
Valid (Scan low high most) = (low < bound32) × (high < bound32) × (1 ≤ most) × (most ≤ most_pairs)
Valid (Panel panel) = panel < panels
Valid (Ceiling k) = k < bound32

-- Question 4: 7 bytes for each command of tags 01 to 03, and 3 + 8 × most for each sweep. Document 02: a panel "has no answer" (P2), the next route
-- up "needs 11 answer bytes" (P3).
abbrev pub room_for : Command → ℕ
room_for (Get k) = 7
room_for (Put k v) = 7
room_for (Delete k) = 7
room_for (Scan low high most) = 3 + 8 * most
room_for (Panel panel) = 0
room_for (Ceiling k) = 11

-- A step goes on: the place behind a command is further on and within the bytes, and the command's numbers are in range.
abbrev pub Onward : List ℕ → ℕ → Step → Type 0
Onward s at (Some (c, next)) = (at < next) × (next ≤ length s) × InRange c
Onward s at None = Unit {0}
