-- A whole batch (document 01, questions 3 and 4): its commands, and the room for answers that they ask for. Assumes nothing.
use Rattle.std.specs.Prelude.{true, false, List, [], ◌∷◌, ℕ, zero, suc, ◌+◌, leb, length, Option, None, Some}
use Rattle.layout.specs.Layout.{most_batch_bytes}
use Rattle.command.specs.declared.Command.{Command}
use Rattle.command.specs.declared.Command.TheVariants.{Get, Put, Delete, Scan, Panel, Ceiling}
use Rattle.command.specs.declared.Asked.{Asked}
use Rattle.command.specs.Command.{command_at, Valid, room_for}

-- a command in front of those behind it, if these are valid
abbrev pub before : Command → Option (List Command) → Option (List Command)
before c None = None
before c (Some cs) = Some (c ∷ cs)

-- The commands from a place to the end, none where one is not valid. Each takes a byte or more, so the length is fuel enough.
unfoldable pub run : ℕ → List ℕ → ℕ → Option (List Command)
run zero s at = None
run (suc fuel) s at =
    elim (leb (length s) at) [
      | true ↦ Some []
      | false ↦ elim (command_at s at) [ Some (c, next) ↦ before c (run fuel s next) | None ↦ None ]
    ]

unfoldable pub commands_from : List ℕ → ℕ → Option (List Command)
commands_from s at = run (suc (length s)) s at

-- Question 3: the commands of a batch within its length and made wholly of valid commands.
unfoldable pub commands_of : List ℕ → Option (List Command)
commands_of s = elim (leb (length s) most_batch_bytes) [ true ↦ commands_from s 0 | false ↦ None ]

-- Commands that are all valid.
abbrev pub ValidAll : List Command → Type 0
ValidAll [] = Unit {0}
ValidAll (c ∷ cs) = Valid c × ValidAll cs

-- Question 4: the room that all commands ask for.
abbrev pub room_for_all : List Command → ℕ
room_for_all [] = 0
room_for_all (c ∷ cs) = room_for c + room_for_all cs

-- How many panels a command names, and all of them (document 02, P5: a queue that holds a command 05 is refused).
abbrev pub named : Command → ℕ
named (Get k) = 0
named (Put k v) = 0
named (Delete k) = 0
named (Scan low high most) = 0
named (Panel panel) = 1
named (Ceiling k) = 0

abbrev pub named_in : List Command → ℕ
named_in [] = 0
named_in (c ∷ cs) = named c + named_in cs

abbrev pub asked_for : ℕ → ℕ → ℕ → Asked
asked_for room commands named = record { room = room; commands = commands; named = named }

abbrev pub asked_as : Option (List Command) → Option Asked
asked_as None = None
asked_as (Some cs) = Some (asked_for (room_for_all cs) (length cs) (named_in cs))

unfoldable pub asked_of : List ℕ → Option Asked
asked_of s = asked_as (commands_of s)
