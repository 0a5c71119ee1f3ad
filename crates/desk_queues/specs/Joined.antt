-- The queues joined to one batch (document 02, P5). Nowhere do these bytes stand: the desk serves from the queues, as this batch would be served.
-- Assumes nothing.
use Rattle.std.specs.Prelude.{List, [], ◌∷◌, ℕ, eqb, Option, None, Some}
use Rattle.laws.specs.Tests.{choose}
use Rattle.command.specs.declared.Command.{Command}
use Rattle.command.specs.declared.Command.TheVariants.{Panel}
use Rattle.command.specs.Batch.{commands_of, named_in}
use Rattle.command.specs.Spelled.{batch_bytes}
use Rattle.desk_order.specs.Turns.{turns}

-- The commands of a queue: "a queue that holds one" of the commands 05, "or isn't wholly valid commands, gives 3".
abbrev pub own_commands : Option (List Command) → Option (List Command)
own_commands None = None
own_commands (Some cs) = choose (eqb (named_in cs) 0) (Some cs) None

unfoldable pub queue_commands : List ℕ → Option (List Command)
queue_commands queue = own_commands (commands_of queue)

-- Those of all queues, if all are valid.
abbrev pub beside : Option (List Command) → Option (List (List Command)) → Option (List (List Command))
beside None css = None
beside (Some cs) None = None
beside (Some cs) (Some css) = Some (cs ∷ css)

abbrev pub all_commands : List (List ℕ) → Option (List (List Command))
all_commands [] = Some []
all_commands (q ∷ qs) = beside (queue_commands q) (all_commands qs)

-- "The desk writes a command 05 before every command."
abbrev pub interleaved : List (ℕ × Command) → List Command
interleaved [] = []
interleaved (x ∷ xs) = Panel x.0 ∷ x.1 ∷ interleaved xs

-- The joined commands, and "the joined bytes".
abbrev pub joined : List (List Command) → List Command
joined css = interleaved (turns css)

unfoldable pub joined_bytes : List (List Command) → List ℕ
joined_bytes css = batch_bytes (joined css)

-- The joined bytes of queues, none where one is not valid.
abbrev pub bytes_by : Option (List (List Command)) → Option (List ℕ)
bytes_by None = None
bytes_by (Some css) = Some (joined_bytes css)

unfoldable pub joined_of : List (List ℕ) → Option (List ℕ)
joined_of queues = bytes_by (all_commands queues)

-- .. and of the queues that were lent, none where their lengths are wrong too.
abbrev pub joined_by : Option (List (List ℕ)) → Option (List ℕ)
joined_by None = None
joined_by (Some queues) = joined_of queues

-- The commands of the joined bytes, none where there are no such bytes.
abbrev pub joined_read : Option (List ℕ) → Option (List Command)
joined_read None = None
joined_read (Some bytes) = commands_of bytes
