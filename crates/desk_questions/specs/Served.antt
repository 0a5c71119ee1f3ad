-- Question 3 of a desk (document 02, P5): what the queues ask for, where each is "wholly valid commands" and holds no command 05, and where
-- "the joined bytes run as one batch, with its length limit". Assumes nothing.
use Rattle.std.specs.Prelude.{List, ℕ, leb, length, Option, None, Some}
use Rattle.laws.specs.Tests.{choose}
use Rattle.layout.specs.Layout.{most_batch_bytes}
use Rattle.command.specs.declared.Command.{Command}
use Rattle.command.specs.Batch.{room_for_all}
use Rattle.desk_order.specs.Turns.{longest}
use Rattle.desk_queues.specs.Queues.{queues_in}
use Rattle.desk_queues.specs.Joined.{all_commands, joined, joined_bytes}
use Rattle.desk_questions.specs.declared.Served.{Served}

-- The commands of the queues, where the joined bytes keep the length limit of a batch.
abbrev pub within_limit : Option (List (List Command)) → Option (List (List Command))
within_limit None = None
within_limit (Some css) = choose (leb (length (joined_bytes css)) most_batch_bytes) (Some css) None

abbrev pub rounds_for : ℕ → ℕ → Served
rounds_for room rounds = record { room = room; rounds = rounds }

-- The room that all commands ask for, and the rounds that serve them: as many as the longest queue has commands.
abbrev pub served_as : Option (List (List Command)) → Option Served
served_as None = None
served_as (Some css) = Some (rounds_for (room_for_all (joined css)) (longest css))

-- QUESTION 3
unfoldable pub served_of : List ℕ → List ℕ → Option Served
served_of lengths queues = served_as (within_limit (all_commands (queues_in lengths queues)))
