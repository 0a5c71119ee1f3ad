-- What the desk is lent (document 02, P5): "up to 16 queues, each a batch, in one lent buffer, with their four-byte lengths in another". Queue p is
-- panel p's. Assumes nothing.
use Rattle.std.specs.Prelude.{Bool, ◌&&◌, List, ℕ, ◌*◌, ◌/◌, eqb, leb, length, Option, None, Some}
use Rattle.laws.specs.BigEndian.{number_at}
use Rattle.laws.specs.Lay.{part}
use Rattle.laws.specs.Tests.{choose}
use Rattle.laws.specs.Update.{sum_below, list_below}
use Rattle.layout.specs.Layout.{panels, length_bytes}

-- How many whole lengths there are.
abbrev pub queue_count : List ℕ → ℕ
queue_count lengths = length lengths / length_bytes

-- The length of queue p; where it starts, behind those before it; its bytes; and all queues.
abbrev pub length_at : List ℕ → ℕ → ℕ
length_at lengths p = number_at 4 lengths (length_bytes * p)

abbrev pub start_at : List ℕ → ℕ → ℕ
start_at lengths p = sum_below p (length_at lengths)

abbrev pub queue_at : List ℕ → List ℕ → ℕ → List ℕ
queue_at lengths queues p = part queues (start_at lengths p) (length_at lengths p)

abbrev pub queues_in : List ℕ → List ℕ → List (List ℕ)
queues_in lengths queues = list_below (queue_count lengths) (queue_at lengths queues)

-- Question 11: "more than 16 lengths, part of one, or lengths that don't fill the queue buffer exactly" is a no. The sum is one of numbers: it does
-- not wrap.
unfoldable pub fills : List ℕ → List ℕ → Bool
fills lengths queues =
    leb (queue_count lengths) panels &&
    (eqb (length_bytes * queue_count lengths) (length lengths) && eqb (start_at lengths (queue_count lengths)) (length queues))

-- The queues, none where the lengths are wrong.
unfoldable pub queues_of : List ℕ → List ℕ → Option (List (List ℕ))
queues_of lengths queues = choose (fills lengths queues) (Some (queues_in lengths queues)) None
