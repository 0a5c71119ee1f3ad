-- The batch that queues join to: what its commands are, how long it is, and what it asks for. Assumes nothing.
use Rattle.std.specs.Prelude.{◌≡◌, refl, List, [], ◌∷◌, map, ℕ, ◌+◌, ◌*◌, ◌≤◌, ◌<◌, length, None, Some}
use Rattle.std.proofs.Common.{◌∙◌, arith, length-append}
use Rattle.laws.specs.BigEndian.{Bytes}
use Rattle.laws.specs.Every.{Every, none as every-none, both, every_weaken}
use Rattle.laws.specs.Update.{sum}
use Rattle.layout.specs.Layout.{most_batch_bytes, panels}
use Rattle.wire.specs.FieldLaws.{length-field}
use Rattle.command.specs.declared.Command.{Command}
use Rattle.command.specs.declared.Command.TheVariants.{Panel}
use Rattle.command.specs.Command.{command_bytes, Valid, room_for}
use Rattle.command.specs.Batch.{commands_of, room_for_all}
use Rattle.command.specs.BatchLaws.{commands_of_long}
use Rattle.command.specs.Spelled.{batch_bytes, commands_of-batch_bytes}
use Rattle.desk_order.specs.Turns.{turns}
use Rattle.desk_order.proofs.Turned.{every-turns, panels-turns}
use Rattle.desk_order.specs.Weigh.{weigh, weigh_all, weigh_turns, commands_in}
use Rattle.desk_order.proofs.Weigh.{turns-weigh, length-turns}
use Rattle.desk_queues.specs.Joined.{interleaved, joined, joined_bytes}
use Rattle.desk_laws.specs.ValidBytes.{bytes_batch}
use Rattle.desk_laws.specs.Read.{Read, bytes_for, read_length, read_valid, read-bytes}

-- TURNS INTERLEAVED, each with a command 05 before it: two commands a turn, four bytes more, and no more room.
pub length-interleaved : (xs : List (ℕ × Command)) → length (interleaved xs) ≡ 2 * length xs
length-interleaved [] = refl
length-interleaved (x ∷ xs) = omega (arith, length-interleaved xs)

pub room-interleaved : (xs : List (ℕ × Command)) → room_for_all (interleaved xs) ≡ weigh_turns room_for xs
room-interleaved [] = refl
room-interleaved (x ∷ xs) = omega (arith, room-interleaved xs)

pub panel-bytes : (p : ℕ) → bytes_for (Panel p) ≡ 4
unfolding command_bytes
panel-bytes p = length-field 5 (p ∷ [])

pub bytes-interleaved : (xs : List (ℕ × Command)) → length (batch_bytes (interleaved xs)) ≡ weigh_turns bytes_for xs + 4 * length xs
bytes-interleaved [] = refl
bytes-interleaved (x ∷ xs) =
    omega (
      arith,
      length-append (command_bytes (Panel x.0)) (batch_bytes (x.1 ∷ interleaved xs)),
      length-append (command_bytes x.1) (batch_bytes (interleaved xs)),
      panel-bytes x.0,
      bytes-interleaved xs,
    )

pub interleaved_valid : {xs : List (ℕ × Command)} → Every (λ x. x.0 < panels) xs → Every (λ x. Valid x.1) xs → Every Valid (interleaved xs)
interleaved_valid every-none every-none = every-none
interleaved_valid (both p ps) (both v vs) = both p (both v (interleaved_valid ps vs))

-- What queues ask for, each for itself.
weigh-room : (cs : List Command) → weigh room_for cs ≡ room_for_all cs
weigh-room [] = refl
weigh-room (c ∷ cs) = omega (arith, weigh-room cs)

weigh_all-room : (css : List (List Command)) → weigh_all room_for css ≡ sum (map room_for_all css)
weigh_all-room [] = refl
weigh_all-room (cs ∷ css) = omega (arith, weigh_all-room css, weigh-room cs)

pub commands-sum : (css : List (List Command)) → commands_in css ≡ sum (map length css)
commands-sum [] = refl
commands-sum (cs ∷ css) = omega (arith, commands-sum css)

-- THE JOINED COMMANDS of any queues.
module _ (css : List (List Command)) where
  pub length-joined : length (joined css) ≡ 2 * commands_in css
  length-joined = omega (arith, length-interleaved (turns css), length-turns css)

  -- Question 4: the room that the queues ask for.
  pub room_joined : room_for_all (joined css) ≡ sum (map room_for_all css)
  room_joined = room-interleaved (turns css) ∙ turns-weigh room_for css ∙ weigh_all-room css

  pub bytes-joined : length (joined_bytes css) ≡ weigh_all bytes_for css + 4 * commands_in css
  unfolding joined_bytes
  bytes-joined = omega (arith, bytes-interleaved (turns css), turns-weigh bytes_for css, length-turns css)

  pub joined_valid : length css ≤ panels → Every (Every Valid) css → Every Valid (joined css)
  joined_valid few valid = interleaved_valid (every_weaken (λ x l. below x.0 l) (panels-turns css)) (every-turns Valid valid)
    where
      below : (p : ℕ) → p < length css → p < panels
      below p l = omega arith

  -- Question 3: joined bytes over the length limit are refused.
  pub joined_long : most_batch_bytes < length (joined_bytes css) → commands_of (joined_bytes css) ≡ None
  joined_long l = commands_of_long (joined_bytes css) l

-- Of queues made of bytes, 16 at most, that were read:
module _ {queues : List (List ℕ)} {css : List (List Command)} (bytes : Every Bytes queues) (few : length queues ≤ panels) (r : Read queues css) where
  -- the joined commands are valid, the joined bytes are bytes,
  pub read-joined : Every Valid (joined css)
  read-joined = joined_valid css (omega (arith, read_length r)) (read_valid bytes r)

  pub joined_bytes_lem : Bytes (joined_bytes css)
  unfolding joined_bytes
  joined_bytes_lem = bytes_batch (joined css) read-joined

  -- as long as all queues, and four bytes for each command more.
  pub joined_length : length (joined_bytes css) ≡ sum (map length queues) + 4 * commands_in css
  joined_length = omega (arith, bytes-joined css, read-bytes bytes r)

  -- Within the length limit they are read as the joined commands.
  pub joined_short : length (joined_bytes css) ≤ most_batch_bytes → commands_of (joined_bytes css) ≡ Some (joined css)
  unfolding joined_bytes
  joined_short l = commands_of-batch_bytes (joined css) read-joined l
