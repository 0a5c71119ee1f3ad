-- What is known of a queue by what it asks for as a batch: whether it may stand at a desk, its commands, and how many and how much these are at most.
-- Assumes nothing.
use Rattle.std.proofs.Math.Path.{◌≡◌, refl, sym, ap}
use Rattle.std.proofs.Common.{◌∙◌, arith, eq-eqb, ne_eqb}
use Rattle.std.specs.Prelude.{List, ℕ, ◌*◌, ◌≤◌, ◌<◌, Option, None, Some}
use Rattle.std.proofs.Math.ListN.{length}
use Rattle.laws.specs.Options.{none_some, some_same}
use Rattle.layout.specs.Layout.{most_batch_bytes}
use Rattle.command.specs.declared.Command.{Command}
use Rattle.command.specs.declared.Asked.{Asked}
use Rattle.command.specs.Batch.{commands_of, room_for_all, named_in, asked_as, asked_of}
use Rattle.command.specs.BatchLaws.{commands_from_few, commands_of-read, commands_from-room}
use Rattle.desk_queues.specs.Joined.{own_commands, queue_commands}

-- More room than the commands of one queue can ask for: 3 + 8 × 32 bytes for each of its bytes.
abbrev pub most_room : ℕ
most_room = 259 * most_batch_bytes

-- A queue that may stand at a desk, by the room and the number of its commands.
pub record Admitted (queue : List ℕ) (room n : ℕ) : Type 0 where
  pub commands : List Command
  pub are : queue_commands queue ≡ Some commands
  pub room-is : room ≡ room_for_all commands
  pub count-is : n ≡ length commands
  pub short : length queue ≤ most_batch_bytes
  pub few : n ≤ most_batch_bytes
  pub small : room ≤ most_room

module _ (queue : List ℕ) where
  -- a batch that is not valid
  pub queue_invalid : asked_of queue ≡ None → queue_commands queue ≡ None
  unfolding queue_commands asked_of
  queue_invalid e = go (commands_of queue) e
    where
      go : (o : Option (List Command)) → asked_as o ≡ None → own_commands o ≡ None
      go None f = refl
      go (Some cs) f = absurd (none_some (sym f))

  module _ (found : Asked) (e : asked_of queue ≡ Some found) where
    -- one that holds a command 05
    pub queue_named : 0 < found.named → queue_commands queue ≡ None
    unfolding queue_commands asked_of
    queue_named l = go (commands_of queue) e
      where
        go : (o : Option (List Command)) → asked_as o ≡ Some found → own_commands o ≡ None
        go None f = refl
        go (Some cs) f =
            let g : named_in cs ≡ found.named = ap (λ (a : Asked). a.named) (some_same f) in
            rw (ne_eqb (named_in cs) 0 (λ z. omega arith)) refl

    -- one that holds none
    pub queue_admitted : found.named ≤ 0 → Admitted queue found.room found.commands
    unfolding queue_commands asked_of
    queue_admitted l = go (commands_of queue) refl e
      where
        go : (o : Option (List Command)) → commands_of queue ≡ o → asked_as o ≡ Some found → Admitted queue found.room found.commands
        go None h f = absurd (none_some f)
        go (Some cs) h f =
            let named : named_in cs ≡ found.named = ap (λ (a : Asked). a.named) (some_same f) in
            let rooms : room_for_all cs ≡ found.room = ap (λ (a : Asked). a.room) (some_same f) in
            let count : length cs ≡ found.commands = ap (λ (a : Asked). a.commands) (some_same f) in
            let read = commands_of-read queue cs h in
            let few = commands_from_few queue 0 cs read.1 in
            record {
              commands = cs;
              are = ap own_commands h ∙ rw (eq-eqb (named_in cs) 0 (omega arith)) refl;
              room-is = sym rooms;
              count-is = sym count;
              short = read.0;
              few = omega (arith, few, read.0);
              small = omega (arith, few, read.0, commands_from-room queue 0 cs read.1);
            }
