-- The sums of all queues are what the joined commands ask for: where the loop begins, all is left. Assumes nothing.
use Rattle.std.specs.Prelude.{◌≡◌, Bool, true, false, List, [], ◌∷◌, map, ℕ, ◌+◌, ◌*◌, ◌≤◌, max, leb, length, Option, None, Some}
use Rattle.std.proofs.Math.Path.{refl, ap}
use Rattle.std.proofs.Common.{ap₂, ◌∙◌, arith}
use Rattle.laws.specs.BigEndian.{Bytes}
use Rattle.laws.specs.Tests.{choose}
use Rattle.laws.specs.Update.{length-below, sum}
use Rattle.layout.specs.Layout.{most_batch_bytes, panels}
use Rattle.command.specs.declared.Command.{Command}
use Rattle.command.specs.Batch.{room_for_all}
use Rattle.desk_order.specs.Turns.{longest}
use Rattle.desk_order.specs.Weigh.{commands_in}
use Rattle.desk_queues.specs.Queues.{queue_count, queue_at, queues_in}
use Rattle.desk_queues.specs.Joined.{all_commands, joined, joined_bytes}
use Rattle.desk_laws.specs.Read.{all_read}
use Rattle.desk_laws.specs.JoinedLaws.{room_joined, joined_length}
use Rattle.desk_laws.specs.QueueLaws.{Filled, queues-bytes, queues-length}
use Rattle.desk_questions.specs.declared.Served.{Served}
use Rattle.desk_questions.specs.declared.Sums.{Sums}
use Rattle.desk_questions.specs.Served.{rounds_for, within_limit, served_as, served_of}
use Rattle.desk_questions.specs.Sums.{no_sums, with_queue, with_queues, panel_bytes, served_by, served_with, left, left-all}

-- THE SUMS over all queues.
sums-room : (s : Sums) (css : List (List Command)) → (with_queues s css).room ≡ s.room + sum (map room_for_all css)
sums-room s [] = omega arith
sums-room s (cs ∷ css) = omega (arith, sums-room (with_queue s (room_for_all cs) (length cs)) css)

sums-commands : (s : Sums) (css : List (List Command)) → (with_queues s css).commands ≡ s.commands + commands_in css
sums-commands s [] = omega arith
sums-commands s (cs ∷ css) = omega (arith, sums-commands (with_queue s (room_for_all cs) (length cs)) css)

sums-rounds : (s : Sums) (css : List (List Command)) → (with_queues s css).rounds ≡ max s.rounds (longest css)
sums-rounds s [] = omega arith
sums-rounds s (cs ∷ css) = omega (arith, sums-rounds (with_queue s (room_for_all cs) (length cs)) css)

-- With the bytes of the queues these are what is asked for.
served-all : (bytes : ℕ) (css : List (List Command)) → length (joined_bytes css) ≡ bytes + panel_bytes * commands_in css →
    served_by bytes (with_queues no_sums css) ≡ served_as (within_limit (Some css))
unfolding served_by
served-all bytes css e =
    let s = with_queues no_sums css in
    let size : bytes + panel_bytes * s.commands ≡ length (joined_bytes css) = omega (arith, sums-commands no_sums css) in
    let room : s.room ≡ room_for_all (joined css) = omega (arith, sums-room no_sums css, room_joined css) in
    let rounds : s.rounds ≡ longest css = omega (arith, sums-rounds no_sums css) in
    ap₂ (λ (b : Bool) (r : Option Served). choose b r None) (ap (λ (n : ℕ). leb n most_batch_bytes) size) (ap₂ (λ (a b : ℕ). Some (rounds_for a b)) room rounds) ∙
    within (leb (length (joined_bytes css)) most_batch_bytes)
  where
    within : (b : Bool) → choose b (Some (rounds_for (room_for_all (joined css)) (longest css))) None ≡ served_as (choose b (Some css) None)
    within true = refl
    within false = refl

-- THE QUEUES THAT ARE LENT, where the lengths fill them and they are bytes: few enough to be joined, and so long joined.
module _ (lengths queues : List ℕ) (f : Filled lengths queues) (bytes : Bytes queues) where
  pub lent_few : length (queues_in lengths queues) ≤ panels
  lent_few = omega (arith, length-below (queue_count lengths) (queue_at lengths queues), f.few)

  lent_length : sum (map length (queues_in lengths queues)) ≡ length queues
  lent_length = queues-length lengths queues (queue_count lengths) (omega (arith, f.full)) ∙ f.full

  pub lent-joined : (css : List (List Command)) → all_commands (queues_in lengths queues) ≡ Some css →
      length (joined_bytes css) ≡ length queues + panel_bytes * commands_in css
  lent-joined css e =
      joined_length (queues-bytes lengths queues (queue_count lengths) bytes) lent_few (all_read (queues_in lengths queues) css e) ∙
      ap (λ (n : ℕ). n + panel_bytes * commands_in css) lent_length

  -- THE BEGINNING of the loop.
  pub begin : served_with (length queues) no_sums (left (queue_at lengths queues) (queue_count lengths) 0) ≡ served_of lengths queues
  unfolding served_with served_of
  begin =
      ap (served_with (length queues) no_sums) (left-all (queue_at lengths queues) (queue_count lengths)) ∙
      go (all_commands (queues_in lengths queues)) refl
    where
      go : (o : Option (List (List Command))) → all_commands (queues_in lengths queues) ≡ o →
          served_with (length queues) no_sums o ≡ served_as (within_limit o)
      go None e = refl
      go (Some css) e = served-all (length queues) css (lent-joined css e)
