-- What queues ask for, summed up one queue after the other, as the code does. The invariant of its loop: what is left, with the sums so far, asks for
-- what all asks for. Assumes nothing.
use Rattle.std.specs.Prelude.{◌≡◌, List, [], ◌∷◌, leb, length, Option, None, Some}
use Rattle.std.proofs.Math.Path.{refl, sym}
use Rattle.std.proofs.Common.{ap, ap₂, ◌∙◌}
use Prim.Native.Nat.{ℕ, zero, suc, ◌+◌, ◌-◌, ◌*◌, ◌≤◌, ◌<◌, max}
use Rattle.std.proofs.Math.Nat.{sub-zero}
use native.Mathlib.Omega.{arith}
use Rattle.laws.specs.Tests.{choose}
use Rattle.laws.specs.Update.{list_below}
use Rattle.layout.specs.Layout.{most_batch_bytes}
use Rattle.command.specs.declared.Command.{Command}
use Rattle.command.specs.Batch.{room_for_all}
use Rattle.desk_queues.specs.Joined.{queue_commands, beside, all_commands}
use Rattle.desk_questions.specs.declared.Served.{Served}
use Rattle.desk_questions.specs.declared.Sums.{Sums}
use Rattle.desk_questions.specs.Served.{rounds_for}

-- The sums of no queue, with one queue more, and with some more.
abbrev pub no_sums : Sums
no_sums = record { room = 0; commands = 0; rounds = 0 }

abbrev pub with_queue : Sums → ℕ → ℕ → Sums
with_queue s room commands = record { room = s.room + room; commands = s.commands + commands; rounds = max s.rounds commands }

abbrev pub with_queues : Sums → List (List Command) → Sums
with_queues s [] = s
with_queues s (cs ∷ css) = with_queues (with_queue s (room_for_all cs) (length cs)) css

-- "The desk writes a command 05 before every command": so many bytes more for each.
abbrev pub panel_bytes : ℕ
panel_bytes = 4

-- What queues of so many bytes ask for by their sums, where the joined bytes keep the length limit.
unfoldable pub served_by : ℕ → Sums → Option Served
served_by bytes s = choose (leb (bytes + panel_bytes * s.commands) most_batch_bytes) (Some (rounds_for s.room s.rounds)) None

-- WHAT IS LEFT: the commands of k queues from queue p on.
unfoldable pub commands_on : (ℕ → List ℕ) → ℕ → ℕ → Option (List (List Command))
commands_on queue zero p = Some []
commands_on queue (suc k) p = beside (queue_commands (queue p)) (commands_on queue k (p + 1))

-- the same queues as a list
on_list : (queue : ℕ → List ℕ) (k p : ℕ) (listed : ℕ → List ℕ) → ((i : ℕ) → queue (p + i) ≡ listed i) →
    commands_on queue k p ≡ all_commands (list_below k listed)
unfolding commands_on
on_list queue zero p listed h = refl
on_list queue (suc k) p listed h =
    ap₂ beside (ap queue_commands (ap queue (omega arith) ∙ h 0))
    (on_list queue k (p + 1) (λ i. listed (suc i)) (λ i. ap queue (omega arith) ∙ h (suc i)))

module _ (queue : ℕ → List ℕ) (n : ℕ) where
  abbrev pub left : ℕ → Option (List (List Command))
  left p = commands_on queue (n - p) p

  pub left-all : left 0 ≡ all_commands (list_below n queue)
  left-all = rw (sub-zero n) (on_list queue n 0 queue (λ i. ap queue (omega arith)))

  left-next : (p : ℕ) → p < n → left p ≡ beside (queue_commands (queue p)) (left (p + 1))
  unfolding commands_on
  left-next p l = let e : n - p ≡ suc (n - (p + 1)) = omega arith in rw e refl

  left-none : (p : ℕ) → n ≤ p → left p ≡ Some []
  unfolding commands_on
  left-none p l = let e : n - p ≡ 0 = omega arith in rw e refl

-- What is asked for where such queues are left.
unfoldable pub served_with : ℕ → Sums → Option (List (List Command)) → Option Served
served_with bytes s None = None
served_with bytes s (Some css) = served_by bytes (with_queues s css)

with_queue_lem : (bytes : ℕ) (s : Sums) (cs : List Command) (r : Option (List (List Command))) →
    served_with bytes (with_queue s (room_for_all cs) (length cs)) r ≡ served_with bytes s (beside (Some cs) r)
unfolding served_with
with_queue_lem bytes s cs None = refl
with_queue_lem bytes s cs (Some css) = refl

-- A TURN of the loop, with a queue that is not valid and with one that is; and its end.
module _ (queue : ℕ → List ℕ) (bytes n p : ℕ) (s : Sums) (r : Option Served) (i : served_with bytes s (left queue n p) ≡ r) where
  -- the queue in front of those behind it
  here : p < n → (o : Option (List Command)) → queue_commands (queue p) ≡ o → served_with bytes s (beside o (left queue n (p + 1))) ≡ r
  here l o e =
      sym (ap (served_with bytes s) (left-next queue n p l ∙ ap (λ (q : Option (List Command)). beside q (left queue n (p + 1))) e)) ∙ i

  pub turn_invalid : p < n → queue_commands (queue p) ≡ None → None ≡ r
  unfolding served_with
  turn_invalid l e = here l None e

  pub turn_valid : p < n → (cs : List Command) → queue_commands (queue p) ≡ Some cs →
      served_with bytes (with_queue s (room_for_all cs) (length cs)) (left queue n (p + 1)) ≡ r
  turn_valid l cs e = with_queue_lem bytes s cs (left queue n (p + 1)) ∙ here l (Some cs) e

  pub turns-over : n ≤ p → served_by bytes s ≡ r
  unfolding served_with
  turns-over l = sym (ap (served_with bytes s) (left-none queue n p l)) ∙ i
