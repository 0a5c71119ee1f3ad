-- One turn of a queue, by the command at its place: the commands that it runs, and the place behind them. Assumes nothing.
use Rattle.std.specs.Prelude.{◌≡◌, refl, List, [], ◌∷◌, ◌⊎◌, ℕ, ◌≤◌, ◌<◌, length, drop, Option, None, Some}
use Rattle.std.proofs.Common.{sym, ◌∙◌, subst, inl, inr, arith}
use Rattle.std.proofs.Math.Path.{ap}
use Rattle.laws.specs.Options.{none_some, some_same}
use Rattle.laws.specs.Order.{le_or}
use Rattle.command.specs.declared.Command.{Command}
use Rattle.command.specs.declared.Command.TheVariants.{Panel}
use Rattle.command.specs.Command.{Step, command_at, InRange, Onward}
use Rattle.command.specs.CommandLaws.{command_at_onward, command_at_past}
use Rattle.command.specs.Batch.{before, commands_from}
use Rattle.command.specs.BatchLaws.{commands_from_end, commands_from-next, commands_from_invalid}
use Rattle.desk_order.specs.Turns.{heads}
use Rattle.desk_queues.specs.Joined.{interleaved}

-- The command at a place, behind a command 05; nothing at the end of the queue.
abbrev pub turn_by : ℕ → Step → List Command
turn_by panel (Some (c, next)) = Panel panel ∷ c ∷ []
turn_by panel None = []

abbrev pub place_by : ℕ → Step → ℕ
place_by at (Some (c, next)) = next
place_by at None = at

unfoldable pub turn_at : ℕ → List ℕ → ℕ → List Command
turn_at panel queue at = turn_by panel (command_at queue at)

unfoldable pub place_after : List ℕ → ℕ → ℕ
place_after queue at = place_by at (command_at queue at)

-- A turn by the command that was found.
module _ (panel : ℕ) (queue : List ℕ) (at : ℕ) (s : Step) (e : command_at queue at ≡ s) where
  pub turn_is : turn_at panel queue at ≡ turn_by panel s
  unfolding turn_at
  turn_is = ap (turn_by panel) e

  pub place_is : place_after queue at ≡ place_by at s
  unfolding place_after
  place_is = ap (place_by at) e

pub found-range : (queue : List ℕ) (at : ℕ) (c : Command) (next : ℕ) → command_at queue at ≡ Some (c, next) → InRange c
found-range queue at c next e = (subst (Onward queue at) e (command_at_onward queue at)).2

-- Of a valid queue: the first command that is left, as the order of service has it; and the rest is left behind it.
pub record Taken (panel : ℕ) (queue : List ℕ) (at : ℕ) (cs : List Command) : Type 0 where
  pub turn : turn_at panel queue at ≡ interleaved (heads panel (cs ∷ []))
  pub rest : commands_from queue (place_after queue at) ≡ Some (drop 1 cs)

pub takes : (panel : ℕ) (queue : List ℕ) (at : ℕ) (cs : List Command) → commands_from queue at ≡ Some cs → Taken panel queue at cs
takes panel queue at cs left = go (le_or (length queue) at)
  where
    none_left : length queue ≤ at → (ds : List Command) → Some ds ≡ Some [] → Taken panel queue at ds
    none_left l (d ∷ ds) e = absurd (omega (arith, ap length (some_same e)))
    none_left l [] e =
        record {
          turn = turn_is panel queue at None (sym (command_at_past queue at l));
          rest = ap (commands_from queue) (place_is panel queue at None (sym (command_at_past queue at l))) ∙ commands_from_end queue at l;
        }

    found : at < length queue → (s : Step) → command_at queue at ≡ s → Taken panel queue at cs
    found l None e = absurd (none_some (sym (commands_from_invalid queue at l e) ∙ left))
    found l (Some (c, next)) e = behind (commands_from queue next) refl cs (sym (commands_from-next queue at l c next e) ∙ left)
      where
        behind : (o : Option (List Command)) → commands_from queue next ≡ o → (ds : List Command) → before c o ≡ Some ds → Taken panel queue at ds
        behind None f ds g = absurd (none_some g)
        behind (Some tail) f ds g =
            subst (Taken panel queue at) (some_same g)
            record {
              turn = turn_is panel queue at (Some (c, next)) e;
              rest = ap (commands_from queue) (place_is panel queue at (Some (c, next)) e) ∙ f;
            }

    go : (length queue ≤ at) ⊎ (at < length queue) → Taken panel queue at cs
    go (inl l) = none_left l cs (sym left ∙ commands_from_end queue at l)
    go (inr l) = found l (command_at queue at) refl
