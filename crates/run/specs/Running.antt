-- A batch a command at a time: the commands run so far are a stretch from its start, and those left have what they need. Assumes nothing.
use Rattle.std.specs.Prelude.{◌≡◌, refl, List, [], ◌∷◌, ◌++◌, ℕ, ◌≤◌, ◌<◌, length, ◌⊎◌, Option, None, Some}
use Rattle.std.proofs.Common.{sym, ap, ◌∙◌, subst, append-nil, append_assoc, inl, inr, arith}
use Rattle.laws.specs.Options.{none_some}
use Rattle.laws.specs.Order.{le_or}
use Rattle.account.specs.declared.Tariff.{Tariff}
use Rattle.account.specs.Range.{Ranged}
use Rattle.command.specs.declared.Command.{Command}
use Rattle.command.specs.Command.{InRange, Onward, command_at}
use Rattle.command.specs.CommandLaws.{command_at_onward, command_at_past}
use Rattle.command.specs.Batch.{before, commands_from}
use Rattle.command.specs.BatchLaws.{commands_from_end, commands_from-next, commands_from_invalid, commands_from_few}
use Rattle.book.specs.InTurn.{no_charges}
use Rattle.flash_rows.specs.Worktable.{Worktable}
use Rattle.flash_allocate.specs.World.{World, world}
use Rattle.run_split.specs.Growing.{Growing}
use Rattle.run.specs.Session.{Ran}
use Rattle.run.specs.Run.{RunAs}
use Rattle.run.specs.Stretch.{at_start, alone, Ready, RunOn, on_none, ready_front, ready_behind, on_append, ready_start, on_whole}
use Rattle.run.specs.Valid.{list_or, commands_in, Fits}

-- Before the command at a place of the batch.
pub record Running (pool_length table_length : ℕ) (t : Tariff) (batch empty : List ℕ) (from : ℕ) (start : World) (pages : List (List ℕ))
    (table : Worktable) (answers unpaid paid : List ℕ) (here : Ran) : Type 0 where
  pub within : from ≤ length batch
  pub done : List Command
  pub rest : List Command
  pub left : commands_from batch from ≡ Some rest
  pub whole : done ++ rest ≡ commands_in batch
  pub ran : RunOn pool_length table_length pages table empty answers unpaid paid (at_start start.state t) here done start
  pub ready : Ready pool_length table_length (length empty) paid here rest

pub running-start : (P T : ℕ) (t : Tariff) (batch empty charges : List ℕ) (w : World) → Growing P T w.state → Ranged t → Fits batch (length empty) →
    charges ≡ no_charges → Running P T t batch empty 0 w w.pages w.table empty charges charges (at_start w.state t)
running-start P T t batch empty charges w g ranged f e =
    let few = commands_from_few batch 0 (commands_in batch) f.valid in
    let r = ready_start {cs = commands_in batch} e (length empty) g ranged f.room (omega (arith, few, f.short)) in
    record {
      within = omega arith;
      done = [];
      rest = commands_in batch;
      left = f.valid;
      whole = refl;
      ran = on_none w refl r;
      ready = r;
    }

-- A first command and those behind it.
record Behind (c : Command) (o : Option (List Command)) (rest : List Command) : Type 0 where
  pub tail : List Command
  pub is : o ≡ Some tail
  pub whole : c ∷ tail ≡ rest

behind-first : (c : Command) (o : Option (List Command)) (rest : List Command) → before c o ≡ Some rest → Behind c o rest
behind-first c None rest e = absurd (none_some e)
behind-first c (Some tail) rest e = record { tail = tail; is = refl; whole = ap list_or e }

module _ {P T : ℕ} {t : Tariff} {batch empty : List ℕ} {from : ℕ} {start : World} {pages : List (List ℕ)} {table : Worktable}
    {answers unpaid paid : List ℕ} {here : Ran} (r : Running P T t batch empty from start pages table answers unpaid paid here) where
  -- a command more
  module _ (c : Command) (next : ℕ) (step : command_at batch from ≡ Some (c, next)) where
    inside : from < length batch
    inside = elim (le_or (length batch) from) [ inl l ↦ absurd (none_some (command_at_past batch from l ∙ step)) | inr l ↦ l ]

    first : Behind c (commands_from batch next) r.rest
    first = behind-first c (commands_from batch next) r.rest (sym (commands_from-next batch from inside c next step) ∙ r.left)

    onward : Onward batch from (Some (c, next))
    onward = subst (Onward batch from) step (command_at_onward batch from)

    pub running-further : (from < next) × (next ≤ length batch)
    running-further = (onward.0, onward.1)

    pub running-range : InRange c
    running-range = onward.2

    both : Ready P T (length empty) paid here (alone c ++ first.tail)
    both = subst (λ (cs : List Command). Ready P T (length empty) paid here cs) (sym first.whole) r.ready

    pub running_ready : (n : ℕ) → n ≡ length empty → Ready P T n paid here (alone c)
    running_ready n e = ready_front (alone c) first.tail both n e

    pub running-next : {P' T' : ℕ} {pages' : List (List ℕ)} {table' : Worktable} {answers' paid' : List ℕ} {there : Ran} →
        RunOn P' T' pages' table' answers answers' paid paid' here there (alone c) (world pages table here.state) →
        Running P' T' t batch empty next start pages' table' answers' unpaid paid' there
    running-next x =
        record {
          within = onward.1;
          done = r.done ++ alone c;
          rest = first.tail;
          left = first.is;
          whole = append_assoc r.done (alone c) first.tail ∙ ap (λ (cs : List Command). r.done ++ cs) first.whole ∙ r.whole;
          ran = on_append r.ran (omega arith) x;
          ready = ready_behind both x;
        }

  -- in a valid batch no command is not valid
  pub running_valid : from < length batch → command_at batch from ≡ None → ⊥
  running_valid inside e = none_some (sym (commands_from_invalid batch from inside e) ∙ r.left)

  -- none left
  pub running_end : length batch ≤ from → unpaid ≡ no_charges → RunAs P T pages table empty answers paid here t (commands_in batch) start
  running_end l e =
      let nothing : r.rest ≡ [] = ap list_or (sym r.left ∙ commands_from_end batch from l) in
      let whole : r.done ≡ commands_in batch =
      sym (append-nil r.done) ∙ ap (λ (cs : List Command). r.done ++ cs) (sym nothing) ∙ r.whole in
      on_whole e
      (subst (λ (cs : List Command). RunOn P T pages table empty answers unpaid paid (at_start start.state t) here cs start) whole r.ran)

  -- where no command stands, none is left
  pub running_over : command_at batch from ≡ None → unpaid ≡ no_charges → RunAs P T pages table empty answers paid here t (commands_in batch) start
  running_over f = go (le_or (length batch) from)
    where
      go : (length batch ≤ from) ⊎ (from < length batch) → unpaid ≡ no_charges →
          RunAs P T pages table empty answers paid here t (commands_in batch) start
      go (inl l) e = running_end l e
      go (inr l) e = absurd (running_valid l f)
