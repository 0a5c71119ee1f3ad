-- The stretch of a turn: the command 05 that names the panel, then the command of its queue. Assumes nothing.
use Rattle.std.specs.Prelude.{◌≡◌, refl, List, [], ◌++◌, ℕ, length, Some, None}
use Rattle.std.proofs.Common.{sym, subst, arith}
use Rattle.command.specs.declared.Command.{Command}
use Rattle.command.specs.declared.Command.TheVariants.{Panel}
use Rattle.command.specs.Command.{command_at}
use Rattle.flash_rows.specs.Worktable.{Worktable}
use Rattle.flash_allocate.specs.World.{World, world}
use Rattle.run.specs.Session.{Ran}
use Rattle.run.specs.Stretch.{alone, Ready, RunOn, on_none, ready_front, ready_behind, on_append}
use Rattle.desk_run.specs.Turn.{turn_at, turn_is}

module _ (panel : ℕ) (queue : List ℕ) (at : ℕ) (before : List ℕ) {P T : ℕ} {paid : List ℕ} {here : Ran}
    (r : Ready P T (length before) paid here (turn_at panel queue at)) where
  -- a command is left
  module _ {c : Command} {next : ℕ} (e : command_at queue at ≡ Some (c, next)) where
    two : Ready P T (length before) paid here (alone (Panel panel) ++ alone c)
    two = subst (λ (cs : List Command). Ready P T (length before) paid here cs) (turn_is panel queue at (Some (c, next)) e) r

    pub ready_name : Ready P T (length before) paid here (alone (Panel panel))
    ready_name = ready_front (alone (Panel panel)) (alone c) two (length before) refl

    module _ {P' T' : ℕ} {pages : List (List ℕ)} {table : Worktable} {between paid' : List ℕ} {there : Ran} {w : World}
        (x : RunOn P' T' pages table before between paid paid' here there (alone (Panel panel)) w) where
      pub ready_own : length between ≡ length before → Ready P' T' (length between) paid' there (alone c)
      ready_own f = ready_front (alone c) [] (ready_behind {cs = alone (Panel panel)} {ds = alone c} two x) (length between) f

      pub on_turn : {P'' T'' : ℕ} {pages' : List (List ℕ)} {table' : Worktable} {after paid'' : List ℕ} {yonder : Ran} →
          RunOn P'' T'' pages' table' between after paid' paid'' there yonder (alone c) (world pages table there.state) →
          RunOn P'' T'' pages' table' before after paid paid'' here yonder (turn_at panel queue at) w
      on_turn {P''} {T''} {pages'} {table'} {after} {paid''} {yonder} y =
          subst (λ (cs : List Command). RunOn P'' T'' pages' table' before after paid paid'' here yonder cs w)
          (sym (turn_is panel queue at (Some (c, next)) e)) (on_append x (omega (arith, r.room)) y)

  -- none is left
  pub on_no_turn : command_at queue at ≡ None → (w : World) → w.state ≡ here.state →
      RunOn P T w.pages w.table before before paid paid here here (turn_at panel queue at) w
  on_no_turn e w f =
      subst (λ (cs : List Command). RunOn P T w.pages w.table before before paid paid here here cs w)
      (sym (turn_is panel queue at None e)) (on_none w f r)
