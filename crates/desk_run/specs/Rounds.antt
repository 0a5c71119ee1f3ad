-- Round and round: the rounds so far are a stretch from the start of a batch, and those left have what they need. Assumes nothing.
use Rattle.std.specs.Prelude.{◌≡◌, ℕ, suc, ◌+◌, ◌-◌, ◌≤◌, ◌<◌, length, replicate}
use Rattle.std.proofs.Math.Path.{refl, sym, ap, subst}
use Rattle.std.proofs.Common.{◌∙◌, arith}
use mathlib.Core.List.{List, [], ◌++◌, append-nil, append_assoc}
use Rattle.layout.specs.Layout.{panels}
use Rattle.account.specs.declared.Tariff.{Tariff}
use Rattle.account.specs.Range.{Ranged}
use Rattle.command.specs.declared.Command.{Command}
use Rattle.book.specs.InTurn.{no_charges}
use Rattle.flash_rows.specs.Worktable.{Worktable}
use Rattle.flash_allocate.specs.World.{World, world}
use Rattle.run_split.specs.Growing.{Growing}
use Rattle.run.specs.Session.{Ran}
use Rattle.run.specs.Run.{RunAs}
use Rattle.run.specs.Stretch.{at_start, Ready, RunOn, on_none, ready_start, ready_front, ready_behind, on_append, on_whole}
use Rattle.desk_order.specs.Turns.{heads, tails, rounds, longest, turns}
use Rattle.desk_queues.specs.Joined.{interleaved, joined}
use Rattle.desk_run.specs.Places.{rests, Placed, RoundLeft, interleaved-append}
use Rattle.desk_run.specs.Served.{lists_in, Serves, rests-start, placed_start}

-- Before a round; so many are to be made.
pub record Circling (pool_length table_length : ℕ) (t : Tariff) (lengths queues : List ℕ) (most round : ℕ) (w : World) (pages : List (List ℕ))
    (table : Worktable) (empty answers none paid places : List ℕ) (there : Ran) : Type 0 where
  pub within : round ≤ most
  pub done : List (ℕ × Command)
  pub whole : done ++ rounds (most - round) (rests lengths queues places) ≡ turns (lists_in lengths queues)
  pub ran : RunOn pool_length table_length pages table empty answers none paid (at_start w.state t) there (interleaved done) w
  pub ready : Ready pool_length table_length (length empty) paid there (interleaved (rounds (most - round) (rests lengths queues places)))
  pub placed : Placed lengths queues places

module _ {P T : ℕ} {t : Tariff} {lengths queues : List ℕ} {most : ℕ} where
  pub circling_start : (w : World) (empty none : List ℕ) → Growing P T w.state → Ranged t → Serves lengths queues most (length empty) → none ≡ no_charges →
      Circling P T t lengths queues most 0 w w.pages w.table empty empty none none (replicate panels 0) (at_start w.state t)
  unfolding turns
  circling_start w empty none g ranged s e =
      let r = ready_start {cs = joined (lists_in lengths queues)} e (length empty) g ranged s.room (omega (arith, s.few)) in
      let all : turns (lists_in lengths queues) ≡ rounds (most - 0) (rests lengths queues (replicate panels 0)) =
      ap (λ (n : ℕ). rounds n (lists_in lengths queues)) {x = longest (lists_in lengths queues)} {y = most - 0} (omega (arith, s.rounds_are)) ∙
      ap (rounds (most - 0)) (sym (rests-start lengths queues s.valid)) in
      record {
        within = omega arith;
        done = [];
        whole = sym all;
        ran = on_none w refl r;
        ready = subst (λ (xs : List (ℕ × Command)). Ready P T (length empty) none (at_start w.state t) (interleaved xs)) all r;
        placed = placed_start lengths queues s.valid;
      }

  module _ {round : ℕ} {w : World} {pages : List (List ℕ)} {table : Worktable} {empty answers none paid places : List ℕ} {there : Ran}
      (c : Circling P T t lengths queues most round w pages table empty answers none paid places there) where
    -- a round more
    module _ (more : round < most) where
      abbrev first : List (ℕ × Command)
      first = heads 0 (rests lengths queues places)

      abbrev rest : List (ℕ × Command)
      rest = rounds (most - (round + 1)) (tails (rests lengths queues places))

      parts : rounds (most - round) (rests lengths queues places) ≡ first ++ rest
      parts = ap (λ (n : ℕ). rounds n (rests lengths queues places)) {x = most - round} {y = suc (most - (round + 1))} (omega arith)

      both : Ready P T (length empty) paid there (interleaved first ++ interleaved rest)
      both = subst (λ (cs : List Command). Ready P T (length empty) paid there cs) (ap interleaved parts ∙ interleaved-append first rest) c.ready

      pub circling_ready : (n : ℕ) → n ≡ length empty → Ready P T n paid there (interleaved (heads 0 (rests lengths queues places)))
      circling_ready n e = ready_front (interleaved first) (interleaved rest) both n e

      pub circling_next : {P' T' : ℕ} {pages' : List (List ℕ)} {table' : Worktable} {answers' paid' places' : List ℕ} {yonder : Ran} →
          RunOn P' T' pages' table' answers answers' paid paid' there yonder (interleaved (heads 0 (rests lengths queues places)))
          (world pages table there.state) → RoundLeft lengths queues places places' →
          Circling P' T' t lengths queues most (round + 1) w pages' table' empty answers' none paid' places' yonder
      circling_next {P'} {T'} {pages'} {table'} {answers'} {paid'} {places'} {yonder} x l =
          let left : rest ≡ rounds (most - (round + 1)) (rests lengths queues places') = ap (rounds (most - (round + 1))) (sym l.rests_are) in
          record {
            within = omega arith;
            done = c.done ++ first;
            whole =
                append_assoc c.done first (rounds (most - (round + 1)) (rests lengths queues places')) ∙
                ap (λ (xs : List (ℕ × Command)). c.done ++ (first ++ xs)) (sym left) ∙
                ap (λ (xs : List (ℕ × Command)). c.done ++ xs) (sym parts) ∙
                c.whole;
            ran =
                subst (λ (cs : List Command). RunOn P' T' pages' table' empty answers' none paid' (at_start w.state t) yonder cs w)
                (sym (interleaved-append c.done first)) (on_append c.ran (omega arith) x);
            ready = subst (λ (xs : List (ℕ × Command)). Ready P' T' (length empty) paid' yonder (interleaved xs)) left (ready_behind both x);
            placed = l.placed;
          }

    -- none left
    pub circling_end : most ≤ round → none ≡ no_charges → RunAs P T pages table empty answers paid there t (joined (lists_in lengths queues)) w
    circling_end l e =
        let nothing : rounds (most - round) (rests lengths queues places) ≡ [] =
        ap (λ (n : ℕ). rounds n (rests lengths queues places)) {x = most - round} {y = 0} (omega arith) in
        let all : c.done ≡ turns (lists_in lengths queues) =
        sym (append-nil c.done) ∙ ap (λ (xs : List (ℕ × Command)). c.done ++ xs) (sym nothing) ∙ c.whole in
        on_whole e
        (subst (λ (xs : List (ℕ × Command)). RunOn P T pages table empty answers none paid (at_start w.state t) there (interleaved xs) w) all c.ran)
