-- A round, a queue at a time: the turns so far are a stretch from its start, and those of the queues ahead have what they need. Assumes nothing.
use Rattle.std.specs.Prelude.{◌≡◌, refl, true, List, [], ◌∷◌, ◌++◌, ◌⊎◌, ℕ, suc, ◌+◌, ◌-◌, ◌≤◌, ◌<◌, length, get_or, drop, set, Some}
use Rattle.std.proofs.Common.{sym, ap, ap₂, ◌∙◌, subst, append-nil, append_assoc, inl, inr, add-one, arith, length-set, get_or-set_same, get_or-set_other}
use Rattle.laws.specs.Lay.{part}
use Rattle.laws.specs.Order.{Tri, tri, eq_or}
use Rattle.laws.specs.Update.{length-below, below_at, below-is, drop-below, drop-below_past}
use Rattle.layout.specs.Layout.{panels}
use Rattle.command.specs.declared.Command.{Command}
use Rattle.command.specs.Batch.{commands_from}
use Rattle.flash_rows.specs.Worktable.{Worktable}
use Rattle.flash_allocate.specs.World.{World, world}
use Rattle.run.specs.Session.{Ran}
use Rattle.run.specs.Stretch.{Ready, RunOn, on_none, ready_front, ready_behind, on_append}
use Rattle.desk_order.specs.Turns.{heads}
use Rattle.desk_queues.specs.Queues.{queue_count, length_at, start_at, queue_at, fills}
use Rattle.desk_queues.specs.Joined.{interleaved}
use Rattle.desk_laws.specs.QueueLaws.{Filled, filled, start_le}
use Rattle.desk_run.specs.Turn.{turn_at, place_after, Taken, takes}
use Rattle.desk_run.specs.Places.{rest_at, rests, Placed, RoundLeft, rest-is, tails-below, heads-first, interleaved-append}

-- The turns from a panel on.
abbrev pub ahead : List ℕ → List ℕ → List ℕ → ℕ → List (ℕ × Command)
ahead lengths queues places panel = heads panel (drop panel (rests lengths queues places))

-- Before the turn of a panel. `places₀` are those of the round's start.
pub record Passing (pool_length table_length : ℕ) (lengths queues : List ℕ) (panel start : ℕ) (w : World) (pages : List (List ℕ))
    (table : Worktable) (empty answers none paid places₀ places : List ℕ) (here there : Ran) : Type 0 where
  pub within : panel ≤ queue_count lengths
  pub starts : start ≡ start_at lengths panel
  pub done : List (ℕ × Command)
  pub whole : done ++ ahead lengths queues places₀ panel ≡ heads 0 (rests lengths queues places₀)
  pub ran : RunOn pool_length table_length pages table empty answers none paid here there (interleaved done) w
  pub ready : Ready pool_length table_length (length empty) paid there (interleaved (ahead lengths queues places₀ panel))
  pub sixteen : length places ≡ panels
  pub passed :
      (q : ℕ) → q < panel → commands_from (queue_at lengths queues q) (get_or places q 0) ≡ Some (drop 1 (rest_at lengths queues places₀ q))
  pub same : (q : ℕ) → panel ≤ q → get_or places q 0 ≡ get_or places₀ q 0

module _ {P T : ℕ} {lengths queues : List ℕ} where
  -- A round begins at panel 0.
  pub passing_start : {panel : ℕ} → panel ≡ 0 → {w : World} {empty none places : List ℕ} {here : Ran} → w.state ≡ here.state →
      Placed lengths queues places → Ready P T (length empty) none here (interleaved (heads 0 (rests lengths queues places))) →
      Passing P T lengths queues panel 0 w w.pages w.table empty empty none none places places here here
  passing_start z {w} e p r =
      rw z
      record {
        within = omega arith;
        starts = refl;
        done = [];
        whole = refl;
        ran = on_none w e r;
        ready = r;
        sixteen = p.sixteen;
        passed = λ q l. absurd (omega arith);
        same = λ q l. refl;
      }

  module _ {panel start : ℕ} {w : World} {pages : List (List ℕ)} {table : Worktable} {empty answers none paid places₀ places : List ℕ}
      {here there : Ran} (r : Passing P T lengths queues panel start w pages table empty answers none paid places₀ places here there)
      (fill : fills lengths queues ≡ true) where
    fit : Filled lengths queues
    fit = filled lengths queues fill

    -- a queue more
    module _ (more : panel < queue_count lengths) where
      pub passing_panel : panel < panels
      passing_panel = omega (arith, more, fit.few)

      pub passing_end : start + length_at lengths panel ≤ length queues
      passing_end = omega (arith, r.starts, start_le lengths (suc panel) (queue_count lengths) more, fit.full)

      -- the bytes that are lent for its turn
      pub passing_queue : (n : ℕ) → n ≡ length_at lengths panel → part queues start (start + n - start) ≡ queue_at lengths queues panel
      passing_queue n e = ap₂ (part queues) r.starts (omega (arith, e))

      -- its turn, and those behind it
      abbrev turn : List (ℕ × Command)
      turn = heads panel (rest_at lengths queues places₀ panel ∷ [])

      ahead-is : ahead lengths queues places₀ panel ≡ turn ++ ahead lengths queues places₀ (suc panel)
      ahead-is =
          ap (heads panel) (drop-below (queue_count lengths) (rest_at lengths queues places₀) panel more) ∙
          heads-first panel (rest_at lengths queues places₀ panel) (drop (suc panel) (rests lengths queues places₀))

      both : Ready P T (length empty) paid there (interleaved turn ++ interleaved (ahead lengths queues places₀ (suc panel)))
      both =
          subst (λ (cs : List Command). Ready P T (length empty) paid there cs)
          (ap interleaved ahead-is ∙ interleaved-append turn (ahead lengths queues places₀ (suc panel))) r.ready

      module _ (p : Placed lengths queues places₀) {queue : List ℕ} {at : ℕ} (is : queue ≡ queue_at lengths queues panel)
          (place : at ≡ get_or places panel 0) where
        taken : Taken panel queue at (rest_at lengths queues places₀ panel)
        taken =
            takes panel queue at (rest_at lengths queues places₀ panel)
            (ap₂ commands_from is (place ∙ r.same panel (omega arith)) ∙ p.left panel more)

        turns_are : interleaved turn ++ interleaved (ahead lengths queues places₀ (suc panel)) ≡
            turn_at panel queue at ++ interleaved (ahead lengths queues places₀ (suc panel))
        turns_are = ap (λ (cs : List Command). cs ++ interleaved (ahead lengths queues places₀ (suc panel))) (sym taken.turn)

        served : Ready P T (length empty) paid there (turn_at panel queue at ++ interleaved (ahead lengths queues places₀ (suc panel)))
        served = subst (λ (cs : List Command). Ready P T (length empty) paid there cs) turns_are both

        pub passing_ready : (n : ℕ) → n ≡ length empty → Ready P T n paid there (turn_at panel queue at)
        passing_ready n e = ready_front (turn_at panel queue at) (interleaved (ahead lengths queues places₀ (suc panel))) served n e

        -- the places behind a turn
        module _ (next : ℕ) (e : next ≡ place_after queue at) where
          place_here : get_or (set places panel next) panel 0 ≡ next
          place_here = get_or-set_same places panel next 0 (omega (arith, r.sixteen, passing_panel))

          passed_next : (q : ℕ) → q < suc panel →
              commands_from (queue_at lengths queues q) (get_or (set places panel next) q 0) ≡ Some (drop 1 (rest_at lengths queues places₀ q))
          passed_next q l = go (eq_or q panel)
            where
              go : (q ≡ panel) ⊎ (q ≡ panel → ⊥) →
                  commands_from (queue_at lengths queues q) (get_or (set places panel next) q 0) ≡ Some (drop 1 (rest_at lengths queues places₀ q))
              go (inl f) = rw (f, place_here, e, ← is) taken.rest
              go (inr f) =
                  ap (commands_from (queue_at lengths queues q)) (get_or-set_other places panel q next 0 f) ∙ r.passed q (below q panel l f)
                where
                  below : (a b : ℕ) → a < suc b → (a ≡ b → ⊥) → a < b
                  below a b m n = less (tri a b)
                    where
                      less : Tri a b → a < b
                      less (Tri.less k) = k
                      less (Tri.same k) = absurd (n k)
                      less (Tri.more k) = absurd (omega arith)

          same_next : (q : ℕ) → suc panel ≤ q → get_or (set places panel next) q 0 ≡ get_or places₀ q 0
          same_next q l = get_or-set_other places panel q next 0 (λ f. absurd (omega arith)) ∙ r.same q (omega arith)

          pub passing_next : {P' T' : ℕ} {pages' : List (List ℕ)} {table' : Worktable} {answers' paid' places' : List ℕ} {yonder : Ran} {start' : ℕ} →
              RunOn P' T' pages' table' answers answers' paid paid' there yonder (turn_at panel queue at) (world pages table there.state) →
              start' ≡ start + length_at lengths panel → places' ≡ set places panel next →
              Passing P' T' lengths queues (panel + 1) start' w pages' table' empty answers' none paid' places₀ places' here yonder
          passing_next {P'} {T'} {pages'} {table'} {answers'} {paid'} {places'} {yonder} {start'} x s f =
              rw (add-one panel, f)
              record {
                within = more;
                starts = s ∙ ap (λ (n : ℕ). n + length_at lengths panel) r.starts;
                done = r.done ++ turn;
                whole =
                    append_assoc r.done turn (ahead lengths queues places₀ (suc panel)) ∙
                    ap (λ (xs : List (ℕ × Command)). r.done ++ xs) (sym ahead-is) ∙
                    r.whole;
                ran =
                    subst (λ (cs : List Command). RunOn P' T' pages' table' empty answers' none paid' here yonder cs w)
                    (ap (λ (cs : List Command). interleaved r.done ++ cs) taken.turn ∙ sym (interleaved-append r.done turn))
                    (on_append r.ran (omega (arith, r.ready.room, r.ran.behind)) x);
                ready = ready_behind served x;
                sixteen = length-set places panel next ∙ r.sixteen;
                passed = passed_next;
                same = same_next;
              }

    -- none left: all turns of the round are done
    module _ (at_end : queue_count lengths ≤ panel) where
      pub passing_all : RunOn P T pages table empty answers none paid here there (interleaved (heads 0 (rests lengths queues places₀))) w
      passing_all =
          subst (λ (xs : List (ℕ × Command)). RunOn P T pages table empty answers none paid here there (interleaved xs) w)
          (sym (append-nil r.done) ∙
          ap (λ (css : List (List Command)). r.done ++ heads panel css)
          (sym (drop-below_past (queue_count lengths) (rest_at lengths queues places₀) panel at_end)) ∙
          r.whole) r.ran

      behind : (p : ℕ) → p < queue_count lengths → rest_at lengths queues places p ≡ drop 1 (rest_at lengths queues places₀ p)
      behind p l = rest-is lengths queues places p (drop 1 (rest_at lengths queues places₀ p)) (r.passed p (omega (arith, at_end)))

      pub passing_left : RoundLeft lengths queues places₀ places
      passing_left =
          record {
            placed =
                record {
                  sixteen = r.sixteen;
                  left = λ p l. r.passed p (omega (arith, at_end)) ∙ ap Some (sym (behind p l));
                };
            rests_are =
                below-is (rests lengths queues places) (queue_count lengths) (λ p. drop 1 (rest_at lengths queues places₀ p)) []
                (length-below (queue_count lengths) (rest_at lengths queues places))
                (λ p l. below_at (queue_count lengths) (rest_at lengths queues places) p [] l ∙ behind p l) ∙
                sym (tails-below (queue_count lengths) (rest_at lengths queues places₀));
          }
