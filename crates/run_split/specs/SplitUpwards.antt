-- A PAIR PUT INTO THE LEAF OF A WAY: "the work goes in the order given, leaf upwards" (document 01, "Nodes and tree").
use Rattle.std.specs.Prelude.{Bool, true, false, List, [], ◌∷◌, ℕ, ◌+◌, ◌*◌, length, drop, Some}
use Rattle.account.specs.declared.Tariff.{Tariff}
use Rattle.flash_rows.specs.Worktable.{Worktable}
use Rattle.flash_allocate.specs.World.{World}
use Rattle.run_serve.specs.Step.{Charged, ChargedAs}
use Rattle.run_split.specs.declared.Pending.TheVariants.{Pair}
use Rattle.run_split.specs.Growing.{Grew}
use Rattle.run_split.specs.Absorbing.{Absorbing, absorbing}
use Rattle.run_split.specs.Absorb.{absorb}

-- One node more, above those that are done.
abbrev pub after_it : ℕ → Absorbing → Absorbing
after_it paid c = absorbing c.now (paid + c.charge) c.pending

unfoldable pub upward : Tariff → ℕ → Bool → ℕ → Absorbing → Absorbing
upward t wanted root id below = after_it below.charge (absorb t wanted root id below.pending below.now)

-- Nodes below the root, in the order of the path: the last is the first to absorb.
unfoldable pub split_upwards_below : Tariff → ℕ → List ℕ → Absorbing → Absorbing
split_upwards_below t wanted [] start = start
split_upwards_below t wanted (id ∷ ids) start = upward t wanted false id (split_upwards_below t wanted ids start)

-- All nodes of a path, the root at its head.
unfoldable pub split_upwards : Tariff → ℕ → ℕ → List ℕ → World → Absorbing
split_upwards t key value ids w = upward t key true 0 (split_upwards_below t key (drop 1 ids) (absorbing w 0 (Some (Pair key value))))

-- What the code of it leaves: of at most two requests a node of the path.
abbrev pub SplitUpwardsAs : ℕ → ℕ → List (List ℕ) → Worktable → Charged → Tariff → ℕ → ℕ → List ℕ → World → Type 0
SplitUpwardsAs pool_length table_length pages table r t key value ids w =
    ChargedAs Grew pool_length table_length pages table r w.state (2 * length ids) (split_upwards t key value ids w).now
    (split_upwards t key value ids w).charge
