-- Panels (document 02, P2), worked: batches on the pool that a prepare leaves, each with its number, its answers and the charge of every panel. By
-- computation. Assumes nothing.
use Rattle.std.specs.Prelude.{◌≡◌, refl, List, [], ◌∷◌, ◌++◌, map, ℕ, replicate, take}
use Rattle.model.specs.Call.{batch_of}
use Rattle.model.specs.Worked.{tariff, batch_on}
use Rattle.model.specs.Computes.{computes}
use Rattle.cases.specs.Traces.{worked_pool}
use Rattle.cases.specs.Pools.{pool_bytes, in_first, tree_of}
use Rattle.cases.specs.Batches.{panel, get, put, delete, scan, ceiling, absent, got, deleted, listed, found}
use Rattle.cases.specs.Batches.{result, result_of, none, first}

-- Three panels share the worked batch of document 01; the same without them.
abbrev shared : List ℕ
shared = panel 3 ++ put 7 100 ++ panel 15 ++ get 7 ++ delete 7 ++ panel 0 ++ get 7

abbrev alone : List ℕ
alone = put 7 100 ++ get 7 ++ delete 7 ++ get 7

-- Two panels by turns.
abbrev by_turns : List ℕ
by_turns = panel 1 ++ put 1 1 ++ panel 2 ++ put 2 2 ++ panel 1 ++ get 1 ++ panel 2 ++ get 2 ++ panel 1 ++ get 1

-- Each panel has the charges of its own commands; panel 0 at first.
pub three_panels : result_of 28 shared ≡ result 0 (absent ++ got 100 ++ deleted 100 ++ absent) (3 ∷ 0 ∷ 0 ∷ 4 ∷ replicate 11 0 ++ (7 ∷ []))
unfolding computes
three_panels = refl

-- No trace in the pool: it is that of the batch without its panels, byte for byte.
pub same_pool_lem : (batch_on tariff shared).pool ≡ worked_pool
unfolding computes
same_pool_lem = refl

pub no_panel : result_of 28 alone ≡ result 0 (absent ++ got 100 ++ deleted 100 ++ absent) (first 14)
unfolding computes
no_panel = refl

pub by-turns : result_of 35 by_turns ≡ result 0 (absent ++ absent ++ got 1 ++ got 2 ++ got 1) (0 ∷ 11 ∷ 7 ∷ replicate 13 0)
unfolding computes
by-turns = refl

-- A command of each kind under a panel of its own, and a get behind it: whatever the command, the panel stays current until the next is named. The
-- third read, panel 2's, moves the node to disk.
abbrev each_kind : List ℕ
each_kind =
    panel 1 ++ get 7 ++ get 7 ++
    panel 2 ++ put 7 100 ++ get 7 ++
    panel 3 ++ scan 0 9 1 ++ get 7 ++
    panel 4 ++ ceiling 5 ++ get 7 ++
    panel 5 ++ delete 7 ++ get 7

pub panel_stays : result_of 78 each_kind ≡
    result 0 (absent ++ absent ++ absent ++ got 100 ++ listed 7 100 ++ got 100 ++ found 7 100 ++ got 100 ++ deleted 100 ++ absent)
    (0 ∷ 6 ∷ 9 ∷ 2 ∷ 2 ∷ 6 ∷ replicate 10 0)
unfolding computes
panel_stays = refl

-- A panel asks for no room, and its being named last charges nobody.
pub short_room : map (λ room. result_of room (panel 2 ++ get 7 ++ panel 9)) (6 ∷ 7 ∷ []) ≡
    result 4 [] none ∷ result 0 absent (0 ∷ 0 ∷ 3 ∷ replicate 13 0) ∷ []
unfolding computes
short_room = refl

-- A panel and nothing more.
pub panel-only : result_of 0 (panel 7) ≡ result 0 [] none
unfolding computes
panel-only = refl

-- "A panel above 15 gives 3"; so do another length, a payload cut short, and one behind a command that is valid.
pub no_such_panel : map (result_of 7)
    (panel 16 ∷ (0x05 ∷ 0 ∷ 2 ∷ 0 ∷ 0 ∷ []) ∷ (0x05 ∷ 0 ∷ 0 ∷ []) ∷ (0x05 ∷ 0 ∷ 1 ∷ []) ∷ (get 7 ++ panel 16) ∷ []) ≡
    replicate 5 (result 3 [] none)
unfolding computes
no_such_panel = refl

-- A put with 9 charges nobody: panel 5's key in a full leaf where no id is left.
pub put-with_nine : (let o = batch_of (pool_bytes (in_first (tree_of 20))) (replicate 4096 7) (panel 5 ++ put 24 24) (replicate 7 7) in
    result o.number (take o.length o.answers) o.charges) ≡ result 0 (0x8F ∷ 0 ∷ 1 ∷ 9 ∷ []) none
unfolding computes
put-with_nine = refl
