-- The desk (document 02, P5), worked: queues on the pool that a prepare leaves, each call with its number, its answers and the charge of every panel,
-- and the order in which panels are served. By computation. Assumes nothing.
use Rattle.std.specs.Prelude.{◌≡◌, refl, List, [], ◌∷◌, ◌++◌, map, ℕ, replicate, take, Some}
use Rattle.command.specs.Command as command
use Rattle.desk_order.specs.Turns as order
use Rattle.desk_queues.specs.Queues as queues
use Rattle.desk_queues.specs.Queues.{queues_of}
use Rattle.desk_queues.specs.Joined as joined
use Rattle.desk_queues.specs.Joined.{joined_by}
use Rattle.model.specs.Questions as questions
use Rattle.model.specs.Outcome.{Outcome}
use Rattle.model.specs.Call.{desk_of}
use Rattle.model.specs.Computes.{computes}
use Rattle.cases.specs.Pools.{pool_bytes, in_first, prepared}
use Rattle.cases.specs.Batches.{small, greatest, panel, get, put, delete, absent, got, deleted, Result, result, outcome_of, none}

-- Every definition that a desk adds to those of a batch.
unfoldable desk_computes : Unit {0}
unfolding computes command.command_bytes order.turns queues.fills queues.queues_of joined.queue_commands joined.joined_bytes joined.joined_of questions.of_desk
desk_computes = tt

-- A call with so many bytes for its answers; its number, answers and charges.
abbrev pool : List ℕ
pool = pool_bytes (in_first prepared)

abbrev desk_on : ℕ → List ℕ → List ℕ → Outcome
desk_on room lengths bytes = desk_of pool (replicate 4096 7) lengths bytes (replicate room 7)

abbrev result_by : Outcome → Result
result_by o = result o.number (take o.length o.answers) o.charges

-- TWO QUEUES of two commands: panel 0 puts 7 and gets it, panel 1 gets it and deletes it.
abbrev two_lengths : List ℕ
two_lengths = small 18 ++ small 14

abbrev two_queues : List ℕ
two_queues = put 7 100 ++ get 7 ++ get 7 ++ delete 7

-- "The desk writes a command 05 before every command."
abbrev two_joined : List ℕ
two_joined = panel 0 ++ put 7 100 ++ panel 1 ++ get 7 ++ panel 0 ++ get 7 ++ panel 1 ++ delete 7

pub two_joined_lem : joined_by (queues_of two_lengths two_queues) ≡ Some two_joined
unfolding desk_computes
two_joined_lem = refl

pub two_queues_lem : result_by (desk_on 28 two_lengths two_queues) ≡ result 0 (absent ++ got 100 ++ got 100 ++ deleted 100) (7 ∷ 11 ∷ replicate 14 0)
unfolding desk_computes
two_queues_lem = refl

-- "The joined bytes run as one batch": table, answers and pool are its, byte for byte.
pub two_batch : desk_on 28 two_lengths two_queues ≡ outcome_of 28 two_joined
unfolding desk_computes
two_batch = refl

-- NO COMMANDS: no queue, or sixteen empty ones. The empty batch.
pub no_commands : map (λ lengths. result_by (desk_on 0 lengths [])) ([] ∷ replicate 64 0 ∷ []) ≡ replicate 2 (result 0 [] none)
unfolding desk_computes
no_commands = refl

pub no_batch : desk_on 0 (replicate 64 0) [] ≡ outcome_of 0 []
unfolding desk_computes
no_batch = refl

-- THREE QUEUES of three commands, none and one: panels 0, 2, 0, 0, "in panel order, round and round". The third read moves the node.
abbrev three_lengths : List ℕ
three_lengths = small 21 ++ small 0 ++ small 7

abbrev three_queues : List ℕ
three_queues = get 1 ++ get 2 ++ get 3 ++ get 9

pub three_joined : joined_by (queues_of three_lengths three_queues) ≡
    Some (panel 0 ++ get 1 ++ panel 2 ++ get 9 ++ panel 0 ++ get 2 ++ panel 0 ++ get 3)
unfolding desk_computes
three_joined = refl

pub three_queues_lem : result_by (desk_on 28 three_lengths three_queues) ≡ result 0 (absent ++ absent ++ absent ++ absent) (8 ∷ 0 ∷ 3 ∷ replicate 13 0)
unfolding desk_computes
three_queues_lem = refl

-- "More than 16 lengths, part of one, or lengths that don't fill the queue buffer exactly, gives 11": seventeen of them, part of a second, one too
-- few and one too many bytes, a sum that is 7 only where it wraps at 32 bits, and no length at all. All buffers but the table are as found.
abbrev wrong_lengths : List (List ℕ)
wrong_lengths = (small 7 ++ (0 ∷ [])) ∷ small 6 ∷ small 8 ∷ (greatest ++ small 8) ∷ [] ∷ []

pub seventeen_lengths : result_by (desk_on 7 (replicate 68 0) []) ≡ result 11 [] none
unfolding desk_computes
seventeen_lengths = refl

pub wrong-lengths : map (λ lengths. result_by (desk_on 7 lengths (get 7))) wrong_lengths ≡ replicate 5 (result 11 [] none)
unfolding desk_computes
wrong-lengths = refl

pub left-by_eleven : desk_on 7 (small 6) (get 7) ≡
    record { number = 11; pool = pool; table = replicate 4096 0; answers = replicate 7 7; length = 0; charges = replicate 16 0 }
unfolding desk_computes
left-by_eleven = refl

-- A queue that holds an 05 "or isn't wholly valid commands, gives 3": an 05 alone, a command that reaches over the border of two queues, no command.
abbrev wrong_queues : List (List ℕ × List ℕ)
wrong_queues = (small 4, panel 0) ∷ (small 3 ++ small 4, get 7) ∷ (small 3, absent) ∷ []

pub wrong-queues : map (λ q. result_by (desk_on 7 q.0 q.1)) wrong_queues ≡ replicate 3 (result 3 [] none)
unfolding desk_computes
wrong-queues = refl

-- 4 of the joined bytes: one get asks for 7 answer bytes.
pub short_room : map (λ room. result_by (desk_on room (small 7) (get 7))) (6 ∷ 7 ∷ []) ≡
    result 4 [] none ∷ result 0 absent (3 ∷ replicate 15 0) ∷ []
unfolding desk_computes
short_room = refl

-- 11 is "asked between 2 and 3": where the pool is a byte short, where the table is, where the queue is no command too.
pub asked_in_order : (desk_of (take 65535 pool) (replicate 4095 7) (small 6) (replicate 7 0) []).number ∷
    (desk_of pool (replicate 4095 7) (small 6) (replicate 7 0) []).number ∷
    (desk_of pool (replicate 4096 7) (small 6) (replicate 7 0) []).number ∷
    (desk_of pool (replicate 4096 7) (small 7) (replicate 7 0) []).number ∷ [] ≡
    1 ∷ 2 ∷ 11 ∷ 3 ∷ []
unfolding desk_computes
asked_in_order = refl
