-- Worked lengths and queues of the request, computed (document 02, P5). Assumes nothing.
use Rattle.std.specs.Prelude.{◌≡◌, refl, true, false, List, [], ◌∷◌, ◌++◌, map, ℕ, replicate, Some, None}
use Rattle.laws.specs.Lay.{part}
use Rattle.laws.specs.BigEndian.{number_at, big_endian}
use Rattle.wire.specs.Tag.{length_of, find, rows, is_node_bytes}
use Rattle.wire.specs.Field.{field, field_at}
use Rattle.command.specs.Command.{in_range, command_bytes, command_of, command_at}
use Rattle.command.specs.Batch.{run, commands_from, commands_of}
use Rattle.desk_order.specs.Turns.{turns}
use Rattle.desk_queues.specs.Queues.{fills}
use Rattle.desk_queues.specs.Joined.{queue_commands, joined_bytes}
use Rattle.desk_questions.specs.Served.{rounds_for, served_of}

-- Lengths and queues, side by side.
abbrev Lent : Type 0
Lent = List ℕ × List ℕ

-- put 7 with 100, get 7, delete 7
abbrev put : List ℕ
put = 0x02 ∷ 0 ∷ 8 ∷ 0 ∷ 0 ∷ 0 ∷ 7 ∷ 0 ∷ 0 ∷ 0 ∷ 100 ∷ []

abbrev get : List ℕ
get = 0x01 ∷ 0 ∷ 4 ∷ 0 ∷ 0 ∷ 0 ∷ 7 ∷ []

abbrev delete : List ℕ
delete = 0x03 ∷ 0 ∷ 4 ∷ 0 ∷ 0 ∷ 0 ∷ 7 ∷ []

-- Two queues of two commands; nothing at all, and sixteen queues of nothing; three gets, nothing, and one.
abbrev right : List Lent
right =
    (big_endian 4 18 ++ big_endian 4 14, put ++ get ++ get ++ delete) ∷
    ([], []) ∷
    (replicate 64 0, []) ∷
    (big_endian 4 21 ++ big_endian 4 0 ++ big_endian 4 7, get ++ get ++ get ++ get) ∷
    []

pub worked_right : map (λ (x : Lent). fills x.0 x.1) right ≡ true ∷ true ∷ true ∷ true ∷ []
unfolding fills number_at part
worked_right = refl

pub worked_served : map (λ (x : Lent). served_of x.0 x.1) right ≡ Some (rounds_for 28 2) ∷ Some (rounds_for 0 0) ∷ Some (rounds_for 0 0) ∷ Some (rounds_for 28 3) ∷ []
unfolding served_of queue_commands joined_bytes turns command_bytes field commands_of commands_from run command_at command_of in_range
    field_at length_of find rows is_node_bytes number_at part
worked_served = refl

-- Question 11: seventeen lengths; a length and part of one; a byte too few and a byte too many over seven; a sum of 2^32 + 7; none over seven.
pub worked_11 :
    map (λ (x : Lent). fills x.0 x.1)
    ((replicate 68 0, []) ∷
    (0 ∷ 0 ∷ 0 ∷ 7 ∷ 0 ∷ [], get) ∷
    (0 ∷ 0 ∷ 0 ∷ 6 ∷ [], get) ∷
    (0 ∷ 0 ∷ 0 ∷ 8 ∷ [], get) ∷
    (255 ∷ 255 ∷ 255 ∷ 255 ∷ 0 ∷ 0 ∷ 0 ∷ 8 ∷ [], get) ∷
    ([], get) ∷
    []) ≡
    false ∷ false ∷ false ∷ false ∷ false ∷ false ∷ []
unfolding fills number_at part
worked_11 = refl

-- Question 3: a queue with a command 05; a get that reaches over a border; a tag that is no command's. The lengths are right.
abbrev wrong : List Lent
wrong =
    (0 ∷ 0 ∷ 0 ∷ 4 ∷ [], 0x05 ∷ 0 ∷ 1 ∷ 0 ∷ []) ∷
    (0 ∷ 0 ∷ 0 ∷ 3 ∷ 0 ∷ 0 ∷ 0 ∷ 4 ∷ [], get) ∷
    (0 ∷ 0 ∷ 0 ∷ 3 ∷ [], 0x80 ∷ 0 ∷ 0 ∷ []) ∷
    []

pub worked_wrong : map (λ (x : Lent). fills x.0 x.1) wrong ≡ true ∷ true ∷ true ∷ []
unfolding fills number_at part
worked_wrong = refl

pub worked_3 : map (λ (x : Lent). served_of x.0 x.1) wrong ≡ None ∷ None ∷ None ∷ []
unfolding served_of queue_commands joined_bytes turns command_bytes field commands_of commands_from run command_at command_of in_range
    field_at length_of find rows is_node_bytes number_at part
worked_3 = refl
