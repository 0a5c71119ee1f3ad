-- Worked batches and answers of the documents, computed, and the longest batches there are. Assumes nothing.
use Rattle.std.specs.Prelude.{◌≡◌, refl, List, [], ◌∷◌, ◌++◌, map, ℕ, length, replicate, Option, None, Some}
use Rattle.std.proofs.Common.{arith}
use Rattle.laws.specs.Every.{Every, every_append, every-replicate}
use Rattle.laws.specs.Lay.{part}
use Rattle.laws.specs.BigEndian.{number_at}
use Rattle.wire.specs.Tag.{length_of, find, rows, is_node_bytes}
use Rattle.wire.specs.Field.{field, field_at}
use Rattle.command.specs.declared.Command.{Command}
use Rattle.command.specs.declared.Command.TheVariants.{Get, Put, Delete, Panel}
use Rattle.command.specs.declared.Answer.TheVariants.{Absent, Got, Replaced, Deleted, Refused}
use Rattle.command.specs.declared.Asked.{Asked}
use Rattle.command.specs.Command.{in_range, command_bytes, command_of, command_at, Valid}
use Rattle.command.specs.Batch.{run, commands_from, commands_of, asked_for, asked_of}
use Rattle.command.specs.BatchLaws.{commands_of_long}
use Rattle.command.specs.Spelled.{batch_bytes, commands_of-batch_bytes}
use Rattle.command.specs.Answer.{answer_bytes, scan_bytes, ceiling_bytes}

-- What a valid batch asks for.
abbrev asks : ℕ → ℕ → ℕ → Option Asked
asks room commands named = Some (asked_for room commands named)

-- put 7 with 100, get 7, delete 7, get 7
pub worked_batch : List ℕ
worked_batch =
    0x02 ∷ 0 ∷ 8 ∷ 0 ∷ 0 ∷ 0 ∷ 7 ∷ 0 ∷ 0 ∷ 0 ∷ 100 ∷
    0x01 ∷ 0 ∷ 4 ∷ 0 ∷ 0 ∷ 0 ∷ 7 ∷
    0x03 ∷ 0 ∷ 4 ∷ 0 ∷ 0 ∷ 0 ∷ 7 ∷
    0x01 ∷ 0 ∷ 4 ∷ 0 ∷ 0 ∷ 0 ∷ 7 ∷
    []

-- a scan from 9 to 3 with a most
pub scan_batch : ℕ → List ℕ
scan_batch most = 0x04 ∷ 0 ∷ 10 ∷ 0 ∷ 0 ∷ 0 ∷ 9 ∷ 0 ∷ 0 ∷ 0 ∷ 3 ∷ 0 ∷ most ∷ []

pub worked_commands : commands_of worked_batch ≡ Some (Put 7 100 ∷ Get 7 ∷ Delete 7 ∷ Get 7 ∷ [])
unfolding worked_batch commands_of commands_from run command_at command_of in_range field_at length_of find rows is_node_bytes number_at part
worked_commands = refl

-- The empty batch; scans of 0, 1, 32 and 33; a tag that is no command's; a length off by one; a payload cut short.
pub worked_room :
    map asked_of
    ([] ∷
    worked_batch ∷
    scan_batch 0 ∷
    scan_batch 1 ∷
    scan_batch 32 ∷
    scan_batch 33 ∷
    (0x10 ∷ 0 ∷ 4 ∷ 0 ∷ 0 ∷ 0 ∷ 7 ∷ []) ∷
    (0x01 ∷ 0 ∷ 5 ∷ 0 ∷ 0 ∷ 0 ∷ 7 ∷ 0 ∷ []) ∷
    (0x01 ∷ 0 ∷ 4 ∷ 0 ∷ 0 ∷ 0 ∷ []) ∷
    []) ≡
    asks 0 0 0 ∷ asks 28 4 0 ∷ None ∷ asks 11 1 0 ∷ asks 259 1 0 ∷ None ∷ None ∷ None ∷ None ∷ []
unfolding worked_batch scan_batch asked_of commands_of commands_from run command_at command_of in_range field_at length_of find rows is_node_bytes number_at part
worked_room = refl

-- Document 02, P2: panels 0, 15 and 16; a length off by one, both ways; a payload cut short; a panel behind a get, which alone asks for room.
pub worked_panels :
    map asked_of
    ((0x05 ∷ 0 ∷ 1 ∷ 0 ∷ []) ∷
    (0x05 ∷ 0 ∷ 1 ∷ 15 ∷ []) ∷
    (0x05 ∷ 0 ∷ 1 ∷ 16 ∷ []) ∷
    (0x05 ∷ 0 ∷ 2 ∷ 0 ∷ 0 ∷ []) ∷
    (0x05 ∷ 0 ∷ 0 ∷ []) ∷
    (0x05 ∷ 0 ∷ 1 ∷ []) ∷
    (0x01 ∷ 0 ∷ 4 ∷ 0 ∷ 0 ∷ 0 ∷ 7 ∷ 0x05 ∷ 0 ∷ 1 ∷ 9 ∷ []) ∷
    []) ≡
    asks 0 1 1 ∷ asks 0 1 1 ∷ None ∷ None ∷ None ∷ None ∷ asks 7 2 1 ∷ []
unfolding asked_of commands_of commands_from run command_at command_of in_range field_at length_of find rows is_node_bytes number_at part
worked_panels = refl

-- Document 02, P3: a ceiling; its length off by one, both ways; its payload cut short; the tags beside it; one behind a get.
pub worked_ceilings :
    map asked_of
    ((0x07 ∷ 0 ∷ 4 ∷ 0 ∷ 0 ∷ 0 ∷ 7 ∷ []) ∷
    (0x07 ∷ 0 ∷ 5 ∷ 0 ∷ 0 ∷ 0 ∷ 0 ∷ 0 ∷ []) ∷
    (0x07 ∷ 0 ∷ 3 ∷ 0 ∷ 0 ∷ 0 ∷ []) ∷
    (0x07 ∷ 0 ∷ 4 ∷ 0 ∷ 0 ∷ 0 ∷ []) ∷
    (0x06 ∷ 0 ∷ 4 ∷ 0 ∷ 0 ∷ 0 ∷ 0 ∷ []) ∷
    (0x08 ∷ 0 ∷ 0 ∷ []) ∷
    (0x01 ∷ 0 ∷ 4 ∷ 0 ∷ 0 ∷ 0 ∷ 7 ∷ 0x07 ∷ 0 ∷ 4 ∷ 255 ∷ 255 ∷ 255 ∷ 255 ∷ []) ∷
    []) ≡
    asks 11 1 0 ∷ None ∷ None ∷ None ∷ None ∷ None ∷ asks 18 2 0 ∷ []
unfolding asked_of commands_of commands_from run command_at command_of in_range field_at length_of find rows is_node_bytes number_at part
worked_ceilings = refl

pub worked_ceiling-answer : ceiling_bytes (7, 100) ≡ 0x87 ∷ 0 ∷ 8 ∷ 0 ∷ 0 ∷ 0 ∷ 7 ∷ 0 ∷ 0 ∷ 0 ∷ 100 ∷ []
unfolding ceiling_bytes field
worked_ceiling-answer = refl

-- The answers of the worked output, a refusal with 9, and the scan 9 to 3.
pub worked_answers :
    map answer_bytes (Absent ∷ Got 100 ∷ Replaced 100 ∷ Deleted 100 ∷ Refused 9 ∷ []) ≡
    (0x80 ∷ 0 ∷ 0 ∷ []) ∷
    (0x81 ∷ 0 ∷ 4 ∷ 0 ∷ 0 ∷ 0 ∷ 100 ∷ []) ∷
    (0x82 ∷ 0 ∷ 4 ∷ 0 ∷ 0 ∷ 0 ∷ 100 ∷ []) ∷
    (0x83 ∷ 0 ∷ 4 ∷ 0 ∷ 0 ∷ 0 ∷ 100 ∷ []) ∷
    (0x8F ∷ 0 ∷ 1 ∷ 9 ∷ []) ∷
    []
unfolding answer_bytes field
worked_answers = refl

pub worked_scans :
    map scan_bytes ([] ∷ ((7, 100) ∷ []) ∷ []) ≡
    (0x84 ∷ 0 ∷ 0 ∷ []) ∷ (0x84 ∷ 0 ∷ 8 ∷ 0 ∷ 0 ∷ 0 ∷ 7 ∷ 0 ∷ 0 ∷ 0 ∷ 100 ∷ []) ∷ []
unfolding scan_bytes field
worked_scans = refl

-- "Batch: 0 to 32,768 bytes." Two puts and 4,678 gets have 2 × 11 + 4,678 × 7 = 32,768 bytes. They are read by the law of what is spelled, not
-- command by command.
pub longest : List Command
longest = replicate 2 (Put 7 100) ++ replicate 4678 (Get 7)

valid : Every Valid longest
unfolding longest
valid = every_append (every-replicate 2 (Put 7 100) (omega arith, omega arith)) (every-replicate 4678 (Get 7) (omega arith))

pub worked_length : length (batch_bytes longest) ≡ 32768
unfolding longest command_bytes field
worked_length = refl

pub worked_longest : commands_of (batch_bytes longest) ≡ Some longest
worked_longest = commands_of-batch_bytes longest valid (omega (arith, worked_length))

-- 8,192 panels have 8,192 × 4 = 32,768 bytes too, and are as many commands as a batch can have.
pub many_panels : List Command
many_panels = replicate 8192 (Panel 7)

pub worked_many_length : length (batch_bytes many_panels) ≡ 32768
unfolding many_panels command_bytes field
worked_many_length = refl

pub worked_many : commands_of (batch_bytes many_panels) ≡ Some many_panels
unfolding many_panels
worked_many = commands_of-batch_bytes many_panels (every-replicate 8192 (Panel 7) (omega arith)) (omega (arith, worked_many_length))

-- One byte more is not read, whatever it holds.
pub worked_too_long : (s : List ℕ) → length s ≡ 32769 → commands_of s ≡ None
worked_too_long s e = commands_of_long s (omega arith)
