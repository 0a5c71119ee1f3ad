-- No reply is longer than the room that question 4 asks for its command. Assumes nothing.
use Rattle.std.specs.Prelude.{Bool, true, false, List, [], ◌++◌, ℕ, zero, suc, ◌-◌, ◌≤◌, ltb, length, Option, None, Some}
use Rattle.std.proofs.Common.{arith, length-append}
use Rattle.layout.specs.Layout.{last_key}
use Rattle.account.specs.declared.Tariff.{Tariff}
use Rattle.pairs.specs.Pairs.{Pair, first}
use Rattle.pairs.proofs.Ranges.{length-range}
use Rattle.node.specs.Node.{pairs_of, link_of}
use Rattle.tree.specs.Table.{Table}
use Rattle.tree.specs.Scan.{stops_in, taken, pairs_from}
use Rattle.command.specs.declared.Answer.TheVariants.{Got, Deleted}
use Rattle.command.specs.declared.Command.{Command}
use Rattle.command.specs.declared.Command.TheVariants.{Get, Put, Delete, Scan, Panel, Ceiling}
use Rattle.command.specs.Answer.{value_or}
use Rattle.command.specs.AnswerLaws.{length-answer_bytes, length-scan_bytes, length-ceiling_bytes, length-absent}
use Rattle.command.specs.Command.{room_for}
use Rattle.book.specs.Command.{ceiling_reply, reply_bytes}
use Rattle.book.specs.Session.{Session}
use Rattle.flash_allocate.specs.World.{World}
use Rattle.run_path.specs.Descend.{descent}
use Rattle.run_lookup.specs.Value.{value_in}
use Rattle.run_scan.specs.Scan.{pairs_along, scan_pairs}
use Rattle.run_put.specs.Put.{put}
use Rattle.run.specs.Run.{command_reply}

-- A scan finds at most as many pairs as it asks for.
pairs_few : (fuel : ℕ) (table : Table) (low high most id : ℕ) → length (pairs_from fuel table low high most id) ≤ most
unfolding pairs_from
pairs_few zero table low high most id = length-range low high most (pairs_of (table id))
pairs_few (suc fuel) table low high most id =
    go (stops_in high most (table id) got) (pairs_few fuel table low high (most - length got) (link_of (table id)))
  where
    got : List Pair
    got = taken low high most (table id)

    more : List Pair
    more = pairs_from fuel table low high (most - length got) (link_of (table id))

    go : (b : Bool) → length more ≤ most - length got → length {A = Pair} (elim b [ true ↦ got | false ↦ got ++ more ]) ≤ most
    go true l = length-range low high most (pairs_of (table id))
    go false l = omega (arith, l, length-append got more, length-range low high most (pairs_of (table id)))

scan_few : (t : Tariff) (low high most : ℕ) (w : World) → length (scan_pairs t low high most w) ≤ most
unfolding scan_pairs
scan_few t low high most w = go (ltb high low)
  where
    go : (b : Bool) → length {A = Pair} (elim b [ true ↦ [] | false ↦ pairs_along low high most (descent t low w) ]) ≤ most
    go true = omega arith
    go false = pairs_few _ _ low high most _

-- A ceiling's reply is 80 or 87.
ceiling-room : (o : Option Pair) → length (reply_bytes (ceiling_reply o)) ≤ 11
ceiling-room None = omega (arith, length-absent)
ceiling-room (Some p) = omega (arith, length-ceiling_bytes p)

pub reply-room : (n : Session) (c : Command) (w : World) → length (reply_bytes (command_reply n c w)) ≤ room_for c
reply-room n (Get k) w = length-answer_bytes (value_or Got (value_in n.tariff k w))
reply-room n (Put k v) w = length-answer_bytes (put n.tariff k v w).answer
reply-room n (Delete k) w = length-answer_bytes (value_or Deleted (value_in n.tariff k w))
reply-room n (Scan low high most) w =
    let t = n.tariff in
    omega (arith, length-scan_bytes (scan_pairs t low high most w), scan_few t low high most w)
reply-room n (Panel panel) w = omega arith
reply-room n (Ceiling k) w = ceiling-room (first (scan_pairs n.tariff k last_key 1 w))
