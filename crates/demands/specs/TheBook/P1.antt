-- DOCUMENT 02, P1. "From now on fields 14 are written by ascending node id. Pools with any order still open. The contract then no longer leaves this
-- order to the program." Assumes nothing.
use Rattle.std.specs.Prelude.{◌≡◌, List, ℕ}
use Rattle.laws.specs.BigEndian.{Bytes}
use Rattle.account.specs.declared.Tariff.{Tariff}
use Rattle.pairs.specs.Pairs.{Pair}
use Rattle.book.specs.Book.{Book}
use Rattle.model.specs.Call.{Call, outcome, prepare_of}
use Rattle.model.specs.Calls.{answered, book_in}
use Rattle.demands.specs.CallBytes.{CallBytes, run-bytes}
use Rattle.demands.specs.ScoreOrder.{newest_checkpoint, InNodeOrder, one_order}
use Rattle.demands.specs.OneCall.{called}
use Rattle.demands.specs.Obeys.{obeys_spelled, obeys_stands}
use Rattle.demands.specs.PreparedPool.{prepare_ordered}
use Rattle.demands.specs.Reordered.{ReorderedPool, reordered_stands}
use Rattle.demands.specs.AnyOrder.{same_number, same_answers_lem, same_charges}
use Rattle.demands.specs.Standing.{stands_open, open_stands}
use Rattle.demands.specs.TheBook.Stands.{Stands}
use Rattle.demands.specs.TheBook.DemandTwo.{done-lawful}

-- After every accepted call, the empty batch too, whoever wrote the pool before it; and after every accepted prepare.
pub scores_ascend : (pool : List ℕ) → Bytes pool → (c : Call) → CallBytes c → (outcome pool c).number ≡ 0 → InNodeOrder (outcome pool c).pool
scores_ascend pool bytes c own e =
    let o = (done-lawful pool bytes c e).obeys in (called (obeys_stands o _ (obeys_spelled o)) c (run-bytes c own)).ordered e

pub prepared_ascend : (pool : List ℕ) (t : Tariff) → (prepare_of pool t).number ≡ 0 → InNodeOrder (prepare_of pool t).pool
prepared_ascend = prepare_ordered

-- No order is left: two pools in node order with one tariff and one book have the same closing set.
pub one_closing_set : {pool pool' : List ℕ} (x : InNodeOrder pool) (y : InNodeOrder pool') → x.tariff ≡ y.tariff →
    book_in pool ≡ book_in pool' → newest_checkpoint pool ≡ newest_checkpoint pool'
one_closing_set = one_order

-- Any order opens: of two pools that differ in it alone, each call returns the same number; one stands as the other does, with the same tariff, book
-- and map; and the call answers and charges the same.
pub any_order_opens : {pool pool' : List ℕ} → ReorderedPool pool pool' → (c : Call) → (outcome pool c).number ≡ (outcome pool' c).number
any_order_opens = same_number

pub any_order_stands : {t : Tariff} {pool pool' : List ℕ} {b : Book} {ps : List Pair} → ReorderedPool pool pool' → Stands t pool b ps →
    Stands t pool' b ps
any_order_stands r s = open_stands (reordered_stands r (stands_open s))

module _ {t : Tariff} {pool pool' : List ℕ} {b : Book} {ps : List Pair} (r : ReorderedPool pool pool') (s : Stands t pool b ps)
    (c : Call) (bytes : CallBytes c) where
  pub any_order_answers : answered (outcome pool c) ≡ answered (outcome pool' c)
  any_order_answers = same_answers_lem r c (stands_open s) bytes

  pub any_order_charges : (outcome pool c).charges ≡ (outcome pool' c).charges
  any_order_charges = same_charges r c (stands_open s) bytes
