-- The part of the table that is lent comes back zero, and so the whole table is as the definition says. Assumes nothing.
use Rattle.std.specs.Prelude.{◌≡◌, Bool, true, false, List, ℕ, ◌-◌, ◌≤◌, eqb, length, take, drop, Option, None, Some}
use Rattle.std.proofs.Common.{sym, ap, ◌∙◌, arith, length-take-le}
use Rattle.std.proofs.Math.Nat.{sub-zero}
use Rattle.std.proofs.lemmas.List.{length-replicate}
use borrow.Rule.Slice.PartMut.{put_mid}
use Rattle.laws.specs.Lay.{lay, lay-lent}
use Rattle.laws.specs.Tests.{choose}
use Rattle.layout.specs.Layout.{table_bytes}
use Rattle.model.specs.Pool.{blocks_of}
use Rattle.model.specs.Questions.{first_no, of_pool}
use Rattle.model.specs.Outcome.{refuse, Work, done, ended}
use Rattle.model.proofs.OutcomeLaws.{pool-table}
use Rattle.batch.specs.Left.{Outcome, Leaves}
use Rattle.batch.specs.Closed.{zeros}
use Rattle.batch.specs.Work.{cleared-whole}

length-zeros : (n : ℕ) → length (zeros n) ≡ n
length-zeros n = length-replicate {A = ℕ} n 0

-- The first bytes lent.
pub lent_length : (table : List ℕ) (bytes : ℕ) → bytes ≤ length table → length (take (bytes - 0) (drop 0 table)) ≡ bytes
lent_length table bytes l = length-take-le (bytes - 0) (drop 0 table) (rw sub-zero l) ∙ sub-zero bytes

-- .. and given back as zeros.
lent-zero : (table : List ℕ) (bytes : ℕ) (part : List ℕ) → part ≡ zeros bytes → put_mid 0 (bytes - 0) table part ≡ lay table 0 (zeros bytes)
lent-zero table bytes part e =
    lay-lent 0 bytes table part (omega arith) (ap length e ∙ length-zeros bytes ∙ sym (sub-zero bytes)) ∙ ap (lay table 0) e

-- What is left of two tables differs by the table alone.
module _ (pool part table answers : List ℕ) {r : Outcome} {left rest replies charges : List ℕ} (whole : List ℕ) where
  widened : (n : ℕ) (w : Option Work) → Leaves (ended n w pool part answers) r left rest replies charges →
      whole ≡ (ended n w pool table answers).table → Leaves (ended n w pool table answers) r left whole replies charges
  widened n w h e = go (eqb n 0) w h e
    where
      go : (b : Bool) (w : Option Work) → Leaves (choose b (done w pool part answers) (refuse n pool part answers)) r left rest replies charges →
          whole ≡ (choose b (done w pool table answers) (refuse n pool table answers)).table →
          Leaves (choose b (done w pool table answers) (refuse n pool table answers)) r left whole replies charges
      go true None h e =
          record { number = h.number; pool = h.pool; cleared = e; replies = h.replies; long = h.long; paid = h.paid; sixteen = h.sixteen }
      go true (Some w) h e =
          record { number = h.number; pool = h.pool; cleared = e; replies = h.replies; long = h.long; paid = h.paid; sixteen = h.sixteen }
      go false w h e =
          record { number = h.number; pool = h.pool; cleared = e; replies = h.replies; long = h.long; paid = h.paid; sixteen = h.sixteen }

-- The work done in the part that is lent is the work done in the whole table.
pub lent-work : (w : Option Work) (pool table answers : List ℕ) (bytes : ℕ) → bytes ≡ table_bytes (blocks_of pool) → bytes ≤ length table →
    {r : Outcome} {left rest replies charges : List ℕ} →
    Leaves (ended (first_no (of_pool pool)) w pool (take (bytes - 0) (drop 0 table)) answers) r left rest replies charges →
    Leaves (ended (first_no (of_pool pool)) w pool table answers) r left (put_mid 0 (bytes - 0) table rest) replies charges
lent-work w pool table answers bytes e l {rest = rest} h =
    let part : List ℕ = take (bytes - 0) (drop 0 table) in
    let long : length part ≡ bytes = lent_length table bytes l in
    let zero : rest ≡ zeros bytes = h.cleared ∙ pool-table pool w part answers ∙ cleared-whole (blocks_of pool) part (long ∙ e) ∙ ap zeros long in
    widened pool part table answers (put_mid 0 (bytes - 0) table rest) (first_no (of_pool pool)) w h
    (lent-zero table bytes rest zero ∙ ap (λ (n : ℕ). lay table 0 (zeros n)) e ∙ sym (pool-table pool w table answers))
