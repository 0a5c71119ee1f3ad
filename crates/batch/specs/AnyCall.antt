-- A call of any kind, put together from its two ways out: refused for what is lent, or its work done. Assumes nothing.
use Rattle.std.specs.Prelude.{◌≡◌, List, [], ℕ, ◌≤◌, ◌<◌, ◌-◌, take, drop, Option, Some}
use Rattle.std.proofs.Common.{sym, ap, ◌∙◌, subst, arith}
use borrow.Rule.Slice.PartMut.{put_mid}
use Rattle.layout.specs.Layout.{table_bytes}
use Rattle.command.specs.declared.Command.{Command}
use Rattle.command.specs.Batch.{commands_of}
use Rattle.book.specs.InTurn.{no_charges}
use Rattle.model.specs.Pool.{blocks_of, mount_of}
use Rattle.model.specs.Questions.{first_no, of_pool}
use Rattle.model.specs.Outcome as Model
use Rattle.model.specs.Outcome.{work_by, ended}
use Rattle.model.specs.Call.{Call, table_of, buffer_of, bytes_run, of_lent, of_last, outcome}
use Rattle.model.specs.Passes.{Sizes, lent-sizes, Passes, lent-passes}
use Rattle.model.proofs.OutcomeLaws.{lent-refuses, lent-right, table-found, table-cleared}
use Rattle.batch.specs.Left.{Outcome, refused_with, Leaves, left_as, refused-leaves}
use Rattle.batch.specs.Closed.{Refused}
use Rattle.batch.specs.Lent.{lent-work}

-- What `refuse` leaves: the table as found, or its first bytes zero.
pub refused-kept : {pool table : List ℕ} {n : ℕ} {r : Outcome} → 1 ≤ n → n < 3 → r ≡ refused_with n → Refused pool table table n r
refused-kept {pool} {table} {n} l m e = record { says = e; left = sym (table-found n (blocks_of pool) table l m) }

pub refused-wiped : {pool table table' : List ℕ} {n : ℕ} {r : Outcome} → 3 ≤ n → r ≡ refused_with n → table' ≡ Model.cleared (blocks_of pool) table →
    Refused pool table table' n r
refused-wiped {pool} {table} {n = n} l e f = record { says = e; left = f ∙ sym (table-cleared n (blocks_of pool) table l) }

-- Of a call, and the number that its questions of what is lent end with:
module _ (pool : List ℕ) (c : Call) (n : ℕ) (is : n ≡ first_no (of_lent pool c)) where
  -- REFUSED.
  module _ (no : n ≡ 0 → ⊥) where
    pub may_refuse : (1 ≤ n) × (3 ≤ n → Sizes pool (table_of c))
    may_refuse = (omega (arith, no), λ l. lent-sizes pool c (omega (arith, is, l)))

    pub call-refused : {table' charges : List ℕ} {r : Outcome} → Refused pool (table_of c) table' n r → charges ≡ no_charges →
        Leaves (outcome pool c) r pool table' (buffer_of c) charges
    call-refused {table'} {charges} {r} x zero =
        subst (λ (right : Model.Outcome). Leaves right r pool table' (buffer_of c) charges)
        (ap (λ (k : ℕ). Model.refuse k pool (table_of c) (buffer_of c)) is ∙ sym (lent-refuses pool c (omega (arith, is, no))))
        (left_as x.says (refused-leaves n pool (table_of c) table' (buffer_of c) charges x.left zero))

  -- WORKED, in the part of the table that is lent; a call that asks nothing behind the pool's questions.
  module _ (z : n ≡ 0) where
    pub call_passes : Passes pool c
    call_passes = lent-passes pool c (sym is ∙ z)

    module _ (nothing : of_last pool c ≡ []) (cs : List Command) (are : commands_of (bytes_run c) ≡ Some cs) (bytes : ℕ)
        (size : bytes ≡ table_bytes (blocks_of pool)) where
      abbrev left : List ℕ → Model.Outcome
      left table = ended (first_no (of_pool pool)) (work_by (Some cs) (mount_of pool)) pool table (buffer_of c)

      ends : outcome pool c ≡ left (table_of c)
      ends =
          lent-right pool c (sym is ∙ z) nothing ∙
          ap (λ (o : Option (List Command)). ended (first_no (of_pool pool)) (work_by o (mount_of pool)) pool (table_of c) (buffer_of c)) are

      pub call_worked : {r : Outcome} {pool' rest replies charges : List ℕ} →
          Leaves (left (take (bytes - 0) (drop 0 (table_of c)))) r pool' rest replies charges →
          Leaves (outcome pool c) r pool' (put_mid 0 (bytes - 0) (table_of c) rest) replies charges
      call_worked {r} {pool'} {rest} {replies} {charges} h =
          subst (λ (o : Model.Outcome). Leaves o r pool' (put_mid 0 (bytes - 0) (table_of c) rest) replies charges) (sym ends)
          (lent-work (work_by (Some cs) (mount_of pool)) pool (table_of c) (buffer_of c) bytes size (omega (arith, size, call_passes.table)) h)
