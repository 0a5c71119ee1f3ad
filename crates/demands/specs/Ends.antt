-- The ways in which a call ends, whatever the bytes in its buffers: refused with a number, or its work done. Assumes nothing.
use Rattle.std.specs.Prelude.{◌≡◌, Bool, List, [], ◌∷◌, ◌++◌, ℕ, zero, suc, ◌≤◌, length, Option, None, Some}
use Rattle.std.proofs.Math.Path.{refl, sym}
use Rattle.std.proofs.Common.{◌∙◌, arith}
use Rattle.std.proofs.Math.Bool.{true, false}
use borrow.Author.Tests.{eqb-true}
use Rattle.std.proofs.Math.Dec.{eqb}
use Rattle.laws.specs.Tests.{choose, test_clash}
use Rattle.layout.specs.Layout.{node_limit, panels}
use Rattle.account.specs.declared.Tariff.{Tariff}
use Rattle.account.specs.Range.{in_range}
use Rattle.command.specs.Batch.{commands_of}
use Rattle.book.specs.Session.{at_first}
use Rattle.book.specs.InTurn.{no_charges}
use Rattle.book.specs.EachPanel.{length_each}
use Rattle.model.specs.State.{State}
use Rattle.model.specs.Batch.{charge_of}
use Rattle.model.specs.Mount.{Mounted, opened}
use Rattle.model.specs.Prepare.{prepared}
use Rattle.model.specs.Bytes.{bytes_of}
use Rattle.model.specs.Pool.{blocks_of, pool_length, mount_of}
use Rattle.model.specs.Questions.{first_no, of_pool, of_prepare}
use Rattle.model.specs.Outcome as Outcome
use Rattle.model.specs.Outcome.{Outcome, refuse, table_after, Work, work_by, accept, ended}
use Rattle.model.specs.Call.{Call, table_of, buffer_of, bytes_run, of_lent, of_last, questions, work_in, outcome, Prepared, prepared_by, prepare_of}
use Rattle.model.specs.QuestionLaws.{first-behind, front_yes, behind_yes}
use Rattle.model.specs.Passes.{lent-numbered, Passes, lent-passes}
use Rattle.model.specs.MountEnds.{MountEnds, unopened, mounted}
use Rattle.model.proofs.MountEnds.{pool-numbered, mount_ends, opens_yes}

-- Refused: pool and answers are as found. Done: what is lent is right, the pool opens, and the outcome is that of the work.
pub data Ends (pool : List ℕ) (c : Call) : Outcome → Type 0 where
  refused : (n : ℕ) → 1 ≤ n → Ends pool c (refuse n pool (table_of c) (buffer_of c))
  done : (p : Passes pool c) (t : Tariff) (s : State) → mount_of pool ≡ opened t s →
      Ends pool c (accept (blocks_of pool) t p.commands s (table_of c) (buffer_of c))

-- THE CALL: for every byte in every buffer and every length.
module _ (pool : List ℕ) (c : Call) where
  abbrev ended_by : ℕ → Outcome
  ended_by n = ended n (work_in pool c) pool (table_of c) (buffer_of c)

  work-done : (p : Passes pool c) {n : ℕ} {m : Mounted} → MountEnds n m → n ≡ 0 → mount_of pool ≡ m →
      Ends pool c (Outcome.done (work_by (commands_of (bytes_run c)) m) pool (table_of c) (buffer_of c))
  work-done p (unopened n l h) z e = absurd (omega arith)
  work-done p (mounted t s) z e = rw p.are (done p t s e)

  all_yes : first_no (questions pool c) ≡ 0 → Ends pool c (ended_by 0)
  all_yes e =
      let rest = behind_yes (of_lent pool c) (of_pool pool ++ of_last pool c) (lent-numbered pool c) e in
      work-done (lent-passes pool c (front_yes (of_lent pool c) (of_pool pool ++ of_last pool c) (lent-numbered pool c) e)) (mount_ends pool)
      (front_yes (of_pool pool) (of_last pool c) (pool-numbered pool) rest) refl

  some_number : (n : ℕ) → eqb n 0 ≡ false → 1 ≤ n
  some_number zero z = absurd (test_clash (eqb 0 0) refl z)
  some_number (suc n) z = omega arith

  pub call_ends : Ends pool c (outcome pool c)
  unfolding outcome
  call_ends = go (first_no (questions pool c)) refl (eqb (first_no (questions pool c)) 0) refl
    where
      go : (n : ℕ) → first_no (questions pool c) ≡ n → (b : Bool) → eqb n 0 ≡ b →
          Ends pool c (choose b (Outcome.done (work_in pool c) pool (table_of c) (buffer_of c)) (refuse n pool (table_of c) (buffer_of c)))
      go n e true z = all_yes (e ∙ eqb-true n 0 z)
      go n e false z = refused n (some_number n z)

  -- It ends with the number of the first question that is answered with no, and with 0 where there is none.
  pub call-first : (outcome pool c).number ≡ first_no (questions pool c)
  unfolding outcome
  call-first = go (first_no (questions pool c)) (eqb (first_no (questions pool c)) 0) refl (work_in pool c)
    where
      go : (n : ℕ) (b : Bool) → eqb n 0 ≡ b → (w : Option Work) →
          (choose {A = Outcome} b (Outcome.done w pool (table_of c) (buffer_of c)) (refuse n pool (table_of c) (buffer_of c))).number ≡ n
      go n true z None = sym (eqb-true n 0 z)
      go n true z (Some w) = sym (eqb-true n 0 z)
      go n false z w = refl

-- "After refusals 1 and 2 the work table too" is as found; "otherwise its first 1,024 × B bytes are zero".
pub ends_table : {pool : List ℕ} {c : Call} {o : Outcome} → Ends pool c o → o.table ≡ table_after o.number (blocks_of pool) (table_of c)
ends_table (refused n l) = refl
ends_table (done p t s e) = refl

-- "The batch returns 16 charges", whatever it ends with.
pub ends_panels : {pool : List ℕ} {c : Call} {o : Outcome} → Ends pool c o → length o.charges ≡ panels
ends_panels (refused n l) = length_each (λ q. 0)
ends_panels {pool} (done p t s e) = length_each (λ k. charge_of (node_limit (blocks_of pool)) k p.commands (at_first t) s)

-- A refusal changes and returns nothing.
pub record Unchanged (before buffer : List ℕ) (o : Outcome) : Type 0 where
  pub pool : o.pool ≡ before
  pub answers : o.answers ≡ buffer
  pub length : o.length ≡ 0
  pub charges : o.charges ≡ no_charges

pub refused-found : {pool : List ℕ} {c : Call} {o : Outcome} → Ends pool c o → 1 ≤ o.number → Unchanged pool (buffer_of c) o
refused-found (refused n l) r = record { pool = refl; answers = refl; length = refl; charges = refl }
refused-found (done p t s e) r = absurd (omega arith)

-- An accepted call.
pub record Accepted (pool : List ℕ) (c : Call) : Type 0 where
  pub passes : Passes pool c
  pub tariff : Tariff
  pub start : State
  pub opens : mount_of pool ≡ opened tariff start

pub accepted_ends : (pool : List ℕ) (c : Call) → (outcome pool c).number ≡ 0 → Accepted pool c
accepted_ends pool c z = go z (call_ends pool c)
  where
    go : {o : Outcome} → o.number ≡ 0 → Ends pool c o → Accepted pool c
    go e (refused n l) = absurd (omega arith)
    go e (done p t s m) = record { passes = p; tariff = t; start = s; opens = m }

-- A call whose pool opens is done, where all its other questions are answered with yes.
pub opened-done : (pool : List ℕ) (c : Call) → first_no (of_lent pool c) ≡ 0 → first_no (of_last pool c) ≡ 0 → {t : Tariff} {s : State} →
    mount_of pool ≡ opened t s → (outcome pool c).number ≡ 0
opened-done pool c lent last e =
    call-first pool c ∙ first-behind (of_lent pool c) (of_pool pool ++ of_last pool c) (lent-numbered pool c) lent ∙
    first-behind (of_pool pool) (of_last pool c) (pool-numbered pool) (opens_yes pool e) ∙ last

-- PREPARE: refused, and then the pool is as found; or done.
pub data Prepares (pool : List ℕ) (t : Tariff) : Prepared → Type 0 where
  refused : (n : ℕ) → 1 ≤ n → Prepares pool t (record { number = n; pool = pool })
  fresh : in_range t ≡ true → pool_length pool ≡ true → Prepares pool t (record { number = 0; pool = bytes_of (prepared (blocks_of pool) t) })

pub prepare_ends : (pool : List ℕ) (t : Tariff) → Prepares pool t (prepare_of pool t)
unfolding prepare_of of_prepare
prepare_ends pool t = go (pool_length pool) refl (in_range t) refl
  where
    go : (a : Bool) → pool_length pool ≡ a → (b : Bool) → in_range t ≡ b → Prepares pool t (prepared_by (first_no ((1, a) ∷ (10, b) ∷ [])) pool t)
    go false p b q = refused 1 (omega arith)
    go true p false q = refused 10 (omega arith)
    go true p true q = fresh q p

pub prepare_first : (pool : List ℕ) (t : Tariff) → (prepare_of pool t).number ≡ first_no (of_prepare pool t)
unfolding prepare_of of_prepare
prepare_first pool t = go (pool_length pool) (in_range t)
  where
    go : (a b : Bool) → (prepared_by (first_no ((1, a) ∷ (10, b) ∷ [])) pool t).number ≡ first_no ((1, a) ∷ (10, b) ∷ [])
    go false b = refl
    go true false = refl
    go true true = refl

pub prepare_found : {pool : List ℕ} {t : Tariff} {p : Prepared} → Prepares pool t p → 1 ≤ p.number → p.pool ≡ pool
prepare_found (refused n l) r = refl
prepare_found (fresh q l) r = absurd (omega arith)
