-- DEMAND 1. "Any caller, any bytes in any buffer: the work is done, or one numbered refusal, and a refusal leaves pool and answers as found."
-- Assumes nothing.
use Rattle.std.specs.Prelude.{◌≡◌, List, ℕ, ◌≤◌, length}
use Rattle.layout.specs.Layout.{panels}
use Rattle.account.specs.declared.Tariff.{Tariff}
use Rattle.book.specs.InTurn.{no_charges}
use Rattle.model.specs.Pool.{blocks_of}
use Rattle.model.specs.Questions.{first_no, of_prepare}
use Rattle.model.specs.Outcome.{Outcome, table_after}
use Rattle.model.specs.Call.{Call, table_of, buffer_of, questions, outcome, Prepared, prepare_of}
use Rattle.demands.specs.Ends.{call-first, call_ends, ends_table, ends_panels, refused-found, prepare_first, prepare_ends, prepare_found}

-- Of a call, whatever its kind: a batch, or a desk, whose questions have 11 "between 2 and 3".
pub record DemandOne (pool : List ℕ) (c : Call) (o : Outcome) : Type 0 where
  -- the number of the first question that is answered with no: so those before it passed; and 0 where there is none
  pub number : o.number ≡ first_no (questions pool c)
  pub same_pool : 1 ≤ o.number → o.pool ≡ pool
  pub same_answers : 1 ≤ o.number → o.answers ≡ buffer_of c
  -- "A refused call returns its number, and 0" for the length; of the charges, document 02, P2: "16 charges .., all 0 when refused."
  pub no_length : 1 ≤ o.number → o.length ≡ 0
  pub sixteen : length o.charges ≡ panels
  pub no_charge : 1 ≤ o.number → o.charges ≡ no_charges
  -- "After refusals 1 and 2 the work table too; otherwise its first 1,024 × B bytes are zero .. and bytes beyond are untouched."
  pub table_left : o.table ≡ table_after o.number (blocks_of pool) (table_of c)

pub demand_one : (pool : List ℕ) (c : Call) → DemandOne pool c (outcome pool c)
demand_one pool c =
    let e = call_ends pool c in
    record {
      number = call-first pool c;
      same_pool = λ r. (refused-found e r).pool;
      same_answers = λ r. (refused-found e r).answers;
      no_length = λ r. (refused-found e r).length;
      sixteen = ends_panels e;
      no_charge = λ r. (refused-found e r).charges;
      table_left = ends_table e;
    }

-- Of a prepare, which has no table and no answers.
pub record DemandOnePrepare (pool : List ℕ) (t : Tariff) (p : Prepared) : Type 0 where
  pub number : p.number ≡ first_no (of_prepare pool t)
  pub same_pool : 1 ≤ p.number → p.pool ≡ pool

pub demand_one_prepare : (pool : List ℕ) (t : Tariff) → DemandOnePrepare pool t (prepare_of pool t)
demand_one_prepare pool t = record { number = prepare_first pool t; same_pool = prepare_found (prepare_ends pool t) }
