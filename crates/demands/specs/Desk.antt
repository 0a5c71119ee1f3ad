-- A call of the desk (document 02, P5): it is the batch of the joined bytes, or it is refused before these are asked about. Assumes nothing.
use Rattle.std.specs.Prelude.{◌≡◌, Bool, List, [], ◌∷◌, ◌++◌, ℕ, ◌≤◌, leb, length, None, Some}
use Rattle.std.proofs.Math.Path.{refl, ap}
use Rattle.std.proofs.Common.{◌∙◌, arith}
use Rattle.std.proofs.Math.Bool.{true, false}
use borrow.Author.Tests.{le-leb}
use Rattle.laws.specs.Options.{none_some}
use Rattle.laws.specs.Tests.{choose}
use Rattle.layout.specs.Layout.{table_bytes, panels}
use Rattle.command.specs.declared.Command.{Command}
use Rattle.command.specs.Batch.{commands_of}
use Rattle.desk_queues.specs.Queues.{queues_in, fills, queues_of}
use Rattle.desk_queues.specs.Joined.{joined_bytes, joined_of, joined_by, joined_read}
use Rattle.model.specs.Pool.{blocks_of, pool_length}
use Rattle.model.specs.Questions.{Question, first_no, of_buffers, of_desk, of_pool}
use Rattle.model.specs.Outcome.{Outcome, table_after}
use Rattle.model.specs.Call.{Call, batch, desk, outcome, batch_of, desk_of}
use Rattle.demands.specs.Ends.{call_ends, call-first, ends_table, ends_panels, Unchanged, refused-found}

module _ (pool table lengths queues buffer : List ℕ) where
  abbrev call : Call
  call = desk (record { table = table; lengths = lengths; queues = queues; buffer = buffer })

  -- "THE JOINED BYTES RUN AS ONE BATCH, with its length limit and all its questions": number, pool, table, answers, length and sixteen charges.
  module _ (qs : List (List ℕ)) (bytes : List ℕ) (cut : queues_of lengths queues ≡ Some qs) (joins : joined_of qs ≡ Some bytes) where
    fill : fills lengths queues ≡ true
    unfolding queues_of
    fill = go (fills lengths queues) refl cut
      where
        go : (b : Bool) → fills lengths queues ≡ b → choose b (Some (queues_in lengths queues)) None ≡ Some qs → fills lengths queues ≡ true
        go true e f = e
        go false e f = absurd (none_some f)

    same_first : (rest : List Question) → first_no (of_desk pool table lengths queues buffer ++ rest) ≡ first_no (of_buffers pool table bytes buffer ++ rest)
    unfolding of_desk of_buffers
    same_first rest = rw (fill, cut, joins) refl

    pub desk_is_batch : desk_of pool table lengths queues buffer ≡ batch_of pool table bytes buffer
    unfolding outcome
    desk_is_batch = rw (same_first (of_pool pool ++ []), cut, joins) refl

  -- What is asked where there are no joined bytes: 1, 2, and 11 "between 2 and 3"; and 3, of the queues, with a no.
  abbrev pub of_queues : List Question
  of_queues = (1, pool_length pool) ∷ (2, leb (table_bytes (blocks_of pool)) (length table)) ∷ (11, fills lengths queues) ∷ (3, false) ∷ []

  some_no : 1 ≤ first_no of_queues
  some_no = go (pool_length pool) (leb (table_bytes (blocks_of pool)) (length table)) (fills lengths queues)
    where
      go : (a b f : Bool) → 1 ≤ first_no ((1, a) ∷ (2, b) ∷ (11, f) ∷ (3, false) ∷ [])
      go false b f = omega arith
      go true false f = omega arith
      go true true false = omega arith
      go true true true = omega arith

  pub record DeskRefused (o : Outcome) : Type 0 where
    pub number : o.number ≡ first_no of_queues
    pub refused : 1 ≤ o.number
    pub found : Unchanged pool buffer o
    pub sixteen : length o.charges ≡ panels
    pub table_left : o.table ≡ table_after o.number (blocks_of pool) table

  module _ (none-joined : joined_by (queues_of lengths queues) ≡ None) where
    ends_with : (desk_of pool table lengths queues buffer).number ≡ first_no of_queues
    unfolding of_desk
    ends_with = rw (ap joined_read none-joined) at (call-first pool call)

    pub desk_ends : DeskRefused (desk_of pool table lengths queues buffer)
    desk_ends =
        let e = call_ends pool call in
        let l : 1 ≤ (outcome pool call).number = omega (arith, ends_with, some_no) in
        record { number = ends_with; refused = l; found = refused-found e l; sixteen = ends_panels e; table_left = ends_table e }

  -- Joined bytes that are no batch, where 1, 2 and 11 are passed: 3.
  pub too_long : (qs : List (List ℕ)) (css : List (List Command)) → pool_length pool ≡ true → table_bytes (blocks_of pool) ≤ length table →
      queues_of lengths queues ≡ Some qs → joined_of qs ≡ Some (joined_bytes css) → commands_of (joined_bytes css) ≡ None →
      (desk_of pool table lengths queues buffer).number ≡ 3
  unfolding of_buffers
  too_long qs css p u cut joins long =
      ap (λ (o : Outcome). o.number) (desk_is_batch qs (joined_bytes css) cut joins) ∙
      (rw (p, le-leb (table_bytes (blocks_of pool)) (length table) u, long) at
      (call-first pool (batch (record { table = table; batch = joined_bytes css; buffer = buffer }))))
