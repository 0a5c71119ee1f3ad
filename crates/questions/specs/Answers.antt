-- What each answer of the code says of a list of questions. Assumes nothing.
use Rattle.std.specs.Prelude.{◌≡◌, true, false, List, ◌++◌, ℕ, ◌≤◌, ◌<◌, length, Option, None, Some}
use Rattle.std.proofs.Math.Path.{refl}
use Rattle.std.proofs.Common.{sym, ap, ◌∙◌, arith, le-leb}
use Rattle.std.proofs.lemmas.Bool.{lt-leb}
use Rattle.laws.specs.Options.{none_some, some_same}
use Rattle.layout.specs.Layout.{table_bytes}
use Rattle.account.specs.declared.Tariff.{Tariff}
use Rattle.account.specs.Range.{in_range}
use Rattle.command.specs.declared.Asked.{Asked}
use Rattle.command.specs.declared.Command.{Command}
use Rattle.command.specs.Batch.{commands_of, room_for_all, asked_as, asked_of}
use Rattle.model.specs.Pool.{blocks_of, pool_length}
use Rattle.model.specs.PoolLaws.{IsPool}
use Rattle.model.specs.Questions.{Question, first_no, of_sizes, of_commands, of_prepare}
use Rattle.model.specs.QuestionLaws.{first-front, first-behind}

-- 1, 2, or neither.
module _ (pool table : List ℕ) where
  pub one : pool_length pool ≡ false → 1 ≡ first_no (of_sizes pool table)
  one e = rw e refl

  module _ (h : IsPool pool) where
    pub two : length table < table_bytes (blocks_of pool) → 2 ≡ first_no (of_sizes pool table)
    two l = rw (h.question, lt-leb (table_bytes (blocks_of pool)) (length table) l) refl

    pub neither : table_bytes (blocks_of pool) ≤ length table → 0 ≡ first_no (of_sizes pool table)
    neither l = rw (h.question, le-leb (table_bytes (blocks_of pool)) (length table) l) refl

  -- A no of these ends the call; else what is behind them decides.
  module _ (n : ℕ) (is : n ≡ first_no (of_sizes pool table)) (rest : List Question) where
    pub sizes_no : (n ≡ 0 → ⊥) → n ≡ first_no (of_sizes pool table ++ rest)
    sizes_no d = is ∙ sym (first-front (of_sizes pool table) rest (omega (arith, is, d)))

    pub sizes-right : n ≡ 0 → (k : ℕ) → k ≡ first_no rest → k ≡ first_no (of_sizes pool table ++ rest)
    sizes-right z k e = e ∙ sym (first-behind (of_sizes pool table) rest refl (sym is ∙ z))

-- 3, 4, or neither.
module _ (buffer : List ℕ) where
  pub three : (o : Option (List Command)) → o ≡ None → 3 ≡ first_no (of_commands o buffer)
  three o e = rw e refl

  module _ (o : Option (List Command)) (cs : List Command) (e : o ≡ Some cs) where
    pub four : length buffer < room_for_all cs → 4 ≡ first_no (of_commands o buffer)
    four l = rw (e, lt-leb (room_for_all cs) (length buffer) l) refl

    pub none_left : room_for_all cs ≤ length buffer → 0 ≡ first_no (of_commands o buffer)
    none_left l = rw (e, le-leb (room_for_all cs) (length buffer) l) refl

-- What `asked` tells of the commands of a batch.
told_none : (o : Option (List Command)) → None ≡ asked_as o → o ≡ None
told_none None e = refl
told_none (Some cs) e = absurd (none_some e)

told_some : (o : Option (List Command)) (wanted : Asked) → Some wanted ≡ asked_as o → (cs : List Command) × (o ≡ Some cs) × (room_for_all cs ≡ wanted.room)
told_some None wanted e = absurd (none_some (sym e))
told_some (Some cs) wanted e = (cs, refl, sym (ap (λ (a : Asked). a.room) (some_same e)))

module _ (batch : List ℕ) where
  pub not_valid : None ≡ asked_of batch → commands_of batch ≡ None
  unfolding asked_of
  not_valid e = told_none (commands_of batch) e

  pub asks_for : (wanted : Asked) → Some wanted ≡ asked_of batch → (cs : List Command) × (commands_of batch ≡ Some cs) × (room_for_all cs ≡ wanted.room)
  unfolding asked_of
  asks_for wanted e = told_some (commands_of batch) wanted e

-- Of a prepare: 1, 10, or neither.
module _ (pool : List ℕ) (t : Tariff) where
  pub prepare_one : pool_length pool ≡ false → 1 ≡ first_no (of_prepare pool t)
  unfolding of_prepare
  prepare_one e = rw e refl

  module _ (h : IsPool pool) where
    pub prepare_ten : in_range t ≡ false → 10 ≡ first_no (of_prepare pool t)
    unfolding of_prepare
    prepare_ten e = rw (h.question, e) refl

    pub prepare_neither : in_range t ≡ true → 0 ≡ first_no (of_prepare pool t)
    unfolding of_prepare
    prepare_neither e = rw (h.question, e) refl
