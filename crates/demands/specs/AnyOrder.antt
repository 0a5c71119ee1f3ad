-- Two pools that differ in the order of their scores alone: what a call asks, and so what it ends with, answers and charges, is the same. Assumes
-- nothing.
use Rattle.std.specs.Prelude.{◌≡◌, refl, List, ◌++◌, ℕ, eqb, length}
use Rattle.std.proofs.Common.{sym, ap, ap₂, ◌∙◌}
use Rattle.layout.specs.Layout.{node_limit}
use Rattle.account.specs.declared.Tariff.{Tariff}
use Rattle.pairs.specs.Pairs.{Pair}
use Rattle.command.specs.declared.Command.{Command}
use Rattle.command.specs.Batch.{commands_of}
use Rattle.book.specs.Book.{Book}
use Rattle.book.specs.Session.{at_first}
use Rattle.book.specs.Batch.{charges_book}
use Rattle.book.specs.OrderedMap.{map_answers}
use Rattle.model.specs.Pool.{pool_length}
use Rattle.model.specs.Questions.{Question, first_no, of_buffers, of_desk}
use Rattle.model.specs.Call.{Call, batch, desk, buffer_of, bytes_run, of_lent, of_last, outcome}
use Rattle.model.specs.Calls.{answered, laid_over, fed_of, commands_by, commands_in}
use Rattle.demands.specs.Ends.{call-first}
use Rattle.demands.specs.CallBytes.{CallBytes, run-bytes}
use Rattle.demands.specs.OneCall.{OpenPool, called}
use Rattle.demands.specs.Reordered.{ReorderedPool, same_blocks, pool-asked, reordered_stands}

-- Beside what is in the pool, a call asks of it its length alone.
pub lent_same : (pool pool' : List ℕ) → length pool ≡ length pool' → (c : Call) → of_lent pool c ≡ of_lent pool' c
unfolding of_buffers of_desk pool_length
lent_same pool pool' e (batch l) = rw e refl
lent_same pool pool' e (desk d) = rw e refl

pub last_same : (pool pool' : List ℕ) → length pool ≡ length pool' → (c : Call) → of_last pool c ≡ of_last pool' c
last_same pool pool' e (batch l) = refl
last_same pool pool' e (desk d) = refl

module _ {pool pool' : List ℕ} (r : ReorderedPool pool pool') (c : Call) where
  pub same_number : (outcome pool c).number ≡ (outcome pool' c).number
  same_number =
      call-first pool c ∙
      ap first_no
      (ap₂ {B = List Question} ◌++◌ (lent_same pool pool' r.length c)
      (ap₂ {B = List Question} ◌++◌ (pool-asked r) (last_same pool pool' r.length c))) ∙
      sym (call-first pool' c)

  same_commands : commands_in (fed_of pool c) ≡ commands_in (fed_of pool' c)
  same_commands = ap (λ (n : ℕ). commands_by (eqb n 0) (commands_of (bytes_run c))) same_number

  module _ {t : Tariff} {b : Book} {ps : List Pair} (o : OpenPool t pool b ps) (bytes : CallBytes c) where
    open_other : OpenPool t pool' b ps
    open_other = reordered_stands r o

    pub same_answers_lem : answered (outcome pool c) ≡ answered (outcome pool' c)
    same_answers_lem =
        (called o c (run-bytes c bytes)).answers ∙
        ap₂ (λ (k : ℕ) (cs : List Command). laid_over (buffer_of c) (map_answers (node_limit k) cs (at_first t) b ps)) (sym (same_blocks r)) same_commands ∙
        sym (called open_other c (run-bytes c bytes)).answers

    pub same_charges : (outcome pool c).charges ≡ (outcome pool' c).charges
    same_charges =
        (called o c (run-bytes c bytes)).charges ∙
        ap₂ (λ (k : ℕ) (cs : List Command). charges_book (node_limit k) cs (at_first t) b) (sym (same_blocks r)) same_commands ∙
        sym (called open_other c (run-bytes c bytes)).charges
