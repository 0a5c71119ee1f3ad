-- The state of a batch that runs over the flash store, and what it says as a book of the reference model. Contents and modes are read
-- from the pages and the buffer of the moment, so they are the ones the nodes really have. Assumes nothing.
use Rattle.std.specs.Prelude.{List, [], ◌∷◌, ℕ, ◌+◌, ltb}
use Rattle.laws.specs.Tests.{choose}
use Rattle.laws.specs.Update.{update}
use Rattle.account.specs.declared.Mode.{Mode}
use Rattle.account.specs.declared.Tariff.{Tariff}
use Rattle.account.specs.Serve.{fresh}
use Rattle.tree.specs.NodeRequest.{NodeRequest, read, edit, rewrite, create, id_of}
use Rattle.store.specs.Store.{no_node, node_of, mode_of}
use Rattle.store.specs.Run.{Run}
use Rattle.store.specs.Serve as Store
use Rattle.book.specs.Book.{Book, request_of, account_by, charge}

-- The run over the store, and the score of each node.
pub record State : Type 0 where
  pub run : Run
  pub score : ℕ → ℕ

-- What a state says as a book. At ids that no node has there is no node, and a new node's account.
unfoldable pub book_of : State → Book
book_of s =
    record {
      count = s.run.nodes;
      table = λ n. choose (ltb n s.run.nodes) (node_of s.run.now n) no_node;
      account = λ n. choose (ltb n s.run.nodes) (record { mode = mode_of s.run.now n; score = s.score n }) fresh;
    }

-- What a node request writes, in the mode that serves it.
abbrev pub write : Mode → NodeRequest → Run → Run
write mode (read n) run = Store.serve mode n Store.read run
write mode (edit n c) run = Store.serve mode n (Store.edit c) run
write mode (rewrite n x) run = Store.serve mode n (Store.rewrite x) run
write mode (create n x) run = Store.create n x run

-- One node request: Account serves it from the mode that the store says and the score, and it is written in the mode then.
unfoldable pub serve : Tariff → NodeRequest → State → State
serve t r s =
    let account = account_by t (request_of r) ((book_of s).account (id_of r)) in
    record { run = write account.mode r s.run; score = update s.score (id_of r) account.score }

-- A list of node requests: the state after it, the state after each, and the charges summed.
abbrev pub serve_all : Tariff → List NodeRequest → State → State
serve_all t [] s = s
serve_all t (r ∷ rs) s = serve_all t rs (serve t r s)

abbrev pub after_each : Tariff → List NodeRequest → State → List State
after_each t [] s = []
after_each t (r ∷ rs) s = serve t r s ∷ after_each t rs (serve t r s)

abbrev pub charges : Tariff → List NodeRequest → State → ℕ
charges t [] s = 0
charges t (r ∷ rs) s = charge t r (book_of s) + charges t rs (serve t r s)
