-- The reference model (document 01: the paper book): it "keeps the tree, modes and scores" and never sees a page. Assumes nothing.
use Rattle.std.specs.Prelude.{List, [], ◌∷◌, ℕ, ◌+◌, Option, None, Some}
use Rattle.laws.specs.Update.{update}
use Rattle.account.specs.declared.Request.{Request}
use Rattle.account.specs.declared.Request.TheVariants.{Read, Edit, Rewrite}
use Rattle.account.specs.declared.Tariff.{Tariff}
use Rattle.account.specs.declared.Account.{Account}
use Rattle.account.specs.Serve.{serve_of, fresh}
use Rattle.tree.specs.Table.{Table}
use Rattle.tree.specs.NodeRequest.{NodeRequest, read, edit, rewrite, create, apply, count_after, id_of}

-- How many nodes there are, what each holds, and each one's account: mode and score.
pub record Book : Type 0 where
  pub count : ℕ
  pub table : Table
  pub account : ℕ → Account

-- What Account calls it; "creates .. are free", and no request.
abbrev pub request_of : NodeRequest → Option Request
request_of (read id) = Some Read
request_of (edit id c) = Some Edit
request_of (rewrite id n) = Some Rewrite
request_of (create id n) = None

-- A node's account after a request, and what is charged: Account serves it; "new nodes start in log mode, score 0".
abbrev pub account_by : Tariff → Option Request → Account → Account
account_by t None a = fresh
account_by t (Some q) a = (serve_of t a q).account

abbrev pub charge_by : Tariff → Option Request → Account → ℕ
charge_by t None a = 0
charge_by t (Some q) a = (serve_of t a q).charge

-- One node request, and its charge.
unfoldable pub serve : Tariff → NodeRequest → Book → Book
serve t r b =
    record {
      count = count_after r b.count;
      table = apply r b.table;
      account = update b.account (id_of r) (account_by t (request_of r) (b.account (id_of r)));
    }

unfoldable pub charge : Tariff → NodeRequest → Book → ℕ
charge t r b = charge_by t (request_of r) (b.account (id_of r))

-- A list of node requests: the book after it, the book after each, and the charges summed. "Account serves them in order."
abbrev pub serve_all : Tariff → List NodeRequest → Book → Book
serve_all t [] b = b
serve_all t (r ∷ rs) b = serve_all t rs (serve t r b)

abbrev pub after_each : Tariff → List NodeRequest → Book → List Book
after_each t [] b = []
after_each t (r ∷ rs) b = serve t r b ∷ after_each t rs (serve t r b)

abbrev pub charges : Tariff → List NodeRequest → Book → ℕ
charges t [] b = 0
charges t (r ∷ rs) b = charge t r b + charges t rs (serve t r b)
