-- Many nodes over time: each is made once, ids without gaps, and its requests come among those of the others. Assumes nothing.
use Rattle.std.specs.Prelude.{List, [], ◌∷◌, ℕ, suc, ◌+◌, ◌<◌}
use Rattle.laws.specs.Update.{update}
use Rattle.account.specs.declared.Mode.{Mode}
use Rattle.account.specs.declared.Mode.TheVariants.{Log}
use Rattle.account.specs.declared.Request.{Request}
use Rattle.account.specs.declared.Tariff.{Tariff}
use Rattle.account.specs.declared.Account.{Account}
use Rattle.account.specs.Serve.{serve_of, fresh}
use Rattle.account.specs.Schedule.{Schedule, pay_for}

-- A request of the node with an id, or the node of the next id made.
pub data Event : Type 0 where
  asks : ℕ → Request → Event
  makes : Event

-- How many nodes a list of events makes.
abbrev pub made : List Event → ℕ
made [] = 0
made (asks id q ∷ es) = made es
made (makes ∷ es) = suc (made es)

-- Every request is of a node made before it, where `nodes` were made before the list.
abbrev pub Known : ℕ → List Event → Type 0
Known nodes [] = Unit {0}
Known nodes (asks id q ∷ es) = (id < nodes) × Known nodes es
Known nodes (makes ∷ es) = Known (suc nodes) es

-- The table of accounts after a request of a node, and after the next node is made.
abbrev pub accounts_served : Tariff → (ℕ → Account) → ℕ → Request → ℕ → Account
accounts_served t accounts id q = update accounts id (serve_of t (accounts id) q).account

abbrev pub accounts_made : (ℕ → Account) → ℕ → ℕ → Account
accounts_made accounts nodes = update accounts nodes fresh

-- What all nodes are charged; that a node is made costs nothing.
abbrev pub charges_all : Tariff → List Event → ℕ → (ℕ → Account) → ℕ
charges_all t [] nodes accounts = 0
charges_all t (asks id q ∷ es) nodes accounts =
    (serve_of t (accounts id) q).charge + charges_all t es nodes (accounts_served t accounts id q)
charges_all t (makes ∷ es) nodes accounts = charges_all t es (suc nodes) (accounts_made accounts nodes)

-- What a schedule pays for all nodes: it names a mode for every request, by the request's index in the whole list, and a node's
-- mode before its first request is log.
abbrev pub paid_all : Tariff → Schedule → List Event → ℕ → ℕ → (ℕ → Mode) → ℕ
paid_all t plan [] i nodes modes = 0
paid_all t plan (asks id q ∷ es) i nodes modes =
    pay_for t (modes id) (plan i) q + paid_all t plan es (suc i) nodes (update modes id (plan i))
paid_all t plan (makes ∷ es) i nodes modes = paid_all t plan es i (suc nodes) (update modes nodes Log)
