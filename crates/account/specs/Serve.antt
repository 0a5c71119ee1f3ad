-- The account serves requests (document 01, "Account", from the third sentence on). Assumes nothing.
use Rattle.std.specs.Prelude.{List, [], ◌∷◌, ℕ, ◌+◌, ◌-◌, leb}
use Rattle.laws.specs.Tests.{choose}
use Rattle.account.specs.declared.Mode.TheVariants.{Log}
use Rattle.account.specs.declared.Request.{Request}
use Rattle.account.specs.declared.Tariff.{Tariff}
use Rattle.account.specs.declared.Account.{Account}
use Rattle.account.specs.declared.Served.{Served}
use Rattle.account.specs.Tariff.{other, cost, switch_to, limit}

-- A node just made is in log mode and has no score yet.
abbrev pub fresh : Account
fresh = record { mode = Log; score = 0 }

-- The score that a request leads to: what it costs here is added, what it costs in the other mode taken off, never below 0
-- (a difference of natural numbers is 0 where the second is more).
abbrev pub score_of : Tariff → Account → Request → ℕ
score_of t a q = a.score + cost t a.mode q - cost t (other a.mode) q

-- Served after a switch: the switch is charged beside what the request costs in the other mode, and the score begins again at 0.
abbrev pub switched_of : Tariff → Account → Request → Served
switched_of t a q =
    record {
      account = record { mode = other a.mode; score = 0 };
      charge = switch_to t (other a.mode) + cost t (other a.mode) q;
    }

-- Served without one: what the request costs here is charged, and the score is the one that it led to.
abbrev pub stayed_of : Tariff → Account → Request → ℕ → Served
stayed_of t a q s = record { account = record { mode = a.mode; score = s }; charge = cost t a.mode q }

-- A request served: the switch is made where the score would come to the limit T or more.
unfoldable pub serve_of : Tariff → Account → Request → Served
serve_of t a q = choose (leb (limit t) (score_of t a q)) (switched_of t a q) (stayed_of t a q (score_of t a q))

-- What a list of requests is charged from an account on.
abbrev pub charges_of : Tariff → List Request → Account → ℕ
charges_of t [] a = 0
charges_of t (q ∷ qs) a = (serve_of t a q).charge + charges_of t qs (serve_of t a q).account

-- The account after a list of requests.
abbrev pub account_after : Tariff → List Request → Account → Account
account_after t [] a = a
account_after t (q ∷ qs) a = account_after t qs (serve_of t a q).account
