-- What a caller of `serve` goes by: the result is the definition's, its score is below the limit T again, and its charge is at
-- most two million: a switch and a request, each at most a million. Assumes nothing.
use Rattle.std.specs.Prelude.{◌≡◌, List, [], ◌∷◌, ◌⊎◌, ℕ, ◌*◌, ◌≤◌, ◌<◌, length}
use Rattle.std.proofs.Common.{inl, inr, arith, le-leb}
use Rattle.std.proofs.lemmas.Bool.{lt-leb}
use Rattle.laws.specs.Order.{le_or}
use Rattle.account.specs.declared.Request.{Request}
use Rattle.account.specs.declared.Tariff.{Tariff}
use Rattle.account.specs.declared.Account.{Account}
use Rattle.account.specs.declared.Served.{Served}
use Rattle.account.specs.Tariff.{other, limit}
use Rattle.account.specs.Range.{most_cost, Ranged, costs_bounded, cost_of_le, limit_some}
use Rattle.account.specs.Serve.{score_of, switched_of, stayed_of, serve_of, charges_of, account_after}

-- The most that one request is charged.
abbrev pub most_charge : ℕ
most_charge = 2 * most_cost

pub record Accounted (t : Tariff) (a : Account) (q : Request) (r : Served) : Type 0 where
  pub is : r ≡ serve_of t a q
  pub low : r.account.score < limit t
  pub most : r.charge ≤ most_charge

module _ (t : Tariff) (a : Account) (q : Request) where
  -- The two ways in which a request is served.
  pub serve-switched : limit t ≤ score_of t a q → serve_of t a q ≡ switched_of t a q
  unfolding serve_of
  serve-switched h = rw (le-leb (limit t) (score_of t a q) h)

  pub serve_stayed : score_of t a q < limit t → serve_of t a q ≡ stayed_of t a q (score_of t a q)
  unfolding serve_of
  serve_stayed h = rw (lt-leb (limit t) (score_of t a q) h)

  -- The score after a request is below the limit T, whatever it was before, where the limit is a number to come to.
  pub serve_low : 0 < limit t → (serve_of t a q).account.score < limit t
  serve_low p = go (le_or (limit t) (score_of t a q))
    where
      go : (limit t ≤ score_of t a q) ⊎ (score_of t a q < limit t) → (serve_of t a q).account.score < limit t
      go (inl h) = rw (serve-switched h) p
      go (inr h) = rw (serve_stayed h) h

  pub serve_most : Ranged t → (serve_of t a q).charge ≤ most_charge
  serve_most r = go (le_or (limit t) (score_of t a q))
    where
      go : (limit t ≤ score_of t a q) ⊎ (score_of t a q < limit t) → (serve_of t a q).charge ≤ most_charge
      go (inl h) =
          let b = costs_bounded r (other a.mode) in
          rw (serve-switched h) (omega (arith, cost_of_le b q))
      go (inr h) = rw (serve_stayed h) (omega (arith, cost_of_le (costs_bounded r a.mode) q))

  pub serve_accounted : {r : Served} → Ranged t → r ≡ serve_of t a q → Accounted t a q r
  serve_accounted g e = record { is = e; low = rw e (serve_low (limit_some g)); most = rw e (serve_most g) }

-- The same of a list of requests: the score after it, and the sum of its charges.
pub after_low : (t : Tariff) (qs : List Request) (a : Account) → a.score < limit t → (account_after t qs a).score < limit t
after_low t [] a h = h
after_low t (q ∷ qs) a h = after_low t qs (serve_of t a q).account (serve_low t a q (omega arith))

pub charges_most : (t : Tariff) → Ranged t → (qs : List Request) (a : Account) → charges_of t qs a ≤ most_charge * length qs
charges_most t r [] a = omega arith
charges_most t r (q ∷ qs) a = omega (arith, serve_most t a q r, charges_most t r qs (serve_of t a q).account)
