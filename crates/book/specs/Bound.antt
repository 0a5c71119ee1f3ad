-- The reference model is charged at most three times what any schedule pays, and one allowance for each node made: its charges are
-- those of the accounts for its requests as events. Assumes nothing.
use Rattle.std.specs.Prelude.{◌≡◌, refl, ℕ, zero, suc, ◌+◌, ◌*◌, ◌≤◌, ◌<◌}
use Rattle.std.proofs.Common.{ap, ◌∙◌, mul-le-mul_right, arith}
use mathlib.Core.List.{List, [], ◌∷◌}
use Rattle.laws.specs.Update.{update, sum_below, sum_below-ext}
use Rattle.account.specs.declared.Mode.TheVariants.{Log}
use Rattle.account.specs.declared.Request.TheVariants.{Read, Edit, Rewrite}
use Rattle.account.specs.declared.Tariff.{Tariff}
use Rattle.account.specs.declared.Account.{Account}
use Rattle.account.specs.Tariff.{switch_to, limit}
use Rattle.account.specs.Serve.{fresh}
use Rattle.account.specs.Schedule.{Schedule}
use Rattle.account.specs.Potential.{potential, allowance, allowance_le, potential-fresh}
use Rattle.account.specs.Events.{made, Known, charges_all}
use Rattle.account.specs.Nodes.{potentials, Low, low_request, low_create, charges-all_from}
use Rattle.tree.specs.Table.{Table}
use Rattle.tree.specs.NodeRequest.{NodeRequest, read, edit, rewrite, create}
use Rattle.tree.specs.Fit.{Fit, Fits}
use Rattle.book.specs.Book.{Book, serve, serve_all, charge, charges}
use Rattle.book.specs.Schedule.{events_of, paid}

-- A list of requests that fits is a list of events of known nodes, and makes as many nodes as the count grows.
known : (most : ℕ) (rs : List NodeRequest) (table : Table) (count final : ℕ) → Fits most rs table count final → Known count (events_of rs)
known most [] table count final f = tt
known most (read id ∷ rs) table count final f = (f.0, known most rs _ count final f.1)
known most (edit id c ∷ rs) table count final f = (f.0.0, known most rs _ count final f.1)
known most (rewrite id n ∷ rs) table count final f = (f.0.0, known most rs _ count final f.1)
known most (create id n ∷ rs) table count final f = known most rs _ (suc count) final f.1

made-is : (most : ℕ) (rs : List NodeRequest) (table : Table) (count final : ℕ) → Fits most rs table count final → made (events_of rs) + count ≡ final
made-is most [] table count final f = omega arith
made-is most (read id ∷ rs) table count final f = made-is most rs _ count final f.1
made-is most (edit id c ∷ rs) table count final f = made-is most rs _ count final f.1
made-is most (rewrite id n ∷ rs) table count final f = made-is most rs _ count final f.1
made-is most (create id n ∷ rs) table count final f = omega (arith, made-is most rs _ (suc count) final f.1)

-- The charges are those of the events.
charges_events : (most : ℕ) (t : Tariff) (rs : List NodeRequest) (b : Book) (final : ℕ) → Fits most rs b.table b.count final →
    charges t rs b ≡ charges_all t (events_of rs) b.count b.account
unfolding serve charge
charges_events most t [] b final f = refl
charges_events most t (read id ∷ rs) b final f = omega (arith, charges_events most t rs (serve t (read id) b) final f.1)
charges_events most t (edit id c ∷ rs) b final f = omega (arith, charges_events most t rs (serve t (edit id c) b) final f.1)
charges_events most t (rewrite id n ∷ rs) b final f = omega (arith, charges_events most t rs (serve t (rewrite id n) b) final f.1)
charges_events most t (create id n ∷ rs) b final f =
    ap (λ (k : ℕ). 0 + k) (charges_events most t rs (serve t (create id n) b) final f.1) ∙
    omega (arith, ap (λ (k : ℕ). charges_all t (events_of rs) (suc b.count) (update b.account k fresh)) f.0.0)

-- Every score of a book is below the limit T, and stays so.
abbrev pub Scored : Tariff → Book → Type 0
Scored t b = Low t b.count b.account

module _ (most : ℕ) (t : Tariff) (some : 0 < limit t) where
  scored_step : (r : NodeRequest) (b : Book) → Scored t b → Fit most r b.table b.count → Scored t (serve t r b)
  unfolding serve
  scored_step (read id) b low f = low_request t some b.count b.account low id Read
  scored_step (edit id c) b low f = low_request t some b.count b.account low id Edit
  scored_step (rewrite id n) b low f = low_request t some b.count b.account low id Rewrite
  scored_step (create id n) b low f = rw f.0 (low_create t some b.count b.account low)

  pub scored-all : (rs : List NodeRequest) (b : Book) (final : ℕ) → Scored t b → Fits most rs b.table b.count final → Scored t (serve_all t rs b)
  unfolding serve
  scored-all [] b final low f = low
  scored-all (r ∷ rs) b final low f = scored-all rs (serve t r b) final (scored_step r b low f.0) f.1

  -- From a book of nodes in log mode with score 0, as a prepare leaves it: sharply, and with one switch to log for each node.
  module _ (plan : Schedule) (rs : List NodeRequest) (b : Book) (final : ℕ) (f : Fits most rs b.table b.count final)
      (start : (n : ℕ) → n < b.count → b.account n ≡ fresh) where
    each_fresh : (n : ℕ) → n < b.count → potentials t b.account (λ k. Log) n ≡ allowance t Log
    each_fresh n l = ap (λ (a : Account). potential t a Log) (start n l) ∙ potential-fresh t Log

    sum_const : (k c : ℕ) → sum_below k (λ n. c) ≡ c * k
    sum_const zero c = omega arith
    sum_const (suc k) c = omega (arith, sum_const k c)

    low : Scored t b
    low n l = rw (start n l) some

    pub charges_sharp : charges t rs b ≤ 3 * paid t plan rs b.count + allowance t Log * final
    charges_sharp =
        omega (
          arith,
          charges_events most t rs b final f,
          charges-all_from t some plan (events_of rs) 0 b.count b.account (λ k. Log) low (known most rs b.table b.count final f),
          sum_below-ext b.count (potentials t b.account (λ k. Log)) (λ n. allowance t Log) each_fresh,
          sum_const b.count (allowance t Log),
          ap (λ (k : ℕ). allowance t Log * k) (made-is most rs b.table b.count final f),
        )

    pub charges_bound : charges t rs b ≤ 3 * paid t plan rs b.count + switch_to t Log * final
    charges_bound = omega (arith, charges_sharp, mul-le-mul_right final (allowance_le t Log))
