-- Many nodes: the potentials of all nodes are summed. A request changes one term of the sum, by no more than its own step, and a new
-- node adds its allowance. So charges are at most three times any schedule and one allowance for each node made. Assumes nothing.
use Rattle.std.specs.Prelude.{◌≡◌, refl, List, [], ◌∷◌, ◌⊎◌, ℕ, suc, ◌+◌, ◌*◌, ◌≤◌, ◌<◌, length}
use Rattle.std.proofs.Common.{ap₂, ◌∙◌, inl, inr, mul-le-mul_right, arith}
use Rattle.laws.specs.Order.{eq_or}
use Rattle.laws.specs.Update.{update, update_same, update_other, sum_below, sum_below-ext, sum_below-change}
use Rattle.account.specs.declared.Mode.{Mode}
use Rattle.account.specs.declared.Mode.TheVariants.{Log}
use Rattle.account.specs.declared.Request.{Request}
use Rattle.account.specs.declared.Tariff.{Tariff}
use Rattle.account.specs.declared.Account.{Account}
use Rattle.account.specs.Tariff.{switch_to, limit}
use Rattle.account.specs.Range.{Ranged}
use Rattle.account.specs.Serve.{serve_of, fresh}
use Rattle.account.specs.ServeLaws.{most_charge, serve_low, serve_most}
use Rattle.account.specs.Schedule.{Schedule, pay_for}
use Rattle.account.specs.Potential.{potential, allowance, allowance_le, potential_step, potential-fresh}
use Rattle.account.specs.Events.{Event, asks, makes, made, Known, accounts_served, accounts_made, charges_all, paid_all}

-- The potential of each node.
abbrev pub potentials : Tariff → (ℕ → Account) → (ℕ → Mode) → ℕ → ℕ
potentials t accounts modes k = potential t (accounts k) (modes k)

-- Every node made has a score below the limit T.
abbrev pub Low : Tariff → ℕ → (ℕ → Account) → Type 0
Low t nodes accounts = (k : ℕ) → k < nodes → (accounts k).score < limit t

module _ (t : Tariff) (accounts : ℕ → Account) (modes : ℕ → Mode) where
  module _ (n : ℕ) (a : Account) (m : Mode) where
    potentials_same : potentials t (update accounts n a) (update modes n m) n ≡ potential t a m
    potentials_same = ap₂ (potential t) (update_same accounts n a n refl) (update_same modes n m n refl)

    potentials-other : (k : ℕ) → (k ≡ n → ⊥) →
        potentials t (update accounts n a) (update modes n m) k ≡ potentials t accounts modes k
    potentials-other k e = ap₂ (potential t) (update_other accounts n a k e) (update_other modes n m k e)

  -- One request of one node among many, which the schedule serves in the mode `now`.
  pub request_step : (nodes id : ℕ) (q : Request) (now : Mode) → id < nodes → (accounts id).score < limit t →
      (serve_of t (accounts id) q).charge +
      sum_below nodes (potentials t (accounts_served t accounts id q) (update modes id now)) ≤
      3 * pay_for t (modes id) now q + sum_below nodes (potentials t accounts modes)
  request_step nodes id q now made low =
      let a = (serve_of t (accounts id) q).account in
      omega (
        arith,
        potential_step t (accounts id) low q (modes id) now,
        potentials_same id a now,
        sum_below-change
            nodes
            (potentials t accounts modes)
            (potentials t (update accounts id a) (update modes id now))
            id
            made
            (potentials-other id a now),
      )

  -- The next node made: one allowance.
  pub create_step : (nodes : ℕ) →
      sum_below (suc nodes) (potentials t (accounts_made accounts nodes) (update modes nodes Log)) ≡
      sum_below nodes (potentials t accounts modes) + allowance t Log
  create_step nodes =
      ap₂ ◌+◌
      (sum_below-ext
      nodes
      (potentials t (update accounts nodes fresh) (update modes nodes Log))
      (potentials t accounts modes)
      (λ k l. potentials-other nodes fresh Log k (λ e. omega arith)))
      (potentials_same nodes fresh Log ∙ potential-fresh t Log)

-- Scores stay below the limit T.
module _ (t : Tariff) (some : 0 < limit t) (nodes : ℕ) (accounts : ℕ → Account) (low : Low t nodes accounts) where
  low_update : (n : ℕ) (a : Account) → a.score < limit t → (k : ℕ) → (k ≡ n) ⊎ (k < nodes) →
      (update accounts n a k).score < limit t
  low_update n a h k (inl e) = rw (update_same accounts n a k e) h
  low_update n a h k (inr l) = go (eq_or k n)
    where
      go : (k ≡ n) ⊎ (k ≡ n → ⊥) → (update accounts n a k).score < limit t
      go (inl e) = rw (update_same accounts n a k e) h
      go (inr e) = rw (update_other accounts n a k e) (low k l)

  pub low_request : (id : ℕ) (q : Request) → Low t nodes (accounts_served t accounts id q)
  low_request id q k l = low_update id (serve_of t (accounts id) q).account (serve_low t (accounts id) q some) k (inr l)

  pub low_create : Low t (suc nodes) (accounts_made accounts nodes)
  low_create k l = go (eq_or k nodes)
    where
      go : (k ≡ nodes) ⊎ (k ≡ nodes → ⊥) → (accounts_made accounts nodes k).score < limit t
      go (inl e) = low_update nodes fresh some k (inl e)
      go (inr e) = low_update nodes fresh some k (inr (omega arith))

module _ (t : Tariff) (some : 0 < limit t) (plan : Schedule) where
  -- From any accounts with scores below the limit T, and any modes of the schedule.
  pub charges-all_from : (es : List Event) (i nodes : ℕ) (accounts : ℕ → Account) (modes : ℕ → Mode) →
      Low t nodes accounts → Known nodes es →
      charges_all t es nodes accounts ≤
      3 * paid_all t plan es i nodes modes + sum_below nodes (potentials t accounts modes) + allowance t Log * made es
  charges-all_from [] i nodes accounts modes low known = omega arith
  charges-all_from (asks id q ∷ es) i nodes accounts modes low known =
      omega (
        arith,
        request_step t accounts modes nodes id q (plan i) known.0 (low id known.0),
        charges-all_from
            es
            (suc i)
            nodes
            (accounts_served t accounts id q)
            (update modes id (plan i))
            (low_request t some nodes accounts low id q)
            known.1,
      )
  charges-all_from (makes ∷ es) i nodes accounts modes low known =
      omega (
        arith,
        create_step t accounts modes nodes,
        charges-all_from
            es
            i
            (suc nodes)
            (accounts_made accounts nodes)
            (update modes nodes Log)
            (low_create t some nodes accounts low)
            known,
      )

  module _ (es : List Event) (known : Known 0 es) (accounts : ℕ → Account) (modes : ℕ → Mode) where
    -- From nothing, sharply: one allowance for each node made.
    pub charges-all_sharp : charges_all t es 0 accounts ≤ 3 * paid_all t plan es 0 0 modes + allowance t Log * made es
    charges-all_sharp = omega (arith, charges-all_from es 0 0 accounts modes (λ k l. absurd (omega arith)) known)

    -- From nothing: one switch to log for each node made.
    pub charges-all : charges_all t es 0 accounts ≤ 3 * paid_all t plan es 0 0 modes + switch_to t Log * made es
    charges-all = omega (arith, charges-all_sharp, mul-le-mul_right (made es) (allowance_le t Log))

-- The sum of all charges: no list that fits a batch comes near 64 bits.
pub charges-all_most : (t : Tariff) → Ranged t → (es : List Event) (nodes : ℕ) (accounts : ℕ → Account) →
    charges_all t es nodes accounts ≤ most_charge * length es
charges-all_most t r [] nodes accounts = omega arith
charges-all_most t r (asks id q ∷ es) nodes accounts =
    omega (arith, serve_most t (accounts id) q r, charges-all_most t r es nodes (accounts_served t accounts id q))
charges-all_most t r (makes ∷ es) nodes accounts =
    omega (arith, charges-all_most t r es (suc nodes) (accounts_made accounts nodes))
