-- What a node's turn leaves on the way up. Assumes nothing.
use Rattle.std.specs.Prelude.{◌≡◌, List, ℕ, Option}
use Rattle.std.proofs.Common.{ap, ◌∙◌}
use Rattle.flash_rows.specs.Worktable.{Worktable}
use Rattle.flash_allocate.specs.declared.state.State.{State}
use Rattle.flash_allocate.specs.World.{World, world}
use Rattle.flash_allocate.specs.declared.flash.Flash.{Flash}
use Rattle.run_serve.specs.Step.{Charged, ChargedAs, InBytes}
use Rattle.run_split.specs.declared.Pending.{Pending}
use Rattle.run_split.specs.declared.Absorbed.{Absorbed}
use Rattle.run_split.specs.Growing.{Grew}

-- The world, what was charged, and what the node above has still to take.
pub record Absorbing : Type 0 where
  pub now : World
  pub charge : ℕ
  pub pending : Option Pending

abbrev pub absorbing : World → ℕ → Option Pending → Absorbing
absorbing now charge pending = record { now = now; charge = charge; pending = pending }

pub absorbing-is : {a b : World} {m n : ℕ} {p q : Option Pending} → a ≡ b → m ≡ n → p ≡ q → absorbing a m p ≡ absorbing b n q
absorbing-is {b = b} {m = m} {n = n} {p = p} e f g =
    ap (λ (z : World). absorbing z m p) e ∙ ap (λ (z : ℕ). absorbing b z p) f ∙ ap (λ (z : Option Pending). absorbing b n z) g

-- What the code of a turn answers, with the state that it leaves.
pub record Taken : Type 0 where
  pub charged : Charged
  pub pending : Option Pending

abbrev pub taken : State → Absorbed → Taken
taken s r = record { charged = record { state = s; charge = r.charge }; pending = r.pending }

-- What the code of a turn leaves: the world, the charge and the rest of the definition; at most two requests were charged.
pub record AbsorbedAs (pool_length table_length : ℕ) (pages : List (List ℕ)) (table : Worktable) (r : Taken) (before : State)
    (right : Absorbing) : Type 0 where
  pub charged : ChargedAs Grew pool_length table_length pages table r.charged before 2 right.now right.charge
  pub pending : r.pending ≡ right.pending

-- All three as one.
pub absorbed_whole : {P T : ℕ} {pages : List (List ℕ)} {table : Worktable} {r : Taken} {s : State} {right : Absorbing} →
    AbsorbedAs P T pages table r s right →
    absorbing (world pages table r.charged.state) r.charged.charge r.pending ≡ right
absorbed_whole k = absorbing-is k.charged.kept.is k.charged.charge k.pending

-- The same said of lent buffers and their state.
abbrev pub Absorbs : Flash → Flash → Absorbed → Absorbing → Type 0
Absorbs before behind r right = InBytes AbsorbedAs behind.pool.now behind.table.now (taken behind.state r) before.state right
