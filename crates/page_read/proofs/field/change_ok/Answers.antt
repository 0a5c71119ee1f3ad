-- Of each of the four kinds it asks that the unused number is 0. Assumes nothing.
use mathlib.Core.Path.{◌≡◌, refl}
use mathlib.Core.Bool.{false}
use Prim.Native.Nat.{ℕ, zero, suc, ◌≤◌, ◌<◌}
use native.Mathlib.Omega.{arith}
use lib.Dec.{eqb}
use borrow.Author.Tests.{ne_eqb}
use Rattle.laws.specs.Tests.{choose}
use Rattle.page.specs.Decode.{change_ok}
use Rattle.page_read.proofs.field.change_ok.Goals as goal
use Rattle.page_read.proofs.field.change_ok.Goals.{then-kind-lt1-via-then-kind-lt1, then-kind-lt1-via-else-kind-lt1+then-kind-gt4}

no_kind : (kind key pointer : ℕ) → kind < 1 → false ≡ change_ok kind key pointer
unfolding change_ok
no_kind zero key pointer h = refl
no_kind (suc kind) key pointer h = absurd (omega arith)

no_kind_above : (kind key pointer : ℕ) → 4 < kind → false ≡ change_ok kind key pointer
unfolding change_ok
no_kind_above kind key pointer h =
    rw (
      ne_eqb kind 1 (λ e. omega arith),
      ne_eqb kind 2 (λ e. omega arith),
      ne_eqb kind 3 (λ e. omega arith),
      ne_eqb kind 4 (λ e. omega arith),
    )

unused_zero : (kind key pointer : ℕ) → 1 ≤ kind → kind ≤ 4 →
    eqb (choose (eqb kind 1) 0 (choose (eqb kind 2) pointer key)) 0 ≡ change_ok kind key pointer
unfolding change_ok
unused_zero zero key pointer g h = absurd (omega arith)
unused_zero (suc zero) key pointer g h = refl
unused_zero (suc (suc zero)) key pointer g h = refl
unused_zero (suc (suc (suc zero))) key pointer g h = refl
unused_zero (suc (suc (suc (suc zero)))) key pointer g h = refl
unused_zero (suc (suc (suc (suc (suc kind))))) key pointer g h = absurd (omega arith)

pub returns-then-kind-lt1 : goal.returns-then-kind-lt1
returns-then-kind-lt1 c =
    elim c.then-kind-lt1.branch [
      | then-kind-lt1-via-then-kind-lt1 w ↦ no_kind _ _ _ w.if-kind-lt1.true
      | then-kind-lt1-via-else-kind-lt1+then-kind-gt4 w ↦ no_kind_above _ _ _ w.if-kind-gt4.true
    ]

pub returns : goal.returns
returns c = let x = c.args in
    rw c.unused.ensures (unused_zero x.kind x.key x.pointer (omega arith) (omega arith))
