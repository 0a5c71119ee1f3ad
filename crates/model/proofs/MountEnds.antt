-- A mount ends by the questions of the pool: it refuses with the number of the first no, or opens where there is none. Assumes nothing.
use Rattle.std.specs.Prelude.{◌≡◌, refl, Bool, true, false, ◌&&◌, List, [], ◌∷◌, ℕ, Option, None, Some}
use Rattle.std.proofs.Common.{◌∙◌, arith}
use Rattle.account.specs.declared.Tariff.{Tariff}
use Rattle.store.specs.Store.{Store}
use Rattle.store.specs.Checkpoint.{checkpoint_of, tariff_in, complete}
use Rattle.store.specs.Reopen.{Cells, reopened, pages_pass}
use Rattle.model.specs.State.{State}
use Rattle.model.specs.Mount.{Mounted, refused, opened, ask, TreeSound, numbers_left, state_of, mount_tree, mount_cells}
use Rattle.model.specs.Bytes.{cells_of}
use Rattle.model.specs.Pool.{blocks_of, mount_by, mount_of}
use Rattle.model.specs.Questions.{first_no, asked, of_pages, of_pool}
use Rattle.model.specs.QuestionLaws.{numbered}
use Rattle.model.specs.MountEnds.{MountEnds, unopened, mounted, FirstNo}

-- Of a pool whose pages check one by one.
cells_end : (blocks : ℕ) (c : Cells) → MountEnds (first_no (of_pages blocks (Some c))) (mount_cells blocks c)
unfolding mount_cells
cells_end blocks c = go (pages_pass blocks c) (complete (checkpoint_of st)) (tariff_in (checkpoint_of st))
  where
    st : Store
    st = reopened blocks c

    last : (t : Tariff) (a b : Bool) → MountEnds (first_no ((7, a) ∷ (8, b) ∷ [])) (ask 7 a (ask 8 b (opened t (state_of st))))
    last t true true = mounted t (state_of st)
    last t true false = unopened 8 (omega arith) (omega arith)
    last t false b = unopened 7 (omega arith) (omega arith)

    go : (p q : Bool) (o : Option Tariff) →
        MountEnds (first_no ((5, p) ∷ (6, q && asked (λ t. true) o) ∷ (7, asked (λ t. TreeSound blocks t st) o) ∷ (8, numbers_left st) ∷ []))
        (ask 5 p (ask 6 q (mount_tree blocks st o)))
    go false q o = unopened 5 (omega arith) (omega arith)
    go true false o = unopened 6 (omega arith) (omega arith)
    go true true None = unopened 6 (omega arith) (omega arith)
    go true true (Some t) = last t (TreeSound blocks t st) (numbers_left st)

pub mount_ends : (pool : List ℕ) → MountEnds (first_no (of_pool pool)) (mount_of pool)
unfolding mount_of of_pool
mount_ends pool = go (cells_of pool)
  where
    go : (o : Option Cells) → MountEnds (first_no (of_pages (blocks_of pool) o)) (mount_by (blocks_of pool) o)
    go None = unopened 5 (omega arith) (omega arith)
    go (Some c) = cells_end (blocks_of pool) c

-- What the code of a mount says of the list.
pub opens_yes : (pool : List ℕ) {t : Tariff} {s : State} → mount_of pool ≡ opened t s → first_no (of_pool pool) ≡ 0
opens_yes pool {t} {s} e = go (mount_ends pool) e
  where
    go : {n : ℕ} {m : Mounted} → MountEnds n m → m ≡ opened t s → n ≡ 0
    go (unopened n l h) e = cc
    go (mounted t' s') e = refl

pub refused_no : (pool : List ℕ) {n : ℕ} → mount_of pool ≡ refused n → FirstNo pool n
refused_no pool {n} e = go (mount_ends pool) refl e
  where
    go : {k : ℕ} {m : Mounted} → MountEnds k m → first_no (of_pool pool) ≡ k → m ≡ refused n → FirstNo pool n
    go (unopened k l h) f g =
        let same : k ≡ n = cc in record { first = f ∙ same; least = omega (arith, same); most = omega (arith, same) }
    go (mounted t s) f g = absurd (let z : ◌≡◌ {A = ℕ} 0 1 = cc in omega arith)

-- None of these questions has the number 0.
pub pool-numbered : (pool : List ℕ) → numbered (of_pool pool) ≡ true
unfolding of_pool
pool-numbered pool = refl
