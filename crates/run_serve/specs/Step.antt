-- WHAT THE CODE OF NODE REQUESTS LEAVES: the world that a definition says, and what they are charged. The contracts of a request, of several and of
-- a command are this one, each with its own world and charge. Assumes nothing.
use Rattle.std.specs.Prelude.{◌≡◌, refl, List, ℕ, ◌+◌, ◌*◌, ◌≤◌, length}
use Rattle.std.proofs.Common.{ap, ap₂, ◌∙◌, subst, arith}
use Rattle.account.specs.ServeLaws.{most_charge}
use Rattle.command.specs.declared.Answer.{Answer}
use Rattle.flash_blocks.specs.Pages.{pages_of}
use Rattle.flash_rows.specs.Worktable.{Worktable, table_from}
use Rattle.flash_allocate.specs.declared.state.State.{State}
use Rattle.flash_allocate.specs.World.{World, world, Good, Kept, Leaves}
use Rattle.flash_allocate.specs.declared.flash.Flash.{Flash}
use Rattle.run_serve.specs.declared.charged.Answered as code

-- Requests that were served: the state after them, and what they were charged; a command with its answer beside it.
pub record Charged : Type 0 where
  pub state : State
  pub charge : ℕ

pub record Answered : Type 0 where
  pub charged : Charged
  pub answer : Answer

-- What is said of the pages of a pool and of a work table, said of their bytes.
abbrev pub InBytes : {A : Type 1} → (ℕ → ℕ → List (List ℕ) → Worktable → A) → List ℕ → List ℕ → A
InBytes said pool table = said (length pool) (length table) (pages_of pool) (table_from table)

-- The same said of lent buffers and a state, and of a charge.
abbrev pub InFlash : {A : Type 1} → (ℕ → ℕ → List (List ℕ) → Worktable → Charged → A) → Flash → ℕ → A
InFlash said f charge = InBytes said f.pool.now f.table.now (record { state = f.state; charge = charge })

-- The same of what the code of a command answers.
abbrev pub answered_in : State → code.Answered → Answered
answered_in s r = record { charged = record { state = s; charge = r.charge }; answer = r.answer }

abbrev pub AnsweredIn : {A : Type 1} → (ℕ → ℕ → List (List ℕ) → Worktable → Answered → A) → Flash → code.Answered → A
AnsweredIn said f r = InBytes said f.pool.now f.table.now (answered_in f.state r)

-- So many requests at most: the world right, and what was paid for it.
pub record ChargedAs (L : Leaves) (pool_length table_length : ℕ) (pages : List (List ℕ)) (table : Worktable) (r : Charged) (before : State)
    (requests : ℕ) (right : World) (paid : ℕ) : Type 0 where
  pub kept : L pool_length table_length before (world pages table r.state) right
  pub charge : r.charge ≡ paid
  pub most : r.charge ≤ most_charge * requests

-- The same with an answer.
pub record AnsweredAs (L : Leaves) (pool_length table_length : ℕ) (pages : List (List ℕ)) (table : Worktable) (r : Answered) (before : State)
    (requests : ℕ) (right : World) (paid : ℕ) (said : Answer) : Type 0 where
  pub charged : ChargedAs L pool_length table_length pages table r.charged before requests right paid
  pub answer : r.answer ≡ said

-- A step said otherwise.
pub kept-is : {P T : ℕ} {s : State} {made a b : World} → Kept P T s made a → a ≡ b → Kept P T s made b
kept-is k e = record { is = k.is ∙ e; good = k.good; blocks = k.blocks; nodes = k.nodes; checkpoint = k.checkpoint }

-- Nothing done, and two steps one after the other.
pub kept_same : {P T : ℕ} (w : World) → Good P T w.state → Kept P T w.state w w
kept_same w g = record { is = refl; good = g; blocks = refl; nodes = refl; checkpoint = refl }

pub kept_then : {P T P' T' : ℕ} {s : State} {a b right : World} (step : World → World) → Kept P T s a right →
    Kept P' T' a.state b (step a) → Kept P' T' s b (step right)
kept_then step k l =
    record {
      is = l.is ∙ ap step k.is;
      good = l.good;
      blocks = l.blocks ∙ k.blocks;
      nodes = l.nodes ∙ k.nodes;
      checkpoint = l.checkpoint ∙ k.checkpoint;
    }

-- No request: nothing is charged.
abbrev pub uncharged : State → Charged
uncharged s = record { state = s; charge = 0 }

pub charged-none : {L : Leaves} {P T : ℕ} (w : World) → L P T w.state w w →
    ChargedAs L P T w.pages w.table (uncharged w.state) w.state 0 w 0
charged-none w k = record { kept = k; charge = refl; most = omega arith }

-- Requests said otherwise, or as some of more.
pub charged-is : {L : Leaves} {P T : ℕ} {pages : List (List ℕ)} {table : Worktable} {r : Charged} {s : State} {m m' : ℕ} {a b : World} {c d : ℕ} →
    ChargedAs L P T pages table r s m a c → m ≤ m' → a ≡ b → c ≡ d → ChargedAs L P T pages table r s m' b d
charged-is {L} {P} {T} {pages} {table} {r} {s} k l e f =
    record {
      kept = subst (λ (z : World). L P T s (world pages table r.state) z) e k.kept;
      charge = k.charge ∙ f;
      most = omega (arith, k.most, l);
    }

-- Requests, then others in the world that they left: what both leave, and the sum of their charges.
abbrev pub both : Charged → Charged → Charged
both one two = record { state = two.state; charge = one.charge + two.charge }

pub then : {L : Leaves} {P T P' T' : ℕ} {pages pages' : List (List ℕ)} {table table' : Worktable} {one two : Charged}
    {s : State} {m n : ℕ} {right : World} {paid : ℕ} (step : World → World) (cost : World → ℕ) →
    (Kept P T s (world pages table one.state) right →
    L P' T' one.state (world pages' table' two.state) (step (world pages table one.state)) →
    L P' T' s (world pages' table' two.state) (step right)) →
    ChargedAs Kept P T pages table one s m right paid →
    ChargedAs L P' T' pages' table' two one.state n (step (world pages table one.state)) (cost (world pages table one.state)) →
    ChargedAs L P' T' pages' table' (both one two) s (m + n) (step right) (paid + cost right)
then step cost join a b =
    record {
      kept = join a.kept b.kept;
      charge = ap₂ ◌+◌ a.charge (b.charge ∙ ap cost a.kept.is);
      most = omega (arith, a.most, b.most);
    }
