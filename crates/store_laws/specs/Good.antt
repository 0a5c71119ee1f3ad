-- A run in good order, what a write keeps of a node, and what it leaves. Assumes nothing.
use Rattle.std.specs.Prelude.{◌≡◌, ℕ, suc, ◌+◌, ◌≤◌, ◌<◌, length}
use mathlib.Core.List.{List}
use Rattle.laws.specs.Every.{Every}
use Rattle.layout.specs.Layout.{most_entries}
use Rattle.account.specs.declared.Mode.{Mode}
use Rattle.node.specs.Replay.{Piece}
use Rattle.store.specs.View.{greatest, pieces, pages}
use Rattle.store.specs.Store.{Store, view}
use Rattle.store.specs.Live.{no_checkpoint}
use Rattle.store.specs.Run.{Moment, Run}
use Rattle.store_laws.specs.Changes.{Lean}
use Rattle.store_laws.specs.Placing.{Invariant}
use Rattle.store_laws.specs.Versions.{VersionRules, InMode}

-- A state passed keeps the three-page rule.
abbrev pub LeanAt : Moment → Type 0
LeanAt m = Lean m.nodes (view m.state)

pub record Good (B : ℕ) (run : Run) : Type 0 where
  pub invariant : Invariant B run.nodes no_checkpoint run.now
  pub versions : VersionRules run.now
  pub small : length run.now.buffer ≤ most_entries
  pub passed : Every LeanAt run.passed

-- A node keeps its version, its content and its mode.
pub record Keep (a b : Store) (m : ℕ) : Type 0 where
  pub greatest : greatest (view b) m ≡ greatest (view a) m
  pub pieces : pieces (view b) m ≡ pieces (view a) m
  pub mode : (mode : Mode) → InMode mode a m → InMode mode b m

-- What a write of node n does: it has these pieces and this mode; every other node is kept.
pub record Done (B n : ℕ) (run run' : Run) (xs : List Piece) (m₀ : Mode) : Type 0 where
  pub good : Good B run'
  pub own : pieces (view run'.now) n ≡ xs
  pub mode : InMode m₀ run'.now n
  pub others : (m : ℕ) → m < run'.nodes → (n ≡ m → ⊥) → m < run.nodes
  pub keep : (m : ℕ) → m < run.nodes → (n ≡ m → ⊥) → Keep run.now run'.now m

-- Room for k entries.
pub record Roomy (B k : ℕ) (run run' : Run) : Type 0 where
  pub good : Good B run'
  pub nodes : run'.nodes ≡ run.nodes
  pub fits : k + length run'.now.buffer ≤ most_entries
  pub keep : (m : ℕ) → m < run.nodes → Keep run.now run'.now m
  pub pages : (m : ℕ) → m < run.nodes → pages (view run'.now) m ≤ suc (pages (view run.now) m)
