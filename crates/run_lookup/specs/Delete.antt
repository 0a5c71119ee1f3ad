-- STRIP (document 01, command 03; "strip of a present route" is one edit, and of an absent one the reads alone). Assumes nothing.
use Rattle.std.specs.Prelude.{List, ℕ, ◌+◌, Option, None, Some}
use Rattle.layout.specs.Layout.{node_limit, most_blocks}
use Rattle.account.specs.declared.Tariff.{Tariff}
use Rattle.node.specs.Node.{Node}
use Rattle.node.specs.Change.{remove}
use Rattle.store.specs.Serve.{edit}
use Rattle.command.specs.declared.Answer.TheVariants.{Deleted}
use Rattle.command.specs.Answer.{value_or}
use Rattle.flash_rows.specs.Worktable.{Worktable}
use Rattle.flash_allocate.specs.World.{World, Kept}
use Rattle.run_serve.specs.Step.{Answered, AnsweredAs}
use Rattle.run_serve.specs.Serve.{serve_holding, charge}
use Rattle.run_path.specs.Descend.{descent}
use Rattle.run_lookup.specs.Value.{value_in}

-- The edit of a leaf with the content x in hand, for a key with this value there; and its charge.
abbrev pub deletion : Tariff → Option ℕ → ℕ → Node → ℕ → World → World
deletion t None leaf x k w = w
deletion t (Some old) leaf x k w = serve_holding t leaf x (edit (remove k)) w

abbrev pub deletion_charge : Tariff → Option ℕ → ℕ → ℕ → World → ℕ
deletion_charge t None leaf k w = 0
deletion_charge t (Some old) leaf k w = charge t leaf (edit (remove k)) w

-- The walk down, then the edit of the leaf that it ends at.
unfoldable pub delete : Tariff → ℕ → World → World
delete t k w = deletion t (value_in t k w) (descent t k w).leaf (descent t k w).node k (descent t k w).now

unfoldable pub delete_charge : Tariff → ℕ → World → ℕ
delete_charge t k w = (descent t k w).charge + deletion_charge t (value_in t k w) (descent t k w).leaf k (descent t k w).now

-- What the code of a delete leaves: this world and this charge, and "answer 83 with the word removed", or 80.
abbrev pub DeletedAs : ℕ → ℕ → List (List ℕ) → Worktable → Answered → Tariff → ℕ → World → Type 0
DeletedAs pool_length table_length pages table r t k w =
    AnsweredAs Kept pool_length table_length pages table r w.state (node_limit most_blocks + 1) (delete t k w) (delete_charge t k w)
    (value_or Deleted (value_in t k w))
