-- The state that a batch begins with, from the survey of its pool. Assumes nothing.
use Rattle.std.specs.Prelude.{◌≡◌, refl, Some, List, ℕ, ◌*◌, ◌≤◌, length}
use Rattle.std.proofs.Common.{ap, ◌∙◌}
use Rattle.layout.specs.Layout.{block_bytes, fewest_blocks, most_blocks, table_bytes}
use Rattle.store.specs.Pool.{Blocks, block}
use Rattle.store.specs.Reopen.{Cells, blocks_in, reopened}
use Rattle.flash_allocate.specs.declared.state.State.{State}
use Rattle.mount_survey.specs.declared.answer.Survey.{Survey}
use Rattle.mount_survey.specs.Surveyed.{Surveyed}
use Rattle.mount_refines.specs.Checkpoint.Pool.{Judged}
use Rattle.mount_refines.specs.Rows.Fill.{beginning}

-- What a mount is asked of: a pool of so many blocks, and a table of its size.
abbrev pub Sized : ℕ → ℕ → ℕ → Type 0
Sized pool_length table_length blocks =
    (pool_length ≡ block_bytes * blocks) × (fewest_blocks ≤ blocks) × (blocks ≤ most_blocks) × (table_length ≡ table_bytes blocks)

-- No checkpoint being written, and no entry in the buffer.
unfoldable pub first_state : Survey → ℕ → ℕ → State
first_state r blocks nodes =
    record {
      blocks = blocks;
      current = r.current;
      fill = r.fill;
      nodes = nodes;
      checkpoint = 0;
      last = r.newest;
      entries = 0;
    }

-- What questions 7 and 8 ask of a state holds of it.
pub first_asks : {pool_length table_length blocks : ℕ} (nodes : ℕ) {s : State} (r : Survey) → Sized pool_length table_length blocks →
    s ≡ first_state r blocks nodes →
    (fewest_blocks ≤ s.blocks) ×
    (s.blocks ≤ most_blocks) ×
    (pool_length ≡ block_bytes * s.blocks) ×
    (table_length ≡ table_bytes s.blocks) ×
    (s.entries ≡ 0)
unfolding first_state
first_asks nodes r sized e = rw e (sized.1, sized.2, sized.0, sized.3, refl)

state_same : (blocks nodes current fill last current' fill' last' : ℕ) → current ≡ current' → fill ≡ fill' → last ≡ last' →
    ◌≡◌ {A = State}
    (record { blocks = blocks; current = current; fill = fill; nodes = nodes; checkpoint = 0; last = last; entries = 0 })
    (record { blocks = blocks; current = current'; fill = fill'; nodes = nodes; checkpoint = 0; last = last'; entries = 0 })
state_same blocks nodes current fill last current' fill' last' a b c =
    λ i. record { blocks = blocks; current = a i; fill = b i; nodes = nodes; checkpoint = 0; last = c i; entries = 0 }

-- It is what the pool's store says.
pub survey_begins : {pool : List ℕ} {blocks : ℕ} {r : Survey} {c : Cells} → Surveyed pool blocks (Some r) → Judged pool blocks c →
    (nodes : ℕ) → first_state r blocks nodes ≡ beginning blocks nodes (reopened blocks c)
unfolding first_state reopened
survey_begins {pool} {blocks} {r} {c} s j nodes =
    let current = s.current c j.reads in
    let bs : Blocks = blocks_in 32 blocks c in
    state_same blocks nodes r.current r.fill r.newest _ _ _ current
    (s.fill c j.reads ∙ ap (λ (i : ℕ). length (block bs i)) current)
    (s.newest c j.reads)
