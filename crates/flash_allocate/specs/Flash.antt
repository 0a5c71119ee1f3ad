-- What a step leaves of a pool and a work table that are lent. Assumes nothing.
use Rattle.std.specs.Prelude.{◌≡◌, ℕ, length}
use Rattle.std.proofs.Common.{◌∙◌, refl}
use Rattle.flash_allocate.specs.declared.flash.Flash.{Flash}
use Rattle.flash_allocate.specs.World.{World, Leaves, LeftIn, world_in}

-- The world of the buffers and the state.
abbrev pub world_of : Flash → World
world_of f = world_in f.pool.now f.table.now f.state

-- The same buffers, of the same lengths, left as the step says.
pub record Steps (step : Leaves) (before behind : Flash) (right : World) : Type 0 where
  pub same_pool : behind.pool.ghost_name ≡ before.pool.ghost_name
  pub same_table : behind.table.ghost_name ≡ before.table.ghost_name
  pub long : length behind.table.now ≡ length before.table.now
  pub left : LeftIn step behind.pool.now behind.table.now before.state behind.state right

-- The same buffers after one step, and after one more.
pub after_one : {step one : Leaves} {a b : Flash} {w right : World} → Steps one a b w →
    LeftIn step b.pool.now b.table.now a.state b.state right → Steps step a b right
after_one x l = record { same_pool = x.same_pool; same_table = x.same_table; long = x.long; left = l }

pub after_two : {step one two : Leaves} {a b c : Flash} {v w right : World} → Steps one a b v → Steps two b c w →
    LeftIn step c.pool.now c.table.now a.state c.state right → Steps step a c right
after_two x y l =
    record { same_pool = y.same_pool ∙ x.same_pool; same_table = y.same_table ∙ x.same_table; long = y.long ∙ x.long; left = l }

-- No step.
pub after_none : {step : Leaves} {a : Flash} {right : World} → LeftIn step a.pool.now a.table.now a.state a.state right → Steps step a a right
after_none l = record { same_pool = refl; same_table = refl; long = refl; left = l }

-- The same buffers, of the same lengths, whatever is in them.
pub record Same (before behind : Flash) : Type 0 where
  pub pool : behind.pool.ghost_name ≡ before.pool.ghost_name
  pub table : behind.table.ghost_name ≡ before.table.ghost_name
  pub long : length behind.table.now ≡ length before.table.now

pub same-none : (a : Flash) → Same a a
same-none a = record { pool = refl; table = refl; long = refl }

pub same_then : {a b c : Flash} → Same a b → Same b c → Same a c
same_then x y = record { pool = y.pool ∙ x.pool; table = y.table ∙ x.table; long = y.long ∙ x.long }

pub same-steps : {step : Leaves} {a b : Flash} {right : World} → Steps step a b right → Same a b
same-steps x = record { pool = x.same_pool; table = x.same_table; long = x.long }
