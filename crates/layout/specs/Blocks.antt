-- The blocks of a pool, by its length in bytes. Assumes nothing.
use Rattle.std.specs.Prelude.{◌≡◌, ℕ, ◌*◌, ◌/◌, ◌≤◌, ◌<◌, eqb, ltb, Option, None, Some}
use Rattle.std.proofs.Math.Path.{refl}
use borrow.Author.Tests.{lt-ltb, le-ltb, eq-eqb, ne_eqb}
use Rattle.laws.specs.Tests.{choose}
use Rattle.layout.specs.Layout.{block_bytes, fewest_blocks, most_blocks}

-- The blocks of a pool of so many bytes, none where no pool has that length.
unfoldable pub blocks_if : ℕ → Option ℕ
blocks_if bytes =
    choose (ltb (bytes / block_bytes) fewest_blocks) None
    (choose (ltb most_blocks (bytes / block_bytes)) None
    (choose (eqb (block_bytes * (bytes / block_bytes)) bytes) (Some (bytes / block_bytes)) None))

-- The four ways out of the question for the length.
module _ (bytes : ℕ) where
  abbrev blocks : ℕ
  blocks = bytes / block_bytes

  pub too_few : blocks < fewest_blocks → None ≡ blocks_if bytes
  unfolding blocks_if
  too_few l = rw (lt-ltb blocks fewest_blocks l) refl

  module _ (a : fewest_blocks ≤ blocks) where
    pub too_many : most_blocks < blocks → None ≡ blocks_if bytes
    unfolding blocks_if
    too_many l = rw (le-ltb blocks fewest_blocks a, lt-ltb most_blocks blocks l) refl

    module _ (b : blocks ≤ most_blocks) where
      pub whole-blocks : block_bytes * blocks ≡ bytes → Some blocks ≡ blocks_if bytes
      unfolding blocks_if
      whole-blocks e = rw (le-ltb blocks fewest_blocks a, le-ltb most_blocks blocks b, eq-eqb (block_bytes * blocks) bytes e) refl

      pub cut_block : (block_bytes * blocks ≡ bytes → ⊥) → None ≡ blocks_if bytes
      unfolding blocks_if
      cut_block d = rw (le-ltb blocks fewest_blocks a, le-ltb most_blocks blocks b, ne_eqb (block_bytes * blocks) bytes d) refl
