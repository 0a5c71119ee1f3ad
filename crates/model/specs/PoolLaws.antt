-- A buffer is a pool by its length, or is none; question 1 says which, and so does the number of blocks that the code counts. Assumes nothing.
use Rattle.std.specs.Prelude.{◌≡◌, refl, true, false, List, ◌⊎◌, ℕ, ◌*◌, ◌/◌, ◌≤◌, ◌<◌, length, Some, None}
use Rattle.std.proofs.Common.{sym, ap, ◌∙◌, inl, inr, arith, le-leb, eq-eqb, ne_eqb}
use Rattle.std.proofs.Math.Nat.{mul-div_cancel_left}
use Rattle.std.proofs.lemmas.Bool.{lt-leb}
use Rattle.laws.specs.Options.{none_some, some_same}
use Rattle.laws.specs.Order.{eq_or, le_or}
use Rattle.laws.specs.Tests.{test_clash}
use Rattle.layout.specs.Blocks.{blocks_if, too_few, too_many, whole-blocks, cut_block}
use Rattle.layout.specs.Layout.{block_bytes, fewest_blocks, most_blocks}
use Rattle.model.specs.Pool.{blocks_of, pool_length}

pub record IsPool (pool : List ℕ) : Type 0 where
  pub question : pool_length pool ≡ true
  pub least : fewest_blocks ≤ blocks_of pool
  pub most : blocks_of pool ≤ most_blocks
  pub whole : length pool ≡ block_bytes * blocks_of pool
  pub blocks : blocks_if (length pool) ≡ Some (blocks_of pool)

pub data Length (pool : List ℕ) : Type 0 where
  wrong : blocks_if (length pool) ≡ None → pool_length pool ≡ false → Length pool
  right : IsPool pool → Length pool

pub length-is : (pool : List ℕ) → Length pool
unfolding pool_length
length-is pool = go (le_or fewest_blocks (blocks_of pool)) (le_or (blocks_of pool) most_blocks) (eq_or (block_bytes * blocks_of pool) (length pool))
  where
    n : ℕ
    n = length pool

    go : (fewest_blocks ≤ blocks_of pool) ⊎ (blocks_of pool < fewest_blocks) → (blocks_of pool ≤ most_blocks) ⊎ (most_blocks < blocks_of pool) →
        (block_bytes * blocks_of pool ≡ length pool) ⊎ (block_bytes * blocks_of pool ≡ length pool → ⊥) → Length pool
    go (inr l) b c = wrong (sym (too_few n l)) (rw (lt-leb fewest_blocks (blocks_of pool) l) refl)
    go (inl a) (inr l) c = wrong (sym (too_many n a l)) (rw (le-leb fewest_blocks (blocks_of pool) a, lt-leb (blocks_of pool) most_blocks l) refl)
    go (inl a) (inl b) (inr d) =
        wrong (sym (cut_block n a b d))
        (rw (le-leb fewest_blocks (blocks_of pool) a, le-leb (blocks_of pool) most_blocks b, ne_eqb (block_bytes * blocks_of pool) (length pool) d) refl)
    go (inl a) (inl b) (inl e) =
        right
        (record {
          question = rw (le-leb fewest_blocks (blocks_of pool) a, le-leb (blocks_of pool) most_blocks b, eq-eqb (block_bytes * blocks_of pool) (length pool) e) refl;
          least = a;
          most = b;
          whole = sym e;
          blocks = sym (whole-blocks n a b e);
        })

-- No block counted: no pool; some block counted: a pool. Question 1 answered with yes: a pool.
module _ (pool : List ℕ) where
  pub no_pool : None ≡ blocks_if (length pool) → pool_length pool ≡ false
  no_pool is = go (length-is pool)
    where
      go : Length pool → pool_length pool ≡ false
      go (wrong e q) = q
      go (right h) = absurd (none_some (is ∙ h.blocks))

  pub a_pool : (n : ℕ) → Some n ≡ blocks_if (length pool) → IsPool pool
  a_pool n is = go (length-is pool)
    where
      go : Length pool → IsPool pool
      go (wrong e q) = absurd (none_some (sym e ∙ sym is))
      go (right h) = h

  pub blocks-counted : (n : ℕ) → Some n ≡ blocks_if (length pool) → n ≡ blocks_of pool
  blocks-counted n is = some_same (is ∙ (a_pool n is).blocks)

  pub is-pool : pool_length pool ≡ true → IsPool pool
  is-pool e = go (length-is pool)
    where
      go : Length pool → IsPool pool
      go (wrong z q) = absurd (test_clash (pool_length pool) e q)
      go (right h) = h

-- A buffer of so many whole blocks.
pub blocks-length : (pool : List ℕ) (blocks : ℕ) → length pool ≡ block_bytes * blocks → blocks_of pool ≡ blocks
blocks-length pool blocks e = ap (λ (n : ℕ). n / block_bytes) e ∙ mul-div_cancel_left blocks (omega arith)

pub whole_length : (pool : List ℕ) (blocks : ℕ) → length pool ≡ block_bytes * blocks → fewest_blocks ≤ blocks → blocks ≤ most_blocks → pool_length pool ≡ true
whole_length pool blocks e l m = go (length-is pool) (blocks-length pool blocks e)
  where
    go : Length pool → blocks_of pool ≡ blocks → pool_length pool ≡ true
    go (right h) same = h.question
    go (wrong z q) same =
        absurd (none_some (sym z ∙ sym (whole-blocks (length pool) (omega (arith, same)) (omega (arith, same)) (omega (arith, e, same)))))
