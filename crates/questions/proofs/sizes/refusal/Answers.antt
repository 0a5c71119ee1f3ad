-- `sizes::refusal` meets its contract: 1, 2 or neither, by the blocks that were counted. Assumes nothing.
use Rattle.std.proofs.Common.{sym, ◌∙◌, arith}
use Rattle.model.specs.PoolLaws.{no_pool, a_pool, blocks-counted}
use Rattle.questions.specs.Answers.{one, two, neither}
use Rattle.questions.proofs.sizes.refusal.Goals as goal

pub returns-in_default-clause-number : goal.returns-in_default-clause-number
returns-in_default-clause-number c = one _ _ (no_pool _ (sym c.in_default.is ∙ c.pool_blocks.ensures))

pub overflow_mul-blocks : goal.overflow_mul-blocks
overflow_mul-blocks c =
    let is = sym c.in-Some.is ∙ c.pool_blocks.ensures in
    omega (arith, blocks-counted _ _ is, (a_pool _ _ is).most)

pub returns-then-table-blocks-clause-number : goal.returns-then-table-blocks-clause-number
returns-then-table-blocks-clause-number c =
    let is = sym c.in-Some.is ∙ c.pool_blocks.ensures in
    two _ _ (a_pool _ _ is) (omega (arith, blocks-counted _ _ is, c.if-table-blocks.true))

pub returns-clause-number : goal.returns-clause-number
returns-clause-number c =
    let is = sym c.in-Some.is ∙ c.pool_blocks.ensures in
    neither _ _ (a_pool _ _ is) (omega (arith, blocks-counted _ _ is, c.if-table-blocks.false))

pub returns-clause-blocks : goal.returns-clause-blocks
returns-clause-blocks c = blocks-counted _ _ (sym c.in-Some.is ∙ c.pool_blocks.ensures)
