-- `prepare::refusal` meets its contract: 1, 10 or neither. Assumes nothing.
use Rattle.std.proofs.Common.{sym, ◌∙◌}
use Rattle.model.specs.PoolLaws.{no_pool, a_pool, blocks-counted}
use Rattle.questions.specs.Answers.{prepare_one, prepare_ten, prepare_neither}
use Rattle.questions.proofs.prepare.refusal.Goals as goal

pub returns-in_default-clause-number : goal.returns-in_default-clause-number
returns-in_default-clause-number c = prepare_one _ _ (no_pool _ (sym c.in_default.is ∙ c.pool_blocks.ensures))

pub returns-then-not-in_range-clause-number : goal.returns-then-not-in_range-clause-number
returns-then-not-in_range-clause-number c =
    prepare_ten _ _ (a_pool _ _ (sym c.in-Some.is ∙ c.pool_blocks.ensures)) (sym c.in_range.ensures ∙ c.if-not-in_range.true)

pub returns-clause-number : goal.returns-clause-number
returns-clause-number c =
    prepare_neither _ _ (a_pool _ _ (sym c.in-Some.is ∙ c.pool_blocks.ensures)) (sym c.in_range.ensures ∙ c.if-not-in_range.false)

pub returns-clause-blocks : goal.returns-clause-blocks
returns-clause-blocks c = blocks-counted _ _ (sym c.in-Some.is ∙ c.pool_blocks.ensures)
