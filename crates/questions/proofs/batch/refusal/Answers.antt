-- `batch::refusal` meets its contract: 1 or 2, then 3 or 4, by what the commands ask for. Assumes nothing.
use Rattle.std.proofs.Common.{refl, sym, ◌∙◌, arith}
use Rattle.std.proofs.lemmas.Result.{err_from_is_err_and}
use Rattle.refusal.specs.Number.{number_some}
use Rattle.command.specs.Batch.{commands_of}
use Rattle.model.specs.Questions.{of_commands, of_buffers}
use Rattle.questions.specs.Answers.{sizes_no, sizes-right, three, four, none_left, not_valid, asks_for}
use Rattle.questions.proofs.batch.refusal.Goals as goal

pub returns-in_err-blocks-clause-number : goal.returns-in_err-blocks-clause-number
unfolding of_buffers
returns-in_err-blocks-clause-number c =
    let p = err_from_is_err_and c.from_residual.result c.from_residual.ensures.1 in
    rw (p.1, p.2)
    (sizes_no _ _ _ c.in_err-blocks.ensures.number (of_commands (commands_of c.args.commands.now) c.args.answers.now)
    (λ z. omega (arith, z, number_some c.in_err-blocks.field-0.0)))

pub returns-in_default-clause-number : goal.returns-in_default-clause-number
unfolding of_buffers
returns-in_default-clause-number c =
    sizes-right _ _ _ c.in_ok-blocks.ensures.number (of_commands (commands_of c.args.commands.now) c.args.answers.now) refl 3
    (three c.args.answers.now _ (not_valid c.args.commands.now (sym c.in_default.is ∙ c.asked.ensures)))

pub returns-then-answers-wanted-clause-number : goal.returns-then-answers-wanted-clause-number
unfolding of_buffers
returns-then-answers-wanted-clause-number c =
    let asks = asks_for c.args.commands.now c.in-Some.wanted (sym c.in-Some.is ∙ c.asked.ensures) in
    sizes-right _ _ _ c.in_ok-blocks.ensures.number (of_commands (commands_of c.args.commands.now) c.args.answers.now) refl 4
    (four c.args.answers.now _ asks.0 asks.1 (omega (arith, asks.2, c.if-answers-wanted.true)))

pub returns-clause-number : goal.returns-clause-number
unfolding of_buffers
returns-clause-number c =
    let asks = asks_for c.args.commands.now c.in-Some.wanted (sym c.in-Some.is ∙ c.asked.ensures) in
    sizes-right _ _ _ c.in_ok-blocks.ensures.number (of_commands (commands_of c.args.commands.now) c.args.answers.now) refl 0
    (none_left c.args.answers.now _ asks.0 asks.1 (omega (arith, asks.2, c.if-answers-wanted.false)))
