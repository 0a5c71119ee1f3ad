-- `run::replies::reply_ceiling` meets its contract: the pair in front is the first of those found. Assumes nothing.
use Rattle.std.proofs.Common.{refl, arith}
use Rattle.command.specs.AnswerLaws.{length-ceiling_bytes}
use Rattle.run.specs.Replies.{first-none, first_found}
use Rattle.run.proofs.replies.reply_ceiling.Goals as goal

pub returns-then-done-eq0 : goal.returns-then-done-eq0
returns-then-done-eq0 c =
    rw (first-none c.args.done.pairs c.if-done-eq0.true)
    (record { charge = refl; answers = c.lay_answer.ensures.0; behind = c.lay_answer.ensures.1 })

pub returns-else-done-eq0 : goal.returns-else-done-eq0
returns-else-done-eq0 c =
    rw (first_found c.args.done.pairs c.requires.0 c.if-done-eq0.false)
    (record { charge = refl; answers = c.lay_ceiling.ensures.0; behind = omega (arith, c.lay_ceiling.ensures.1, length-ceiling_bytes) })
