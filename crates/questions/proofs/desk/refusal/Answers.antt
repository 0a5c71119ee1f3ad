-- `desk::refusal` meets its contract: 1 or 2, then 11, then 3 or 4, by what the queues ask for. Assumes nothing.
use Rattle.std.proofs.Common.{refl, sym, ◌∙◌, arith}
use Rattle.std.proofs.lemmas.Result.{err_from_is_err_and}
use Rattle.laws.specs.BigEndian.{bytes-get_or}
use Rattle.refusal.specs.Number.{number_some}
use Rattle.desk_laws.specs.QueueLaws.{filled}
use Rattle.desk_questions.specs.Answers.{Ready, served-rounds, served_invalid}
use Rattle.questions.specs.Desk.{by-sizes, by_eleven, by_three, by-four, by-none}
use Rattle.questions.proofs.desk.refusal.Goals as goal
use Rattle.questions.proofs.desk.refusal.Goals.{In-Some}

-- What the queues ask for.
ready : (c : In-Some) → Ready c.args.lengths.now c.args.queues.now c.in-Some.wanted.room c.in-Some.wanted.rounds
ready c =
    let fill = sym c.lengths_fill.ensures ∙ c.if-not-lengths_fill.false in
    served-rounds _ _ (filled _ _ fill) (bytes-get_or _ (λ i. (c.type_inv.queues i).fits)) _ _ (sym c.queues_asked.ensures ∙ c.in-Some.is)

pub returns-in_err-blocks-clause-number : goal.returns-in_err-blocks-clause-number
returns-in_err-blocks-clause-number c =
    let p = err_from_is_err_and c.from_residual.result c.from_residual.ensures.1 in
    rw (p.1, p.2)
    (by-sizes _ _ _ _ _ _ c.in_err-blocks.ensures.number (λ z. omega (arith, z, number_some c.in_err-blocks.field-0.0)))

pub returns-then-not-lengths_fill-clause-number : goal.returns-then-not-lengths_fill-clause-number
returns-then-not-lengths_fill-clause-number c =
    by_eleven _ _ _ _ _ _ c.in_ok-blocks.ensures.number refl (sym c.lengths_fill.ensures ∙ c.if-not-lengths_fill.true)

pub returns-in_default-clause-number : goal.returns-in_default-clause-number
returns-in_default-clause-number c =
    let fill = sym c.lengths_fill.ensures ∙ c.if-not-lengths_fill.false in
    by_three _ _ _ _ _ _ c.in_ok-blocks.ensures.number refl fill
    (served_invalid _ _ (filled _ _ fill) (bytes-get_or _ (λ i. (c.type_inv.queues i).fits)) (sym c.queues_asked.ensures ∙ c.in_default.is))

pub returns-then-answers-wanted-clause-number : goal.returns-then-answers-wanted-clause-number
returns-then-answers-wanted-clause-number c =
    by-four _ _ _ _ _ _ c.in_ok-blocks.ensures.number refl (sym c.lengths_fill.ensures ∙ c.if-not-lengths_fill.false)
    (ready (goal.at.returns-then-answers-wanted-clause-number c).In-Some) c.if-answers-wanted.true

pub returns-clause-number : goal.returns-clause-number
returns-clause-number c =
    by-none _ _ _ _ _ _ c.in_ok-blocks.ensures.number refl (sym c.lengths_fill.ensures ∙ c.if-not-lengths_fill.false)
    (ready (goal.at.returns-clause-number c).In-Some) c.if-answers-wanted.false

pub returns-clause-ready : goal.returns-clause-ready
returns-clause-ready c =
    record {
      fill = sym c.lengths_fill.ensures ∙ c.if-not-lengths_fill.false;
      room = c.in-Some.wanted.room;
      ready = ready (goal.at.returns-clause-ready c).In-Some;
      enough = c.if-answers-wanted.false;
    }
