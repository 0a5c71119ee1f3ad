-- `queues_asked` meets its contract: each way out of the loop is one of `Passed`. Assumes nothing.
use Rattle.std.proofs.Common.{◌≡◌, refl, subst, List, ℕ, ap, ap₂, sym, ◌∙◌, ◌+◌, ◌-◌, ◌≤◌, length, arith}
use Rattle.laws.specs.BigEndian.{bytes-get_or}
use Rattle.laws.specs.Lay.{part}
use Rattle.desk_queues.specs.Queues.{length_at, queue_at}
use Rattle.desk_queues.specs.Joined.{queue_commands}
use Rattle.desk_laws.specs.QueueLaws.{filled}
use Rattle.desk_questions.specs.Queue.{Admitted}
use Rattle.desk_questions.specs.Passed.{passed_none, next_in, next_invalid, next-room, next-commands, next_passed, all_short, all_few, all_passed}
use Rattle.desk_questions.proofs.queues_asked.Goals as goal
use Rattle.desk_questions.proofs.queues_asked.Goals.{After-read32, In_ok-queue}

-- The queue whose length was read ends within the queues.
reach : (c : After-read32) → c.loop-p.start + c.read32.result ≤ length c.args.queues.now
reach c = next_in _ _ (filled _ _ c.requires) _ _ _ c.loop-p.invariant c.loop-p-test.true _ c.read32.ensures.is

-- The part that is asked is the queue.
the_part :
    (c : After-read32) →
    part c.args.queues.now c.loop-p.start (c.loop-p.start + c.read32.result - c.loop-p.start) ≡ queue_at c.args.lengths.now c.args.queues.now c.loop-p.p
the_part c =
    let size : c.loop-p.start + c.read32.result - c.loop-p.start ≡ length_at c.args.lengths.now c.loop-p.p = omega (arith, c.read32.ensures.is) in
    ap₂ (part c.args.queues.now) c.loop-p.invariant.starts size

-- It may stand at the desk.
admitted :
    (c : In_ok-queue) →
    Admitted (queue_at c.args.lengths.now c.args.queues.now c.loop-p.p) c.in_ok-queue.queue.room c.in_ok-queue.queue.commands
unfolding part
admitted c =
    let queue = c.in_ok-queue.queue in
    subst (λ (s : List ℕ). Admitted s queue.room queue.commands) (the_part (goal.at.In_ok-queue c).After-read32) c.in_ok-queue.ensures

pub loop-p-init : goal.loop-p-init
loop-p-init c = passed_none _ _ (filled _ _ c.requires) (bytes-get_or _ (λ i. (c.type_inv.queues i).fits)) _ refl

pub overflow_add-end : goal.overflow_add-end
overflow_add-end c = omega (arith, reach (goal.at.overflow_add-end c).After-read32)

pub slice_bounds-queue_asked-end : goal.slice_bounds-queue_asked-end
slice_bounds-queue_asked-end c = omega (arith, reach (goal.at.slice_bounds-queue_asked-end c).After-read32)

pub returns-in_err-queue : goal.returns-in_err-queue
unfolding part
returns-in_err-queue c =
    c.from_residual.ensures ∙
    next_invalid _ _ (filled _ _ c.requires) _ _ _ c.loop-p.invariant c.loop-p-test.true
    (sym (ap queue_commands (the_part (goal.at.returns-in_err-queue c).After-read32)) ∙ c.in_err-queue.ensures)

pub with_queue-sums-requires : goal.with_queue-sums-requires
with_queue-sums-requires c =
    let a = admitted (goal.at.with_queue-sums-requires c).In_ok-queue in (
      next-room _ _ (filled _ _ c.requires) _ _ _ c.loop-p.invariant c.loop-p-test.true _ _ a,
      next-commands _ _ (filled _ _ c.requires) _ _ _ c.loop-p.invariant c.loop-p-test.true _ _ a,
    )

pub loop-p-preserved : goal.loop-p-preserved
loop-p-preserved c =
    next_passed _ _ (filled _ _ c.requires) _ _ _ c.loop-p.invariant c.loop-p-test.true _ _ (admitted (goal.at.loop-p-preserved c).In_ok-queue)
    _ c.read32.ensures.is _ c.with_queue-sums.ensures

pub within_limit-requires : goal.within_limit-requires
within_limit-requires c =
    let f = filled _ _ c.requires in (
      all_short _ _ f _ _ _ c.loop-p.invariant c.loop-p-test.false,
      all_few _ _ f _ _ _ c.loop-p.invariant c.loop-p-test.false,
    )

pub returns : goal.returns
returns c = c.within_limit.ensures ∙ all_passed _ _ (filled _ _ c.requires) _ _ _ c.loop-p.invariant c.loop-p-test.false
