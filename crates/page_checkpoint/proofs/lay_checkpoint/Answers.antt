-- `lay_checkpoint` meets its contract. Field 10, the tariff, the scores, the count and the sums
-- laid one behind another; there is room for each. Assumes nothing.
use mathlib.Core.Path.{◌≡◌, refl, ◌∙◌}
use Prim.Native.Nat.{◌+◌, ◌*◌}
use native.Mathlib.Omega.{arith}
use Rattle.laws.specs.Lay.{lay}
use Rattle.laws.specs.BigEndian.{bytes-get_or}
use Rattle.page_write.specs.Laid.{summed-laid}
use Rattle.page_checkpoint.specs.Checkpoint.{records_page}
use Rattle.page_write.specs.Pages.{body_of}
use Rattle.page_checkpoint.specs.Checkpoint.{checkpoint-laid, length_checkpoint_body, scores-room, count_room}
use Rattle.page_checkpoint.proofs.lay_checkpoint.Goals as goal

pub lay_run-requires : goal.lay_run-requires
lay_run-requires c =
    let a = c.args in
    omega (
      arith,
      scores-room a.tariff a.n c.requires.1.0,
      c.lay_front-at.ensures.behind,
      c.lay_front-at.auto.p,
      c.lay_sequence.auto.p,
      c.requires,
    )

pub overflow_add-at : goal.overflow_add-at
overflow_add-at c =
    let a = c.args in
    omega (arith, scores-room a.tariff a.n c.requires.1.0, c.lay_front-at.ensures.behind)

pub lay_end-end-requires : goal.lay_end-end-requires
lay_end-end-requires c =
    let a = c.args in (
      omega (
        arith,
        scores-room a.tariff a.n c.requires.1.0,
        c.lay_front-at.ensures.behind,
        c.lay_run.auto.p,
        c.lay_front-at.auto.p,
        c.lay_sequence.auto.p,
        c.requires,
      ),
      c.requires.1.1.1,
    )

pub lay_sums-requires : goal.lay_sums-requires
lay_sums-requires c =
    let a = c.args in
    omega (
      arith,
      scores-room a.tariff a.n c.requires.1.0,
      count_room a.count,
      c.lay_end-end.ensures.behind,
      c.lay_front-at.ensures.behind,
      c.lay_end-end.auto.p,
      c.lay_run.auto.p,
      c.lay_front-at.auto.p,
      c.lay_sequence.auto.p,
      c.requires,
    )

pub returns : goal.returns
returns c =
    let a = c.args in
    let b = bytes-get_or a.records.now (λ i. (c.type_inv.records i).fits) in
    let at = c.lay_front-at.result in
    let r = scores-room a.tariff a.n c.requires.1.0 in
    let page = records_page a.sequence a.tariff a.n a.records.now a.count in
    let e : c.lay_end-end.new.p ≡ lay a.p.now 0 (body_of page) =
    c.lay_end-end.ensures.is ∙
    rw (c.lay_run.ensures, c.lay_front-at.ensures.is, c.lay_sequence.ensures)
    (checkpoint-laid a.p.now a.sequence a.tariff a.n a.records.now a.count at (at + 9 * a.n) b
    c.requires.1.1.0 (omega (arith, c.requires.0)) c.lay_front-at.ensures.behind refl (omega (arith, c.requires.0, c.lay_front-at.ensures.behind))) in
    c.lay_sums.ensures ∙
    rw e (summed-laid a.p.now (body_of page) c.lay_end-end.result
    (length_checkpoint_body a.sequence a.tariff a.n a.records.now a.count at c.lay_end-end.result b
    c.requires.1.1.0 c.lay_front-at.ensures.behind c.lay_end-end.ensures.behind))
