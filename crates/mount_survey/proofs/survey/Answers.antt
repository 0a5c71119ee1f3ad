-- `survey` meets its contract. Each return is the answer of the model, by the tests before it. Assumes nothing.
use Rattle.std.proofs.Common.{sym, ap, ◌∙◌}
use Rattle.laws.specs.BigEndian.{bytes-get_or}
use Rattle.flash_blocks.specs.Pages.{pages_of}
use Rattle.mount_sequences.specs.Row.{row}
use Rattle.mount_blocks.specs.Rules.{blocks_pass}
use Rattle.mount_survey.specs.Surveyed.{surveyed_bad}
use Rattle.mount_survey.proofs.Laws.{numbers_fail, blocks_fail, all_found}
use Rattle.mount_survey.proofs.survey.Goals as goal
use Rattle.mount_survey.proofs.survey.Goals.{then-not-numbers_pass-via-then-not-numbers_pass, then-not-numbers_pass-via-else-not-numbers_pass+then-not-all_pass}

pub returns-in_err-n : goal.returns-in_err-n
returns-in_err-n c =
    let pool = c.args.pool.now in
    let bytes = bytes-get_or pool (λ i. (c.type_inv.pool i).fits) in
    rw c.from_residual.ensures
    (surveyed_bad pool bytes c.args.blocks c.requires.0 (rw c.in_err-n.was at c.collect.ensures.is))

pub returns-then-not-numbers_pass : goal.returns-then-not-numbers_pass
returns-then-not-numbers_pass c =
    let pool = c.args.pool.now in
    let blocks = c.args.blocks in
    let bytes = bytes-get_or pool (λ i. (c.type_inv.pool i).fits) in
    let numbers = row c.in_ok-n.n 0 c.collect.new.table in
    let are = rw c.in_ok-n.was at c.collect.ensures.is in
    elim c.then-not-numbers_pass.branch [
      | then-not-numbers_pass-via-then-not-numbers_pass w ↦
          numbers_fail pool bytes blocks c.requires.0 numbers are (sym c.numbers_pass.ensures ∙ w.if-not-numbers_pass.true)
      | then-not-numbers_pass-via-else-not-numbers_pass+then-not-all_pass w ↦
          blocks_fail pool bytes blocks c.requires.0 numbers are (sym c.numbers_pass.ensures ∙ w.if-not-numbers_pass.false)
          (ap (blocks_pass blocks (pages_of pool)) (sym c.greatest-newest.ensures) ∙ sym w.all_pass.ensures ∙ w.if-not-all_pass.true)
    ]

pub returns : goal.returns
returns c =
    let pool = c.args.pool.now in
    let blocks = c.args.blocks in
    let bytes = bytes-get_or pool (λ i. (c.type_inv.pool i).fits) in
    let numbers = row c.in_ok-n.n 0 c.collect.new.table in
    let are = rw c.in_ok-n.was at c.collect.ensures.is in
    let newest = ap (blocks_pass blocks (pages_of pool)) (sym c.greatest-newest.ensures) in
    rw (c.found.ensures, c.greatest-newest.ensures)
    (all_found pool bytes blocks c.requires.0 numbers are (sym c.numbers_pass.ensures ∙ c.if-not-numbers_pass.false)
    (newest ∙ sym c.all_pass.ensures ∙ c.if-not-all_pass.false))
