-- `prepare` meets its contract: refused for what is lent, or prepared. Assumes nothing.
use Rattle.std.proofs.Common.{refl, rules, arith}
use Rattle.std.proofs.lemmas.Result.{err_from_is_err_and}
use Rattle.refusal.specs.Number.{number_some}
use Rattle.prepare.proofs.Laws.{refused-leaves, is-prepared, prepared-leaves}
use Rattle.prepare.proofs.prepare.Goals as goal

pub returns-in_err-blocks : goal.returns-in_err-blocks
returns-in_err-blocks c =
    let p = err_from_is_err_and c.from_residual.result c.from_residual.ensures.1 in
    rw (p.1, p.2)
    (refused-leaves _ _ _ c.in_err-blocks.ensures.number (λ z. omega (arith, z, number_some c.in_err-blocks.field-0.0)))

pub write_first-requires : goal.write_first-requires
write_first-requires c =
    let h = is-prepared _ _ _ c.in_ok-blocks.ensures.number refl in
    (omega (arith, h.whole, c.in_ok-blocks.ensures.blocks), omega (arith, h.least, c.in_ok-blocks.ensures.blocks))

pub returns : goal.returns
returns c =
    prepared-leaves _ _ _ c.in_ok-blocks.ensures.number refl
    _ _ _ c.root_page.ensures c.checkpoint_page.ensures (search rules) (search rules) c.write_first.ensures
