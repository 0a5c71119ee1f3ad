-- `total` meets its contract: the sum of the definitions is std's. Assumes nothing.
use Rattle.std.proofs.Common.{refl, arith}
use Rattle.std.proofs.lemmas.Grind.{common_steps}
use Rattle.std.proofs.lemmas.List.Recursion.{is_sum_by}
use Rattle.laws.specs.Update.{sum}
use Rattle.wall.proofs.total.Goals as goal

pub sum-requires-clause-fits : goal.sum-requires-clause-fits
sum-requires-clause-fits c = grind (arith, common_steps, is_sum_by sum (λ x. x) refl (λ x xs. refl) c.args.charges.now)

pub returns : goal.returns
returns c = grind (arith, common_steps, is_sum_by sum (λ x. x) refl (λ x xs. refl) c.args.charges.now)
