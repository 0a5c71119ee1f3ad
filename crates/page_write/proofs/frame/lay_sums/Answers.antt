-- `page_write::frame::lay_sums` meets its contract. The sums are those of the bytes before the place, which no later store
-- touches. Assumes nothing.
use mathlib.Core.Path.{sym, ap, ◌∙◌}
use native.Mathlib.Omega.{arith}
use lib.ListN.{take}
use lib.Seq.{length-take-le}
use Rattle.wire.specs.declared.sum.Sums.{Sums}
use Rattle.wire.specs.Sum.{sums_of-small}
use Rattle.page_write.specs.Laid.{sums-laid}
use Rattle.page_write.proofs.frame.lay_sums.Goals as goal

pub slice_bounds-sum_bytes-end-2 : goal.slice_bounds-sum_bytes-end-2
slice_bounds-sum_bytes-end-2 c = sym (length-take-le c.args.end c.args.p.now (omega arith))

pub sum_bytes-s-requires : goal.sum_bytes-s-requires
sum_bytes-s-requires c = omega (arith, length-take-le c.args.end c.args.p.now (omega arith))

pub write16-requires : goal.write16-requires
write16-requires c =
    rw c.sum_bytes-s.ensures (omega (arith, c.lay_head.auto.dst, (sums_of-small (take c.args.end c.args.p.now)).b))

pub write16-requires-2 : goal.write16-requires-2
write16-requires-2 c =
    rw c.sum_bytes-s.ensures (omega (arith, c.write16.auto.s, c.lay_head.auto.dst, (sums_of-small (take c.args.end c.args.p.now)).a))

pub returns : goal.returns
returns c = let a = c.args in
    c.write16-2.ensures ∙
    rw (
      c.write16.ensures,
      c.lay_head.ensures,
    )
    (sums-laid a.p.now a.end (take a.end a.p.now) _ _ (omega arith)
    (ap (λ (s : Sums). s.a) c.sum_bytes-s.ensures)
    (ap (λ (s : Sums). s.b) c.sum_bytes-s.ensures))
