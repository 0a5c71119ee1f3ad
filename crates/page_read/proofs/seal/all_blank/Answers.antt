-- `page_read::seal::all_blank` meets its contract. The invariant: whether the bytes that are left are FF is whether all are; the last sixteen
-- then tell it, since all that stand before them and are not left are FF. Assumes nothing.
use mathlib.Core.Path.{refl, sym, ◌∙◌}
use Prim.Native.Nat.{◌-◌}
use native.Mathlib.Omega.{arith}
use lib.ListN.{length}
use Rattle.page_read.specs.Blank.{part-next, part_stop, last-blank}
use Rattle.page_read.proofs.seal.all_blank.Goals as goal

pub few_blank-requires : goal.few_blank-requires
few_blank-requires c = tt

pub returns-then-s-lt16 : goal.returns-then-s-lt16
returns-then-s-lt16 c = c.few_blank.ensures

pub loop-i-init : goal.loop-i-init
loop-i-init c = (omega arith, refl)

pub returns-then-not-sixteen_blank : goal.returns-then-not-sixteen_blank
returns-then-not-sixteen_blank c =
    let s = c.args.s.now in
    part_stop s c.loop-i.i 16 (sym c.if-not-sixteen_blank.true ∙ c.sixteen_blank.ensures) ∙ c.loop-i.invariant.1

pub loop-i-preserved : goal.loop-i-preserved
loop-i-preserved c =
    let s = c.args.s.now in
    (omega arith, part-next s c.loop-i.i 16 (sym c.if-not-sixteen_blank.false ∙ c.sixteen_blank.ensures) ∙ c.loop-i.invariant.1)

pub returns : goal.returns
returns c =
    let l = c.loop-i in
    let s = c.args.s.now in
    c.sixteen_blank-2.ensures ∙ last-blank s l.i (length s - 16) 16 (omega arith) (omega arith) l.invariant.1
