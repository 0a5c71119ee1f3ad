-- The invariant: the entries not yet looked at say what all of them say. The answers hold of a search in a front part of the entries too;
-- only the last asks that the part is all of them. Assumes nothing.
use Rattle.std.proofs.Common.{ℕ, sym, ap, ◌∙◌, arith, Some, length-take, get_or-take}
use Rattle.wire.specs.Tag.{find, length_of}
use Rattle.wire.proofs.Search.{find_from, find_end, find-read, find-past}
use Rattle.wire.proofs.tag.find.Goals as goal

pub loop-entry-init : goal.loop-entry-init
unfolding find_from length_of
loop-entry-init c = ap (find c.args.tag) c.requires

pub returns-then-entry-from : goal.returns-then-entry-from
returns-then-entry-from c =
    let l = c.loop-entry in
    ap Some c.spelt.ensures ∙
    sym (find-read _ _ l.entry-index (omega (arith, length-take {A = ℕ})) _ (omega (arith, length-take {A = ℕ}, get_or-take {A = ℕ})) (omega arith)) ∙
    l.invariant

pub loop-entry-preserved : goal.loop-entry-preserved
loop-entry-preserved c =
    let l = c.loop-entry in
    sym (find-past _ _ l.entry-index (omega (arith, length-take {A = ℕ})) _ (omega (arith, length-take {A = ℕ}, get_or-take {A = ℕ}))
    (λ z. c.if-entry-from.false (z ∙ sym c.from.ensures))) ∙
    l.invariant

pub returns : goal.returns
returns c = let l = c.loop-entry in sym (find_end _ _ l.entry-index (omega (arith, length-take {A = ℕ}))) ∙ l.invariant
