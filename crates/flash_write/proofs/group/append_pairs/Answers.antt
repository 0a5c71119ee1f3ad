-- `group::append_pairs` meets its contract. The invariant: the entries of the pairs left give those of all pairs. Assumes nothing.
use Rattle.std.proofs.Common.{◌∙◌, inl, inr, rules}
use Rattle.node.specs.Value.{pairs_in}
use Rattle.flash_rows.specs.Worktable.{table_from}
use Rattle.flash_log.specs.Entry.{logged}
use Rattle.flash_write.proofs.Laws.{entries_more, entries-done}
use Rattle.flash_write.proofs.group.append_pairs.Goals as goal

pub loop-key-init : goal.loop-key-init
unfolding pairs_in
loop-key-init c = search rules

pub loop-key-preserved : goal.loop-key-preserved
loop-key-preserved c =
    let a = c.args in
    let l = c.loop-key in
    let h = c.in-Some.ensures.steps in
    rw c.append-s.ensures (entries_more a.id a.version (logged (table_from l.table) l.s) _ _ _ _ _ _ h.0 h.1 ∙ l.invariant)

pub returns : goal.returns
returns c =
    let a = c.args in
    let l = c.loop-key in
    entries-done a.id a.version (logged (table_from l.table) l.s) _ _
    (elim c.in-None.ensures.steps [ inl h ↦ inl h.1.0 | inr h ↦ inr h.1.0 ]) ∙ l.invariant
