-- `replay::redo_entry` meets its contract: each kind of entry is one case. Assumes nothing.
use Rattle.std.proofs.Common.{refl, arith}
use Rattle.node_replay.specs.Outline.{links_in}
use Rattle.flash_read.proofs.Laws.{change-put, change_remove, change-leaf, change-branch}
use Rattle.flash_read.proofs.replay.redo_entry.Goals as goal

pub returns-in-1 : goal.returns-in-1
returns-in-1 c =
    let a = c.args in
    let key = c.read32-key in
    let pointer = c.read32-pointer in
    rw (← change-put a.entry.now _ key.result pointer.result refl key.ensures.is pointer.ensures.is c.in-1.is) c.redo_put.ensures

pub returns-in-2 : goal.returns-in-2
returns-in-2 c =
    let a = c.args in
    let key = c.read32-key in
    let pointer = c.read32-pointer in
    rw (← change_remove a.entry.now _ key.result pointer.result refl key.ensures.is pointer.ensures.is (λ e. omega (arith, c.in-2.is)) c.in-2.is)
    c.redo_delete.ensures

pub returns-in-3 : goal.returns-in-3
returns-in-3 c =
    let a = c.args in
    let key = c.read32-key in
    let pointer = c.read32-pointer in
    rw (← change-leaf a.entry.now _ key.result pointer.result refl key.ensures.is pointer.ensures.is
    (λ e. omega (arith, c.in-3.is)) (λ e. omega (arith, c.in-3.is)) c.in-3.is)
    (links_in _ _ _ _ c.redo_link.ensures a.keys.now a.pointers.now c.requires.1)

pub returns-in_default : goal.returns-in_default
returns-in_default c =
    let a = c.args in
    let key = c.read32-key in
    let pointer = c.read32-pointer in
    rw (← change-branch a.entry.now _ key.result pointer.result refl key.ensures.is pointer.ensures.is
    (λ e. omega arith) (λ e. omega arith) (λ e. omega arith))
    (links_in _ _ _ _ c.redo_link-in_default.ensures a.keys.now a.pointers.now c.requires.1)
