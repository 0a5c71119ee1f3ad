-- `put::put` meets its contract: by whether the pair fits its leaf, one edit, or what a new key does. Assumes nothing.
use Rattle.flash_allocate.specs.Flash.{world_of}
use Rattle.run_put.proofs.Laws.{done-is, leaf-full, put-edit, put_new}
use Rattle.run_put.proofs.put.put.Goals as goal

pub put_splitting-requires-clause-full : goal.put_splitting-requires-clause-full
put_splitting-requires-clause-full c =
    let a = c.args in
    let p = c.path_to-length in
    let way = rw (c.pool.ensures, c.table.ensures) at p.ensures in
    leaf-full a.key (world_of a.flash.now) p.result p.new.ids way a.tariff a.value c.fit.result c.fit.ensures _ c.in-Err.is

pub returns-in-Ok-clause-served : goal.returns-in-Ok-clause-served
returns-in-Ok-clause-served c =
    let a = c.args in
    let p = c.path_to-length in
    let way = rw (c.pool.ensures, c.table.ensures) at p.ensures in
    let x = c.read_and_edit in
    let w = world_of x.new.flash in
    put-edit a.key (world_of a.flash.now) p.result p.new.ids way a.tariff a.value c.fit.result c.fit.ensures w.pages w.table
    c.replaced_answer.result _ c.in-Ok.is c.replaced_answer.ensures x.ensures.served

pub returns-in-Err-clause-served : goal.returns-in-Err-clause-served
returns-in-Err-clause-served c =
    let a = c.args in
    let p = c.path_to-length in
    let way = rw (c.pool.ensures, c.table.ensures) at p.ensures in
    done-is (put_new a.key (world_of a.flash.now) p.result p.new.ids way a.tariff a.value c.fit.result c.fit.ensures _ c.in-Err.is)
    c.put_splitting.ensures.served
