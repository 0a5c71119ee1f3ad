-- `absorb::absorb_pair` meets its contract: one edit where the pair fits, else the split. Assumes nothing.
use Rattle.flash_allocate.specs.Flash.{world_of}
use Rattle.run_split.proofs.Laws.{absorbed_is, pair_fits, pair_splits, pair_full, pair_there}
use Rattle.run_split.proofs.absorb.absorb_pair.Goals as goal

pub returns-in-Ok-clause-absorbed : goal.returns-in-Ok-clause-absorbed
returns-in-Ok-clause-absorbed c =
    let a = c.args in
    let v = c.read_node-v in
    absorbed_is c.absorb_edit.ensures.absorbed
    (pair_fits a.tariff a.root a.id a.key a.value (world_of a.flash.now) v.result v.ensures.is c.fit.result c.fit.ensures c.in-Ok.is)

pub split-requires-clause-known : goal.split-requires-clause-known
split-requires-clause-known c =
    let a = c.args in
    let v = c.read_node-v in
    pair_there a.tariff a.root a.id a.key a.value (world_of a.flash.now) v.result v.ensures.is c.fit.result c.fit.ensures _ c.in-Err.is v.ensures.held

pub split-requires-clause-splits : goal.split-requires-clause-splits
split-requires-clause-splits c =
    let a = c.args in
    let v = c.read_node-v in
    pair_full a.tariff a.root a.id a.key a.value (world_of a.flash.now) v.result v.ensures.is c.fit.result c.fit.ensures _ c.in-Err.is v.ensures.held

pub returns-in-Err-clause-absorbed : goal.returns-in-Err-clause-absorbed
returns-in-Err-clause-absorbed c =
    let a = c.args in
    let v = c.read_node-v in
    absorbed_is c.split.ensures.absorbed
    (pair_splits a.tariff a.root a.id a.key a.value (world_of a.flash.now) v.result v.ensures.is c.fit.result c.fit.ensures _ c.in-Err.is)
