-- `node_page::node_of_payload` meets its contract: too short, too long, or what the pairs make. Assumes nothing.
use Rattle.std.proofs.Common.{refl, ◌-◌, ◌/◌, length}
use Rattle.flash_read.proofs.Laws.{redone_none, whole_short, whole_long, whole-read}
use Rattle.flash_read.proofs.node_page.node_of_payload.Goals as goal

pub returns-then-p-lt7 : goal.returns-then-p-lt7
returns-then-p-lt7 c =
    let a = c.args in
    redone_none c.no_node.result c.no_node.ensures a.keys.now a.pointers.now c.requires _
    (whole_short a.p.now c.if-p-lt7.true)

pub returns-then-n-gt-MOST_KEYS : goal.returns-then-n-gt-MOST_KEYS
returns-then-n-gt-MOST_KEYS c =
    let a = c.args in
    let p = a.p.now in
    redone_none c.no_node-then-n-gt-MOST_KEYS.result c.no_node-then-n-gt-MOST_KEYS.ensures a.keys.now a.pointers.now c.requires _
    (whole_long p c.if-p-lt7.false ((length p - 7) / 8) refl c.if-n-gt-MOST_KEYS.true)

pub returns : goal.returns
returns c =
    let p = c.args.p.now in
    rw (
    ← whole-read p c.if-p-lt7.false ((length p - 7) / 8) refl c.if-n-gt-MOST_KEYS.false c.shape_of.result c.read32.result
    c.shape_of.ensures c.read32.ensures.is
    ) c.read_pairs.ensures
