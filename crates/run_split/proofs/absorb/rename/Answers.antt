-- `absorb::rename` meets its contract: a put at the key of the place, behind all keys the link. Assumes nothing.
use Rattle.run_split.proofs.Laws.{rename_key, rename_link}
use Rattle.run_split.proofs.absorb.rename.Goals as goal

pub returns-then-at-v : goal.returns-then-at-v
returns-then-at-v c =
    rename_key c.args.v c.requires.sized c.args.at c.args.to c.key.result c.if-at-v.true c.key.ensures

pub returns-else-at-v : goal.returns-else-at-v
returns-else-at-v c = rename_link c.args.v c.requires.sized c.args.at c.args.to c.if-at-v.false
