-- Four numbers laid one behind another are the bytes of the node due, whose numbers fit their widths. Assumes nothing.
use Rattle.std.proofs.Common.{ap, ◌∙◌, arith}
use Rattle.mount_tree.specs.Due.{decode}
use Rattle.mount_tree.specs.Stack.{Fits, due_laid, decode-encode}
use Rattle.mount_tree.proofs.due.DueRecord.encode.Goals as goal

pub returns-clause-bytes : goal.returns-clause-bytes
returns-clause-bytes c =
    let d = c.args.self in
    c.write32-4.ensures ∙ rw (c.write32-3.ensures, c.write32-2.ensures, c.write32.ensures) (due_laid c.args.part.now d c.requires)

pub returns-clause-back : goal.returns-clause-back
returns-clause-back c =
    let d = c.args.self in
    let f : Fits d = record { id = omega arith; depth = omega arith; high = omega arith } in
    ap decode (returns-clause-bytes c) ∙ decode-encode d f
