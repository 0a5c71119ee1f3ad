use Rattle.std.proofs.Common.{◌≡◌}
use Rattle.wire.specs.Tag.{length_of}
use Rattle.wire.proofs.Search.{find_from}
use Rattle.wire.proofs.tag.find.Given as goal

abbrev pub invariant-loop-entry : goal.invariant-loop-entry
invariant-loop-entry l = find_from l.tag l.entries l.entry-index ≡ length_of l.tag
