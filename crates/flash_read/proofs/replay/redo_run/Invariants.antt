use Rattle.std.proofs.Common.{◌≡◌, ◌+◌, ◌-◌, ◌≤◌, length}
use Rattle.node_replay.specs.Outline.{draft_in, HeldIn}
use Rattle.flash_read.specs.Replay.{reach, redo_from}
use Rattle.flash_read.proofs.replay.redo_run.Given as goal

abbrev pub invariant-loop : goal.invariant-loop
invariant-loop l = record {
  room : l.place + reach l.framed (l.most - l.counter) ≤ length l.bytes;
  held : HeldIn l.r l.keys l.pointers;
  left : redo_from l.framed l.id l.version (l.most - l.counter) l.bytes l.place (draft_in l.r l.keys l.pointers) ≡
      redo_from l.framed l.id l.version l.most l.bytes l.fn.at (draft_in l.initial.r l.initial.keys l.initial.pointers);
}
