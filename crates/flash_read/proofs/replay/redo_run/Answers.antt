-- `replay::redo_run` meets its contract. The invariant: the entries left, replayed from here, give them all. Assumes nothing.
use Rattle.std.proofs.Common.{◌≡◌, ◌+◌, ◌-◌, ◌<◌, ◌≤◌, length, sym, ap, ◌∙◌, arith}
use Rattle.node_replay.specs.Outline.{draft_in}
use Rattle.flash_read.specs.Replay.{reach, reach_more}
use Rattle.flash_read.proofs.Laws.{from_own, from_other, from_stop, from_done}
use Rattle.flash_read.proofs.replay.redo_run.Goals as goal
use Rattle.flash_read.proofs.replay.redo_run.Goals.{then-is_own, else-is_own}

pub entry_at-entry-requires : goal.entry_at-entry-requires
entry_at-entry-requires c =
    let l = c.loop in
    omega (arith, l.invariant.room, reach_more c.args.framed (c.args.most - l.counter) (omega arith))

pub returns-then-entry-ne-ENTRY_BYTES : goal.returns-then-entry-ne-ENTRY_BYTES
returns-then-entry-ne-ENTRY_BYTES c =
    let l = c.loop in
    let a = c.args in
    record {
      is =
          sym (from_stop a.framed a.id a.version a.bytes.now (a.most - l.counter) l.place (draft_in l.r l.keys l.pointers) (omega arith)
          (λ e. c.if-entry-ne-ENTRY_BYTES.true (ap length c.entry_at-entry.ensures ∙ e))) ∙
          l.invariant.left;
      held = l.invariant.held;
    }

pub loop-preserved : goal.loop-preserved
loop-preserved c =
    let p = c.entry_at-entry in
    let l = c.loop in
    let a = c.args in
    let d = draft_in l.r l.keys l.pointers in
    let o = c.is_own in
    let step = c.stride-step in
    let more : 0 < a.most - l.counter = omega arith in
    let fewer : a.most - (l.counter + 1) ≡ a.most - l.counter - 1 = omega arith in
    let room : l.place + step.result + reach a.framed (a.most - l.counter - 1) ≤ length a.bytes.now =
    omega (arith, l.invariant.room, step.ensures, reach_more a.framed (a.most - l.counter) more) in
    elim c.if-is_own.branch [
      | then-is_own w ↦
          let x = w.redo_entry-r.ensures in
          let turn = from_own a.framed a.id a.version a.bytes.now (a.most - l.counter) l.place more p.result.now p.ensures
          c.if-entry-ne-ENTRY_BYTES.false step.result step.ensures o.result o.ensures d w.if-is_own.true _ x.is in
          rw (fewer, w.r-is, w.keys-is, w.pointers-is) (record { room = room; held = x.held; left = turn ∙ l.invariant.left })
      | else-is_own w ↦
          let turn = from_other a.framed a.id a.version a.bytes.now (a.most - l.counter) l.place more p.result.now p.ensures
          c.if-entry-ne-ENTRY_BYTES.false step.result step.ensures o.result o.ensures d w.if-is_own.false in
          rw (fewer, w.r-is, w.keys-is, w.pointers-is) (record { room = room; held = l.invariant.held; left = turn ∙ l.invariant.left })
    ]

pub returns : goal.returns
returns c =
    let a = c.args in
    let l = c.loop in
    record {
      is =
          sym (from_done a.framed a.id a.version a.bytes.now (a.most - l.counter) l.place (draft_in l.r l.keys l.pointers) (omega arith)) ∙
          l.invariant.left;
      held = l.invariant.held;
    }
