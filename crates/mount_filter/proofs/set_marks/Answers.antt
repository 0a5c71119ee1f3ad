-- `set_marks` meets its contract. The invariant: the row is as it was, and the marks tell of the numbers passed. Assumes nothing.
use Rattle.std.proofs.Common.{◌≡◌, ◌+◌, ◌*◌, get_or, refl, ap, ◌∙◌, arith}
use Rattle.mount_sequences.specs.Row.{row}
use Rattle.mount_filter.specs.Marks.{fingerprint, with_fingerprint}
use Rattle.mount_filter.proofs.Laws.{set-lay, row-marked, tells_marked, room-kept}
use Rattle.mount_filter.proofs.set_marks.Goals as goal

pub loop-i-init : goal.loop-i-init
unfolding row
loop-i-init c = (refl, λ v z. refl)

pub loop-i-preserved : goal.loop-i-preserved
loop-i-preserved c =
    let a = c.args in
    let l = c.loop-i in
    let v = c.read32-v in
    let m = c.mark_of in
    let r = c.with_fingerprint in
    let room = room-kept a.table.now l.table a.n a.blocks c.requires l.auto.table in
    let byte : r.result ≡ with_fingerprint (get_or l.table (512 * a.blocks + m.result) 0) (fingerprint v.result) =
    r.ensures ∙ ap (with_fingerprint (get_or l.table (512 * a.blocks + m.result) 0)) c.fingerprint.ensures in
    rw (set-lay l.table (512 * a.blocks + m.result) r.result (omega (arith, room.size, m.ensures.1))) (
      row-marked l.table a.n a.blocks l.i v.result m.result r.result room (omega arith) v.ensures.is m.ensures.0
          m.ensures.1 byte a.n (omega arith) ∙ l.invariant.0,
      tells_marked l.table a.n a.blocks l.i v.result m.result r.result room (omega arith) v.ensures.is m.ensures.0
          m.ensures.1 byte l.invariant.1,
    )

pub returns : goal.returns
returns c =
    let l = c.loop-i in
    let e : l.i ≡ c.args.n = omega arith in
    record {
      kept = l.invariant.0;
      marked =
          record {
            room = room-kept c.args.table.now l.table c.args.n c.args.blocks c.requires l.auto.table;
            none = rw e at l.invariant.1;
          };
    }
