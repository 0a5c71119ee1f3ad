-- `lay_end` meets its contract. Field 15 where the page is the last, nothing else. Assumes
-- nothing.
use mathlib.Core.Path.{refl, sym, ◌∙◌}
use native.Mathlib.Nat.{add-zero}
use native.Mathlib.Omega.{arith}
use Rattle.laws.specs.Lay.{lay-nil}
use Rattle.laws.specs.BigEndian.{big_endian}
use Rattle.wire.specs.FieldLaws.{lay-field, length-field}
use Rattle.page_checkpoint.proofs.lay_end.Goals as goal

pub returns-in-Some : goal.returns-in-Some
returns-in-Some c = let a = c.args in
    rw c.in-Some.is
    (record {
      is =
          c.write16.ensures ∙
          rw c.lay_head.ensures
          (lay-field a.p.now a.at 0x15 2 (big_endian 2 c.in-Some.nodes) (omega arith) refl);
      behind = omega (arith, length-field 0x15 (big_endian 2 c.in-Some.nodes));
    })

pub returns-in-None : goal.returns-in-None
returns-in-None c = rw c.in-None.is
    (record {
      is = sym (lay-nil c.args.p.now c.args.at);
      behind = sym
          (add-zero c.args.at);
    })
