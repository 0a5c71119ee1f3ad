-- `lay_front` meets its contract. Field 13 where the page is the first, nothing else. Assumes
-- nothing.
use mathlib.Core.Path.{sym}
use native.Mathlib.Omega.{arith}
use Rattle.laws.specs.Lay.{lay-nil}
use Rattle.wire.specs.FieldLaws.{length-field}
use Rattle.page.specs.Image.{tariff_bytes}
use Rattle.page.specs.Spelled.{length-tariff_bytes}
use Rattle.page_checkpoint.proofs.lay_front.Goals as goal

pub returns-in-Some : goal.returns-in-Some
returns-in-Some c =
    let a = c.args in
    rw c.in-Some.is
    (record {
      is = c.lay_tariff.ensures;
      behind = omega (arith, length-field 0x13 (tariff_bytes c.in-Some.tariff), length-tariff_bytes c.in-Some.tariff);
    })

pub returns-in-None : goal.returns-in-None
returns-in-None c = rw c.in-None.is (record { is = sym (lay-nil c.args.p.now 7); behind = omega arith })
