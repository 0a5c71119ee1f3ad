-- `page_read::field::entry_ok` meets its contract. Each return is the case of the definition that the tests before it pick.
-- Assumes nothing.
use mathlib.Core.Path.{ap₂, ◌∙◌}
use Prim.Native.Nat.{ℕ}
use native.Mathlib.Omega.{arith}
use lib.ListN.{get_or}
use Rattle.page.specs.Decode.{change_ok}
use Rattle.page_read.specs.Steps.{entry_short, entry_zero, entry-late, entry-change}
use Rattle.page_read.proofs.field.entry_ok.Goals as goal
use Rattle.page_read.proofs.field.entry_ok.Goals.{then-version-lt1-via-then-version-lt1, then-version-lt1-via-else-version-lt1+then-sequence-version}

pub returns-then-p-ne-ENTRY_BYTES : goal.returns-then-p-ne-ENTRY_BYTES
returns-then-p-ne-ENTRY_BYTES c = entry_short c.args.sequence c.args.p.now c.if-p-ne-ENTRY_BYTES.true

pub returns-then-version-lt1 : goal.returns-then-version-lt1
returns-then-version-lt1 c =
    let v = c.read32-version.ensures.is in
    elim c.then-version-lt1.branch [
      | then-version-lt1-via-then-version-lt1 w ↦ entry_zero c.args.sequence c.args.p.now c.if-p-ne-ENTRY_BYTES.false (omega (arith, v))
      | then-version-lt1-via-else-version-lt1+then-sequence-version w ↦
          entry-late c.args.sequence c.args.p.now c.if-p-ne-ENTRY_BYTES.false (omega (arith, v)) (omega (arith, v))
    ]

pub returns : goal.returns
returns c =
    let a = c.args in
    let v = c.read32-version.ensures.is in
    c.change_ok.ensures ∙
    ap₂ (λ (k q : ℕ). change_ok (get_or a.p.now 6 0) k q) c.read32.ensures.is c.read32-2.ensures.is ∙
    entry-change a.sequence a.p.now c.if-p-ne-ENTRY_BYTES.false (omega (arith, v)) (omega (arith, v))
