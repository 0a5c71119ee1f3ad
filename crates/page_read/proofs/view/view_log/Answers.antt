-- `page_read::view::view_log` meets its contract. Each return is the view of the case that the tests before it pick. Assumes
-- nothing.
use mathlib.Core.Path.{sym, ap, ◌∙◌}
use Prim.Native.Nat.{ℕ}
use native.Mathlib.Omega.{arith}
use Rattle.page.specs.Decode.{decode_log}
use Rattle.page_read.specs.View.{view}
use Rattle.page_read.specs.Steps.{log_none, log_unsealed, log_sealed}
use Rattle.page_read.proofs.view.view_log.Goals as goal

pub returns-then-entries-lt1 : goal.returns-then-entries-lt1
returns-then-entries-lt1 c = let a = c.args in
    let n = c.count_entries-entries in
    log_none a.sequence n.result a.page.now (omega arith) ∙
    ap (λ (k : ℕ). view (decode_log a.sequence k a.page.now)) n.ensures.0

pub returns : goal.returns
returns c = let a = c.args in
    let n = c.count_entries-entries in
    log_sealed a.sequence n.result a.page.now (omega arith) (sym c.is_sealed.ensures ∙ c.if-not-is_sealed.false) ∙
    ap (λ (k : ℕ). view (decode_log a.sequence k a.page.now)) n.ensures.0

pub returns-then-not-is_sealed : goal.returns-then-not-is_sealed
returns-then-not-is_sealed c = let a = c.args in
    let n = c.count_entries-entries in
    log_unsealed a.sequence n.result a.page.now (omega arith) (sym c.is_sealed.ensures ∙ c.if-not-is_sealed.true) ∙
    ap (λ (k : ℕ). view (decode_log a.sequence k a.page.now)) n.ensures.0
