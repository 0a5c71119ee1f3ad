-- `page_read::view::view_page` meets its contract. Each return is the view of the case that the tests before it pick. Assumes
-- nothing.
use mathlib.Core.Path.{sym, ap, ◌∙◌}
use Prim.Native.Nat.{ℕ}
use native.Mathlib.Omega.{arith}
use lib.ListN.{get_or}
use Rattle.page.specs.Decode.{decode_written}
use Rattle.page.specs.Cases.{decode-blank, decode-other, written-zero, written_from, content_log, content_node, content-checkpoint}
use Rattle.page_read.specs.View.{view, view_of}
use Rattle.page_read.proofs.view.view_page.Goals as goal

pub returns-then-all_blank : goal.returns-then-all_blank
unfolding view_of
returns-then-all_blank c = sym (ap view (decode-blank c.args.page.now (sym c.all_blank.ensures ∙ c.if-all_blank.true)))

pub returns-then-s-lt1 : goal.returns-then-s-lt1
unfolding view_of
returns-then-s-lt1 c =
    let b = c.args.page.now in
    sym (ap view (decode-other b (sym c.all_blank.ensures ∙ c.if-all_blank.false) ∙
    written-zero _ b (omega (arith, c.sequence-s.ensures))))

pub returns-in-18 : goal.returns-in-18
unfolding view_of
returns-in-18 c = let b = c.args.page.now in
    let s = c.sequence-s.result in
    c.view_log.ensures ∙
    sym (ap view (decode-other b (sym c.all_blank.ensures ∙
    c.if-all_blank.false) ∙
    ap (λ (x : ℕ). decode_written x b) (sym c.sequence-s.ensures) ∙
    written_from s b (omega arith) ∙ content_log s b (get_or b 7 0) (omega arith)))

pub returns-in-17 : goal.returns-in-17
unfolding view_of
returns-in-17 c = let b = c.args.page.now in
    let s = c.sequence-s.result in
    c.view_node.ensures ∙
    sym (ap view (decode-other b (sym c.all_blank.ensures
    ∙ c.if-all_blank.false) ∙
    ap (λ (x : ℕ). decode_written x b) (sym c.sequence-s.ensures) ∙
    written_from s b (omega arith) ∙ content_node s b (get_or b 7 0) (omega arith)))

pub returns-in_default : goal.returns-in_default
unfolding view_of
returns-in_default c = let b = c.args.page.now in
    let s = c.sequence-s.result in
    c.view_checkpoint.ensures ∙
    sym (ap view (decode-other b (sym c.all_blank.ensures
    ∙ c.if-all_blank.false) ∙
    ap (λ (x : ℕ). decode_written x b) (sym c.sequence-s.ensures) ∙
    written_from s b (omega arith) ∙ content-checkpoint s b (get_or b 7 0) (omega arith) (omega arith)))
