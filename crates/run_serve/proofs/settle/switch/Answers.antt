-- `settle::switch` meets its contract: nothing between equal modes, else the content, in hand or read, written whole. Assumes nothing.
use Rattle.std.proofs.Common.{◌≡◌, Option, ap, sym, ◌∙◌}
use Rattle.std.specs.Borrow.{Bor}
use Rattle.node.specs.declared.NodeValue.{NodeValue}
use Rattle.node.specs.Value.{node_of}
use Rattle.flash_allocate.specs.Flash.{world_of, after_none, after_one}
use Rattle.run_serve.specs.Content.{content_of, in_hand}
use Rattle.run_serve.proofs.Laws.{same_mode-equal, switch-none, switch-whole}
use Rattle.run_serve.proofs.settle.switch.Goals as goal
use Rattle.run_serve.proofs.settle.switch.Goals.{in-Some, in-None}

pub returns-then-eq : goal.returns-then-eq
returns-then-eq c =
    let a = c.args in
    let w = world_of a.flash.now in
    after_none
    (switch-none a.from a.to a.id (in_hand a.held (content_of a.id w)) w
    (same_mode-equal a.from a.to ∙ sym c.eq.ensures ∙ c.if-eq.true) a.flash.now.good)

pub returns : goal.returns
returns c =
    let a = c.args in
    let w = world_of a.flash.now in
    let read = content_of a.id w in
    let g = c.write_whole in
    let old : node_of c.match-held.old ≡ in_hand a.held read = elim c.match-held.branch [
      | in-Some u ↦ ap node_of u.old-is ∙ sym (ap (λ (h : Option (Bor NodeValue)). in_hand h read) u.in-Some.is)
      | in-None u ↦
          ap node_of u.old-is ∙ (rw (u.pool.ensures, u.table.ensures) at u.content_of-old.ensures.is) ∙
          sym (ap (λ (h : Option (Bor NodeValue)). in_hand h read) u.in-None.is)
    ] in
    after_one g.ensures
    (switch-whole a.from a.to a.id (in_hand a.held read) w (node_of c.match-held.old) (world_of g.new.flash)
    (same_mode-equal a.from a.to ∙ sym c.eq.ensures ∙ c.if-eq.false) old g.ensures.left)
