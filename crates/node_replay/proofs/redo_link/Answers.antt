-- `node_replay::redo_link` meets its contract: one case for each state of the draft. Assumes nothing.
use Rattle.std.proofs.Common.{sym, subst, ◌∙◌}
use Rattle.node.specs.declared.DraftState.{DraftState}
use Rattle.node.proofs.Shapes.{eq-same_shape}
use Rattle.node_replay.specs.Outline.{Links, links_first, links_again, links_other, links_broken}
use Rattle.node_replay.proofs.redo_link.Goals as goal

pub returns-in-Unlinked : goal.returns-in-Unlinked
returns-in-Unlinked c = links_first c.args.outline c.args.shape c.args.to c.in-Unlinked.is

pub returns-in-Made : goal.returns-in-Made
returns-in-Made c =
    let a = c.args in
    let same = sym (eq-same_shape a.outline.shape a.shape c.eq.result c.eq.ensures) ∙ c.if-eq.true in
    let o = a.outline in
    subst (λ (s : DraftState). Links o a.shape a.to (record { state = s; shape = o.shape; first = o.first; count = o.count; link = a.to }))
    (sym c.in-Made.is) (links_again o a.shape a.to c.in-Made.is same)

pub returns-in-Made-2 : goal.returns-in-Made-2
returns-in-Made-2 c =
    let a = c.args in
    links_other a.outline a.shape a.to c.in-Made.is (sym (eq-same_shape a.outline.shape a.shape c.eq.result c.eq.ensures) ∙ c.if-eq.false)

pub returns-in-Broken : goal.returns-in-Broken
returns-in-Broken c = links_broken c.args.outline c.args.shape c.args.to c.in-Broken.is
