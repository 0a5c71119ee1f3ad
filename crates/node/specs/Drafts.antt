-- What a draft and a change by value stand for, and what the replay of each change makes of a draft. Assumes nothing.
use Rattle.std.specs.Prelude.{◌≡◌, true, false, ℕ, ◌≤◌, ◌<◌, length}
use Rattle.std.proofs.Common.{refl, sym, ap, ◌∙◌}
use Rattle.layout.specs.Layout.{most_keys}
use Rattle.pairs.specs.Pairs.{insert}
use Rattle.node.specs.declared.Shape.{Shape}
use Rattle.node.specs.declared.NodeValue.{NodeValue}
use Rattle.node.specs.declared.DraftState.{DraftState}
use Rattle.node.specs.declared.DraftState.TheVariants.{Unlinked, Made, Broken}
use Rattle.node.specs.declared.DraftValue.{DraftValue}
use Rattle.node.specs.declared.ChangeValue.{ChangeValue}
use Rattle.node.specs.declared.ChangeValue.TheVariants.{Put, Delete, Link}
use Rattle.node.specs.Node.{Node, node, pairs_of}
use Rattle.node.specs.Change.{Change, put, remove, link, change}
use Rattle.node.specs.Replay.{Draft, unlinked, made, broken, same_shape, redo}
use Rattle.node.specs.ReplayLaws.{if_fits-room, if_fits-full}
use Rattle.node.specs.Value.{pairs_in, node_of, Held, Becomes}

abbrev pub draft_as : DraftState → NodeValue → Draft
draft_as Unlinked v = unlinked (pairs_in v)
draft_as Made v = made (node_of v)
draft_as Broken v = broken

abbrev pub draft_of : DraftValue → Draft
draft_of d = draft_as d.state d.node

abbrev pub change_of : ChangeValue → Change
change_of (Put k p) = put k p
change_of (Delete k) = remove k
change_of (Link shape l) = link shape l

-- A result stands for a draft, and the pairs in it ascend.
pub record Redone (r : DraftValue) (d : Draft) : Type 0 where
  pub is : draft_of r ≡ d
  pub held : Held r.node

module _ (v w : NodeValue) (k p : ℕ) where
  pub redone_put :
      (s : DraftState) → Becomes w (change (put k p) (node_of v)) → length (insert k p (pairs_in v)) ≤ most_keys →
      Redone (record { state = s; node = w }) (redo (draft_as s v) (put k p))
  unfolding redo
  redone_put Unlinked b h =
      record { is = ap (λ (n : Node). unlinked (pairs_of n)) b.is ∙ sym (if_fits-room (insert k p (pairs_in v)) _ h); held = b.held }
  redone_put Made b h = record { is = ap made b.is ∙ sym (if_fits-room (insert k p (pairs_in v)) _ h); held = b.held }
  redone_put Broken b h = record { is = refl; held = b.held }

  pub redone_full :
      (s : DraftState) → Held v → most_keys < length (insert k p (pairs_in v)) →
      Redone (record { state = Broken; node = v }) (redo (draft_as s v) (put k p))
  unfolding redo
  redone_full Unlinked b h = record { is = sym (if_fits-full (insert k p (pairs_in v)) _ h); held = b }
  redone_full Made b h = record { is = sym (if_fits-full (insert k p (pairs_in v)) _ h); held = b }
  redone_full Broken b h = record { is = refl; held = b }

  pub redone_delete :
      (s : DraftState) → Becomes w (change (remove k) (node_of v)) → Redone (record { state = s; node = w }) (redo (draft_as s v) (remove k))
  unfolding redo
  redone_delete Unlinked b = record { is = ap (λ (n : Node). unlinked (pairs_of n)) b.is; held = b.held }
  redone_delete Made b = record { is = ap made b.is; held = b.held }
  redone_delete Broken b = record { is = refl; held = b.held }

-- A link: the first makes the node, a later one of its kind changes the link, one of the other kind breaks it.
module _ (v w : NodeValue) (shape : Shape) (to : ℕ) where
  pub redone_first : Becomes w (node shape (pairs_in v) to) → Redone (record { state = Made; node = w }) (redo (unlinked (pairs_in v)) (link shape to))
  unfolding redo
  redone_first b = record { is = ap made b.is; held = b.held }

  pub redone_again :
      Becomes w (change (link v.shape to) (node_of v)) → same_shape v.shape shape ≡ true →
      Redone (record { state = Made; node = w }) (redo (made (node_of v)) (link shape to))
  unfolding redo
  redone_again b e = record { is = ap made b.is ∙ sym (rw (e, redo)); held = b.held }

  pub redone_other :
      Held v → same_shape v.shape shape ≡ false → Redone (record { state = Broken; node = v }) (redo (made (node_of v)) (link shape to))
  unfolding redo
  redone_other h e = record { is = sym (rw (e, redo)); held = h }
