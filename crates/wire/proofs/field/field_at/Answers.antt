-- Each return is the case of the definition that the tests before it pick. Assumes nothing.
use Rattle.std.proofs.Common.{arith, sym, ◌∙◌}
use Rattle.wire.proofs.Cases.{is_missing, is-foreign_tag, is-foreign-length, is_overlong, is-payload}
use Rattle.wire.proofs.field.field_at.Goals as goal
use Rattle.wire.proofs.field.field_at.Goals.{then-s-lt3-via-then-s-lt3, then-s-lt3-via-else-s-lt3+then-s-at}

pub returns-then-s-lt3 : goal.returns-then-s-lt3
returns-then-s-lt3 c = record {
  is = is_missing _ _ _
      (elim c.then-s-lt3.branch [ then-s-lt3-via-then-s-lt3 w ↦ omega arith | then-s-lt3-via-else-s-lt3+then-s-at w ↦ omega arith ]);
  inside = tt;
}

pub returns-then-s-at-2 : goal.returns-then-s-at-2
returns-then-s-at-2 c = record { is = is-foreign_tag _ _ _ (omega arith) c.if-s-at-2.true; inside = tt }

pub returns-then-not-may_have : goal.returns-then-not-may_have
returns-then-not-may_have c = record {
  is = is-foreign-length _ _ _ (omega arith) _ c.if-s-at-2.false c.read16-n.ensures.is (sym c.may_have.ensures ∙ c.if-not-may_have.true);
  inside = tt;
}

pub returns-then-s-start : goal.returns-then-s-start
returns-then-s-start c = record {
  is = is_overlong _ _ _ (omega arith) _ c.if-s-at-2.false c.read16-n.ensures.is (sym c.may_have.ensures ∙ c.if-not-may_have.false) (omega arith);
  inside = tt;
}

pub returns : goal.returns
returns c = record {
  is = is-payload _ _ _ (omega arith) _ c.if-s-at-2.false c.read16-n.ensures.is (sym c.may_have.ensures ∙ c.if-not-may_have.false) (omega arith);
  inside = omega arith;
}
