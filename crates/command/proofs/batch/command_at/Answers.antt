-- `command::batch::command_at` meets its contract: the tag there picks the field, and its payload the command. Assumes nothing.
use Rattle.std.proofs.Common.{◌≡◌, refl, ℕ, ◌-◌, Option, Ok, List, get_or, sym, ap, ◌∙◌, arith}
use Rattle.std.proofs.lemmas.Grind.{common_steps}
use Rattle.laws.specs.Lay.{part}
use Rattle.std.specs.Prelude.{Ok}
use Rattle.wire.specs.Field.{from_to, field_at}
use Rattle.command.specs.declared.Command.{Command}
use Rattle.command.specs.Command.{command_of, command_at, field_step, step_as}
use Rattle.command.specs.CommandLaws.{payload_may, command_at_past, command_at-is}
use Rattle.command.proofs.batch.command_at.Goals as goal

-- The step of a field that was found, by what its payload says.
found :
    (s : List ℕ) (at tag start end : ℕ) (o : Option Command) → tag ≡ get_or s at 0 → Ok (from_to start end) ≡ field_at s at tag →
    command_of tag (part s start (end - start)) ≡ o → step_as end o ≡ command_at s at
found s at tag start end o t f g =
    ap (step_as end) (sym g) ∙ ap (field_step s tag) f ∙ ap (λ (n : ℕ). field_step s n (field_at s at n)) t ∙ command_at-is s at _ refl

pub returns-in_err-tag : goal.returns-in_err-tag
returns-in_err-tag c = c.from_residual.ensures ∙ command_at_past _ _ (grind (arith, common_steps, c.in_err-tag.ensures.lookup))

pub command_of-requires : goal.command_of-requires
unfolding part
command_of-requires c = payload_may c.args.s.now c.args.at _ _ _ (sym c.field_at.ensures.is ∙ c.in-Ok.is)

pub returns-in_err-command_of : goal.returns-in_err-command_of
unfolding part
returns-in_err-command_of c =
    c.from_residual-in_err-command_of.ensures ∙
    found c.args.s.now c.args.at _ _ _ _ (grind (arith, common_steps, c.in_ok-tag.ensures.lookup)) (sym c.in-Ok.is ∙ c.field_at.ensures.is) (sym c.command_of.ensures ∙ c.in_err-command_of.was)

pub returns : goal.returns
unfolding part
returns c =
    found c.args.s.now c.args.at _ _ _ _ (grind (arith, common_steps, c.in_ok-tag.ensures.lookup)) (sym c.in-Ok.is ∙ c.field_at.ensures.is) (sym c.command_of.ensures ∙ c.in_ok-command_of.was)
