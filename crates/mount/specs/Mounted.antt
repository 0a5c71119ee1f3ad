-- MOUNT in code is the model's `mount_of`: refused with the number of the first question that fails, or opened with the same tariff and a state that
-- agrees with the model's (document 01, questions 5 to 8). Assumes nothing.
use Rattle.std.specs.Prelude.{◌≡◌, List, ℕ, length, Some, None, Result, Ok, Err, IfOk, IfErr}
use Rattle.std.proofs.Common.{sym, ap, ◌∙◌, subst, arith}
use Rattle.laws.specs.BigEndian.{Bytes}
use Rattle.layout.specs.Layout.{table_bytes}
use Rattle.account.specs.declared.Tariff.{Tariff}
use Rattle.refusal.specs.declared.Refusal.{Refusal}
use Rattle.refusal.specs.declared.Refusal.TheVariants.{Pages, Checkpoint}
use Rattle.refusal.specs.Number.{number, number_some}
use Rattle.store.specs.Reopen.{Cells, reopened}
use Rattle.model.specs.Mount as Model
use Rattle.model.specs.Pool.{mount_of}
use Rattle.flash_rows.specs.Worktable.{Worktable}
use Rattle.flash_blocks.specs.Pages.{pages_of}
use Rattle.flash_allocate.specs.declared.state.State.{State}
use Rattle.mount_survey.specs.declared.answer.Survey.{Survey}
use Rattle.mount_survey.specs.Surveyed.{Surveyed}
use Rattle.mount_checkpoint.specs.Find.{complete_as, checkpoint_in}
use Rattle.mount_refines.specs.Checkpoint.Pool.{Judged}
use Rattle.mount_restore.specs.Questions.{Asked}
use Rattle.mount_refines.specs.Mount.Refusals.{refused_five, passed_five, refused_six}
use Rattle.mount_refines.specs.Mount.Known.{Known}
use Rattle.mount_refines.specs.Rows.Fill.{beginning}
use Rattle.mount_refines.specs.Mount.Opens.{Opens, refused-later, opened-later}
use Rattle.mount.specs.Begin.{Sized, first_state, survey_begins}
use Rattle.mount.specs.declared.answer.Mounted.{Mounted}

-- What a mount answers, and what it leaves in a work table of some length.
pub record MountedAs (pool : List ℕ) (table_length blocks : ℕ) (table : Worktable) (r : Result Mounted Refusal) : Type 0 where
  pub refused : IfErr r (λ e. mount_of pool ≡ Model.refused (number e))
  pub opened : IfOk r (λ m. Opens pool table_length blocks table m.tariff m.state)

module _ {pool : List ℕ} {table_length blocks : ℕ} (sized : Sized (length pool) table_length blocks) (bytes : Bytes pool) (table : Worktable) where
  -- Question 5 fails.
  pub mounted_five : Surveyed pool blocks None → MountedAs pool table_length blocks table (Err Pages)
  mounted_five s = record { refused = refused_five pool blocks sized.0 (sym s.ok); opened = tt }

  module _ {v : Survey} (surveyed : Surveyed pool blocks (Some v)) (width : ℕ) (wide : width ≡ table_bytes blocks) where
    cells : (c : Cells) × Judged pool blocks c
    cells = passed_five pool blocks sized.0 (sym surveyed.ok)

    -- Question 6 fails.
    pub mounted_six : None ≡ checkpoint_in (pages_of pool) blocks width → MountedAs pool table_length blocks table (Err Checkpoint)
    mounted_six told =
        record {
          refused = refused_six cells.1 (ap (checkpoint_in (pages_of pool) blocks) (sym wide) ∙ sym told);
          opened = tt;
        }

    -- The other two decide.
    module _ (t : Tariff) (nodes since : ℕ) (told : complete_as t nodes since ≡ checkpoint_in (pages_of pool) blocks width)
        (s : State) (is : s ≡ first_state v blocks nodes) where
      known : Known pool blocks cells.0 t nodes since
      known =
          record {
            few = sized.1;
            most = sized.2;
            bytes = bytes;
            judged = cells.1;
            told = ap (checkpoint_in (pages_of pool) blocks) (sym wide) ∙ sym told;
          }

      same : s ≡ beginning blocks nodes (reopened blocks cells.0)
      same = is ∙ survey_begins surveyed cells.1 nodes

      begun : (r : Result (Unit {0}) Refusal) → Asked t s since (pages_of pool) table r →
          Asked t (beginning blocks nodes (reopened blocks cells.0)) since (pages_of pool) table r
      begun r asked = subst (λ (x : State). Asked t x since (pages_of pool) table r) same asked

      pub mounted_refused : (e : Refusal) → Asked t s since (pages_of pool) table (Err e) → MountedAs pool table_length blocks table (Err e)
      mounted_refused e asked =
          record {
            refused = refused-later known (number e) (begun (Err e) asked).is (λ z. omega (arith, number_some e));
            opened = tt;
          }

      pub mounted_open : Asked t s since (pages_of pool) table (Ok tt) →
          MountedAs pool table_length blocks table (Ok (record { tariff = t; state = s }))
      mounted_open asked =
          let a = begun (Ok tt) asked in
          record {
            refused = tt;
            opened =
                subst (Opens pool table_length blocks table t) (sym same)
                (opened-later known (sym a.is) table a.table table_length sized.3);
          }
