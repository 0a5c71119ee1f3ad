-- `mount` meets its contract: refused with 5, with 6, or as questions 7 and 8 say. Assumes nothing.
use Rattle.std.proofs.Common.{rules, ◌≡◌, refl, length, Option, Some, None, Ok, Err, sym, ◌∙◌}
use Rattle.std.specs.Option.{ok_or}
use Rattle.std.proofs.lemmas.Result.{err_from_is_err_and}
use Rattle.laws.specs.BigEndian.{bytes-get_or}
use Rattle.layout.specs.Layout.{table_bytes}
use Rattle.flash_rows.specs.Worktable.{table_from}
use Rattle.mount.specs.Begin.{first_asks}
use Rattle.mount.specs.Mounted.{mounted_five, mounted_six, mounted_refused, mounted_open}
use Rattle.mount.proofs.mount.Goals as goal

-- what an Option was that gave an Err, or an Ok
was_none : {T E : Type 0} (o : Option T) (e x : E) → ok_or o e ≡ Err x → (o ≡ None) × (x ≡ e)
was_none None e x q = (refl, cc)
was_none (Some y) e x q = cc

was_some : {T E : Type 0} (o : Option T) (e : E) (x : T) → ok_or o e ≡ Ok x → o ≡ Some x
was_some None e x q = cc
was_some (Some y) e x q = cc

pub returns-in_err-found : goal.returns-in_err-found
returns-in_err-found c =
    let pre = c.requires in
    let size : length c.survey.new.scratch ≡ table_bytes c.args.blocks = search rules in
    let w = was_none c.survey.result _ _ (sym c.in_err-found.ensures.value) in
    let p = err_from_is_err_and c.from_residual.result c.from_residual.ensures.1 in
    rw (p.1, p.2, w.1)
    (mounted_five (pre.0, pre.1, pre.2, size) (bytes-get_or c.args.pool.now (λ i. (c.type_inv.pool i).fits)) (table_from c.survey.new.scratch)
    (rw w.0 at c.survey.ensures))

pub returns-in_err-checkpoint : goal.returns-in_err-checkpoint
returns-in_err-checkpoint c =
    let pre = c.requires in
    let size : length c.find_checkpoint.new.scratch ≡ table_bytes c.args.blocks = search rules in
    let width : length c.survey.new.scratch ≡ table_bytes c.args.blocks = search rules in
    let v = rw (was_some c.survey.result _ _ (sym c.in_ok-found.ensures.value)) at c.survey.ensures in
    let w = was_none c.find_checkpoint.result _ _ (sym c.in_err-checkpoint.ensures.value) in
    let p = err_from_is_err_and c.from_residual-in_err-checkpoint.result c.from_residual-in_err-checkpoint.ensures.1 in
    rw (p.1, p.2, w.1)
    (mounted_six (pre.0, pre.1, pre.2, size) (bytes-get_or c.args.pool.now (λ i. (c.type_inv.pool i).fits))
    (table_from c.find_checkpoint.new.scratch) v (length c.survey.new.scratch) width (sym w.0 ∙ c.find_checkpoint.ensures.is))

pub refusal-requires : goal.refusal-requires
refusal-requires c =
    let pre = c.requires in
    first_asks c.in_ok-checkpoint.checkpoint.nodes c.in_ok-found.found (pre.0, pre.1, pre.2, search rules) c.first_state-state.ensures

pub returns-in_err-refusal : goal.returns-in_err-refusal
returns-in_err-refusal c =
    let pre = c.requires in
    let size : length c.refusal.new.table ≡ table_bytes c.args.blocks = search rules in
    let width : length c.survey.new.scratch ≡ table_bytes c.args.blocks = search rules in
    let v = rw (was_some c.survey.result _ _ (sym c.in_ok-found.ensures.value)) at c.survey.ensures in
    let k = c.in_ok-checkpoint.checkpoint in
    let told = was_some c.find_checkpoint.result _ _ (sym c.in_ok-checkpoint.ensures.value) in
    let p = err_from_is_err_and c.from_residual-in_err-refusal.result c.from_residual-in_err-refusal.ensures.1 in
    rw (p.1, p.2)
    (mounted_refused (pre.0, pre.1, pre.2, size) (bytes-get_or c.args.pool.now (λ i. (c.type_inv.pool i).fits))
    (table_from c.refusal.new.table) v (length c.survey.new.scratch) width k.tariff k.nodes k.since
    (sym told ∙ c.find_checkpoint.ensures.is) c.first_state-state.result c.first_state-state.ensures
    c.in_err-refusal.field-0.0 (rw c.in_err-refusal.was at c.refusal.ensures))

pub returns : goal.returns
returns c =
    let pre = c.requires in
    let size : length c.refusal.new.table ≡ table_bytes c.args.blocks = search rules in
    let width : length c.survey.new.scratch ≡ table_bytes c.args.blocks = search rules in
    let v = rw (was_some c.survey.result _ _ (sym c.in_ok-found.ensures.value)) at c.survey.ensures in
    let k = c.in_ok-checkpoint.checkpoint in
    let told = was_some c.find_checkpoint.result _ _ (sym c.in_ok-checkpoint.ensures.value) in
    mounted_open (pre.0, pre.1, pre.2, size) (bytes-get_or c.args.pool.now (λ i. (c.type_inv.pool i).fits))
    (table_from c.refusal.new.table) v (length c.survey.new.scratch) width k.tariff k.nodes k.since
    (sym told ∙ c.find_checkpoint.ensures.is) c.first_state-state.result c.first_state-state.ensures
    (rw c.in_ok-refusal.was at c.refusal.ensures)
