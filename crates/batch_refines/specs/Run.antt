-- THE COMMANDS OF A BATCH, run by the code, agree with the model's: what is left, the charges, the replies. Assumes nothing.
use Rattle.std.specs.Prelude.{◌≡◌, List, [], ◌∷◌, ℕ, ◌+◌, ◌*◌, ◌≤◌, ◌<◌, length}
use Rattle.std.proofs.Math.Path.{refl}
use Rattle.std.proofs.Common.{sym, ap, ap₂, ◌∙◌, subst, arith}
use Rattle.laws.specs.Update.{only}
use Rattle.layout.specs.Layout.{node_limit, bound32}
use Rattle.pairs.specs.Pairs.{Pair}
use Rattle.command.specs.declared.Command.{Command}
use Rattle.command.specs.declared.Command.TheVariants.{Get, Put, Delete, Scan, Panel, Ceiling}
use Rattle.book.specs.Book.{Book}
use Rattle.book.specs.Command.{Reply, requests, answer}
use Rattle.book.specs.Session.{Session}
use Rattle.book.specs.SessionAfter.{session_after}
use Rattle.book.specs.OrderedMap.{map_run}
use Rattle.store_laws.specs.Numbers.{last}
use Rattle.model.specs.State.{State, book_of, charges}
use Rattle.model.specs.Batch.{done, run, charge_of, answers}
use Rattle.command.specs.Command.{Valid}
use Rattle.command.specs.Batch.{ValidAll}
use Rattle.demands.specs.Run.{Holds, batch_batched}
use Rattle.demands.specs.RequestCount.{command_length}
use Rattle.demands.specs.BatchFits.{most_numbers}
use Rattle.flash_allocate.specs.World.{World}
use Rattle.run.specs.Run.{command_world, command_charge, command_reply, run_world, run_charge, run_replies}
use Rattle.run_refines.specs.Commands.Lists.{served_all, charged_all, Runs, Ran}
use Rattle.run_refines.proofs.Commands.Commands.{command_runs}
use Rattle.run_refines.proofs.Commands.Lookups.{get-world, get-charge, get-answer, delete-world, delete-charge, delete-answer, scan-world}
use Rattle.run_refines.proofs.Commands.Lookups.{scan-charge, scan-answer, ceiling-world, ceiling-charge, ceiling-answer}
use Rattle.run_refines.proofs.Put.Puts.{put_agrees}

-- What one command leaves, by code and model.
pub record One (blocks : ℕ) (n : Session) (c : Command) (w : World) (s : State) : Type 0 where
  pub runs : Runs blocks (command_world n c w) (done (node_limit blocks) n c s)
  pub charge : command_charge n c w ≡ charges n.tariff (requests (node_limit blocks) n c (book_of s)) s
  pub reply : command_reply n c w ≡ answer (node_limit blocks) n c (book_of s)
  pub number : last (done (node_limit blocks) n c s).run ≤ most_numbers + last s.run

module _ {blocks : ℕ} {w : World} {s : State} (k : Runs blocks w s) (ps : List Pair) (h : Holds (node_limit blocks) (book_of s) ps) (n : Session)
    (number : 1 + (most_numbers + last s.run) < bound32) where
  abbrev limit : ℕ
  limit = node_limit blocks

  few : (c : Command) → Valid c → 4 * length (requests limit n c (book_of s)) ≤ most_numbers
  few c valid = omega (arith, command_length limit n c (book_of s) ps h.spells (omega (arith, h.most, k.few)) valid, h.most, k.few)

  ran : (c : Command) → Valid c → Ran blocks n.tariff (requests limit n c (book_of s)) w s
  ran c valid = command_runs k ps h n c valid number

  -- the requests served in order
  in_order_lem : (c : Command) → Valid c → command_world n c w ≡ served_all n.tariff (requests limit n c (book_of s)) w →
      command_charge n c w ≡ charged_all n.tariff (requests limit n c (book_of s)) w → command_reply n c w ≡ answer limit n c (book_of s) → One blocks n c w s
  in_order_lem c valid e f g =
      let r = ran c valid in
      record {
        runs = subst (λ (z : World). Runs blocks z (done limit n c s)) (sym e) r.runs;
        charge = f ∙ r.charge;
        reply = g;
        number = omega (arith, r.number, few c valid);
      }

  -- ONE COMMAND
  pub command_agrees : (c : Command) → Valid c → One blocks n c w s
  unfolding requests answer
  command_agrees (Get key) valid =
      in_order_lem (Get key) valid (get-world k ps h number n key valid) (get-charge k ps h number n key valid)
      (sym (get-answer k ps h number n key valid))
  command_agrees (Delete key) valid =
      in_order_lem (Delete key) valid (delete-world k ps h number n key valid) (delete-charge k ps h number n key valid)
      (sym (delete-answer k ps h number n key valid))
  command_agrees (Scan low high most) valid =
      in_order_lem (Scan low high most) valid (scan-world k ps h number n low high most valid.0)
      (scan-charge k ps h number n low high most valid.0) (sym (scan-answer k ps h number n low high most valid.0))
  command_agrees (Put key v) valid =
      let p = put_agrees n s w k ps h.spells key v valid.0 valid.1 (omega (arith, few (Put key v) valid)) in
      record { runs = p.runs; charge = p.charge; reply = p.answer; number = omega (arith, (ran (Put key v) valid).number, few (Put key v) valid) }
  command_agrees (Panel panel) valid = in_order_lem (Panel panel) valid refl refl refl
  command_agrees (Ceiling key) valid =
      in_order_lem (Ceiling key) valid (ceiling-world k ps h number n key valid) (ceiling-charge k ps h number n key valid)
      (sym (ceiling-answer k ps h number n key valid))

-- ALL COMMANDS
pub record RunAgrees (blocks : ℕ) (cs : List Command) (n : Session) (w : World) (s : State) : Type 0 where
  pub runs : Runs blocks (run_world cs n w) (run (node_limit blocks) cs n s)
  pub charge : (q : ℕ) → run_charge q cs n w ≡ charge_of (node_limit blocks) q cs n s
  pub replies : run_replies cs n w ≡ answers (node_limit blocks) cs n s
  pub number : last (run (node_limit blocks) cs n s).run ≤ most_numbers * length cs + last s.run

pub run_agrees : {blocks : ℕ} (cs : List Command) (n : Session) {w : World} {s : State} → Runs blocks w s → (ps : List Pair) →
    Holds (node_limit blocks) (book_of s) ps → ValidAll cs → 1 + (most_numbers * length cs + last s.run) < bound32 → RunAgrees blocks cs n w s
run_agrees [] n k ps h valid number = record { runs = k; charge = λ q. refl; replies = refl; number = omega arith }
run_agrees {blocks} (c ∷ cs) n {w} {s} k ps h valid number =
    let limit = node_limit blocks in
    let one = command_agrees k ps h n (omega arith) c valid.0 in
    let said = batch_batched blocks (omega (arith, k.few)) (c ∷ []) n s ps (valid.0, tt) k.sound h in
    let pairs = map_run limit (c ∷ []) n (book_of s) ps in
    let rest =
    run_agrees cs (session_after c (answer limit n c (book_of s)) n) one.runs pairs
    (subst (λ (z : Book). Holds limit z pairs) (sym said.says.is) said.holds) valid.1 (omega (arith, one.number)) in
    record {
      runs = rest.runs;
      charge = λ q. ap₂ ◌+◌ (ap (λ (k : ℕ). only n.panel k q) one.charge) (rest.charge q);
      replies = ap₂ {B = List Reply} ◌∷◌ one.reply rest.replies;
      number = omega (arith, rest.number, one.number);
    }
