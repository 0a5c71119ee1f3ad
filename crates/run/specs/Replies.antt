-- One command put together: served, then its reply laid. Assumes nothing.
use Rattle.std.specs.Prelude.{◌≡◌, refl, List, [], ◌∷◌, ℕ, ◌+◌, ◌≤◌, length, get_or, None, Some}
use Rattle.std.proofs.Common.{sym, ap, ◌∙◌, subst, arith}
use Rattle.laws.specs.Lay.{lay, lay-nil}
use Rattle.layout.specs.Layout.{last_key}
use Rattle.pairs.specs.Pairs.{Pair, first}
use Rattle.command.specs.declared.Command.{Command}
use Rattle.command.specs.declared.Command.TheVariants.{Get, Put, Delete, Scan, Panel, Ceiling}
use Rattle.command.specs.Command.{InRange}
use Rattle.command.specs.Answer.{answer_bytes, scan_bytes}
use Rattle.book.specs.Command.{ceiling_reply, reply_bytes}
use Rattle.book.specs.Session.{Session}
use Rattle.flash_rows.specs.Worktable.{Worktable}
use Rattle.flash_allocate.specs.World.{World}
use Rattle.flash_allocate.specs.declared.state.State.{State}
use Rattle.run_serve.specs.declared.charged.Answered as code_answer
use Rattle.run_serve.specs.Step.{answered_in, ChargedAs, charged-none, charged-is}
use Rattle.run_lookup.specs.Get.{GotAs}
use Rattle.run_lookup.specs.Delete.{DeletedAs}
use Rattle.run_scan.specs.declared.Pairs.{Pairs}
use Rattle.run_scan.specs.Pairs.{listed, pairs_of, Sized, listed-none, length-listed, get_or-listed}
use Rattle.run_scan.specs.declared.scan.Scanned as code_scan
use Rattle.run_scan.specs.Scan.{scanned_in, ScannedAs}
use Rattle.run_split.specs.Growing.{Growing, Grew, grew_same, grew_charged}
use Rattle.run_put.specs.Put as Put
use Rattle.run_put.specs.Put.{DoneAs, most_served}
use Rattle.run.specs.declared.Progress as code
use Rattle.run.specs.Run.{command_world, command_charge, command_reply, Progress, progress_in, CommandAs}

-- What the code of a reply leaves: these bytes at a place, and what was charged as it was.
pub record RepliedAs (before after : List ℕ) (r : code.Progress) (paid at : ℕ) (bytes : List ℕ) : Type 0 where
  pub charge : r.charge ≡ paid
  pub answers : after ≡ lay before at bytes
  pub behind : r.at ≡ at + length bytes

-- Served, and its reply laid, of a command that is known by an equation.
module _ {P T : ℕ} {pages : List (List ℕ)} {table : Worktable} (n : Session) (w : World) {before after : List ℕ} {r : code.Progress}
    {at : ℕ} {s : State} {c : Command} where
  replied : {d : Command} {charge : ℕ} {m : ℕ} {bytes : List ℕ} → c ≡ d →
      ChargedAs Grew P T pages table (record { state = s; charge = charge }) w.state m (command_world n d w) (command_charge n d w) →
      m ≤ most_served → bytes ≡ reply_bytes (command_reply n d w) → RepliedAs before after r charge at bytes →
      CommandAs P T pages table before after (progress_in s r) n c at w
  replied {d} {m = m} e k most f l =
      subst (λ (x : Command). CommandAs P T pages table before after (progress_in s r) n x at w) (sym e)
      (record {
        charged =
            charged-is
            (subst
            (λ (paid : ℕ).
            ChargedAs Grew P T pages table (record { state = s; charge = paid }) w.state m (command_world n d w) (command_charge n d w))
            (sym l.charge) k)
            most refl refl;
        answers = l.answers ∙ ap (lay before at) f;
        behind = l.behind ∙ ap (λ (xs : List ℕ). at + length xs) f;
      })

  pub put_replied : {k v : ℕ} {d : code_answer.Answered} → c ≡ Put k v →
      DoneAs P T pages table (answered_in s d) w.state (Put.put n.tariff k v w) →
      RepliedAs before after r d.charge at (answer_bytes d.answer) → CommandAs P T pages table before after (progress_in s r) n c at w
  put_replied e h l = replied e h.charged (omega arith) (ap answer_bytes h.answer) l

  -- those that make no node
  module _ {P₀ T₀ : ℕ} (g : Growing P₀ T₀ w.state) where
    pub get_replied : {k : ℕ} {d : code_answer.Answered} → c ≡ Get k → GotAs P T pages table (answered_in s d) n.tariff k w →
        RepliedAs before after r d.charge at (answer_bytes d.answer) → CommandAs P T pages table before after (progress_in s r) n c at w
    get_replied e h l = replied e (grew_charged g h.charged) (omega arith) (ap answer_bytes h.answer) l

    pub delete_replied : {k : ℕ} {d : code_answer.Answered} → c ≡ Delete k → DeletedAs P T pages table (answered_in s d) n.tariff k w →
        RepliedAs before after r d.charge at (answer_bytes d.answer) → CommandAs P T pages table before after (progress_in s r) n c at w
    delete_replied e h l = replied e (grew_charged g h.charged) (omega arith) (ap answer_bytes h.answer) l

    pub scan_replied : {low high most : ℕ} {ids : List ℕ} {d : code_scan.Scanned} → c ≡ Scan low high most →
        ScannedAs P T pages table ids (scanned_in s d) n.tariff low high most w →
        RepliedAs before after r d.charge at (scan_bytes (pairs_of d.pairs)) → CommandAs P T pages table before after (progress_in s r) n c at w
    scan_replied e h l = replied e (grew_charged g h.charged) (omega arith) (ap scan_bytes h.pairs) l

    pub ceiling_replied : {k : ℕ} {ids : List ℕ} {d : code_scan.Scanned} → c ≡ Ceiling k →
        ScannedAs P T pages table ids (scanned_in s d) n.tariff k last_key 1 w →
        RepliedAs before after r d.charge at (reply_bytes (ceiling_reply (first (pairs_of d.pairs)))) →
        CommandAs P T pages table before after (progress_in s r) n c at w
    ceiling_replied e h l =
        replied e (grew_charged g h.charged) (omega arith) (ap (λ (ps : List Pair). reply_bytes (ceiling_reply (first ps))) h.pairs) l

-- The first pair that a scan found: none where it found none, and else the one in front.
first-is : (ps : List Pair) → 1 ≤ length ps → first ps ≡ Some (get_or ps 0 (0, 0))
first-is [] l = absurd (omega arith)
first-is (p ∷ ps) l = refl

module _ (p : Pairs) where
  pub first-none : p.count ≡ 0 → first (pairs_of p) ≡ None
  first-none e = ap (λ (n : ℕ). first (listed n p.keys p.values)) e ∙ ap first (listed-none p.keys p.values)

  pub first_found : Sized p → (p.count ≡ 0 → ⊥) → first (pairs_of p) ≡ Some (get_or p.keys 0 0, get_or p.values 0 0)
  first_found s some-found =
      let n = p.count in
      let l : 1 ≤ n = omega (arith, some-found) in
      let found = length-listed n p.keys p.values s.key_room s.value_room s.size in
      first-is (pairs_of p) (omega (arith, found)) ∙ ap Some (get_or-listed n p.keys p.values s.key_room s.value_room 0 l)

-- A panel: nothing is served, and nothing laid.
pub panel_replied : (n : Session) (w : World) {P T : ℕ} → Growing P T w.state → {answers : List ℕ} {at panel : ℕ} {c : Command} → c ≡ Panel panel →
    CommandAs P T w.pages w.table answers answers (progress_in w.state (record { charge = 0; at = at })) n c at w
panel_replied n w g {answers} {at} e =
    replied n w e (charged-none w (grew_same w g)) (omega arith) refl
    (record { charge = refl; answers = sym (lay-nil answers at); behind = omega arith })

pub range-is : {c d : Command} → c ≡ d → InRange c → InRange d
range-is e k = subst InRange e k
