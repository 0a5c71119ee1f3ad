-- A stretch of commands, from one place of a batch to another: what it needs, what it leaves, and two of them one behind the other. Whatever comes
-- behind a stretch goes on from where it ends. Assumes nothing.
use Rattle.std.specs.Prelude.{◌≡◌, List, [], ◌∷◌, ◌++◌, ℕ, ◌+◌, ◌*◌, ◌≤◌, ◌<◌, length, get_or}
use Rattle.std.proofs.Common.{sym, ap, ◌∙◌, subst, append-nil, append_assoc, arith, length-append, length-set}
use Rattle.laws.specs.Lay.{lay, lay-nil, lay-next}
use Rattle.laws.specs.Update.{only, only_le}
use Rattle.layout.specs.Layout.{panels}
use Rattle.account.specs.declared.Tariff.{Tariff}
use Rattle.account.specs.Range.{Ranged}
use Rattle.account.specs.ServeLaws.{most_charge}
use Rattle.command.specs.declared.Command.{Command}
use Rattle.command.specs.Command.{InRange}
use Rattle.command.specs.Batch.{room_for_all}
use Rattle.book.specs.Command.{reply_bytes, replies_bytes}
use Rattle.book.specs.Session.{Session, at_first}
use Rattle.book.specs.InTurn.{no_charges}
use Rattle.book.proofs.Naming.{panel-below}
use Rattle.book.specs.EachPanel.{length_each, each_at, each_are}
use Rattle.flash_rows.specs.Worktable.{Worktable}
use Rattle.flash_allocate.specs.declared.state.State.{State}
use Rattle.flash_allocate.specs.World.{World, world}
use Rattle.flash_allocate.specs.declared.flash.Flash.{Flash}
use Rattle.flash_allocate.specs.Flash.{world_of}
use Rattle.run_serve.specs.Step.{ChargedAs, InBytes}
use Rattle.run_split.specs.Growing.{Growing, Grew}
use Rattle.run_put.specs.Put.{most_served}
use Rattle.run.specs.declared.Ran as code
use Rattle.run.specs.declared.Session.{Session as Held}
use Rattle.run.specs.Session.{Ran, ran_in, session_of, held_first, held_after, session_at}
use Rattle.run.specs.Charges.{most64, added, added-at}
use Rattle.run.specs.Run.{command_world, command_charge, command_reply, run_world, run_charge, run_replies, Progress, CommandAs, RunAs}
use Rattle.run.specs.Room.{reply-room}

-- Where every batch begins: "at panel 0", with the tariff of its pool.
abbrev pub at_start : State → Tariff → Ran
at_start s t = record { state = s; session = held_first t; at = 0 }

-- A stretch of one command.
abbrev pub alone : Command → List Command
alone c = c ∷ []

-- At most so much is charged for one command.
abbrev pub most_paid : ℕ
most_paid = most_charge * most_served

-- What a stretch needs where it begins: room for its answers, and sums that stay within 64 bits.
pub record Ready (pool_length table_length answers : ℕ) (charges : List ℕ) (here : Ran) (cs : List Command) : Type 0 where
  pub growing : Growing pool_length table_length here.state
  pub ranged : Ranged here.session.tariff
  pub current : here.session.panel < panels
  pub sixteen : length charges ≡ panels
  pub room : here.at + room_for_all cs ≤ answers
  pub fits : (q : ℕ) → q < panels → get_or charges q 0 + most_paid * length cs ≤ most64

-- What it leaves: `laid` behind the answers so far; and for whatever comes behind it, worlds, replies and charges go on from its end as they would
-- from its beginning with it in front.
pub record RunOn (pool_length table_length : ℕ) (pages : List (List ℕ)) (table : Worktable) (before after paid paid' : List ℕ) (here there : Ran)
    (cs : List Command) (w : World) : Type 0 where
  pub growing : Growing pool_length table_length there.state
  pub blocks : there.state.blocks ≡ w.state.blocks
  pub ranged : Ranged there.session.tariff
  pub current : there.session.panel < panels
  pub sixteen : length paid' ≡ panels
  pub laid : List ℕ
  pub answers : after ≡ lay before here.at laid
  pub behind : there.at ≡ here.at + length laid
  pub room : length laid ≤ room_for_all cs
  pub most : (q : ℕ) → q < panels → get_or paid' q 0 ≤ get_or paid q 0 + most_paid * length cs
  pub worlds :
      (rest : List Command) → run_world (cs ++ rest) (session_at here) w ≡ run_world rest (session_at there) (world pages table there.state)
  pub replies :
      (rest : List Command) →
      replies_bytes (run_replies (cs ++ rest) (session_at here) w) ≡
      laid ++ replies_bytes (run_replies rest (session_at there) (world pages table there.state))
  pub charges :
      (rest : List Command) (q : ℕ) → q < panels →
      get_or paid q 0 + run_charge q (cs ++ rest) (session_at here) w ≡
      get_or paid' q 0 + run_charge q rest (session_at there) (world pages table there.state)

-- The same of lent buffers and a state.
abbrev pub Starts : Flash → ℕ → List ℕ → code.Ran → List Command → Type 0
Starts f answers charges here cs = Ready (length f.pool.now) (length f.table.now) answers charges (ran_in f.state here) cs

abbrev pub RunsOn : Flash → Flash → List ℕ → List ℕ → List ℕ → List ℕ → code.Ran → code.Ran → List Command → Type 0
RunsOn f g before after paid paid' here there cs =
    InBytes RunOn g.pool.now g.table.now before after paid paid' (ran_in f.state here) (ran_in g.state there) cs (world_of f)

-- No command.
pub on_none : {P T n : ℕ} {paid answers : List ℕ} {here : Ran} {cs : List Command} (w : World) → w.state ≡ here.state →
    Ready P T n paid here cs → RunOn P T w.pages w.table answers answers paid paid here here [] w
on_none {answers = answers} {here} w e r =
    let same : w ≡ world w.pages w.table here.state = ap (λ (s : State). world w.pages w.table s) e in
    record {
      growing = r.growing;
      blocks = ap (λ (s : State). s.blocks) (sym e);
      ranged = r.ranged;
      current = r.current;
      sixteen = r.sixteen;
      laid = [];
      answers = sym (lay-nil answers here.at);
      behind = omega arith;
      room = omega arith;
      most = λ q l. omega arith;
      worlds = λ rest. ap (run_world rest (session_at here)) same;
      replies = λ rest. ap (λ (z : World). replies_bytes (run_replies rest (session_at here) z)) same;
      charges = λ rest q l. omega (arith, ap (run_charge q rest (session_at here)) same);
    }

-- One command, from what its code leaves.
module _ {P T P' T' n : ℕ} {w : World} {here : Ran} {c : Command} {before after paid : List ℕ} (r : Ready P T n paid here (alone c))
    (range : InRange c) {pages : List (List ℕ)} {table : Worktable} {p : Progress}
    (d : CommandAs P' T' pages table before after p (session_at here) c here.at w) where
  served : ChargedAs Grew P' T' pages table p.charged w.state most_served (command_world (session_at here) c w) (command_charge (session_at here) c w)
  served = d.charged

  -- the sum of the current panel fits in 64 bits
  pub one-fits : get_or paid here.session.panel 0 + p.charged.charge ≤ most64
  one-fits = omega (arith, r.fits here.session.panel r.current, served.most)

  -- what each panel has then
  sum : (q : ℕ) → get_or (added paid here.session.panel p.charged.charge) q 0 ≡ get_or paid q 0 + only here.session.panel p.charged.charge q
  sum q = added-at paid here.session.panel p.charged.charge q (omega (arith, r.current, r.sixteen))

  pub on_one : (paid' : List ℕ) → paid' ≡ added paid here.session.panel p.charged.charge → (next : Held) →
      next ≡ held_after c here.session →
      RunOn P' T' pages table before after paid paid' here (record { state = p.charged.state; session = next; at = p.at }) (alone c) w
  on_one paid' e next f =
      let bytes = reply_bytes (command_reply (session_at here) c w) in
      let later : Session = session_of next in
      let session : session_of (held_after c here.session) ≡ later = ap session_of (sym f) in
      record {
        growing = served.kept.growing;
        blocks = served.kept.blocks;
        ranged = rw f r.ranged;
        current = rw f (panel-below (session_at here) c panels (λ k g. subst InRange g range) r.current);
        sixteen = ap length e ∙ length-set paid here.session.panel (get_or paid here.session.panel 0 + p.charged.charge) ∙ r.sixteen;
        laid = bytes;
        answers = d.answers;
        behind = d.behind;
        room = omega (arith, reply-room (session_at here) c w);
        most =
            λ q m.
            omega (
              arith,
              ap (λ (xs : List ℕ). get_or xs q 0) e,
              sum q,
              only_le here.session.panel p.charged.charge q,
              served.most,
            );
        worlds =
            λ rest.
            ap (λ (n : Session). run_world rest n (command_world (session_at here) c w)) session ∙ ap (run_world rest later) (sym served.kept.is);
        replies =
            λ rest.
            ap (λ (n : Session). bytes ++ replies_bytes (run_replies rest n (command_world (session_at here) c w))) session ∙
            ap (λ (z : World). bytes ++ replies_bytes (run_replies rest later z)) (sym served.kept.is);
        charges =
            λ rest q m.
            omega (
              arith,
              ap (λ (xs : List ℕ). get_or xs q 0) e,
              sum q,
              ap (λ (k : ℕ). only here.session.panel k q) served.charge,
              ap (λ (n : Session). run_charge q rest n (command_world (session_at here) c w)) session,
              ap (run_charge q rest later) (sym served.kept.is),
            );
      }

-- A stretch, and one behind it.
room-append : (cs ds : List Command) → room_for_all (cs ++ ds) ≡ room_for_all cs + room_for_all ds
room-append [] ds = omega arith
room-append (c ∷ cs) ds = omega (arith, room-append cs ds)

pub ready_front : {P T n : ℕ} {paid : List ℕ} {here : Ran} (cs ds : List Command) → Ready P T n paid here (cs ++ ds) → (m : ℕ) → m ≡ n →
    Ready P T m paid here cs
ready_front cs ds r m e =
    record {
      growing = r.growing;
      ranged = r.ranged;
      current = r.current;
      sixteen = r.sixteen;
      room = omega (arith, r.room, room-append cs ds, e);
      fits = λ q l. omega (arith, r.fits q l, length-append cs ds);
    }

module _ {P T P' T' : ℕ} {pages : List (List ℕ)} {table : Worktable} {before between paid paid' : List ℕ} {here there : Ran}
    {cs ds : List Command} {w : World} where
  pub ready_behind : {n : ℕ} → Ready P T n paid here (cs ++ ds) → RunOn P' T' pages table before between paid paid' here there cs w →
      Ready P' T' n paid' there ds
  ready_behind r x =
      record {
        growing = x.growing;
        ranged = x.ranged;
        current = x.current;
        sixteen = x.sixteen;
        room = omega (arith, r.room, x.behind, x.room, room-append cs ds);
        fits = λ q l. omega (arith, r.fits q l, x.most q l, length-append cs ds);
      }

  pub on_append : {pages' : List (List ℕ)} {table' : Worktable} {after paid'' : List ℕ} {yonder : Ran} →
      RunOn P T pages table before between paid paid' here there cs w → here.at ≤ length before →
      RunOn P' T' pages' table' between after paid' paid'' there yonder ds (world pages table there.state) →
      RunOn P' T' pages' table' before after paid paid'' here yonder (cs ++ ds) w
  on_append x l y =
      record {
        growing = y.growing;
        blocks = y.blocks ∙ x.blocks;
        ranged = y.ranged;
        current = y.current;
        sixteen = y.sixteen;
        laid = x.laid ++ y.laid;
        answers =
            y.answers ∙
            ap (λ (s : List ℕ). lay s there.at y.laid) x.answers ∙
            lay-next before here.at x.laid y.laid there.at l x.behind;
        behind = omega (arith, x.behind, y.behind, length-append x.laid y.laid);
        room = omega (arith, x.room, y.room, length-append x.laid y.laid, room-append cs ds);
        most = λ q m. omega (arith, x.most q m, y.most q m, length-append cs ds);
        worlds =
            λ rest.
            ap (λ (es : List Command). run_world es (session_at here) w) (append_assoc cs ds rest) ∙ x.worlds (ds ++ rest) ∙ y.worlds rest;
        replies =
            λ rest.
            ap (λ (es : List Command). replies_bytes (run_replies es (session_at here) w)) (append_assoc cs ds rest) ∙
            x.replies (ds ++ rest) ∙
            ap (λ (bytes : List ℕ). x.laid ++ bytes) (y.replies rest) ∙
            sym (append_assoc x.laid y.laid _);
        charges =
            λ rest q m.
            ap (λ (es : List Command). get_or paid q 0 + run_charge q es (session_at here) w) (append_assoc cs ds rest) ∙
            x.charges (ds ++ rest) q m ∙
            y.charges rest q m;
      }

-- The stretch of a whole batch, from its start.
module _ {P T : ℕ} {cs : List Command} {charges : List ℕ} {s : State} {t : Tariff} (e : charges ≡ no_charges) where
  pub ready_start : (n : ℕ) → Growing P T s → Ranged t → room_for_all cs ≤ n → most_paid * length cs ≤ most64 → Ready P T n charges (at_start s t) cs
  ready_start n g ranged l m =
      record {
        growing = g;
        ranged = ranged;
        current = omega arith;
        sixteen = ap length e ∙ length_each (λ i. 0);
        room = omega (arith, l);
        fits = λ q k. omega (arith, ap (λ (xs : List ℕ). get_or xs q 0) e, each_at (λ i. 0) q k, m);
      }

  pub on_whole : {pages : List (List ℕ)} {table : Worktable} {empty after paid : List ℕ} {there : Ran} {w : World} →
      RunOn P T pages table empty after charges paid (at_start s t) there cs w → RunAs P T pages table empty after paid there t cs w
  on_whole {pages} {table} {empty} {after} {paid} {there} {w} x =
      let whole : cs ++ [] ≡ cs = append-nil cs in
      let all : x.laid ≡ replies_bytes (run_replies cs (at_first t) w) =
      sym (append-nil x.laid) ∙ sym (x.replies []) ∙ ap (λ (es : List Command). replies_bytes (run_replies es (at_first t) w)) whole in
      record {
        kept =
            record {
              is = sym (x.worlds []) ∙ ap (λ (es : List Command). run_world es (at_first t) w) whole;
              growing = x.growing;
              blocks = x.blocks;
            };
        paid =
            each_are (λ q. run_charge q cs (at_first t) w) paid x.sixteen
            (λ q m.
            omega (
              arith,
              x.charges [] q m,
              ap (λ (es : List Command). run_charge q es (at_first t) w) whole,
              ap (λ (xs : List ℕ). get_or xs q 0) e,
              each_at (λ i. 0) q m,
            ));
        answers = x.answers ∙ ap (lay empty 0) all;
        behind = omega (arith, x.behind, ap length all);
      }
