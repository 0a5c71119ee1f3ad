-- A batch over the flash store: its commands in turn, each by the contents that the store has then, and the checkpoint at its end. Assumes nothing.
use Rattle.std.specs.Prelude.{List, ℕ}
use Rattle.account.specs.declared.Tariff.{Tariff}
use Rattle.command.specs.declared.Command.{Command}
use Rattle.store.specs.Checkpoint.{close}
use Rattle.book.specs.Command.{Reply, requests, answer}
use Rattle.book.specs.Session.{Session}
use Rattle.book.specs.InTurn.{each_panel, after_all, replies_to, in_row, charge_on}
use Rattle.model.specs.State.{State, book_of, serve_all, after_each, charges}

module _ (limit : ℕ) where
  -- A command in a session: its reply, the state after it, and what all its node requests are charged.
  abbrev pub reply_of : Session → Command → State → Reply
  reply_of n c s = answer limit n c (book_of s)

  abbrev pub done : Session → Command → State → State
  done n c s = serve_all n.tariff (requests limit n c (book_of s)) s

  abbrev pub cost : Session → Command → State → ℕ
  cost n c s = charges n.tariff (requests limit n c (book_of s)) s

  -- After a batch: the state, the states passed after each node request, the answers, the charge of one panel and of each.
  abbrev pub run : List Command → Session → State → State
  run = after_all reply_of done

  abbrev pub states_passed : List Command → Session → State → List State
  states_passed = in_row reply_of done (λ n c s. after_each n.tariff (requests limit n c (book_of s)) s)

  abbrev pub answers : List Command → Session → State → List Reply
  answers = replies_to reply_of done

  abbrev pub charge_of : ℕ → List Command → Session → State → ℕ
  charge_of = charge_on reply_of done cost

  abbrev pub charges_of : List Command → Session → State → List ℕ
  charges_of cs n s = each_panel (λ q. charge_of q cs n s)

-- The end of a batch: the buffer's page, if it holds anything, then a checkpoint with every node's score.
unfoldable pub closed : Tariff → State → State
closed t s = record { run = close t s.score s.run; score = s.score }
