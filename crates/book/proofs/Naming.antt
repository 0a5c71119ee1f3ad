-- Every command names a panel or keeps it. A command more is one clause here; who stays in range, and that panels change no request and no answer,
-- follows for all. Assumes nothing.
use Rattle.std.specs.Prelude.{◌≡◌, refl, ℕ, ◌<◌}
use Rattle.std.proofs.Math.Path.{ap}
use Rattle.command.specs.declared.Command.{Command}
use Rattle.command.specs.declared.Command.TheVariants.{Get, Put, Delete, Scan, Panel, Ceiling}
use Rattle.book.specs.Book.{Book}
use Rattle.book.specs.Session.{Session, with_panel}
use Rattle.book.specs.Command.{Task, task_of, requests_of, answer_of, requests, answer}
use Rattle.book.specs.SessionAfter.{panel_after}
use Rattle.book.specs.Naming.{Naming, sets, keeps}

pub naming : (c : Command) → Naming c
naming (Get k) = keeps refl (λ n. refl) (λ q n. refl)
naming (Put k v) = keeps refl (λ n. refl) (λ q n. refl)
naming (Delete k) = keeps refl (λ n. refl) (λ q n. refl)
naming (Scan low high most) = keeps refl (λ n. refl) (λ q n. refl)
naming (Panel panel) = sets panel refl
naming (Ceiling k) = keeps refl (λ n. refl) (λ q n. refl)

-- The panel after a command was current before it, or was named by it.
pub panel-below : (n : Session) (c : Command) (m : ℕ) → ((panel : ℕ) → c ≡ Panel panel → panel < m) → n.panel < m → panel_after n c < m
panel-below n c m set l = go (naming c)
  where
    go : Naming c → panel_after n c < m
    go (sets panel e) = rw e (set panel e)
    go (keeps none same task) = rw (same n) l

-- What a command asks and is answered does not depend on the current panel.
module _ (q : ℕ) (n : Session) where
  task_panel : (c : Command) → task_of (with_panel q n) c ≡ task_of n c
  task_panel c = go (naming c)
    where
      go : Naming c → task_of (with_panel q n) c ≡ task_of n c
      go (sets panel e) = rw e refl
      go (keeps none same task) = task q n

  pub requests-panel : (limit : ℕ) (c : Command) (b : Book) → requests limit (with_panel q n) c b ≡ requests limit n c b
  unfolding requests
  requests-panel limit c b = ap (λ (t : Task). requests_of limit t b) (task_panel c)

  pub answer-panel : (limit : ℕ) (c : Command) (b : Book) → answer limit (with_panel q n) c b ≡ answer limit n c b
  unfolding answer
  answer-panel limit c b = ap (λ (t : Task). answer_of limit t b) (task_panel c)
