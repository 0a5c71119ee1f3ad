-- Queues that were read, each with its commands: these are valid, name no panel, and are spelled by the queue's own bytes. Assumes nothing.
use Rattle.std.specs.Prelude.{◌≡◌, refl, Bool, true, false, List, [], ◌∷◌, map, ℕ, zero, suc, eqb, length, get_or, Option, None, Some}
use Rattle.std.proofs.Common.{ap, ◌∙◌, subst, arith, eqb-true, length-append}
use Rattle.laws.specs.BigEndian.{Bytes}
use Rattle.laws.specs.Every.{Every, none as every-none, both}
use Rattle.laws.specs.Options.{none_some, some_same}
use Rattle.laws.specs.Tests.{choose}
use Rattle.laws.specs.Update.{sum}
use Rattle.command.specs.declared.Command.{Command}
use Rattle.command.specs.Command.{command_bytes, Valid}
use Rattle.command.specs.Batch.{commands_of, named_in}
use Rattle.command.specs.Spelled.{batch_bytes}
use Rattle.command.specs.OneSpelling.{batch_bytes-commands_of}
use Rattle.command.specs.BatchLaws.{commands_of_valid}
use Rattle.desk_order.specs.Turns.{turns, picks}
use Rattle.desk_order.proofs.OwnOrder.{own_order}
use Rattle.desk_order.specs.Weigh.{weigh, weigh_all}
use Rattle.desk_queues.specs.Joined.{own_commands, queue_commands, beside, all_commands}

-- A QUEUE that was read is a batch by itself, without a command 05.
pub record Own (queue : List ℕ) (cs : List Command) : Type 0 where
  pub commands : commands_of queue ≡ Some cs
  pub unnamed : named_in cs ≡ 0

pub queue_own : (queue : List ℕ) (cs : List Command) → queue_commands queue ≡ Some cs → Own queue cs
unfolding queue_commands
queue_own queue cs e = go (commands_of queue) refl e
  where
    on : (ds : List Command) → commands_of queue ≡ Some ds → (b : Bool) → eqb (named_in ds) 0 ≡ b → choose b (Some ds) None ≡ Some cs → Own queue cs
    on ds f true t g = subst (Own queue) (some_same g) (record { commands = f; unnamed = eqb-true (named_in ds) 0 t })
    on ds f false t g = absurd (none_some g)

    go : (o : Option (List Command)) → commands_of queue ≡ o → own_commands o ≡ Some cs → Own queue cs
    go None f g = absurd (none_some g)
    go (Some ds) f g = on ds f (eqb (named_in ds) 0) refl g

-- ALL QUEUES, each with its commands.
pub data Read : List (List ℕ) → List (List Command) → Type 0 where
  nothing : Read [] []
  next : {q : List ℕ} {qs : List (List ℕ)} {cs : List Command} {css : List (List Command)} → Own q cs → Read qs css → Read (q ∷ qs) (cs ∷ css)

pub all_read : (queues : List (List ℕ)) (css : List (List Command)) → all_commands queues ≡ Some css → Read queues css
all_read [] css e = subst (Read []) (some_same e) nothing
all_read (q ∷ qs) css e = go (queue_commands q) refl (all_commands qs) refl (all_read qs) e
  where
    go : (a : Option (List Command)) → queue_commands q ≡ a → (b : Option (List (List Command))) → all_commands qs ≡ b →
        ((ds : List (List Command)) → all_commands qs ≡ Some ds → Read qs ds) → beside a b ≡ Some css → Read (q ∷ qs) css
    go None f b g rest h = absurd (none_some h)
    go (Some cs) f None g rest h = absurd (none_some h)
    go (Some cs) f (Some ds) g rest h = subst (Read (q ∷ qs)) (some_same h) (next (queue_own q cs f) (rest ds g))

-- As many lists of commands as queues.
pub read_length : {queues : List (List ℕ)} {css : List (List Command)} → Read queues css → length css ≡ length queues
read_length nothing = refl
read_length (next o r) = ap suc (read_length r)

-- What commands take in bytes.
abbrev pub bytes_for : Command → ℕ
bytes_for c = length (command_bytes c)

pub length_batch : (cs : List Command) → length (batch_bytes cs) ≡ weigh bytes_for cs
length_batch [] = refl
length_batch (c ∷ cs) = omega (arith, length-append (command_bytes c) (batch_bytes cs), length_batch cs)

-- Of queues made of bytes:
-- every command is valid;
pub read_valid : {queues : List (List ℕ)} {css : List (List Command)} → Every Bytes queues → Read queues css → Every (Every Valid) css
read_valid every-none nothing = every-none
read_valid (both b bs) (next {q = q} {cs = cs} o r) = both (commands_of_valid q b cs o.commands) (read_valid bs r)

-- commands take what the queues take;
pub read-bytes : {queues : List (List ℕ)} {css : List (List Command)} → Every Bytes queues → Read queues css →
    weigh_all bytes_for css ≡ sum (map length queues)
read-bytes every-none nothing = refl
read-bytes (both b bs) (next {q = q} {cs = cs} o r) =
    omega (arith, length_batch cs, ap length (batch_bytes-commands_of q b cs o.commands), read-bytes bs r)

-- THE QUEUES' OWN BYTES: the commands of queue p are spelled by its bytes, to the letter;
pub read-spelled : {queues : List (List ℕ)} {css : List (List Command)} → Every Bytes queues → Read queues css → (p : ℕ) →
    batch_bytes (get_or css p []) ≡ get_or queues p []
read-spelled every-none nothing p = refl
read-spelled (both b bs) (next {q = q} {cs = cs} o r) zero = batch_bytes-commands_of q b cs o.commands
read-spelled (both b bs) (next o r) (suc p) = read-spelled bs r p

-- and what panel p is served, in order, is spelled by its queue's bytes.
pub served-spelled : {queues : List (List ℕ)} {css : List (List Command)} → Every Bytes queues → Read queues css → (p : ℕ) →
    batch_bytes (picks p (turns css)) ≡ get_or queues p []
served-spelled {css = css} bs r p = ap batch_bytes (own_order css p) ∙ read-spelled bs r p
