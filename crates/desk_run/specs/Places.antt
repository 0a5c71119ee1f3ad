-- The places of queues while they are served: what is left of each queue from its place on, and what a round leaves of that. Assumes nothing.
use Rattle.std.specs.Prelude.{◌≡◌, refl, List, [], ◌∷◌, ◌++◌, ℕ, zero, suc, ◌<◌, length, get_or, drop, Some}
use Rattle.std.proofs.Common.{ap}
use Rattle.laws.specs.Update.{list_below}
use Rattle.layout.specs.Layout.{panels}
use Rattle.command.specs.declared.Command.{Command}
use Rattle.command.specs.declared.Command.TheVariants.{Panel}
use Rattle.command.specs.Batch.{commands_from}
use Rattle.run.specs.Valid.{list_or}
use Rattle.desk_order.specs.Turns.{heads, tails}
use Rattle.desk_queues.specs.Queues.{queue_count, queue_at}
use Rattle.desk_queues.specs.Joined.{interleaved}

-- The commands of queue p that are left, and those of all.
unfoldable pub rest_at : List ℕ → List ℕ → List ℕ → ℕ → List Command
rest_at lengths queues places p = list_or (commands_from (queue_at lengths queues p) (get_or places p 0))

abbrev pub rests : List ℕ → List ℕ → List ℕ → List (List Command)
rests lengths queues places = list_below (queue_count lengths) (rest_at lengths queues places)

-- Each queue is valid from its place on.
pub record Placed (lengths queues places : List ℕ) : Type 0 where
  pub sixteen : length places ≡ panels
  pub left : (p : ℕ) → p < queue_count lengths → commands_from (queue_at lengths queues p) (get_or places p 0) ≡ Some (rest_at lengths queues places p)

pub rest-is : (lengths queues places : List ℕ) (p : ℕ) (cs : List Command) →
    commands_from (queue_at lengths queues p) (get_or places p 0) ≡ Some cs → rest_at lengths queues places p ≡ cs
unfolding rest_at
rest-is lengths queues places p cs e = ap list_or e

-- What a round leaves: each queue without its first command.
pub record RoundLeft (lengths queues places places' : List ℕ) : Type 0 where
  pub placed : Placed lengths queues places'
  pub rests_are : rests lengths queues places' ≡ tails (rests lengths queues places)

-- A list of entries, each without its first.
pub tails-below : (n : ℕ) (f : ℕ → List Command) → tails (list_below n f) ≡ list_below n (λ p. drop 1 (f p))
tails-below zero f = refl
tails-below (suc n) f = first (f 0) (list_below n (λ p. f (suc p))) (tails-below n (λ p. f (suc p)))
  where
    first : (cs : List Command) (css : List (List Command)) {dss : List (List Command)} → tails css ≡ dss → tails (cs ∷ css) ≡ drop 1 cs ∷ dss
    first [] css e = ap (λ (z : List (List Command)). [] ∷ z) e
    first (c ∷ cs) css e = ap (λ (z : List (List Command)). cs ∷ z) e

-- A round is the turn of its first queue, and the rest of it.
pub heads-first : (p : ℕ) (cs : List Command) (css : List (List Command)) → heads p (cs ∷ css) ≡ heads p (cs ∷ []) ++ heads (suc p) css
heads-first p [] css = refl
heads-first p (c ∷ cs) css = refl

pub interleaved-append : (xs ys : List (ℕ × Command)) → interleaved (xs ++ ys) ≡ interleaved xs ++ interleaved ys
interleaved-append [] ys = refl
interleaved-append (x ∷ xs) ys = ap (λ (cs : List Command). Panel x.0 ∷ x.1 ∷ cs) (interleaved-append xs ys)
