-- The commands of a batch one after the other: what is left from each place, how many there are, and what all ask for. Assumes nothing.
use Rattle.std.specs.Prelude.{◌≡◌, refl, Bool, true, false, ◌⊎◌, leb, length, Option, None, Some}
use Rattle.std.proofs.Math.Path.{sym, ap}
use Rattle.std.proofs.Common.{◌∙◌, subst, inl, inr, arith, le-leb, leb-true, leb-false}
use mathlib.Core.List.{List, [], ◌∷◌}
use Prim.Native.Nat.{ℕ, zero, suc, ◌+◌, ◌-◌, ◌*◌, ◌≤◌, ◌<◌}
use Rattle.std.proofs.lemmas.Bool.{lt-leb}
use Rattle.laws.specs.BigEndian.{Bytes}
use Rattle.laws.specs.Every.{Every, none as every-none, both}
use Rattle.laws.specs.Options.{none_some, some_same}
use Rattle.laws.specs.Order.{le_or}
use Rattle.layout.specs.Layout.{most_batch_bytes}
use Rattle.command.specs.declared.Command.{Command}
use Rattle.command.specs.declared.Command.TheVariants.{Get, Put, Delete, Scan, Panel, Ceiling}
use Rattle.command.specs.declared.Asked.{Asked}
use Rattle.command.specs.Command.{Step, command_at, room_for, Onward, Valid}
use Rattle.command.specs.CommandLaws.{command_at_onward, command_at_long, command_at_valid, room_for_le}
use Rattle.command.specs.Batch.{before, run, commands_from, commands_of, room_for_all, named, named_in, asked_for, asked_as, asked_of, ValidAll}

-- what a step leaves to run
abbrev run_on : ℕ → List ℕ → Step → Option (List Command)
run_on fuel s (Some (c, next)) = before c (run fuel s next)
run_on fuel s None = None

run_inside : (fuel : ℕ) (s : List ℕ) (at : ℕ) → at < length s → run (suc fuel) s at ≡ run_on fuel s (command_at s at)
unfolding run
run_inside fuel s at h = rw (lt-leb (length s) at h, run) (go (command_at s at))
  where
    go : (r : Step) → (elim r [ Some (c, next) ↦ before c (run fuel s next) | None ↦ None ]) ≡ run_on fuel s r
    go (Some (c, next)) = refl
    go None = refl

run_end : (fuel : ℕ) (s : List ℕ) (at : ℕ) → length s ≤ at → run (suc fuel) s at ≡ Some []
unfolding run
run_end fuel s at h = rw (le-leb (length s) at h, run)

-- Any fuel above what is left gives the same commands.
run_fuel : (m n : ℕ) (s : List ℕ) (at : ℕ) → length s - at < m → length s - at < n → run m s at ≡ run n s at
run_fuel zero n s at h k = absurd (omega arith)
run_fuel (suc m) zero s at h k = absurd (omega arith)
run_fuel (suc m) (suc n) s at h k = go (leb (length s) at) refl (λ next. run_fuel m n s next)
  where
    on :
        (r : Step) → Onward s at r → at < length s →
        ((next : ℕ) → length s - next < m → length s - next < n → run m s next ≡ run n s next) → run_on m s r ≡ run_on n s r
    on (Some (c, next)) w l same = ap (before c) (same next (omega (arith, w.0, w.1)) (omega (arith, w.0, w.1)))
    on None w l same = refl

    go :
        (b : Bool) → leb (length s) at ≡ b →
        ((next : ℕ) → length s - next < m → length s - next < n → run m s next ≡ run n s next) → run (suc m) s at ≡ run (suc n) s at
    go true e same = run_end m s at (leb-true (length s) at e) ∙ sym (run_end n s at (leb-true (length s) at e))
    go false e same =
        let l = leb-false (length s) at e in
        run_inside m s at l ∙ on (command_at s at) (command_at_onward s at) l same ∙ sym (run_inside n s at l)

-- From a place: at the end nothing is left; a valid command stands before those behind it; an invalid one spoils all.
module _ (s : List ℕ) (at : ℕ) where
  pub commands_from_end : length s ≤ at → commands_from s at ≡ Some []
  unfolding commands_from
  commands_from_end h = run_end (length s) s at h

  pub commands_from-next : at < length s → (c : Command) (next : ℕ) → command_at s at ≡ Some (c, next) → commands_from s at ≡ before c (commands_from s next)
  unfolding commands_from
  commands_from-next h c next e =
      let w : Onward s at (Some (c, next)) = rw e at (command_at_onward s at) in
      run_inside (length s) s at h ∙
      ap (run_on (length s) s) e ∙
      ap (before c) (run_fuel (length s) (suc (length s)) s next (omega (arith, w.0, w.1)) (omega arith))

  pub commands_from_invalid : at < length s → command_at s at ≡ None → commands_from s at ≡ None
  unfolding commands_from
  commands_from_invalid h e = run_inside (length s) s at h ∙ ap (run_on (length s) s) e

-- WHAT HOLDS OF ALL COMMANDS READ: of none at the end, and of one more where it holds of those behind it.
module _ (s : List ℕ) (P : ℕ → List Command → Type 0) (end : (at : ℕ) → length s ≤ at → P at [])
    (more : (at next : ℕ) (c : Command) (cs : List Command) → command_at s at ≡ Some (c, next) → P next cs → P at (c ∷ cs)) where
  run-all : (fuel at : ℕ) (cs : List Command) → run fuel s at ≡ Some cs → P at cs
  unfolding run
  run-all zero at cs e = absurd (none_some e)
  run-all (suc fuel) at cs e = go (le_or (length s) at) (λ next ds. run-all fuel next ds)
    where
      Rest : Type 0
      Rest = (next : ℕ) (ds : List Command) → run fuel s next ≡ Some ds → P next ds

      on : (r : Step) → command_at s at ≡ r → Rest → run_on fuel s r ≡ Some cs → P at cs
      on (Some (c, next)) g rest f = behind (run fuel s next) (rest next) f
        where
          behind : (o : Option (List Command)) → ((ds : List Command) → o ≡ Some ds → P next ds) → before c o ≡ Some cs → P at cs
          behind None h k = absurd (none_some k)
          behind (Some ds) h k = subst (P at) (some_same k) (more at next c ds g (h ds refl))
      on None g rest f = absurd (none_some f)

      go : (length s ≤ at) ⊎ (at < length s) → Rest → P at cs
      go (inl l) rest = subst (P at) (some_same (sym (run_end fuel s at l) ∙ e)) (end at l)
      go (inr l) rest = on (command_at s at) refl rest (sym (run_inside fuel s at l) ∙ e)

  pub commands_from-all : (at : ℕ) (cs : List Command) → commands_from s at ≡ Some cs → P at cs
  unfolding commands_from
  commands_from-all at cs e = run-all (suc (length s)) at cs e

module _ (s : List ℕ) where
  pub onward_next : (at next : ℕ) (c : Command) → command_at s at ≡ Some (c, next) → Onward s at (Some (c, next))
  onward_next at next c e = rw e at (command_at_onward s at)

  -- Each takes three bytes or more,
  pub commands_from_few : (at : ℕ) (cs : List Command) → commands_from s at ≡ Some cs → 3 * length cs ≤ length s - at
  commands_from_few =
      commands_from-all s (λ at cs. 3 * length cs ≤ length s - at) (λ at l. omega arith)
      (λ at next c cs e h. let long : at + 3 ≤ next = rw e at (command_at_long s at) in omega (arith, h, (onward_next at next c e).1))

  -- asks for 3 + 8 × 32 bytes of answers or fewer,
  pub commands_from-room : (at : ℕ) (cs : List Command) → commands_from s at ≡ Some cs → room_for_all cs ≤ 259 * length cs
  commands_from-room =
      commands_from-all s (λ at cs. room_for_all cs ≤ 259 * length cs) (λ at l. omega arith)
      (λ at next c cs e h. omega (arith, h, room_for_le c (onward_next at next c e).2))

  -- and is valid where it is read from bytes.
  pub commands_from_valid : Bytes s → (at : ℕ) (cs : List Command) → commands_from s at ≡ Some cs → Every Valid cs
  commands_from_valid bytes =
      commands_from-all s (λ at cs. Every Valid cs) (λ at l. every-none) (λ at next c cs e h. both (rw e at (command_at_valid s bytes at)) h)

pub named_le : (c : Command) → named c ≤ 1
named_le (Get k) = omega arith
named_le (Put k v) = omega arith
named_le (Delete k) = omega arith
named_le (Scan low high most) = omega arith
named_le (Panel panel) = omega arith
named_le (Ceiling k) = omega arith

-- Every one valid, said one by one.
pub valid_all : (cs : List Command) → Every Valid cs → ValidAll cs
valid_all [] every-none = tt
valid_all (c ∷ cs) (both v vs) = (v, valid_all cs vs)

-- What is asked for, with what the commands passed ask for.
abbrev pub asked_with : ℕ → ℕ → ℕ → Option (List Command) → Option Asked
asked_with room n m None = None
asked_with room n m (Some cs) = Some (asked_for (room + room_for_all cs) (n + length cs) (m + named_in cs))

-- the same numbers, said otherwise
asked_same : {a b c x y z : ℕ} → a ≡ x → b ≡ y → c ≡ z → ◌≡◌ {A = Option Asked} (Some (asked_for a b c)) (Some (asked_for x y z))
asked_same e f g = rw (e, f, g) refl

pub asked_with-before : (room n m : ℕ) (c : Command) (r : Option (List Command)) →
    asked_with room n m (before c r) ≡ asked_with (room + room_for c) (n + 1) (m + named c) r
asked_with-before room n m c None = refl
asked_with-before room n m c (Some cs) = asked_same (omega arith) (omega arith) (omega arith)

asked_with-none : (r : Option (List Command)) → asked_with 0 0 0 r ≡ asked_as r
asked_with-none None = refl
asked_with-none (Some cs) = asked_same (omega arith) (omega arith) (omega arith)

module _ (s : List ℕ) where
  pub commands_of_long : most_batch_bytes < length s → commands_of s ≡ None
  unfolding commands_of
  commands_of_long h = rw (lt-leb (length s) most_batch_bytes h, commands_of)

  pub commands_of_short : length s ≤ most_batch_bytes → commands_of s ≡ commands_from s 0
  unfolding commands_of
  commands_of_short h = rw (le-leb (length s) most_batch_bytes h, commands_of)

  -- a batch that is read is within its length, and read from its start
  pub commands_of-read : (cs : List Command) → commands_of s ≡ Some cs → (length s ≤ most_batch_bytes) × (commands_from s 0 ≡ Some cs)
  commands_of-read cs e = go (le_or (length s) most_batch_bytes)
    where
      go : (length s ≤ most_batch_bytes) ⊎ (most_batch_bytes < length s) → (length s ≤ most_batch_bytes) × (commands_from s 0 ≡ Some cs)
      go (inl l) = (l, sym (commands_of_short l) ∙ e)
      go (inr l) = absurd (none_some (sym (commands_of_long l) ∙ e))

  pub commands_of_valid : Bytes s → (cs : List Command) → commands_of s ≡ Some cs → Every Valid cs
  commands_of_valid bytes cs e = commands_from_valid s bytes 0 cs (commands_of-read cs e).1

  pub asked_long : most_batch_bytes < length s → None ≡ asked_of s
  unfolding asked_of
  asked_long h = sym (ap asked_as (commands_of_long h))

  pub asked-start : length s ≤ most_batch_bytes → asked_with 0 0 0 (commands_from s 0) ≡ asked_of s
  unfolding asked_of
  asked-start h = asked_with-none (commands_from s 0) ∙ sym (ap asked_as (commands_of_short h))

  module _ (at room n m : ℕ) where
    pub asked-turn :
        at < length s → (c : Command) (next : ℕ) → command_at s at ≡ Some (c, next) →
        asked_with room n m (commands_from s at) ≡ asked_of s →
        asked_with (room + room_for c) (n + 1) (m + named c) (commands_from s next) ≡ asked_of s
    asked-turn h c next e i =
        sym (asked_with-before room n m c (commands_from s next)) ∙ ap (asked_with room n m) (sym (commands_from-next s at h c next e)) ∙ i

    pub asked_invalid : at < length s → command_at s at ≡ None → asked_with room n m (commands_from s at) ≡ asked_of s → None ≡ asked_of s
    asked_invalid h e i = sym (ap (asked_with room n m) (commands_from_invalid s at h e)) ∙ i

    pub asked_end : length s ≤ at → asked_with room n m (commands_from s at) ≡ asked_of s → Some (asked_for room n m) ≡ asked_of s
    asked_end h i =
        asked_same (omega arith) (omega arith) (omega arith) ∙ sym (ap (asked_with room n m) (commands_from_end s at h)) ∙ i
