-- The command at a place: its cases by tag; that it goes on within the bytes, takes three of them or more, and, read from bytes, is valid. Assumes nothing.
use Rattle.std.specs.Prelude.{◌≡◌, Bool, true, false, ◌&&◌, List, ℕ, ◌+◌, ◌-◌, ◌≤◌, ◌<◌, eqb, leb, ltb, length, get_or, Option, None, Some, Result, Ok, Err}
use Rattle.std.proofs.Math.Path.{refl, ap}
use Rattle.std.proofs.Common.{sym, ◌∙◌, arith}
use borrow.Author.Tests.{eq-eqb, ne_eqb, eqb-true, le-leb, lt-leb, leb-true, ltb-true, lt-ltb, le-ltb}
use Rattle.laws.specs.Tests.{choose, and_left, and_right, test_clash}
use Rattle.laws.specs.Lay.{part, length_part}
use Rattle.laws.specs.BigEndian.{Bytes, number_at, number_at_lt, bytes-part}
use Rattle.wire.specs.Tag.{length_of, allowed, find, rows}
use Rattle.wire.specs.Field.{from_to, field_at, length_at, is_payload, stands_at}
use Rattle.wire.specs.FieldLaws.{Stands, stands_is}
use Rattle.wire.specs.declared.tag.Length.{Length}
use Rattle.wire.specs.declared.tag.Length.TheVariants.{Exact}
use Rattle.wire.specs.declared.field.Span.{Span}
use Rattle.wire.specs.declared.field.Fault.{Fault}
use Rattle.command.specs.declared.Command.{Command}
use Rattle.command.specs.declared.Command.TheVariants.{Get, Put, Delete, Scan, Panel, Ceiling}
use Rattle.layout.specs.Layout.{most_pairs, panels, bound32}
use Rattle.command.specs.Command.{in_range, command_of, Step, step_as, field_step, command_at, InRange, Valid, room_for, Onward}

-- The payload lengths of the commands' tags, as the table has them.
payload_exact : (tag k n : ℕ) → length_of tag ≡ Some (Exact k) → allowed (length_of tag) n ≡ true → n ≡ k
payload_exact tag k n e m = eqb-true n k (ap (λ (l : Option Length). allowed l n) (sym e) ∙ m)

module _ (tag n : ℕ) (m : allowed (length_of tag) n ≡ true) where
  at_tag : (t k : ℕ) → tag ≡ t → length_of t ≡ Some (Exact k) → n ≡ k
  at_tag t k e f = payload_exact tag k n (ap length_of e ∙ f) m

  pub payload-get : tag ≡ 1 → n ≡ 4
  unfolding length_of find rows
  payload-get e = at_tag 1 4 e refl

  pub payload-put : tag ≡ 2 → n ≡ 8
  unfolding length_of find rows
  payload-put e = at_tag 2 8 e refl

  pub payload-delete : tag ≡ 3 → n ≡ 4
  unfolding length_of find rows
  payload-delete e = at_tag 3 4 e refl

  pub payload-scan : tag ≡ 4 → n ≡ 10
  unfolding length_of find rows
  payload-scan e = at_tag 4 10 e refl

  pub payload-panel : tag ≡ 5 → n ≡ 1
  unfolding length_of find rows
  payload-panel e = at_tag 5 1 e refl

  pub payload-ceiling : tag ≡ 7 → n ≡ 4
  unfolding length_of find rows
  payload-ceiling e = at_tag 7 4 e refl

-- The command of a tag and a payload, case by case.
module _ (tag : ℕ) (p : List ℕ) where
  pub command_of-get : tag ≡ 1 → command_of tag p ≡ Some (Get (number_at 4 p 0))
  unfolding command_of
  command_of-get e = simp (eq-eqb tag 1 e)

  pub command_of-put : tag ≡ 2 → command_of tag p ≡ Some (Put (number_at 4 p 0) (number_at 4 p 4))
  unfolding command_of
  command_of-put e = simp (ne_eqb tag 1 (omega arith), eq-eqb tag 2 e)

  pub command_of-delete : tag ≡ 3 → command_of tag p ≡ Some (Delete (number_at 4 p 0))
  unfolding command_of
  command_of-delete e = simp (ne_eqb tag 1 (omega arith), ne_eqb tag 2 (omega arith), eq-eqb tag 3 e)

  pub command_of-ceiling : tag ≡ 7 → command_of tag p ≡ Some (Ceiling (number_at 4 p 0))
  unfolding command_of
  command_of-ceiling e =
      simp (
        ne_eqb tag 1 (omega arith),
        ne_eqb tag 2 (omega arith),
        ne_eqb tag 3 (omega arith),
        ne_eqb tag 4 (omega arith),
        ne_eqb tag 5 (omega arith),
        eq-eqb tag 7 e,
      )

  pub command_of-other :
      (tag ≡ 1 → ⊥) → (tag ≡ 2 → ⊥) → (tag ≡ 3 → ⊥) → (tag ≡ 4 → ⊥) → (tag ≡ 5 → ⊥) → (tag ≡ 7 → ⊥) → command_of tag p ≡ None
  unfolding command_of
  command_of-other a b c d e f =
      simp (ne_eqb tag 1 a, ne_eqb tag 2 b, ne_eqb tag 3 c, ne_eqb tag 4 d, ne_eqb tag 5 e, ne_eqb tag 7 f)

module _ (p : List ℕ) where
  pub command_of-scan :
      1 ≤ number_at 2 p 8 → number_at 2 p 8 ≤ most_pairs → command_of 4 p ≡ Some (Scan (number_at 4 p 0) (number_at 4 p 4) (number_at 2 p 8))
  unfolding command_of in_range
  command_of-scan h k = simp (le-leb 1 (number_at 2 p 8) h, le-leb (number_at 2 p 8) most_pairs k)

  pub command_of-none : number_at 2 p 8 < 1 → command_of 4 p ≡ None
  unfolding command_of in_range
  command_of-none h = simp (lt-leb 1 (number_at 2 p 8) h)

  pub command_of_many : 1 ≤ number_at 2 p 8 → most_pairs < number_at 2 p 8 → command_of 4 p ≡ None
  unfolding command_of in_range
  command_of_many h k = simp (le-leb 1 (number_at 2 p 8) h, lt-leb (number_at 2 p 8) most_pairs k)

  pub command_of-panel : get_or p 0 0 < panels → command_of 5 p ≡ Some (Panel (get_or p 0 0))
  unfolding command_of
  command_of-panel h = simp (lt-ltb (get_or p 0 0) panels h)

  pub command_of_no_panel : panels ≤ get_or p 0 0 → command_of 5 p ≡ None
  unfolding command_of
  command_of_no_panel h = simp (le-ltb (get_or p 0 0) panels h)

-- The scan that was read number by number.
pub scan_step :
    (p : List ℕ) (next low high most : ℕ) → low ≡ number_at 4 p 0 → high ≡ number_at 4 p 4 → most ≡ number_at 2 p 8 →
    1 ≤ most → most ≤ most_pairs → Some (Scan low high most, next) ≡ step_as next (command_of 4 p)
scan_step p next low high most e f g h k =
    let scan = command_of-scan p (omega arith) (omega arith) in
    rw (e, f, g) (sym (ap (step_as next) scan))

-- Where a field's payload lies.
pub record Bounds (s : List ℕ) (at tag start end : ℕ) : Type 0 where
  pub first : start ≡ at + 3
  pub last : end ≡ at + 3 + length_at s at
  pub may : allowed (length_of tag) (length_at s at) ≡ true
  pub within : at + 3 + length_at s at ≤ length s

pub field_bounds : (s : List ℕ) (at tag start end : ℕ) → field_at s at tag ≡ Ok (from_to start end) → Bounds s at tag start end
unfolding stands_at field_at
field_bounds s at tag start end e =
    let stand = stands_is s at tag (ap is_payload e) in
    go stand (leb (at + 3) (length s)) (eqb (get_or s at 0) tag && allowed (length_of tag) (length_at s at))
    (leb (at + 3 + length_at s at) (length s)) refl refl refl
  where
    clash : {f : Result Span Fault} → f ≡ Ok (from_to start end) → is_payload f ≡ false → Bounds s at tag start end
    clash g h = let z : true ≡ false = sym (ap is_payload g) ∙ h in absurd (test_clash true refl z)

    go :
        Stands s at tag → (a b c : Bool) → leb (at + 3) (length s) ≡ a →
        (eqb (get_or s at 0) tag && allowed (length_of tag) (length_at s at)) ≡ b → leb (at + 3 + length_at s at) (length s) ≡ c →
        Bounds s at tag start end
    go stand true true true a b c =
        let f : ◌≡◌ {A = Result Span Fault} (Ok (from_to (at + 3) (at + 3 + length_at s at))) (Ok (from_to start end)) = simp (a, b, c) at e in
        let g : from_to (at + 3) (at + 3 + length_at s at) ≡ from_to start end = cc in
        record { first = sym (ap (λ (p : Span). p.start) g); last = sym (ap (λ (p : Span). p.end) g); may = stand.may; within = stand.within }
    go stand true true false a b c = clash (simp (a, b, c) at e) refl
    go stand true false c a b _ = clash (simp (a, b) at e) refl
    go stand false b c a _ _ = clash (simp a at e) refl

-- A payload has a length that its tag may have.
pub payload_may :
    (s : List ℕ) (at tag start end : ℕ) → field_at s at tag ≡ Ok (from_to start end) →
    allowed (length_of tag) (length (part s start (end - start))) ≡ true
payload_may s at tag start end e =
    let b = field_bounds s at tag start end e in
    let n : length (part s start (end - start)) ≡ length_at s at =
    length_part s start (end - start) (omega (arith, b.first, b.last, b.within)) ∙ omega (arith, b.first, b.last) in
    ap (λ (k : ℕ). allowed (length_of tag) k) n ∙ b.may

-- What holds of no command, and of each command that a payload may say under its tag, holds of the one that it says.
pub command_of_each :
    (P : Option Command → Type 0) (tag : ℕ) (p : List ℕ) → P None →
    (tag ≡ 1 → P (Some (Get (number_at 4 p 0)))) →
    (tag ≡ 2 → P (Some (Put (number_at 4 p 0) (number_at 4 p 4)))) →
    (tag ≡ 3 → P (Some (Delete (number_at 4 p 0)))) →
    (tag ≡ 4 → (1 ≤ number_at 2 p 8) × (number_at 2 p 8 ≤ most_pairs) → P (Some (Scan (number_at 4 p 0) (number_at 4 p 4) (number_at 2 p 8)))) →
    (tag ≡ 5 → get_or p 0 0 < panels → P (Some (Panel (get_or p 0 0)))) →
    (tag ≡ 7 → P (Some (Ceiling (number_at 4 p 0)))) → P (command_of tag p)
unfolding command_of in_range
command_of_each P tag p nothing get put delete scan panel ceiling =
    go (eqb tag 1) refl (eqb tag 2) refl (eqb tag 3) refl (eqb tag 4 && asked) refl (eqb tag 5 && named) refl (eqb tag 7) refl
  where
    most : ℕ
    most = number_at 2 p 8

    asked : Bool
    asked = leb 1 most && leb most most_pairs

    named : Bool
    named = ltb (get_or p 0 0) panels

    go : (a : Bool) → eqb tag 1 ≡ a → (b : Bool) → eqb tag 2 ≡ b → (c : Bool) → eqb tag 3 ≡ c → (d : Bool) → (eqb tag 4 && asked) ≡ d →
        (e : Bool) → (eqb tag 5 && named) ≡ e → (f : Bool) → eqb tag 7 ≡ f →
        P
        (choose a (Some (Get (number_at 4 p 0)))
        (choose b (Some (Put (number_at 4 p 0) (number_at 4 p 4)))
        (choose c (Some (Delete (number_at 4 p 0)))
        (choose d (Some (Scan (number_at 4 p 0) (number_at 4 p 4) (number_at 2 p 8)))
        (choose e (Some (Panel (get_or p 0 0)))
        (choose f (Some (Ceiling (number_at 4 p 0))) None))))))
    go true h b i c j d k e l f m = get (eqb-true tag 1 h)
    go false h true i c j d k e l f m = put (eqb-true tag 2 i)
    go false h false i true j d k e l f m = delete (eqb-true tag 3 j)
    go false h false i false j true k e l f m =
        let r = and_right (eqb tag 4) asked k in
        scan (eqb-true tag 4 (and_left (eqb tag 4) asked k)) (
          leb-true 1 most (and_left (leb 1 most) (leb most most_pairs) r),
          leb-true most most_pairs (and_right (leb 1 most) (leb most most_pairs) r),
        )
    go false h false i false j false k true l f m =
        panel (eqb-true tag 5 (and_left (eqb tag 5) named l)) (ltb-true (get_or p 0 0) panels (and_right (eqb tag 5) named l))
    go false h false i false j false k false l true m = ceiling (eqb-true tag 7 m)
    go false h false i false j false k false l false m = nothing

-- A payload of bytes, of a length that its tag may have, says a valid command or none.
abbrev pub ValidOr : Option Command → Type 0
ValidOr None = Unit {0}
ValidOr (Some c) = Valid c

pub command_of_valid : (tag n : ℕ) (p : List ℕ) → Bytes p → length p ≡ n → allowed (length_of tag) n ≡ true → ValidOr (command_of tag p)
command_of_valid tag n p bytes size may =
    command_of_each ValidOr tag p tt (λ e. let l = payload-get tag n may e in small 0 (omega arith))
    (λ e. let l = payload-put tag n may e in (small 0 (omega arith), small 4 (omega arith)))
    (λ e. let l = payload-delete tag n may e in small 0 (omega arith))
    (λ e r. let l = payload-scan tag n may e in (small 0 (omega arith), small 4 (omega arith), r.0, r.1)) (λ e r. r)
    (λ e. let l = payload-ceiling tag n may e in small 0 (omega arith))
  where
    small : (i : ℕ) → i + 4 ≤ n → number_at 4 p i < bound32
    small i l = number_at_lt 4 p i bytes (omega arith)

-- THE COMMAND AT A PLACE is that of the payload that lies there, or an invalid one.
pub command_at_each : (P : Step → Type 0) (s : List ℕ) (at : ℕ) → P None →
    ((start end : ℕ) → field_at s at (get_or s at 0) ≡ Ok (from_to start end) → P (step_as end (command_of (get_or s at 0) (part s start (end - start))))) →
    P (command_at s at)
unfolding command_at
command_at_each P s at nothing found = go (field_at s at (get_or s at 0)) refl
  where
    go : (f : Result Span Fault) → field_at s at (get_or s at 0) ≡ f → P (field_step s (get_or s at 0) f)
    go (Ok p) e = found p.start p.end e
    go (Err fault) e = nothing

-- It ends further on, within the bytes.
onward_command_of :
    (s : List ℕ) (at end tag : ℕ) (p : List ℕ) → at < end → end ≤ length s → Onward s at (step_as end (command_of tag p))
onward_command_of s at end tag p h k =
    command_of_each (λ (o : Option Command). Onward s at (step_as end o)) tag p tt (λ e. (h, k, tt)) (λ e. (h, k, tt)) (λ e. (h, k, tt)) (λ e r. (h, k, r))
    (λ e r. (h, k, r)) (λ e. (h, k, tt))

pub command_at_onward : (s : List ℕ) (at : ℕ) → Onward s at (command_at s at)
command_at_onward s at =
    command_at_each (Onward s at) s at tt
    (λ start end e.
    let b = field_bounds s at (get_or s at 0) start end e in
    onward_command_of s at end (get_or s at 0) (part s start (end - start)) (omega (arith, b.last)) (omega (arith, b.last, b.within)))

-- It takes three bytes or more.
abbrev Long : ℕ → Step → Type 0
Long at (Some (c, next)) = at + 3 ≤ next
Long at None = Unit {0}

pub command_at_long : (s : List ℕ) (at : ℕ) → Long at (command_at s at)
command_at_long s at =
    command_at_each (Long at) s at tt
    (λ start end e. step end (command_of (get_or s at 0) (part s start (end - start))) (omega (arith, (field_bounds s at (get_or s at 0) start end e).last)))
  where
    step : (end : ℕ) (o : Option Command) → at + 3 ≤ end → Long at (step_as end o)
    step end None l = tt
    step end (Some c) l = l

-- Read from bytes, it is valid.
abbrev ValidStep : Step → Type 0
ValidStep (Some (c, next)) = Valid c
ValidStep None = Unit {0}

pub command_at_valid : (s : List ℕ) → Bytes s → (at : ℕ) → ValidStep (command_at s at)
command_at_valid s bytes at =
    command_at_each ValidStep s at tt
    (λ start end e.
    let tag = get_or s at 0 in
    let p = part s start (end - start) in
    step end (command_of tag p) (command_of_valid tag (length p) p (bytes-part start (end - start) bytes) refl (payload_may s at tag start end e)))
  where
    step : (end : ℕ) (o : Option Command) → ValidOr o → ValidStep (step_as end o)
    step end None v = tt
    step end (Some c) v = v

-- The command at a place, from what the field reader found there.
module _ (s : List ℕ) (at : ℕ) where
  pub command_at_past : length s ≤ at → None ≡ command_at s at
  unfolding command_at field_at
  command_at_past h = simp (lt-leb (at + 3) (length s) (omega arith))

  pub command_at-is : (f : Result Span Fault) → f ≡ field_at s at (get_or s at 0) → field_step s (get_or s at 0) f ≡ command_at s at
  unfolding command_at
  command_at-is f e = ap (field_step s (get_or s at 0)) e

-- A command asks for 3 + 8 × 32 bytes at most.
pub room_for_le : (c : Command) → InRange c → room_for c ≤ 259
room_for_le (Get k) w = omega arith
room_for_le (Put k v) w = omega arith
room_for_le (Delete k) w = omega arith
room_for_le (Scan low high most) w = omega (arith, w.1)
room_for_le (Panel panel) w = omega arith
room_for_le (Ceiling k) w = omega arith
