-- A batch that spells valid commands one behind the other is read as these commands. Assumes nothing.
use Rattle.std.specs.Prelude.{◌≡◌, refl, true, List, [], ◌∷◌, ◌++◌, ℕ, ◌+◌, ◌-◌, ◌^◌, ◌≤◌, ◌<◌, length, Some, Result, Ok, Err}
use Rattle.std.proofs.Common.{sym, ap, ap₂, ◌∙◌, true≢false, append_assoc, append-nil, arith, length-append}
use Rattle.laws.specs.Every.{Every, none as every-none, both}
use Rattle.laws.specs.Lay.{part, length_part}
use Rattle.laws.specs.BigEndian.{big_endian, number_at, length-big_endian, number_at-big_endian, number_at-front, number_at-behind}
use Rattle.layout.specs.Layout.{most_batch_bytes}
use Rattle.wire.specs.Tag.{length_of, allowed, find, rows}
use Rattle.wire.specs.Field.{field, field_at, payload_of, payload_at, is_payload, stands_at}
use Rattle.wire.specs.FieldLaws.{stands_is, stands_at-field, payload_at-field, length-field}
use Rattle.wire.specs.declared.field.Span.{Span}
use Rattle.wire.specs.declared.field.Fault.{Fault}
use Rattle.command.specs.declared.Command.{Command}
use Rattle.command.specs.declared.Command.TheVariants.{Get, Put, Delete, Scan, Panel, Ceiling}
use Rattle.command.specs.Command.{command_tag, command_values, command_bytes, command_of, step_as, field_step, command_at, Valid}
use Rattle.command.specs.CommandLaws.{field_bounds, command_of-get, command_of-put, command_of-delete, command_of-scan, command_of-panel}
use Rattle.command.specs.CommandLaws.{command_of-ceiling}
use Rattle.command.specs.Batch.{before, commands_from, commands_of}
use Rattle.command.specs.BatchLaws.{commands_from_end, commands_from-next, commands_of_short}

abbrev pub batch_bytes : List Command → List ℕ
batch_bytes [] = []
batch_bytes (c ∷ cs) = command_bytes c ++ batch_bytes cs

values_may : (c : Command) → allowed (length_of (command_tag c)) (length (command_values c)) ≡ true
unfolding length_of find rows
values_may (Get k) = refl
values_may (Put k v) = refl
values_may (Delete k) = refl
values_may (Scan low high most) = refl
values_may (Panel panel) = refl
values_may (Ceiling k) = refl

values_short : (c : Command) → length (command_values c) < 256 ^ 2
values_short (Get k) = omega arith
values_short (Put k v) = omega arith
values_short (Delete k) = omega arith
values_short (Scan low high most) = omega arith
values_short (Panel panel) = omega arith
values_short (Ceiling k) = omega arith

values_command : (c : Command) → Valid c → command_of (command_tag c) (command_values c) ≡ Some c
values_command (Get k) h = command_of-get 1 (big_endian 4 k) refl ∙ ap (λ (x : ℕ). Some (Get x)) (number_at-big_endian 4 k h)
values_command (Put k v) h =
    command_of-put 2 (big_endian 4 k ++ big_endian 4 v) refl ∙
    ap₂ (λ (x y : ℕ). Some (Put x y)) (number_at-front 4 k (big_endian 4 v) h.0)
    (number_at-behind 4 4 (big_endian 4 k) (big_endian 4 v) (length-big_endian 4 k) ∙ number_at-big_endian 4 v h.1)
values_command (Delete k) h = command_of-delete 3 (big_endian 4 k) refl ∙ ap (λ (x : ℕ). Some (Delete x)) (number_at-big_endian 4 k h)
values_command (Scan low high most) h =
    let p = big_endian 4 low ++ (big_endian 4 high ++ big_endian 2 most) in
    let second : number_at 4 p 4 ≡ high =
    number_at-behind 4 4 (big_endian 4 low) (big_endian 4 high ++ big_endian 2 most) (length-big_endian 4 low) ∙
    number_at-front 4 high (big_endian 2 most) h.1 in
    let third : number_at 2 p 8 ≡ most =
    ap (λ (l : List ℕ). number_at 2 l 8) (sym (append_assoc (big_endian 4 low) (big_endian 4 high) (big_endian 2 most))) ∙
    number_at-behind 2 8 (big_endian 4 low ++ big_endian 4 high) (big_endian 2 most)
    (length-append (big_endian 4 low) (big_endian 4 high) ∙ omega (arith, length-big_endian 4 low, length-big_endian 4 high)) ∙
    number_at-big_endian 2 most (omega (arith, h.3)) in
    command_of-scan p (omega (arith, h.2)) (omega (arith, h.3)) ∙
    ap₂ (λ (x y : ℕ). Some (Scan x y (number_at 2 p 8))) (number_at-front 4 low (big_endian 4 high ++ big_endian 2 most) h.0) second ∙
    ap (λ (z : ℕ). Some (Scan low high z)) third
values_command (Panel panel) h = command_of-panel (panel ∷ []) h
values_command (Ceiling k) h = command_of-ceiling 7 (big_endian 4 k) refl ∙ ap (λ (x : ℕ). Some (Ceiling x)) (number_at-big_endian 4 k h)

-- the command where a field stands
command_stands :
    (s : List ℕ) (at tag : ℕ) → stands_at s at tag ≡ true →
    command_at s at ≡ step_as (at + 3 + length (payload_at s at tag)) (command_of tag (payload_at s at tag))
unfolding command_at payload_at stands_at
command_stands s at tag t =
    let stand = stands_is s at tag t in
    ap (λ (n : ℕ). field_step s n (field_at s at n)) stand.tag_is ∙ go (field_at s at tag) refl
  where
    go :
        (f : Result Span Fault) → field_at s at tag ≡ f →
        field_step s tag f ≡ step_as (at + 3 + length (payload_of s f)) (command_of tag (payload_of s f))
    go (Ok p) e =
        let start = p.start in
        let end = p.end in
        let b = field_bounds s at tag start end e in
        let n : length (part s start (end - start)) ≡ end - start = length_part s start (end - start) (omega (arith, b.first, b.last, b.within)) in
        ap (λ (k : ℕ). step_as k (command_of tag (part s start (end - start)))) (omega (arith, b.first, b.last))
    go (Err fault) e = absurd (true≢false (sym t ∙ ap is_payload e))

command_laid :
    (front rest : List ℕ) (c : Command) → Valid c →
    command_at (front ++ (command_bytes c ++ rest)) (length front) ≡ Some (c, length front + length (command_bytes c))
unfolding command_bytes
command_laid front rest c h =
    let values = command_values c in
    let tag = command_tag c in
    let s = front ++ (field tag values ++ rest) in
    let stood = stands_at-field front tag values rest (values_short c) (values_may c) in
    let paid = payload_at-field front tag values rest (values_short c) (values_may c) in
    command_stands s (length front) tag stood ∙
    ap (λ (p : List ℕ). step_as (length front + 3 + length p) (command_of tag p)) paid ∙
    ap (step_as (length front + 3 + length values)) (values_command c h) ∙
    ap (λ (next : ℕ). Some (c, next)) (omega (arith, length-field tag values))

read_on :
    (front : List ℕ) (cs : List Command) → Every Valid cs → commands_from (front ++ batch_bytes cs) (length front) ≡ Some cs
unfolding command_bytes
read_on front [] every-none =
    commands_from_end (front ++ []) (length front) (omega (arith, ap length (append-nil front)))
read_on front (c ∷ cs) (both h hs) =
    let s = front ++ (command_bytes c ++ batch_bytes cs) in
    let next = length front + length (command_bytes c) in
    let inside : length front < length s =
    omega (
      arith,
      length-append front (command_bytes c ++ batch_bytes cs),
      length-append (command_bytes c) (batch_bytes cs),
      length-field (command_tag c) (command_values c),
    ) in
    let rest = read_on (front ++ command_bytes c) cs hs in
    commands_from-next s (length front) inside c next (command_laid front (batch_bytes cs) c h) ∙
    ap (before c)
    (ap₂ commands_from (sym (append_assoc front (command_bytes c) (batch_bytes cs))) (sym (length-append front (command_bytes c))) ∙ rest)

-- What is spelled is read, exactly.
pub commands_of-batch_bytes : (cs : List Command) → Every Valid cs → length (batch_bytes cs) ≤ most_batch_bytes → commands_of (batch_bytes cs) ≡ Some cs
commands_of-batch_bytes cs h l = commands_of_short (batch_bytes cs) l ∙ read_on [] cs h
