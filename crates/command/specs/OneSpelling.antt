-- A batch is spelled in one way: the bytes that were read as commands are these commands' own. Assumes nothing.
use Rattle.std.specs.Prelude.{◌≡◌, refl, true, List, ◌++◌, ℕ, ◌+◌, ◌-◌, ◌≤◌, length, get_or, Option, None, Some}
use Rattle.std.proofs.Common.{sym, ap, ap₂, ◌∙◌, arith}
use Rattle.laws.specs.Lay.{part, length_part, part-add, part-whole}
use Rattle.laws.specs.BigEndian.{Bytes, big_endian, number_at, bytes-part, big_endian-number_at}
use Rattle.laws.specs.Lists.{length-one, length-zero}
use Rattle.wire.specs.Tag.{length_of, allowed}
use Rattle.wire.specs.Field.{field, payload_at, is_payload, stands_at}
use Rattle.wire.specs.FieldLaws.{stands_is, part_field}
use Rattle.command.specs.declared.Command.{Command}
use Rattle.command.specs.Command.{command_tag, command_values, command_bytes, command_of, Step, step_as, command_at, Onward}
use Rattle.command.specs.CommandLaws.{payload-get, payload-put, payload-delete, payload-scan, payload-panel, payload-ceiling, command_of_each}
use Rattle.command.specs.CommandLaws.{field_bounds, payload_may, command_at_each, command_at_onward}
use Rattle.command.specs.Batch.{commands_from, commands_of}
use Rattle.command.specs.BatchLaws.{commands_from-all, commands_of-read}
use Rattle.command.specs.Spelled.{batch_bytes}

-- A tag and a payload are a command's own.
abbrev Own : ℕ → List ℕ → Option Command → Type 0
Own tag p None = Unit {0}
Own tag p (Some c) = (command_tag c ≡ tag) × (command_values c ≡ p)

command_of-own : (tag : ℕ) (p : List ℕ) → Bytes p → allowed (length_of tag) (length p) ≡ true → Own tag p (command_of tag p)
command_of-own tag p bytes may =
    command_of_each (Own tag p) tag p tt (λ e. (sym e, whole (payload-get tag (length p) may e)))
    (λ e.
    let l = payload-put tag (length p) may e in (
      sym e,
      ap₂ {B = List ℕ} ◌++◌ (read 4 0 (omega arith)) (read 4 4 (omega arith)) ∙ sym (part-add p 0 4 4) ∙ part-whole p 8 l,
    ))
    (λ e. (sym e, whole (payload-delete tag (length p) may e)))
    (λ e r.
    let l = payload-scan tag (length p) may e in (
      sym e,
      ap₂ {B = List ℕ} ◌++◌ (read 4 0 (omega arith))
          (ap₂ {B = List ℕ} ◌++◌ (read 4 4 (omega arith)) (read 2 8 (omega arith)) ∙ sym (part-add p 4 4 2)) ∙
          sym (part-add p 0 4 6) ∙
          part-whole p 10 l,
    ))
    (λ e r. (sym e, length-one p 0 (payload-panel tag (length p) may e))) (λ e. (sym e, whole (payload-ceiling tag (length p) may e)))
  where
    read : (w i : ℕ) → i + w ≤ length p → big_endian w (number_at w p i) ≡ part p i w
    read w i l = big_endian-number_at w p i bytes l

    whole : length p ≡ 4 → big_endian 4 (number_at 4 p 0) ≡ p
    whole l = read 4 0 (omega arith) ∙ part-whole p 4 l

-- The command at a place stands there in its own bytes.
abbrev Stood : List ℕ → ℕ → Step → Type 0
Stood s at (Some (c, next)) = part s at (next - at) ≡ command_bytes c
Stood s at None = Unit {0}

command_at-own : (s : List ℕ) → Bytes s → (at : ℕ) → Stood s at (command_at s at)
unfolding command_bytes stands_at payload_at
command_at-own s bytes at =
    command_at_each (Stood s at) s at tt
    (λ start end e.
    let tag = get_or s at 0 in
    let p = part s start (end - start) in
    let b = field_bounds s at tag start end e in
    let paid : payload_at s at tag ≡ p = rw e refl in
    let stood : part s at (end - at) ≡ field tag p =
    ap (part s at) (omega (arith, b.last)) ∙ part_field s at tag bytes (stands_is s at tag (ap is_payload e)) ∙ ap (field tag) paid in
    step end (command_of tag p) p (command_of-own tag p (bytes-part start (end - start) bytes) (payload_may s at tag start end e)) stood)
  where
    step : (end : ℕ) (o : Option Command) (p : List ℕ) → Own (get_or s at 0) p o → part s at (end - at) ≡ field (get_or s at 0) p → Stood s at (step_as end o)
    step end None p own stood = tt
    step end (Some c) p own stood = stood ∙ sym (ap₂ field own.0 own.1)

module _ (s : List ℕ) (bytes : Bytes s) where
  -- from a place on, a command at a time
  spelled_from : (at : ℕ) (cs : List Command) → commands_from s at ≡ Some cs → at ≤ length s → batch_bytes cs ≡ part s at (length s - at)
  spelled_from =
      commands_from-all s (λ at cs. at ≤ length s → batch_bytes cs ≡ part s at (length s - at))
      (λ at l m. sym (length-zero (part s at (length s - at)) (length_part s at (length s - at) (omega arith) ∙ omega arith)))
      (λ at next c cs e rest m.
      let w : Onward s at (Some (c, next)) = rw e at (command_at_onward s at) in
      let own : part s at (next - at) ≡ command_bytes c = rw e at (command_at-own s bytes at) in
      ap₂ {B = List ℕ} ◌++◌ (sym own) (rest w.1) ∙
      ap (λ (i : ℕ). part s at (next - at) ++ part s i (length s - next)) {x = next} {y = at + (next - at)} (omega (arith, w.0)) ∙
      sym (part-add s at (next - at) (length s - next)) ∙
      ap (part s at) (omega (arith, w.0, w.1)))

  -- ONE SPELLING: what is read is spelled by these bytes, and by no others.
  pub batch_bytes-commands_of : (cs : List Command) → commands_of s ≡ Some cs → batch_bytes cs ≡ s
  batch_bytes-commands_of cs e =
      spelled_from 0 cs (commands_of-read s cs e).1 (omega arith) ∙ part-whole s (length s - 0) (omega arith)
