-- Valid commands are spelled in bytes. Assumes nothing.
use Rattle.std.specs.Prelude.{List, [], ◌∷◌, ◌<◌, length}
use Rattle.std.proofs.Common.{arith}
use Rattle.laws.specs.BigEndian.{Bytes, bytes-big_endian}
use Rattle.laws.specs.Every.{Every, none as every-none, both, every_append}
use Rattle.wire.specs.Field.{field}
use Rattle.command.specs.declared.Command.{Command}
use Rattle.command.specs.declared.Command.TheVariants.{Get, Put, Delete, Scan, Panel, Ceiling}
use Rattle.command.specs.Command.{command_tag, command_values, command_bytes, Valid}
use Rattle.command.specs.Spelled.{batch_bytes}

tag_byte : (c : Command) → command_tag c < 256
tag_byte (Get k) = omega arith
tag_byte (Put k v) = omega arith
tag_byte (Delete k) = omega arith
tag_byte (Scan low high most) = omega arith
tag_byte (Panel panel) = omega arith
tag_byte (Ceiling k) = omega arith

bytes_values : (c : Command) → Valid c → Bytes (command_values c)
bytes_values (Get k) v = bytes-big_endian 4 k
bytes_values (Put k w) v = every_append (bytes-big_endian 4 k) (bytes-big_endian 4 w)
bytes_values (Delete k) v = bytes-big_endian 4 k
bytes_values (Scan low high most) v = every_append (bytes-big_endian 4 low) (every_append (bytes-big_endian 4 high) (bytes-big_endian 2 most))
bytes_values (Panel panel) v = let l : panel < 256 = omega (arith, v) in both l every-none
bytes_values (Ceiling k) v = bytes-big_endian 4 k

pub bytes_command : (c : Command) → Valid c → Bytes (command_bytes c)
unfolding command_bytes field
bytes_command c v = every_append (both (tag_byte c) (bytes-big_endian 2 (length (command_values c)))) (bytes_values c v)

pub bytes_batch : (cs : List Command) → Every Valid cs → Bytes (batch_bytes cs)
bytes_batch [] every-none = every-none
bytes_batch (c ∷ cs) (both v vs) = every_append (bytes_command c v) (bytes_batch cs vs)
