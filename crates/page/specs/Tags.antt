-- What the tag table says of each page field. Assumes nothing.
use Rattle.std.specs.Prelude.{◌≡◌, refl, true, ℕ}
use Rattle.std.proofs.Common.{eqb-true}
use Rattle.wire.specs.Tag.{length_of, find, rows, allowed, is_node_bytes}

-- The length that each field asks for.
pub allowed_10 : allowed (length_of 0x10) 4 ≡ true
unfolding length_of find rows
allowed_10 = refl

pub allowed_11 : (n : ℕ) → allowed (length_of 0x11) n ≡ is_node_bytes n
unfolding length_of find rows
allowed_11 n = refl

pub allowed_12 : allowed (length_of 0x12) 15 ≡ true
unfolding length_of find rows
allowed_12 = refl

pub allowed_13 : allowed (length_of 0x13) 32 ≡ true
unfolding length_of find rows
allowed_13 = refl

pub allowed_14 : allowed (length_of 0x14) 6 ≡ true
unfolding length_of find rows
allowed_14 = refl

pub allowed_15 : allowed (length_of 0x15) 2 ≡ true
unfolding length_of find rows
allowed_15 = refl

pub allowed_1F : allowed (length_of 0x1F) 4 ≡ true
unfolding length_of find rows
allowed_1F = refl

-- And no other length.
pub only_10 : (n : ℕ) → allowed (length_of 0x10) n ≡ true → n ≡ 4
unfolding length_of find rows
only_10 n t = eqb-true n 4 t

pub only_13 : (n : ℕ) → allowed (length_of 0x13) n ≡ true → n ≡ 32
unfolding length_of find rows
only_13 n t = eqb-true n 32 t

pub only_14 : (n : ℕ) → allowed (length_of 0x14) n ≡ true → n ≡ 6
unfolding length_of find rows
only_14 n t = eqb-true n 6 t

pub only_15 : (n : ℕ) → allowed (length_of 0x15) n ≡ true → n ≡ 2
unfolding length_of find rows
only_15 n t = eqb-true n 2 t
