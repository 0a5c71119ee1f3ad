-- The two sums of a page (document 01, "Pages", field 1F), and the law that lets the remainders wait. Assumes nothing.
use Rattle.std.specs.Prelude.{◌≡◌, refl, List, [], ◌∷◌, ℕ, ◌+◌, ◌%◌, ◌<◌}
use Rattle.std.proofs.Common.{sym, ◌∙◌, add-zero, zero-add, add_assoc, arith}
use Rattle.wire.specs.declared.sum.Sums.{Sums}

-- For each byte, a becomes (a + byte) mod 65,535, then b becomes (b + a) mod 65,535.
abbrev pub sums_from : ℕ → ℕ → List ℕ → Sums
sums_from a b [] = record { a = a; b = b }
sums_from a b (x ∷ xs) = sums_from ((a + x) % 65535) ((b + (a + x) % 65535) % 65535) xs

-- a starts at 1, b at 0.
abbrev pub sums_of : List ℕ → Sums
sums_of s = sums_from 1 0 s

-- Sums of so many bytes fit 32 bits before any remainder is taken.
abbrev pub most_summed : ℕ
most_summed = 4096

-- Both sums stay below 65,535.
pub record Small (s : Sums) : Type 0 where
  pub a : s.a < 65535
  pub b : s.b < 65535

sums_from-small : (s : List ℕ) (a b : ℕ) → a < 65535 → b < 65535 → Small (sums_from a b s)
sums_from-small [] a b h k = record { a = h; b = k }
sums_from-small (x ∷ xs) a b h k = sums_from-small xs ((a + x) % 65535) ((b + (a + x) % 65535) % 65535) (omega arith) (omega arith)

pub sums_of-small : (s : List ℕ) → Small (sums_of s)
sums_of-small s = sums_from-small s 1 0 (omega arith) (omega arith)

-- The sum of a list, and the sum of its running sums, which start from a.
abbrev pub total : List ℕ → ℕ
total [] = 0
total (x ∷ xs) = x + total xs

abbrev pub running : ℕ → List ℕ → ℕ
running a [] = 0
running a (x ∷ xs) = (a + x) + running (a + x) xs

-- Document 01's a and b before any remainder.
abbrev pub plain_sums : List ℕ → Sums
plain_sums s = record { a = 1 + total s; b = running 1 s }

-- The remainders can wait to the end.
mod-later : (b c : ℕ) → (b + c) % 65535 ≡ (b % 65535 + c % 65535) % 65535
mod-later b c = omega arith

sums_from_plain : (s : List ℕ) (a b : ℕ) →
    sums_from (a % 65535) (b % 65535) s ≡ record { a = (a + total s) % 65535; b = (b + running a s) % 65535 }
sums_from_plain [] a b = rw (add-zero a, add-zero b) refl
sums_from_plain (x ∷ xs) a b =
    let p : (a % 65535 + x) % 65535 ≡ (a + x) % 65535 = omega arith in
    let q : (b % 65535 + (a + x) % 65535) % 65535 ≡ (b + (a + x)) % 65535 = sym (mod-later b (a + x)) in
    rw (p, q, sums_from_plain xs (a + x) (b + (a + x)), add_assoc a x (total xs), add_assoc b (a + x) (running (a + x) xs)) refl

pub sums_of_plain : (s : List ℕ) → sums_of s ≡ record { a = (plain_sums s).a % 65535; b = (plain_sums s).b % 65535 }
sums_of_plain s = sums_from_plain s 1 0 ∙ rw (zero-add (running 1 s)) refl
