-- The cases of `field_at`, each from the facts that pick it. Assumes nothing.
use mathlib.Core.Path.{◌≡◌}
use mathlib.Core.Bool.{true, false}
use mathlib.Core.List.{List}
use Rattle.std.specs.Prelude.{Ok, Err}
use Prim.Native.Nat.{ℕ, ◌+◌, ◌≤◌, ◌<◌}
use lib.ListN.{length, get_or}
use borrow.Author.Tests.{le-leb, lt-leb, eq-eqb, ne_eqb}
use Rattle.wire.specs.Tag.{length_of, allowed}
use Rattle.wire.specs.Field.{from_to, field_at, length_at}
use Rattle.wire.specs.declared.field.Fault.TheVariants.{Missing, Foreign, Overlong}

module _ (s : List ℕ) (at tag : ℕ) where
  pub is_missing : length s < at + 3 → Err Missing ≡ field_at s at tag
  unfolding field_at
  is_missing h = simp (lt-leb _ _ h)

  module _ (h : at + 3 ≤ length s) where
    pub is-foreign_tag : (get_or s at 0 ≡ tag → ⊥) → Err Foreign ≡ field_at s at tag
    unfolding field_at
    is-foreign_tag q = simp (le-leb _ _ h, ne_eqb _ _ q)

    module _ (n : ℕ) (q : get_or s at 0 ≡ tag) (e : n ≡ length_at s at) where
      pub is-foreign-length : allowed (length_of tag) n ≡ false → Err Foreign ≡ field_at s at tag
      unfolding field_at
      is-foreign-length m = simp (le-leb _ _ h, eq-eqb _ _ q, ← e, m)

      pub is_overlong : allowed (length_of tag) n ≡ true → length s < at + 3 + n → Err Overlong ≡ field_at s at tag
      unfolding field_at
      is_overlong m l = simp (le-leb _ _ h, eq-eqb _ _ q, ← e, m, lt-leb _ _ l)

      pub is-payload : allowed (length_of tag) n ≡ true → at + 3 + n ≤ length s → Ok (from_to (at + 3) (at + 3 + n)) ≡ field_at s at tag
      unfolding field_at
      is-payload m l = simp (le-leb _ _ h, eq-eqb _ _ q, ← e, m, le-leb _ _ l)
