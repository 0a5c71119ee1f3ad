-- Options: a value that is there is one, and is not missing; a test of it. Assumes nothing.
use Rattle.std.specs.Prelude.{◌≡◌, Bool, false, Option, None, Some}
use Rattle.std.proofs.lemmas.Option.{same_Some, none-some}

pub some_same : {A : Type 0} {a b : A} → Some a ≡ Some b → a ≡ b
some_same {A} {a} {b} e = same_Some a b e

pub none_some : {A : Type 0} {a : A} → None ≡ Some a → ⊥
none_some {A} {a} e = none-some a e

-- Whether there is a value, and it passes.
abbrev pub test : {A : Type 0} → (A → Bool) → Option A → Bool
test f None = false
test f (Some a) = f a
