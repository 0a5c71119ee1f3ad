-- What a row names after a page was noted, after a fresh start, with another score, and after a claim. Assumes nothing.
use Rattle.std.specs.Prelude.{◌≡◌, Option, None, Some, Bool, true, false, ◌||◌, eqb}
use Rattle.std.proofs.Math.Path.{refl}
use Prim.Native.Nat.{ℕ, zero, suc, ◌+◌, ◌<◌}
use Rattle.std.proofs.Common.{arith}
use Rattle.laws.specs.Tests.{choose}
use Rattle.account.specs.declared.Mode.{Mode}
use Rattle.flash_rows.specs.Step.{holds, names, noted, fresh}
use Rattle.flash_rows.specs.declared.Row.{Row}

-- The last of one, two and three tests, put behind the others.
last-first : (a : Bool) → (a || (false || false)) ≡ (false || a)
last-first true = refl
last-first false = refl

last_second : (a b : Bool) → (a || (b || false)) ≡ ((a || (false || false)) || b)
last_second true b = refl
last_second false true = refl
last_second false false = refl

last_third : (a b c : Bool) → (a || (b || c)) ≡ ((a || (b || false)) || c)
last_third true b c = refl
last_third false true c = refl
last_third false false c = refl

module _ (version score : ℕ) (mode : Mode) (a b c q : ℕ) where
  abbrev row : ℕ → Row
  row k = record { version = version; score = score; mode = mode; pages = k; first = a; second = b; third = c }

  noted-names : (k x : ℕ) → k < 3 → names x (noted q (row k)) ≡ (names x (row k) || eqb q x)
  unfolding names noted holds
  noted-names zero x l = last-first (eqb q x)
  noted-names (suc zero) x l = last_second (eqb a x) (eqb q x)
  noted-names (suc (suc zero)) x l = last_third (eqb a x) (eqb b x) (eqb q x)
  noted-names (suc (suc (suc k))) x l = absurd (omega arith)

  noted-pages : (k : ℕ) → k < 3 → (noted q (row k)).pages ≡ k + 1
  unfolding noted
  noted-pages zero l = refl
  noted-pages (suc zero) l = refl
  noted-pages (suc (suc zero)) l = refl
  noted-pages (suc (suc (suc k))) l = absurd (omega arith)

module _ (r : Row) where
  -- one page more, where there is a slot
  pub names-noted : (q x : ℕ) → r.pages < 3 → names x (noted q r) ≡ (names x r || eqb q x)
  names-noted q x l = noted-names r.version r.score r.mode r.first r.second r.third q r.pages x l

  pub pages-noted : (q : ℕ) → r.pages < 3 → (noted q r).pages ≡ r.pages + 1
  pages-noted q l = noted-pages r.version r.score r.mode r.first r.second r.third q r.pages l

  -- no page
  pub names_fresh : (version : ℕ) (mode : Mode) (x : ℕ) → names x (fresh version mode r) ≡ false
  unfolding names fresh holds
  names_fresh version mode x = refl

-- The row after a claim.
abbrev pub after : Option Row → Row → Row
after None r = r
after (Some r') r = r'

-- Version, mode and score stay.
pub record Keeps (r r' : Row) : Type 0 where
  pub version : r'.version ≡ r.version
  pub mode : r'.mode ≡ r.mode
  pub score : r'.score ≡ r.score

pub keeps_same : {r : Row} → Keeps r r
keeps_same = record { version = refl; mode = refl; score = refl }

keeps_choose : {r x y : Row} (t : Bool) → Keeps r x → Keeps r y → Keeps r (choose t x y)
keeps_choose true a b = a
keeps_choose false a b = b

pub keeps_noted : (r : Row) (page : ℕ) → Keeps r (noted page r)
unfolding noted
keeps_noted r page =
    keeps_choose (eqb r.pages 0) (record { version = refl; mode = refl; score = refl })
    (keeps_choose (eqb r.pages 1) (record { version = refl; mode = refl; score = refl })
    (keeps_choose (eqb r.pages 2) (record { version = refl; mode = refl; score = refl }) keeps_same))
