-- What one row says of a version while pieces of its node are met: the pages on which it lies, and how many; above three only that they are
-- too many. Each law speaks of a version at or above every one that was met. Assumes nothing.
use Rattle.std.specs.Prelude.{◌≡◌, Bool, true, false, not, ◌&&◌, ◌||◌, ◌⊎◌, ℕ, ◌+◌, ◌-◌, ◌≤◌, ◌<◌, max}
use Rattle.std.proofs.Math.Path.{refl, ap}
use Rattle.std.proofs.Common.{sym, ◌∙◌, subst, inl, inr, arith}
use Rattle.std.proofs.Math.Bool.{or-false}
use borrow.Author.Tests.{eq-eqb, ne_eqb, lt-ltb, le-ltb, eqb-true}
use Rattle.std.proofs.Math.Dec.{eqb}
use Rattle.laws.specs.Tests.{choose, or_absorb}
use Rattle.laws.specs.Order.{eq_or, le_or, Tri, less, same, more, tri}
use Rattle.laws.specs.Counts.{bit}
use Rattle.account.specs.declared.Mode.{Mode}
use Rattle.flash_rows.specs.Step.{names, noted, fresh}
use Rattle.flash_rows.specs.declared.Row.{Row}
use Rattle.mount_rows.specs.Seen.{crowded, one_more, lacks, seen}
use Rattle.flash_refines.specs.Store.Notes.{names-noted, pages-noted, names_fresh, Keeps, keeps_noted}

-- A number of pages as a row can say it: above three it is 4.
abbrev pub cap : ℕ → ℕ
cap k = 4 - (4 - k)

-- The pages that a row has of a version, and whether it names one: none where its own version is another.
abbrev pub pages_at : ℕ → Row → ℕ
pages_at v r = choose (eqb r.version v) r.pages 0

abbrev pub names_at : ℕ → ℕ → Row → Bool
names_at v x r = eqb r.version v && names x r

module _ (r : Row) (v : ℕ) where
  pub pages_same : r.version ≡ v → pages_at v r ≡ r.pages
  pages_same e = rw (eq-eqb r.version v e) refl

  pub names_same : r.version ≡ v → (x : ℕ) → names_at v x r ≡ names x r
  names_same e x = rw (eq-eqb r.version v e) refl

  pages-other : (r.version ≡ v → ⊥) → pages_at v r ≡ 0
  pages-other d = rw (ne_eqb r.version v d) refl

  names-other : (r.version ≡ v → ⊥) → (x : ℕ) → names_at v x r ≡ false
  names-other d x = rw (ne_eqb r.version v d) refl

pub pages_at_few : (v : ℕ) (r : Row) → r.pages ≤ 4 → pages_at v r ≤ 4
pages_at_few v r l = go (eqb r.version v)
  where
    go : (b : Bool) → choose b r.pages 0 ≤ 4
    go true = l
    go false = omega arith

-- Whatever is met up to a version: the greatest version stays, and so does the score.
pub record Goes (u : ℕ) (r r' : Row) : Type 0 where
  pub version : r'.version ≡ max r.version u
  pub score : r'.score ≡ r.score
  pub few : r'.pages ≤ 4

-- The page is noted once, where the test says that it has a piece of the version.
pub record Adds (has : Bool) (q v : ℕ) (r r' : Row) : Type 0 where
  pub pages : pages_at v r' ≡ cap (pages_at v r + bit (has && not (names_at v q r)))
  pub names : pages_at v r' ≤ 3 → (x : ℕ) → names_at v x r' ≡ (names_at v x r || (has && eqb q x))

-- Nothing new.
pub adds_none : (q v : ℕ) (r : Row) → r.pages ≤ 4 → Adds false q v r r
adds_none q v r l = record { pages = omega (arith, pages_at_few v r l); names = λ h x. sym (or-false (names_at v x r)) }

-- ONE PIECE
module _ (u : ℕ) (m : Mode) (q : ℕ) (r : Row) (few : r.pages ≤ 4) where
  seen_greater : r.version < u → seen u m q r ≡ noted q (fresh u m r)
  unfolding seen
  seen_greater l = rw (lt-ltb r.version u l) refl

  seen_older : u < r.version → seen u m q r ≡ r
  unfolding seen lacks
  seen_older l = rw (le-ltb r.version u (omega arith), ne_eqb r.version u (λ e. omega arith)) refl

  seen_again : r.version ≡ u → names q r ≡ true → seen u m q r ≡ r
  unfolding seen lacks
  seen_again e n = rw (le-ltb r.version u (omega arith), eq-eqb r.version u e, n) refl

  seen_more : r.version ≡ u → names q r ≡ false → r.pages < 3 → seen u m q r ≡ noted q r
  unfolding seen lacks one_more
  seen_more e n l = rw (le-ltb r.version u (omega arith), eq-eqb r.version u e, n, lt-ltb r.pages 3 l) refl

  seen-crowded : r.version ≡ u → names q r ≡ false → 3 ≤ r.pages → seen u m q r ≡ crowded r
  unfolding seen lacks one_more
  seen-crowded e n l = rw (le-ltb r.version u (omega arith), eq-eqb r.version u e, n, le-ltb r.pages 3 l) refl

  abbrev begun : Row
  begun = fresh u m r

  begun-version : (noted q begun).version ≡ u
  unfolding fresh
  begun-version = (keeps_noted begun q).version

  begun-pages : (noted q begun).pages ≡ 1
  unfolding fresh
  begun-pages = pages-noted begun q (omega arith)

  begun-names : (x : ℕ) → names x (noted q begun) ≡ eqb q x
  unfolding fresh
  begun-names x = names-noted begun q x (omega arith) ∙ ap (λ (t : Bool). t || eqb q x) (names_fresh r u m x)

  pub seen_goes : Goes u r (seen u m q r)
  unfolding fresh crowded
  seen_goes = go (tri r.version u) (names q r) refl (le_or 3 r.pages)
    where
      goal : Row → Type 0
      goal r' = Goes u r r'

      go : Tri r.version u → (n : Bool) → names q r ≡ n → (3 ≤ r.pages) ⊎ (r.pages < 3) → goal (seen u m q r)
      go (less l) n e p =
          subst goal (sym (seen_greater l))
          (record { version = omega (arith, begun-version); score = (keeps_noted begun q).score; few = omega (arith, begun-pages) })
      go (more l) n e p = subst goal (sym (seen_older l)) (record { version = omega arith; score = refl; few = few })
      go (same l) true e p = subst goal (sym (seen_again l e)) (record { version = omega arith; score = refl; few = few })
      go (same l) false e (inl p) = subst goal (sym (seen-crowded l e p)) (record { version = omega arith; score = refl; few = omega arith })
      go (same l) false e (inr p) =
          subst goal (sym (seen_more l e p))
          (record { version = omega (arith, (keeps_noted r q).version); score = (keeps_noted r q).score; few = omega (arith, pages-noted r q p) })

  -- Of another version the row says nothing, before and after.
  pub adds_other : (v : ℕ) (r' : Row) → (r.version ≡ v → ⊥) → (r'.version ≡ v → ⊥) → Adds false q v r r'
  adds_other v r' d d' =
      record {
        pages = pages-other r' v d' ∙ omega (arith, pages-other r v d);
        names = λ h x. names-other r' v d' x ∙ sym (ap (λ (t : Bool). t || false) (names-other r v d x));
      }

  module _ (v : ℕ) (own : r.version ≤ v) (met : u ≤ v) where
    -- a greater version, which is the one asked for
    adds_begun : r.version < u → u ≡ v → Adds true q v r (noted q begun)
    adds_begun l e =
        let d : r.version ≡ v → ⊥ = λ z. omega arith in
        let e' : (noted q begun).version ≡ v = begun-version ∙ e in
        record {
          pages = pages_same (noted q begun) v e' ∙ omega (arith, begun-pages, pages-other r v d, ap (λ (t : Bool). bit (not t)) (names-other r v d q));
          names = λ h x. names_same (noted q begun) v e' x ∙ begun-names x ∙ sym (ap (λ (t : Bool). t || eqb q x) (names-other r v d x));
        }

    -- the row's own version, which is the one asked for
    module _ (e : r.version ≡ v) where
      adds_again : names q r ≡ true → Adds true q v r r
      adds_again n =
          record {
            pages = omega (arith, pages_same r v e, ap (λ (t : Bool). bit (not t)) (names_same r v e q ∙ n));
            names =
                λ h x. or_absorb (names_at v x r) (eqb q x) (λ t. names_same r v e x ∙ ap (λ (y : ℕ). names y r) (sym (eqb-true q x t)) ∙ n);
          }

      adds_more : names q r ≡ false → r.pages < 3 → Adds true q v r (noted q r)
      adds_more n l =
          let e' : (noted q r).version ≡ v = (keeps_noted r q).version ∙ e in
          record {
            pages =
                pages_same (noted q r) v e' ∙
                omega (arith, pages-noted r q l, pages_same r v e, ap (λ (t : Bool). bit (not t)) (names_same r v e q ∙ n));
            names =
                λ h x.
                names_same (noted q r) v e' x ∙ names-noted r q x l ∙ sym (ap (λ (t : Bool). t || eqb q x) (names_same r v e x));
          }

      adds_crowded : names q r ≡ false → 3 ≤ r.pages → Adds true q v r (crowded r)
      unfolding crowded
      adds_crowded n l =
          record {
            pages =
                pages_same (crowded r) v e ∙
                omega (arith, pages_same r v e, ap (λ (t : Bool). bit (not t)) (names_same r v e q ∙ n));
            names = λ h x. absurd (omega (arith, pages_same (crowded r) v e));
          }

    pub seen_adds : Adds (eqb u v) q v r (seen u m q r)
    seen_adds = go (tri r.version u) (eq_or u v) (names q r) refl (le_or 3 r.pages)
      where
        after : {r' : Row} {b : Bool} → seen u m q r ≡ r' → eqb u v ≡ b → Adds b q v r r' → Adds (eqb u v) q v r (seen u m q r)
        after e t a = subst (λ (b : Bool). Adds b q v r (seen u m q r)) (sym t) (subst (Adds _ q v r) (sym e) a)

        go : Tri r.version u → (u ≡ v) ⊎ (u ≡ v → ⊥) → (n : Bool) → names q r ≡ n → (3 ≤ r.pages) ⊎ (r.pages < 3) →
            Adds (eqb u v) q v r (seen u m q r)
        go (less l) (inl e) n t p = after (seen_greater l) (eq-eqb u v e) (adds_begun l e)
        go (less l) (inr d) n t p =
            after refl (ne_eqb u v d) (adds_other v (seen u m q r) (λ z. omega arith) (λ z. d (omega (arith, seen_goes.version))))
        go (more l) e n t p = after (seen_older l) (ne_eqb u v (λ z. omega arith)) (adds_none q v r few)
        go (same l) (inr d) n t p =
            after refl (ne_eqb u v d) (adds_other v (seen u m q r) (λ z. d (omega arith)) (λ z. d (omega (arith, seen_goes.version))))
        go (same l) (inl e) true t p = after (seen_again l t) (eq-eqb u v e) (adds_again (omega arith) t)
        go (same l) (inl e) false t (inl p) = after (seen-crowded l t p) (eq-eqb u v e) (adds_crowded (omega arith) t p)
        go (same l) (inl e) false t (inr p) = after (seen_more l t p) (eq-eqb u v e) (adds_more (omega arith) t p)

  -- WHAT HOLDS of the version and mode of a piece, and of the row's, holds of the row's afterwards.
  module _ (P : ℕ → Mode → Type 0) where
    keeps_right : (a b : Row) → Keeps a b → P a.version a.mode → P b.version b.mode
    keeps_right a b k h = rw (k.version, k.mode) h

    pub seen-right : P u m → P r.version r.mode → P (seen u m q r).version (seen u m q r).mode
    unfolding fresh crowded
    seen-right piece own = go (tri r.version u) (names q r) refl (le_or 3 r.pages)
      where
        goal : Row → Type 0
        goal r' = P r'.version r'.mode

        go : Tri r.version u → (n : Bool) → names q r ≡ n → (3 ≤ r.pages) ⊎ (r.pages < 3) → goal (seen u m q r)
        go (less l) n e p = subst goal (sym (seen_greater l)) (keeps_right begun (noted q begun) (keeps_noted begun q) piece)
        go (more l) n e p = subst goal (sym (seen_older l)) own
        go (same l) true e p = subst goal (sym (seen_again l e)) own
        go (same l) false e (inl p) = subst goal (sym (seen-crowded l e p)) own
        go (same l) false e (inr p) = subst goal (sym (seen_more l e p)) (keeps_right r (noted q r) (keeps_noted r q) own)
