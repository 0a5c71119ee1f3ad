-- The live map is the model's test of live pages, by the rows; and a block has as many live pages as the model counts. Assumes nothing.
use Rattle.std.specs.Prelude.{◌≡◌, refl, Bool, true, false, ◌&&◌, ◌||◌, ◌⊎◌, List, [], ◌∷◌, ℕ, zero, suc, ◌+◌, ◌*◌, ◌≤◌, ◌<◌, eqb, ltb, get_or, set, replicate, Option, None, Some, slice_get}
use Rattle.std.proofs.Common.{sym, ap₂, ◌∙◌, inl, inr, suc-le-suc, add-zero, add-one, arith, eq-eqb, ne_eqb, ltb-false, length-set, get_or-set_same, get_or-set_other}
use Rattle.std.proofs.Math.Path.{ap}
use Rattle.std.proofs.Math.Bool.{or-true}
use Rattle.std.proofs.Math.ListN.{length}
use Rattle.std.proofs.lemmas.List.{length-replicate, get_or-replicate}
use Rattle.laws.specs.Tests.{choose, test_same}
use Rattle.laws.specs.Order.{eq_or}
use Rattle.laws.specs.Counts.{bit, count}
use Rattle.laws.specs.Loops.{steps-keep, sum_from}
use Rattle.laws.specs.Options.{test}
use Rattle.page.specs.Page.{Page}
use Rattle.store.specs.Pool.{Blocks, block}
use Rattle.flash_rows.specs.Step.{holds, names}
use Rattle.flash_rows.specs.declared.Row.{Row}
use Rattle.flash_live.specs.Live.{mark_slot, mark_row, mark_nth, live_map, marked, live_bit, live_in}
use Rattle.flash_refines.specs.Store.Mirror.{row_at, RowsName}

-- One of the first k rows names the page.
abbrev pub any_names : ℕ → ℕ → List Row → Bool
any_names zero x rows = false
any_names (suc k) x rows = names x (row_at rows k) || any_names k x rows

pub any_intro : (k x : ℕ) (rows : List Row) (n : ℕ) → n < k → names x (row_at rows n) ≡ true → any_names k x rows ≡ true
any_intro zero x rows n l e = absurd (omega arith)
any_intro (suc k) x rows n l e = go (eq_or n k) (λ h. any_intro k x rows n h e)
  where
    go : (n ≡ k) ⊎ (n ≡ k → ⊥) → (n < k → any_names k x rows ≡ true) → (names x (row_at rows k) || any_names k x rows) ≡ true
    go (inl d) r = rw (← d, e) refl
    go (inr d) r = rw (r (omega arith)) (or-true (names x (row_at rows k)))

pub any_elim : (k x : ℕ) (rows : List Row) → any_names k x rows ≡ true → (n : ℕ) × (n < k) × (names x (row_at rows n) ≡ true)
any_elim zero x rows e = absurd (let z : ◌≡◌ {A = ℕ} 0 1 = cc in omega arith)
any_elim (suc k) x rows e = go (names x (row_at rows k)) refl e (λ h. any_elim k x rows h)
  where
    go : (t : Bool) → names x (row_at rows k) ≡ t → (t || any_names k x rows) ≡ true →
        (any_names k x rows ≡ true → (n : ℕ) × (n < k) × (names x (row_at rows n) ≡ true)) → (n : ℕ) × (n < suc k) × (names x (row_at rows n) ≡ true)
    go true d q r = (k, omega arith, d)
    go false d q r = let found = r q in (found.0, omega (arith, found.1), found.2)

-- A slot marked, and a row.
length-mark_slot : (k n y : ℕ) (m : List ℕ) → length (mark_slot k n y m) ≡ length m
unfolding mark_slot
length-mark_slot k n y m = go (ltb k n) (ltb y 2048)
  where
    go : (s t : Bool) → length (choose s (choose t (set m y 1) m) m) ≡ length m
    go false t = refl
    go true false = refl
    go true true = length-set m y 1

mark_slot_lem : (k n y : ℕ) (m : List ℕ) (x : ℕ) → length m ≡ 2048 → x < 2048 →
    marked (get_or (mark_slot k n y m) x 0) ≡ (holds k n y x || marked (get_or m x 0))
unfolding mark_slot holds
mark_slot_lem k n y m x e l = go (ltb k n) (ltb y 2048) refl (eq_or x y)
  where
    go : (s t : Bool) → ltb y 2048 ≡ t → (x ≡ y) ⊎ (x ≡ y → ⊥) →
        marked (get_or (choose s (choose t (set m y 1) m) m) x 0) ≡ ((s && eqb y x) || marked (get_or m x 0))
    go false t f d = refl
    go true false f (inl d) = absurd (omega (arith, ltb-false y 2048 f))
    go true false f (inr d) = rw (ne_eqb y x (λ q. d (sym q))) refl
    go true true f (inl d) = rw (d, get_or-set_same m y 1 0 (omega arith), eq-eqb y y refl) refl
    go true true f (inr d) = rw (get_or-set_other m y x 1 0 d, ne_eqb y x (λ q. d (sym q))) refl

turn_or : (a b c d : Bool) → (c || (b || (a || d))) ≡ ((a || (b || c)) || d)
turn_or true true true d = refl
turn_or true true false d = refl
turn_or true false true d = refl
turn_or true false false d = refl
turn_or false true true d = refl
turn_or false true false d = refl
turn_or false false true d = refl
turn_or false false false d = refl

module _ (r : Row) (m : List ℕ) where
  m₁ : List ℕ
  m₁ = mark_slot 0 r.pages r.first m

  m₂ : List ℕ
  m₂ = mark_slot 1 r.pages r.second (mark_slot 0 r.pages r.first m)

  length-mark_row : length (mark_row r m) ≡ length m
  unfolding mark_row m₁ m₂
  length-mark_row =
      length-mark_slot 2 r.pages r.third m₂ ∙ length-mark_slot 1 r.pages r.second m₁ ∙ length-mark_slot 0 r.pages r.first m

  mark_row_lem : (x : ℕ) → length m ≡ 2048 → x < 2048 → marked (get_or (mark_row r m) x 0) ≡ (names x r || marked (get_or m x 0))
  unfolding mark_row names m₁ m₂
  mark_row_lem x e l =
      let e₁ : length m₁ ≡ 2048 = length-mark_slot 0 r.pages r.first m ∙ e in
      let e₂ : length m₂ ≡ 2048 = length-mark_slot 1 r.pages r.second m₁ ∙ e₁ in
      mark_slot_lem 2 r.pages r.third m₂ x e₂ l ∙
      ap (λ (t : Bool). holds 2 r.pages r.third x || t)
      (mark_slot_lem 1 r.pages r.second m₁ x e₁ l ∙
      ap (λ (t : Bool). holds 1 r.pages r.second x || t) (mark_slot_lem 0 r.pages r.first m x e l)) ∙
      turn_or (holds 0 r.pages r.first x) (holds 1 r.pages r.second x) (holds 2 r.pages r.third x) (marked (get_or m x 0))

-- The map after k rows.
record MarkedBy (rows : List Row) (k : ℕ) (m : List ℕ) : Type 0 where
  pub long : length m ≡ 2048
  pub is : (x : ℕ) → x < 2048 → marked (get_or m x 0) ≡ any_names k x rows

marked_more : (rows : List Row) (k : ℕ) (m : List ℕ) → MarkedBy rows k m → MarkedBy rows (k + 1) (mark_nth rows k m)
unfolding mark_nth
marked_more rows k m h =
    record {
      long = length-mark_row (row_at rows k) m ∙ h.long;
      is = λ x l. mark_row_lem (row_at rows k) m x h.long l ∙ ap (λ (t : Bool). names x (row_at rows k) || t) (h.is x l) ∙ ap
          (λ (n : ℕ). any_names n x rows) (sym (add-one k));
    }

pub map-names : (used : ℕ) (rows : List Row) (x : ℕ) → x < 2048 → marked (get_or (live_map used rows) x 0) ≡ any_names used x rows
unfolding live_map
map-names used rows x l =
    (steps-keep (MarkedBy rows) (mark_nth rows) used (λ k m q h. marked_more rows k m h) (replicate 2048 0)
    (record { long = length-replicate {A = ℕ} 2048 0; is = λ y q. ap marked (get_or-replicate {A = ℕ} 2048 y 0 0 q) })).is x l

-- A page of the blocks is live exactly where one of the rows in use owns it.
pub record Owned (live : Page → Bool) (own : ℕ → Page → Bool) (rows_used : ℕ) (bs : Blocks) : Type 0 where
  pub owner : (i q : ℕ) (p : Page) → slice_get (block bs i) q ≡ Some p → live p ≡ true → (n : ℕ) × (n < rows_used) × (own n p ≡ true)
  pub owned : (n : ℕ) → n < rows_used → (p : Page) → own n p ≡ true → live p ≡ true

module _ {B rows_used : ℕ} {own : ℕ → Page → Bool} {rows : List Row} {bs : Blocks} {live : Page → Bool}
    (small : B ≤ 64) (named : RowsName B rows_used own rows bs) (o : Owned live own rows_used bs) where
  -- the map says of a place what the model says of the page there
  pub mark_live : (i q : ℕ) → i < B → q < 32 → marked (get_or (live_map rows_used rows) (32 * i + q) 0) ≡ test live (slice_get (block bs i) q)
  mark_live i q li lq = map-names rows_used rows (32 * i + q) (omega arith) ∙ test_same (any_names rows_used (32 * i + q) rows)
      (test live (slice_get (block bs i) q)) to (from (slice_get (block bs i) q) refl)
    where
      raise : (n : ℕ) → n < rows_used → (c : Option Page) → test (own n) c ≡ true → test live c ≡ true
      raise n l None e = e
      raise n l (Some p) e = o.owned n l p e

      to : any_names rows_used (32 * i + q) rows ≡ true → test live (slice_get (block bs i) q) ≡ true
      to e = let f = any_elim rows_used (32 * i + q) rows e in raise f.0 f.1 (slice_get (block bs i) q) (sym (named.each f.0 i q f.1 li lq) ∙ f.2)

      from : (c : Option Page) → slice_get (block bs i) q ≡ c → test live c ≡ true → any_names rows_used (32 * i + q) rows ≡ true
      from None d e = absurd (let z : ◌≡◌ {A = ℕ} 0 1 = cc in omega arith)
      from (Some p) d e =
          let f = o.owner i q p d e in
          any_intro rows_used (32 * i + q) rows f.0 f.1 (named.each f.0 i q f.1 li lq ∙ ap (test (own f.0)) d ∙ f.2)

-- A sum over the places of a block.
count-sum : (f : Page → Bool) (g : ℕ → ℕ) (n : ℕ) (b : List Page) (i : ℕ) → length b ≤ n →
    ((q : ℕ) → q < n → g (i + q) ≡ bit (test f (slice_get b q))) → sum_from g n i ≡ count f b
unfolding sum_from
count-sum f g zero [] i l h = refl
count-sum f g zero (p ∷ b) i l h = absurd (omega arith)
count-sum f g (suc n) [] i l h =
    ap₂ ◌+◌ (ap g (sym (add-zero i)) ∙ h 0 (omega arith)) (count-sum f g n [] (i + 1) (omega arith) (λ q k. ap g (omega arith) ∙ h (suc q) (suc-le-suc k)))
count-sum f g (suc n) (p ∷ b) i l h =
    ap₂ ◌+◌ (ap g (sym (add-zero i)) ∙ h 0 (omega arith)) (count-sum f g n b (i + 1) (omega arith) (λ q k. ap g (omega arith) ∙ h (suc q) (suc-le-suc k)))

pub live_in-is : (live : Page → Bool) (m : List ℕ) (b : List Page) (i : ℕ) → length b ≤ 32 →
    ((q : ℕ) → q < 32 → marked (get_or m (32 * i + q) 0) ≡ test live (slice_get b q)) → live_in m i ≡ count live b
unfolding live_in live_bit
live_in-is live m b i l h = count-sum live (live_bit m i) 32 b 0 l (λ q k. ap (λ (x : ℕ). bit (marked (get_or m (32 * i + x) 0))) (omega arith) ∙ ap bit (h q k))
