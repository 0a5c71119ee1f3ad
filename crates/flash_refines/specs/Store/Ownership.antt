-- Whose a page is, by counts: a node owns no page of the pool where none carries it, and the same pages as long as its version stays; no page
-- of the pool has a number above those taken.
-- Assumes nothing.
use Rattle.std.specs.Prelude.{◌≡◌, refl, Bool, true, false, not, List, [], ◌∷◌, ℕ, zero, suc, ◌≤◌, Option, None, Some, slice_get}
use Rattle.std.proofs.Common.{sym, ap, ◌∙◌, arith, ltb-false}
use Rattle.laws.specs.Counts.{bit, count, tally, tally-at, empty}
use Rattle.laws.specs.Options.{test}
use Rattle.page.specs.Page.{Page, sequence}
use Rattle.store.specs.Item.{items_of, pieces_in}
use Rattle.store.specs.View.{View, greatest, pages}
use Rattle.store.specs.Pool.{Blocks, block, above}
use Rattle.store.specs.Store.{Store, view}
use Rattle.store.specs.Live.{carries}
use Rattle.store_laws.specs.BlockRules.{BlockRules}
use Rattle.store_laws.specs.LiveLaws.{carries-pages}

none_in : (f : Page → Bool) (b : List Page) → count f b ≡ 0 → (q : ℕ) → test f (slice_get b q) ≡ false
none_in f [] e q = refl
none_in f (p ∷ b) e zero = go (f p) refl
  where
    go : (t : Bool) → f p ≡ t → f p ≡ false
    go true d = absurd (omega (arith, ap bit d))
    go false d = d
none_in f (p ∷ b) e (suc q) = none_in f b (omega arith) q

-- A test that no page of the pool passes.
pub none_owned : (f : Page → Bool) (bs : Blocks) → tally f bs ≡ 0 → (i q : ℕ) → test f (slice_get (block bs i) q) ≡ false
none_owned f bs e i q = none_in f (block bs i) (omega (arith, tally-at f bs i)) q

pub page_within : (last : ℕ) (bs : Blocks) → tally (above last) bs ≡ 0 → (i q : ℕ) (p : Page) → slice_get (block bs i) q ≡ Some p → sequence p ≤ last
unfolding above
page_within last bs z i q p e =
    let not-above : above last p ≡ false = ap (test (above last)) (sym e) ∙ none_owned (above last) bs z i q in
    omega (arith, ltb-false last (sequence p) not-above)

-- The version stays: so do the pages.
pub carries_same : (a b : View) (n : ℕ) → greatest b n ≡ greatest a n → (p : Page) → carries b n p ≡ carries a n p
unfolding carries
carries_same a b n e p = ap (λ (v : ℕ). not (empty (pieces_in n v (items_of p)))) e

pub owned_same : (a b : View) (n : ℕ) → greatest b n ≡ greatest a n → (o : Option Page) → test (carries a n) o ≡ test (carries b n) o
owned_same a b n e None = refl
owned_same a b n e (Some p) = sym (carries_same a b n e p)

-- A node lies on as many pages as carry it, at most.
pub carried_few : {width B : ℕ} (st : Store) (rules : BlockRules width B st.blocks st.current st.last) (n : ℕ) →
    tally (carries (view st) n) st.blocks ≤ pages (view st) n
carried_few st rules n = carries-pages st.blocks st.buffer st.last rules.once rules.from_one rules.within n
