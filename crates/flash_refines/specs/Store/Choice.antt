-- The block chosen is the model's. The code keeps the best so far from the front, the model compares from the back; both keep the lowest
-- on a tie. Assumes nothing.
use Rattle.std.specs.Prelude.{◌≡◌, Bool, true, false, ℕ, suc, ◌+◌, ◌≤◌, ◌<◌, leb, ltb, length}
use Rattle.std.proofs.Math.Path.{refl, ap}
use Rattle.std.proofs.Common.{sym, ap₂, ◌∙◌, suc-le-suc, add-zero, arith, ltb-true, ltb-false, lt-ltb, le-ltb, leb-true, leb-false}
use mathlib.Core.List.{List, [], ◌∷◌}
use Rattle.laws.specs.Tests.{choose}
use Rattle.laws.specs.Counts.{count, empty}
use Rattle.laws.specs.Loops.{steps}
use Rattle.page.specs.Page.{Page}
use Rattle.store.specs.Pool.{Blocks, block}
use Rattle.store.specs.Allocate.{nothing, taken, better, compare, fewest}
use Rattle.store.specs.Allocate as Model
use Rattle.store_laws.specs.AllocateLaws.{Chosen, fewest_chosen}
use Rattle.flash_blocks.specs.Blank.{blank_block}
use Rattle.flash_live.specs.Live.{live_in}
use Rattle.flash_live.specs.Choose.{choice, weigh, best, victim}
use Rattle.flash_live.specs.declared.Choice.{Choice}

-- The best so far, against the model's choice among the blocks from b on.
abbrev merge : Choice → Model.Choice → ℕ → Choice
merge x nothing b = x
merge x (taken i few) b = choose (ltb few x.live) (choice (b + i) few) x

abbrev weighed : Bool → ℕ → ℕ → Choice → Choice
weighed blank few b x = choose blank x (choose (ltb few x.live) (choice b few) x)

merge_more : (blank : Bool) (few b : ℕ) (x : Choice) (rest : Model.Choice) → merge (weighed blank few b x) rest (b + 1) ≡ merge x (compare blank few rest) b
merge_more true few b x nothing = refl
merge_more true few b x (taken i m) = ap (λ (k : ℕ). choose (ltb m x.live) (choice k m) x) (omega arith)
merge_more false few b x nothing = ap (λ (k : ℕ). choose (ltb few x.live) (choice k few) x) (sym (add-zero b))
merge_more false few b x (taken i m) = go (leb few m) refl (ltb few x.live) refl
  where
    go : (s : Bool) → leb few m ≡ s → (t : Bool) → ltb few x.live ≡ t →
        merge (choose t (choice b few) x) (taken i m) (b + 1) ≡ merge x (better s few i m) b
    go true e true f = rw (le-ltb m few (leb-true few m e), f) (ap (λ (k : ℕ). choice k few) (sym (add-zero b)))
    go true e false f = rw (f, le-ltb m x.live (omega (arith, leb-true few m e, ltb-false few x.live f))) refl
    go false e true f =
        rw (lt-ltb m few (leb-false few m e), lt-ltb m x.live (omega (arith, leb-false few m e, ltb-true few x.live f)))
        (ap (λ (k : ℕ). choice k m) (omega arith))
    go false e false f = ap (λ (k : ℕ). choose (ltb m x.live) (choice k m) x) (omega arith)

module _ (live : Page → Bool) (ps : List (List ℕ)) (m : List ℕ) where
  best-merge : (cs : Blocks) (b : ℕ) (x : Choice) → ((i : ℕ) → i < length cs → blank_block ps (b + i) ≡ empty (block cs i)) →
      ((i : ℕ) → i < length cs → live_in m (b + i) ≡ count live (block cs i)) → steps (weigh ps m) (length cs) b x ≡ merge x (fewest live cs) b
  unfolding steps weigh
  best-merge [] b x h g = refl
  best-merge (c ∷ cs) b x h g =
      let e : blank_block ps b ≡ empty c = ap (blank_block ps) (sym (add-zero b)) ∙ h 0 (omega arith) in
      let d : live_in m b ≡ count live c = ap (live_in m) (sym (add-zero b)) ∙ g 0 (omega arith) in
      best-merge cs (b + 1) (weigh ps m b x) (λ i l. ap (blank_block ps) (omega arith) ∙ h (suc i) (suc-le-suc l))
      (λ i l. ap (live_in m) (omega arith) ∙ g (suc i) (suc-le-suc l)) ∙
      ap (λ (y : Choice). merge y (fewest live cs) (b + 1)) (ap₂ (λ (t : Bool) (n : ℕ). weighed t n b x) e d) ∙
      merge_more (empty c) (count live c) b x (fewest live cs)

  -- where the model takes a block, with at most 32 live pages, the code takes it too; where it takes none, block 0
  pub victim-is : (bs : Blocks) → ((i : ℕ) → i < length bs → blank_block ps i ≡ empty (block bs i)) →
      ((i : ℕ) → i < length bs → live_in m i ≡ count live (block bs i)) → count live (block bs (Model.victim live bs)) ≤ 32 →
      victim (length bs) ps m ≡ Model.victim live bs
  unfolding victim best
  victim-is bs h g few =
      ap (λ (x : Choice). x.block) (best-merge bs 0 (choice 0 33) (λ i l. ap (blank_block ps) (omega arith) ∙ h i l)
      (λ i l. ap (live_in m) (omega arith) ∙ g i l)) ∙
      go (fewest live bs) refl (fewest_chosen live bs)
    where
      go : (c : Model.Choice) → fewest live bs ≡ c → Chosen live bs c → (merge (choice 0 33) c 0).block ≡ Model.block_taken c
      go nothing e h' = refl
      go (taken i c) e h' =
          let small : c ≤ 32 = omega (arith, h'.2, ap (λ (x : Model.Choice). count live (block bs (Model.block_taken x))) e) in
          rw (lt-ltb c 33 (omega arith)) (omega arith)
