-- A way up a node at a time: the nodes behind a place of the way are done. Assumes nothing.
use Rattle.std.specs.Prelude.{◌≡◌, refl, Bool, length, get_or, Option, Some}
use Rattle.std.proofs.Math.Path.{sym, ap, ap₂}
use Rattle.std.proofs.Common.{◌∙◌, drop_of_length-le}
use Rattle.std.proofs.Math.Bool.{true, false}
use mathlib.Core.List.{List, ◌∷◌}
use Prim.Native.Nat.{ℕ, suc, ◌+◌, ◌-◌, ◌*◌, ◌≤◌, ◌<◌}
use native.Mathlib.Omega.{arith}
use Rattle.std.proofs.Math.ListN.{drop}
use Rattle.std.proofs.Math.Seq.{drop-cons}
use Rattle.account.specs.declared.Tariff.{Tariff}
use Rattle.account.specs.ServeLaws.{most_charge}
use Rattle.flash_rows.specs.Worktable.{Worktable}
use Rattle.flash_allocate.specs.World.{World, world}
use Rattle.run_split.specs.declared.Pending.{Pending}
use Rattle.run_split.specs.declared.Pending.TheVariants.{Pair}
use Rattle.run_split.specs.Growing.{Growing}
use Rattle.run_split.specs.Absorbing.{Absorbing, absorbing, Taken, AbsorbedAs, absorbed_whole}
use Rattle.run_split.specs.Absorb as Turn
use Rattle.run_split.specs.SplitUpwards.{after_it, upward, split_upwards_below, split_upwards, SplitUpwardsAs}

-- Before the node at place i - 1 takes what is pending.
pub record SplittingUpwards (pool_length table_length : ℕ) (t : Tariff) (key value : ℕ) (ids : List ℕ) (i : ℕ) (start now : World) (paid : ℕ)
    (pending : Option Pending) : Type 0 where
  pub growing : Growing pool_length table_length now.state
  pub blocks : now.state.blocks ≡ start.state.blocks
  pub some : 1 ≤ i
  pub inside : i ≤ length ids
  pub is : absorbing now paid pending ≡ split_upwards_below t key (drop i ids) (absorbing start 0 (Some (Pair key value)))
  pub most : paid + most_charge * (2 * i) ≤ most_charge * (2 * length ids)

pub splitting-start : {P T : ℕ} (t : Tariff) (key value : ℕ) (ids : List ℕ) (w : World) → Growing P T w.state → 1 ≤ length ids →
    SplittingUpwards P T t key value ids (length ids) w w 0 (Some (Pair key value))
unfolding split_upwards_below
splitting-start t key value ids w g some =
    let none = drop_of_length-le ids {i = length ids} (omega arith) in
    record {
      growing = g;
      blocks = refl;
      some = some;
      inside = omega arith;
      is = sym (ap (λ (xs : List ℕ). split_upwards_below t key xs (absorbing w 0 (Some (Pair key value)))) none);
      most = omega arith;
    }

module _ {P T : ℕ} {t : Tariff} {key value : ℕ} {ids : List ℕ} {i : ℕ} {start now : World} {paid : ℕ} {pending : Option Pending}
    (r : SplittingUpwards P T t key value ids i start now paid pending) {P' T' : ℕ} (pages : List (List ℕ)) (table : Worktable) (x : Taken) where
  -- a node's turn above those that are done
  turn_is : (root : Bool) (id : ℕ) → AbsorbedAs P' T' pages table x now.state (Turn.absorb t key root id pending now) →
      absorbing (world pages table x.charged.state) (paid + x.charged.charge) x.pending ≡
      upward t key root id (split_upwards_below t key (drop i ids) (absorbing start 0 (Some (Pair key value))))
  unfolding upward
  turn_is root id k = ap (after_it paid) (absorbed_whole k) ∙ ap (upward t key root id) r.is

  -- one node more
  pub splitting-next : 1 < i → (id : ℕ) → id ≡ get_or ids (i - 1) 0 → AbsorbedAs P' T' pages table x now.state (Turn.absorb t key false id pending now) →
      SplittingUpwards P' T' t key value ids (i - 1) start (world pages table x.charged.state) (paid + x.charged.charge) x.pending
  unfolding split_upwards_below
  splitting-next l id e k =
      let before : suc (i - 1) ≡ i = omega arith in
      let next : drop (i - 1) ids ≡ id ∷ drop i ids =
      drop-cons ids (i - 1) 0 (omega (arith, r.inside)) ∙ ap₂ (λ (z : ℕ) (j : ℕ). z ∷ drop j ids) (sym e) before in
      record {
        growing = k.charged.kept.growing;
        blocks = k.charged.kept.blocks ∙ r.blocks;
        some = omega arith;
        inside = omega (arith, r.inside);
        is = turn_is false id k ∙ sym (ap (λ (xs : List ℕ). split_upwards_below t key xs (absorbing start 0 (Some (Pair key value)))) next);
        most = omega (arith, r.most, k.charged.most);
      }

  -- the root last
  pub splitting_end : i ≤ 1 → AbsorbedAs P' T' pages table x now.state (Turn.absorb t key true 0 pending now) →
      SplitUpwardsAs P' T' pages table (record { state = x.charged.state; charge = paid + x.charged.charge }) t key value ids start
  unfolding split_upwards
  splitting_end l k =
      let one : i ≡ 1 = omega (arith, r.some) in
      let whole : absorbing (world pages table x.charged.state) (paid + x.charged.charge) x.pending ≡ split_upwards t key value ids start =
      turn_is true 0 k ∙ ap (λ (j : ℕ). upward t key true 0 (split_upwards_below t key (drop j ids) (absorbing start 0 (Some (Pair key value))))) one in
      record {
        kept =
            record {
              is = ap (λ (c : Absorbing). c.now) whole;
              growing = k.charged.kept.growing;
              blocks = k.charged.kept.blocks ∙ r.blocks;
            };
        charge = ap (λ (c : Absorbing). c.charge) whole;
        most = omega (arith, r.most, k.charged.most);
      }
