-- A way up along the ids that are left, the last of them next. Assumes nothing.
use Rattle.std.proofs.Common.{◌≡◌, ℕ, ◌+◌, ◌-◌, ◌≤◌, suc, List, [], ◌∷◌, ◌++◌, length, take, drop, take_all, get_or, Option, Some, true, false, sym, ap, ap₂, ◌∙◌, subst, arith, add_comm, append_assoc, append-nil, length-append, length-drop, drop-cons, drop_of_length-le}
use Rattle.std.proofs.Math.Seq.{get_or-append_seam}
use Rattle.std.proofs.lemmas.Grind.{get_or_after_one}
use Rattle.account.specs.declared.Tariff.{Tariff}
use Rattle.flash_rows.specs.Worktable.{Worktable}
use Rattle.flash_allocate.specs.World.{World, world}
use Rattle.run_serve.specs.Step.{Charged, uncharged, both}
use Rattle.run_split.specs.declared.Pending.{Pending}
use Rattle.run_split.specs.declared.Pending.TheVariants.{Pair}
use Rattle.run_split.specs.Growing.{Growing}
use Rattle.run_split.specs.Absorbing.{Taken, AbsorbedAs}
use Rattle.run_split.specs.Absorb as Turn
use Rattle.run_split.specs.SplitUpwards.{SplitUpwardsAs}
use Rattle.run_split.specs.SplittingUpwards.{SplittingUpwards, splitting-start, splitting-next, splitting_end}

pub record Upwards (pool_length table_length : ℕ) (t : Tariff) (key value : ℕ) (ids left : List ℕ) (start : World) (pages : List (List ℕ))
    (table : Worktable) (r : Charged) (pending : Option Pending) : Type 0 where
  pub splitting : SplittingUpwards pool_length table_length t key value ids (length left + 1) start (world pages table r.state) r.charge pending
  pub whole : left ++ drop (length left + 1) ids ≡ drop 1 ids

-- All nodes but the root are left.
pub upwards_start : {P T : ℕ} (t : Tariff) (key value : ℕ) (ids left : List ℕ) (w : World) (r : Charged) → Growing P T w.state → 1 ≤ length ids →
    left ≡ take (length ids - 1) (drop 1 ids) → r ≡ uncharged w.state → Upwards P T t key value ids left w w.pages w.table r (Some (Pair key value))
upwards_start {P} {T} t key value ids left w r g some l f =
    let e : left ≡ drop 1 ids = l ∙ take_all (length ids - 1) (drop 1 ids) (omega (arith, length-drop 1 ids)) in
    let all : length ids ≡ length left + 1 = omega (arith, ap length e, length-drop 1 ids) in
    let none : drop (length left + 1) ids ≡ [] = drop_of_length-le ids {i = length left + 1} (omega arith) in
    record {
      splitting =
          subst (λ (c : Charged). SplittingUpwards P T t key value ids (length left + 1) w (world w.pages w.table c.state) c.charge (Some (Pair key value))) (sym f)
          (subst (λ (i : ℕ). SplittingUpwards P T t key value ids i w w 0 (Some (Pair key value))) all (splitting-start t key value ids w g some));
      whole = ap (λ (xs : List ℕ). left ++ xs) none ∙ append-nil left ∙ e;
    }

module _ {P T : ℕ} {t : Tariff} {key value : ℕ} {ids left : List ℕ} {start : World} {pages : List (List ℕ)} {table : Worktable} {r : Charged}
    {pending : Option Pending} (u : Upwards P T t key value ids left start pages table r pending) where
  -- the last of them is next
  module _ (left' : List ℕ) (id : ℕ) (e : left ≡ left' ++ (id ∷ [])) where
    abbrev above : List ℕ
    above = drop (length left + 1) ids

    size : length left ≡ length left' + 1
    size = ap length e ∙ length-append left' (id ∷ [])

    seam : left' ++ (id ∷ above) ≡ drop 1 ids
    seam = sym (append_assoc left' (id ∷ []) above) ∙ ap (λ (xs : List ℕ). xs ++ above) (sym e) ∙ u.whole

    id_is : id ≡ get_or ids (length left' + 1) 0
    id_is =
        sym (get_or-append_seam left' id above 0) ∙
        ap (λ (xs : List ℕ). get_or xs (length left') 0) seam ∙
        get_or_after_one ids (length left') 0 ∙
        ap (λ (n : ℕ). get_or ids n 0) (add_comm 1 (length left'))

    behind : drop (length left' + 1) ids ≡ id ∷ above
    behind =
        let more : suc (length left' + 1) ≡ length left + 1 = omega (arith, size) in
        drop-cons ids (length left' + 1) 0 (omega (arith, size, u.splitting.inside)) ∙
        ap₂ (λ (i n : ℕ). i ∷ drop n ids) (sym id_is) more

  module _ {P' T' : ℕ} {pages' : List (List ℕ)} {table' : Worktable} {x : Taken} {r' : Charged} (sum : r' ≡ both r x.charged) where
    -- it takes what is pending
    pub upwards-next : (left' : List ℕ) (id : ℕ) → left ≡ left' ++ (id ∷ []) →
        AbsorbedAs P' T' pages' table' x r.state (Turn.absorb t key false id pending (world pages table r.state)) →
        Upwards P' T' t key value ids left' start pages' table' r' x.pending
    upwards-next left' id e k =
        let less : length left + 1 - 1 ≡ length left' + 1 = omega (arith, size left' id e) in
        let next =
        splitting-next u.splitting pages' table' x (omega (arith, size left' id e)) id
        (id_is left' id e ∙ ap (λ (n : ℕ). get_or ids n 0) (sym less)) k in
        record {
          splitting =
              subst (λ (c : Charged). SplittingUpwards P' T' t key value ids (length left' + 1) start (world pages' table' c.state) c.charge x.pending) (sym sum)
              (subst
              (λ (i : ℕ). SplittingUpwards P' T' t key value ids i start (world pages' table' x.charged.state) (r.charge + x.charged.charge) x.pending) less
              next);
          whole = ap (λ (xs : List ℕ). left' ++ xs) (behind left' id e) ∙ seam left' id e;
        }

    -- the root last
    pub upwards_end : length left ≡ 0 → AbsorbedAs P' T' pages' table' x r.state (Turn.absorb t key true 0 pending (world pages table r.state)) →
        SplitUpwardsAs P' T' pages' table' r' t key value ids start
    upwards_end e k =
        subst (λ (c : Charged). SplitUpwardsAs P' T' pages' table' c t key value ids start) (sym sum)
        (splitting_end u.splitting pages' table' x (omega (arith, e)) k)
