-- Reads a node at a time: what is left of them from here gives the whole. Assumes nothing.
use Rattle.std.specs.Prelude.{◌≡◌, refl, List, [], ◌∷◌, ℕ, ◌+◌, ◌-◌, ◌*◌, ◌≤◌, ◌<◌, length, get_or, take, drop}
use Rattle.std.proofs.Common.{sym, ap, ◌∙◌, subst, add-one, arith, drop_of_length-le, drop-cons, length-take-le}
use Rattle.std.proofs.Math.Nat.{sub-zero}
use Rattle.account.specs.declared.Tariff.{Tariff}
use Rattle.account.specs.ServeLaws.{most_charge}
use Rattle.flash_rows.specs.Worktable.{Worktable}
use Rattle.store.specs.Serve.{read}
use Rattle.flash_allocate.specs.World.{World, world, Good}
use Rattle.run_serve.specs.Step.{Charged}
use Rattle.run_serve.specs.Serve.{ServedAs}
use Rattle.run_path.specs.Reads.{read_all, read_charges, ReadAs}

-- After i reads of these nodes.
pub record Reading (pool_length table_length : ℕ) (t : Tariff) (ns : List ℕ) (i : ℕ) (start now : World) (paid : ℕ) : Type 0 where
  pub good : Good pool_length table_length now.state
  pub blocks : now.state.blocks ≡ start.state.blocks
  pub nodes : now.state.nodes ≡ start.state.nodes
  pub checkpoint : now.state.checkpoint ≡ start.state.checkpoint
  pub rest : read_all t (drop i ns) now ≡ read_all t ns start
  pub charges : paid + read_charges t (drop i ns) now ≡ read_charges t ns start
  pub most : paid ≤ most_charge * i

pub reading_start : (pool_length table_length : ℕ) (t : Tariff) (ns : List ℕ) (w : World) → Good pool_length table_length w.state →
    Reading pool_length table_length t ns 0 w w 0
reading_start p q t ns w g =
    record { good = g; blocks = refl; nodes = refl; checkpoint = refl; rest = refl; charges = omega arith; most = omega arith }

module _ {p q : ℕ} {t : Tariff} {ns : List ℕ} {i : ℕ} {start now : World} {paid : ℕ} (r : Reading p q t ns i start now paid) where
  -- one read more
  pub reading_next : (p' q' : ℕ) (pages : List (List ℕ)) (table : Worktable) (c : Charged) (n : ℕ) → i < length ns → n ≡ get_or ns i 0 →
      ServedAs p' q' pages table c t n read now → Reading p' q' t ns (i + 1) start (world pages table c.state) (paid + c.charge)
  reading_next p' q' pages table c n l e s =
      let next : drop i ns ≡ n ∷ drop (i + 1) ns = rw (add-one, e) (drop-cons ns i 0 l) in
      record {
        good = s.kept.good;
        blocks = s.kept.blocks ∙ r.blocks;
        nodes = s.kept.nodes ∙ r.nodes;
        checkpoint = s.kept.checkpoint ∙ r.checkpoint;
        rest = ap (read_all t (drop (i + 1) ns)) s.kept.is ∙ sym (ap (λ (xs : List ℕ). read_all t xs now) next) ∙ r.rest;
        charges =
            omega (
              arith,
              s.charge,
              ap (read_charges t (drop (i + 1) ns)) s.kept.is,
              ap (λ (xs : List ℕ). read_charges t xs now) next,
              r.charges,
            );
        most = omega (arith, s.most, r.most);
      }

  -- none left
  pub reading_end : (pages : List (List ℕ)) (table : Worktable) (c : Charged) → now ≡ world pages table c.state → paid ≡ c.charge → i ≡ length ns →
      (requests : ℕ) → i ≡ requests → ReadAs p q pages table c t requests ns start
  reading_end pages table c e f l requests m =
      let none : drop i ns ≡ [] = drop_of_length-le ns {i = i} (omega arith) in
      record {
        kept =
            record {
              is = sym e ∙ sym (ap (λ (xs : List ℕ). read_all t xs now) none) ∙ r.rest;
              good = ap_good e r.good;
              blocks = ap (λ (w : World). w.state.blocks) (sym e) ∙ r.blocks;
              nodes = ap (λ (w : World). w.state.nodes) (sym e) ∙ r.nodes;
              checkpoint = ap (λ (w : World). w.state.checkpoint) (sym e) ∙ r.checkpoint;
            };
        charge = omega (arith, ap (λ (xs : List ℕ). read_charges t xs now) none, r.charges, f);
        most = omega (arith, r.most, f, m);
      }
    where
      ap_good : now ≡ world pages table c.state → Good p q now.state → Good p q c.state
      ap_good e g = subst (λ (w : World). Good p q w.state) e g

-- Reads of the first n nodes of a list, where that part of it is lent.
pub reads-part : {p q : ℕ} {pages : List (List ℕ)} {table : Worktable} {c : Charged} (t : Tariff) (w : World) (n : ℕ) (ns : List ℕ) →
    n ≤ length ns →
    ReadAs p q pages table c t (length (take (n - 0) ns)) (take (n - 0) ns) w → ReadAs p q pages table c t n (take n ns) w
reads-part t w n ns l r = rw (sub-zero, length-take-le n ns l) at r

pub reads-front : {p q : ℕ} {pages : List (List ℕ)} {table : Worktable} {c : Charged} (t : Tariff) (w : World) (n : ℕ) (ns : List ℕ) →
    n ≤ length ns → ReadAs p q pages table c t (length (take n ns)) (take n ns) w → ReadAs p q pages table c t n (take n ns) w
reads-front t w n ns l r = rw (length-take-le n ns l) at r
