-- The pool of an accepted prepare, as bytes, stands between calls: the first book, and the empty map; its scores are in node order. Assumes
-- nothing.
use Rattle.std.specs.Prelude.{◌≡◌, refl, true, List, [], ℕ, ◌*◌, length}
use Rattle.std.proofs.Common.{sym, ap, ◌∙◌, subst, arith}
use Rattle.layout.specs.Layout.{block_bytes, pages_in_block}
use Rattle.account.specs.declared.Tariff.{Tariff}
use Rattle.account.specs.Range.{Ranged, in_range_ranged}
use Rattle.store_laws.specs.CellLaws.{length-cells}
use Rattle.store.specs.Prepare.{prepared_blocks}
use Rattle.model.specs.Prepare.{prepared, first_book}
use Rattle.model.specs.Bytes.{bytes_of}
use Rattle.model.specs.Pool.{blocks_of, pool_length}
use Rattle.model.specs.PoolLaws.{is-pool, blocks-length, whole_length}
use Rattle.model.specs.Call.{Prepared, prepare_of}
use Rattle.demands.specs.Prepare.{length-blocks, prepared_mounts, prepared-checkpoint, prepared_ready}
use Rattle.demands.specs.PoolBytes.{length-bytes_of, bytes-bytes_of}
use Rattle.demands.specs.PrepareFits.{prepared-fits, prepared_back}
use Rattle.demands.specs.Mount.{mounts_sealed}
use Rattle.demands.specs.Ends.{Prepares, refused, fresh, prepare_ends}
use Rattle.demands.specs.ScoreOrder.{InNodeOrder, closed_in_order}
use Rattle.demands.specs.OneCall.{OpenPool, book_in-is}

module _ (pool : List ℕ) (t : Tariff) (r : Ranged t) (p : pool_length pool ≡ true) where
  abbrev B : ℕ
  B = blocks_of pool

  abbrev left : List ℕ
  left = bytes_of (prepared B t)

  left-length : length left ≡ block_bytes * B
  unfolding prepared
  left-length =
      length-bytes_of (prepared B t) (prepared-fits t r B) ∙
      omega (arith, length-cells pages_in_block (prepared_blocks B t), length-blocks B t (is-pool pool p).least)

  same_blocks : blocks_of left ≡ B
  same_blocks = blocks-length left B left-length

  prepared_stands : OpenPool t left first_book []
  prepared_stands =
      let m = prepared_mounts B t (is-pool pool p).least r in
      record {
        bytes = bytes-bytes_of (prepared B t);
        size = whole_length left B left-length (is-pool pool p).least (is-pool pool p).most;
        cells = prepared B t;
        reads = prepared_back t r B;
        sealed = rw same_blocks (mounts_sealed m);
        ready = rw same_blocks (prepared_ready B t (is-pool pool p).least r);
      }

  prepared_ordered : InNodeOrder left
  prepared_ordered =
      closed_in_order left t first_book (book_in-is prepared_stands) (prepared B t) (prepared_back t r B) (λ n. 0)
      (rw same_blocks (prepared-checkpoint B t (is-pool pool p).least r)) (λ n l. refl)

-- AN ACCEPTED PREPARE, on a pool of any bytes, leaves what every fresh pool is.
module _ (pool : List ℕ) (t : Tariff) (done : (prepare_of pool t).number ≡ 0) where
  fresh-has : (P : List ℕ → Type 0) → (Ranged t → pool_length pool ≡ true → P (bytes_of (prepared (blocks_of pool) t))) → P (prepare_of pool t).pool
  fresh-has P h = go (prepare_of pool t) refl (prepare_ends pool t)
    where
      go : (q : Prepared) → prepare_of pool t ≡ q → Prepares pool t q → P (prepare_of pool t).pool
      go q f (refused n l) = absurd (omega (arith, done, ap (λ (z : Prepared). z.number) f))
      go q f (fresh r p) = subst P (sym (ap (λ (z : Prepared). z.pool) f)) (h (in_range_ranged t r) p)

  pub prepare_stands : OpenPool t (prepare_of pool t).pool first_book []
  prepare_stands = fresh-has (λ z. OpenPool t z first_book []) (prepared_stands pool t)

  pub prepare_ordered : InNodeOrder (prepare_of pool t).pool
  prepare_ordered = fresh-has InNodeOrder (prepared_ordered pool t)
