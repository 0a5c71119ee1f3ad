-- The reader's loops and tests, a step at a time. Assumes nothing.
use Rattle.std.specs.Prelude.{◌≡◌, None, Some, Bool, true, false, ◌||◌, List, map, ℕ, suc, ◌+◌, ◌-◌, ◌*◌, ◌≤◌, ◌<◌, eqb, get_or, take, drop}
use Rattle.std.proofs.Common.{sym, ◌∙◌, add-zero}
use Rattle.std.proofs.Math.Path.{ap}
use native.Mathlib.Omega.{arith}
use Rattle.std.proofs.Math.ListN.{length, length-map}
use borrow.Author.Tests.{eq-eqb, ne_eqb, le-leb, lt-leb, lt-ltb, le-ltb}
use Rattle.laws.specs.BigEndian.{number, number_at}
use Rattle.wire.specs.Sum.{sums_of}
use Rattle.wire.specs.Field.{payload_at}
use Rattle.page.specs.Page.{log, whole, checkpoint, Page, page}
use Rattle.page.specs.Decode.{written, found, taken, all_blank, sealed_at, run, payloads, change_ok, entry_ok, entry_of, pairs_in, shape_of_number, node_ok}
use Rattle.page.specs.Decode.{node_of, tariff_of, score_ok, score_of, read_if, when, most_scores, decode_log, decode_node, decode_scores, decode_counted}
use Rattle.page.specs.Decode.{decode_checkpoint}
use Rattle.page.specs.Limits.{given}
use Rattle.page.specs.Runs.{run_goes, run_stops, length-payloads}
use Rattle.page.specs.SpelledNode.{length-pairs_from}
use Rattle.page.specs.Cases.{when_true, when_false}
use Rattle.page_read.specs.View.{view}
use Rattle.page_read.specs.declared.view.PageView.TheVariants.{Log, NodePage, Checkpoint, Bad}

-- ---- the sums

module _ (b : List ℕ) (end : ℕ) where
  abbrev sums : List ℕ
  sums = payload_at b end 0x1F

  pub no_sums_lem : (length sums ≡ 4 → ⊥) → false ≡ sealed_at b end
  unfolding sealed_at
  no_sums_lem h = rw (ne_eqb _ _ h)

  module _ (f : length sums ≡ 4) where
    pub other_b : (number_at 2 sums 0 ≡ (sums_of (take end b)).b → ⊥) → false ≡ sealed_at b end
    unfolding sealed_at
    other_b h = rw (eq-eqb _ _ f, ne_eqb _ _ h)

    module _ (g : number_at 2 sums 0 ≡ (sums_of (take end b)).b) where
      pub other_a : (number_at 2 sums 2 ≡ (sums_of (take end b)).a → ⊥) → false ≡ sealed_at b end
      unfolding sealed_at
      other_a h = rw (eq-eqb _ _ f, eq-eqb _ _ g, ne_eqb _ _ h)

      pub both_sums : number_at 2 sums 2 ≡ (sums_of (take end b)).a → all_blank (drop (end + 7) b) ≡ sealed_at b end
      unfolding sealed_at
      both_sums h = rw (eq-eqb _ _ f, eq-eqb _ _ g, eq-eqb _ _ h)

-- ---- runs: n fields passed, what is left from here

module _ (ok : List ℕ → Bool) (tag step most : ℕ) (s : List ℕ) (n at : ℕ) where
  pub run_more : n < most → ok (payload_at s at tag) ≡ true → n + 1 + run ok tag step (most - (n + 1)) s (at + step) ≡ n + run ok tag step (most - n) s at
  run_more h t =
      let e : most - n ≡ suc (most - (n + 1)) = omega arith in
      rw (e, run_goes ok tag step (most - (n + 1)) s at t) (omega arith)

  pub run_stop : n < most → ok (payload_at s at tag) ≡ false → n + run ok tag step (most - n) s at ≡ n
  run_stop h t =
      let e : most - n ≡ suc (most - (n + 1)) = omega arith in
      rw (e, run_stops ok tag step (most - (n + 1)) s at t) (add-zero n)

  pub run-full : most ≤ n → n + run ok tag step (most - n) s at ≡ n
  unfolding run
  run-full h =
      let e : most - n ≡ 0 = omega arith in
      rw e (add-zero n)

-- ---- entries

module _ (s : ℕ) (p : List ℕ) where
  pub entry_short : (length p ≡ 15 → ⊥) → false ≡ entry_ok s p
  unfolding entry_ok
  entry_short h = rw (ne_eqb _ _ h)

  module _ (f : length p ≡ 15) where
    pub entry_zero : number_at 4 p 2 < 1 → false ≡ entry_ok s p
    unfolding entry_ok
    entry_zero h = rw (eq-eqb _ _ f, lt-leb _ _ h)

    module _ (g : 1 ≤ number_at 4 p 2) where
      pub entry-late : s ≤ number_at 4 p 2 → false ≡ entry_ok s p
      unfolding entry_ok
      entry-late h = rw (eq-eqb _ _ f, le-leb _ _ g, le-ltb _ _ h)

      pub entry-change : number_at 4 p 2 < s → change_ok (get_or p 6 0) (number_at 4 p 7) (number_at 4 p 11) ≡ entry_ok s p
      unfolding entry_ok
      entry-change h = rw (eq-eqb _ _ f, le-leb _ _ g, lt-ltb _ _ h)

-- ---- the views of each kind

view_bad : (t : Bool) (p : Page) → t ≡ false → Bad ≡ view (when t p)
view_bad t p e = sym (ap view (when_false t p e))

view_page : (t : Bool) (p : Page) → t ≡ true → view (written p) ≡ view (when t p)
view_page t p e = sym (ap view (when_true t p e))

module _ (s n : ℕ) (b : List ℕ) where
  pub log_none : n < 1 → Bad ≡ view (decode_log s n b)
  unfolding decode_log
  log_none h = view_bad _ _ (rw (lt-leb _ _ h))

  pub log_unsealed : 1 ≤ n → sealed_at b (7 + 18 * n) ≡ false → Bad ≡ view (decode_log s n b)
  unfolding decode_log
  log_unsealed h t = view_bad _ _ (rw (le-leb _ _ h, t))

  pub log_sealed : 1 ≤ n → sealed_at b (7 + 18 * n) ≡ true → Log s n ≡ view (decode_log s n b)
  unfolding decode_log
  log_sealed h t =
      let k : length (map entry_of (payloads 0x12 18 n b 7)) ≡ n = length-map (payloads 0x12 18 n b 7) entry_of ∙ length-payloads 0x12 18 n b 7 in
      ap (Log s) (sym k) ∙ view_page _ (page s (log (map entry_of (payloads 0x12 18 n b 7)))) (rw (le-leb _ _ h, t))

module _ (s : ℕ) (p b : List ℕ) where
  pub node_none : found p ≡ false → Bad ≡ view (decode_node s p b)
  unfolding decode_node node_ok
  node_none f = view_bad _ _ (rw f)

  module _ (f : found p ≡ true) where
    pub node_other : (eqb (get_or p 2 0) 3 || eqb (get_or p 2 0) 4) ≡ false → Bad ≡ view (decode_node s p b)
    unfolding decode_node node_ok
    node_other k = view_bad _ _ (rw (f, k))

    module _ (k : (eqb (get_or p 2 0) 3 || eqb (get_or p 2 0) 4) ≡ true) where
      node_passes : node_ok p ≡ true
      unfolding node_ok
      node_passes = rw (f, k)

      pub node_unsealed : sealed_at b (7 + taken p) ≡ false → Bad ≡ view (decode_node s p b)
      unfolding decode_node
      node_unsealed t = view_bad _ _ (rw (node_passes, t))

      pub node_sealed : sealed_at b (7 + taken p) ≡ true →
          NodePage s (number_at 2 p 0) (shape_of_number (get_or p 2 0)) (pairs_in p) ≡ view (decode_node s p b)
      unfolding decode_node node_of
      node_sealed t =
          ap (NodePage s (number_at 2 p 0) (shape_of_number (get_or p 2 0))) (sym (length-pairs_from (pairs_in p) p 7)) ∙
          view_page _ (page s (whole (number_at 2 p 0) (node_of p))) (rw (node_passes, t))

module _ (s : ℕ) (t : List ℕ) (at n : ℕ) (c b : List ℕ) where
  pub scores-none : n < 1 → Bad ≡ view (decode_scores s t at n c b)
  unfolding decode_scores
  scores-none h = view_bad _ _ (rw (lt-leb _ _ h))

  module _ (h : 1 ≤ n) where
    pub scores_unfilled : found c ≡ false → (n ≡ most_scores (found t) → ⊥) → Bad ≡ view (decode_scores s t at n c b)
    unfolding decode_scores
    scores_unfilled f m = view_bad _ _ (rw (le-leb _ _ h, f, ne_eqb _ _ m))

    module _ (m : (found c || eqb n (most_scores (found t))) ≡ true) where
      pub scores_unsealed : sealed_at b (at + 9 * n + taken c) ≡ false → Bad ≡ view (decode_scores s t at n c b)
      unfolding decode_scores
      scores_unsealed e = view_bad _ _ (rw (le-leb _ _ h, m, e))

      pub scores-sealed : sealed_at b (at + 9 * n + taken c) ≡ true →
          Checkpoint s (given (read_if tariff_of t)) n (read_if number c) ≡ view (decode_scores s t at n c b)
      unfolding decode_scores
      scores-sealed e =
          let k : length (map score_of (payloads 0x14 9 n b at)) ≡ n = length-map (payloads 0x14 9 n b at) score_of ∙ length-payloads 0x14 9 n b at in
          ap (λ (i : ℕ). Checkpoint s (given (read_if tariff_of t)) i (read_if number c)) (sym k) ∙
          view_page _ (page s (checkpoint (read_if tariff_of t) (map score_of (payloads 0x14 9 n b at)) (read_if number c))) (rw (le-leb _ _ h, m, e))

pub nodes-none : (c : List ℕ) → found c ≡ false → None ≡ read_if number c
nodes-none c f = rw f

pub nodes_some : (c : List ℕ) → found c ≡ true → Some (number c) ≡ read_if number c
nodes_some c f = rw f

-- The rest of a checkpoint page, from where its scores begin.
pub checkpoint-is : (s : ℕ) (t b : List ℕ) (at most n : ℕ) → at ≡ 7 + taken t → most ≡ most_scores (found t) → n ≡ run score_ok 0x14 9 most b at →
    view (decode_counted s t at n b) ≡ view (decode_checkpoint s t b)
unfolding decode_checkpoint
checkpoint-is s t b at most n ea em en = rw en (rw em (rw ea))
