-- A node of 25 keys cut in two: the halves are trees that stand wherever the table has them, between them they hold the same
-- pairs and ids, and the middle key parts them. Leaf and branch alike, below the root and at it. Assumes nothing.
use Rattle.std.specs.Prelude.{◌≡◌, refl, List, [], ◌∷◌, ◌++◌, ℕ, zero, suc, ◌+◌, ◌≤◌, ◌<◌, eqb, length, take, drop}
use Rattle.std.proofs.Common.{ap, ◌∙◌, arith, length-take, length-drop, take-append-drop}
use Rattle.laws.specs.Counts.{bit}
use Rattle.layout.specs.Layout.{most_keys, kept_keys}
use Rattle.pairs.specs.Pairs.{Pair, Within}
use Rattle.pairs.proofs.Bounds.{within_weaken}
use Rattle.node.specs.Node.{Node, pairs_of}
use Rattle.node.specs.Halves.{lower_half, middle_key, upper_half}
use Rattle.node.specs.Search.{key_at}
use Rattle.tree.specs.Table.{Table}
use Rattle.tree.specs.Tree.{keys_of, Tree, root_of, first_leaf, pairs_in, reached, Holds, Stands}
use Rattle.tree_laws.specs.Children.{child_at, length-keys_of, pointer_at-keys_of, keys_of-take, keys_of-drop, first_of_cut, each_cut, join_of_cut, sum_of_cut}

-- Pairs cut at a place: its key bounds both parts.
pub record Cut (low high : ℕ) (ps : List Pair) (j : ℕ) : Type 0 where
  pub lower : Within low (key_at ps j) (take j ps)
  pub upper : Within (key_at ps j) high (drop j ps)
  pub beyond : Within (suc (key_at ps j)) high (drop (suc j) ps)
  pub far : low + j ≤ key_at ps j
  pub near : key_at ps j < high

pub within_cut : (low high : ℕ) (ps : List Pair) (j : ℕ) → j < length ps → Within low high ps → Cut low high ps j
unfolding Within
within_cut low high [] j l w = absurd (omega arith)
within_cut low high (p ∷ ps) zero l w =
    record { lower = tt; upper = (omega arith, w.1, w.2); beyond = w.2; far = omega arith; near = w.1 }
within_cut low high (p ∷ ps) (suc j) l w =
    let c = within_cut (suc p.0) high ps j (omega arith) w.2 in
    record {
      lower = (w.0, omega (arith, c.far), c.lower);
      upper = c.upper;
      beyond = c.beyond;
      far = omega (arith, c.far);
      near = c.near;
    }

-- The halves of a tree, the lower at the id `a` and the upper at the id `b`, with the key `middle` between them.
pub record Halved (d : ℕ) (table : Table) (t : Tree d) (low high next middle a b : ℕ) : Type 0 where
  pub lower : Tree d
  pub upper : Tree d
  pub above : low < middle
  pub under : middle < high
  pub stands_lower : Stands d table lower low middle (first_leaf d upper)
  pub stands_upper : Stands d table upper middle high next
  pub root_lower : root_of d lower ≡ a
  pub root_upper : root_of d upper ≡ b
  pub first : a ≡ root_of d t → first_leaf d lower ≡ first_leaf d t
  pub joined : pairs_in d lower ++ pairs_in d upper ≡ pairs_in d t
  pub ids : (i : ℕ) → (reached d lower i + reached d upper i) + bit (eqb i (root_of d t)) ≡ reached d t i + (bit (eqb i a) + bit (eqb i b))

pub halved : (d : ℕ) (table : Table) (t : Tree d) (low high next : ℕ) (top : Node) (a b : ℕ) →
    Holds d table t low high next (suc most_keys) top → most_keys < length (pairs_of top) → table a ≡ lower_half top b →
    table b ≡ upper_half top → Halved d table t low high next (middle_key top) a b
unfolding Holds root_of first_leaf pairs_in reached lower_half upper_half middle_key
halved zero table t low high next top a b h big ea eb =
    let ps = t.1 in
    let long : most_keys < length ps = omega (arith, ap (λ (n : Node). length (pairs_of n)) h.0) in
    let c = within_cut low high ps kept_keys (omega arith) h.1 in
    rw h.0
    record {
      lower = (a, take kept_keys ps);
      upper = (b, drop kept_keys ps);
      above = omega (arith, c.far);
      under = c.near;
      stands_lower = (ea ∙ ap (λ (n : Node). lower_half n b) h.0, c.lower, omega (arith, length-take kept_keys ps));
      stands_upper = (eb ∙ ap upper_half h.0, c.upper, omega (arith, length-drop kept_keys ps, h.2));
      root_lower = refl;
      root_upper = refl;
      first = λ e. e;
      joined = take-append-drop kept_keys ps;
      ids = λ i. omega arith;
    }
halved (suc d) table t low high next top a b h big ea eb =
    let xs = t.1 in
    let last = t.2 in
    let ks = keys_of (root_of d) xs in
    let long : most_keys < length xs = omega (arith, ap (λ (n : Node). length (pairs_of n)) h.0, length-keys_of (root_of d) xs) in
    let c = within_cut low high ks kept_keys (omega (arith, length-keys_of (root_of d) xs)) h.1 in
    let e = each_cut (root_of d) (first_leaf d) (Stands d table) xs last low high next kept_keys (omega arith) h.4 in
    rw h.0
    record {
      lower = (a, take kept_keys xs, child_at xs last kept_keys);
      upper = (b, drop (suc kept_keys) xs, last);
      above = omega (arith, c.far);
      under = c.near;
      stands_lower = (
        rw (keys_of-take (root_of d) xs kept_keys, ← pointer_at-keys_of (root_of d) xs last kept_keys) (ea ∙ ap (λ (n : Node). lower_half n b) h.0),
        rw (keys_of-take (root_of d) xs kept_keys) c.lower,
        omega (arith, length-take kept_keys xs),
        omega (arith, length-take kept_keys xs),
        e.0,
      );
      stands_upper = (
        rw (keys_of-drop (root_of d) xs (suc kept_keys)) (eb ∙ ap upper_half h.0),
        rw (keys_of-drop (root_of d) xs (suc kept_keys)) (within_weaken _ _ high high _ (omega arith) (omega arith) c.beyond),
        omega (arith, length-drop (suc kept_keys) xs, h.2),
        omega (arith, length-drop (suc kept_keys) xs),
        e.1,
      );
      root_lower = refl;
      root_upper = refl;
      first = λ _. first_of_cut (first_leaf d) xs last kept_keys (omega arith);
      joined = join_of_cut (pairs_in d) xs last kept_keys (omega arith);
      ids = λ i. omega (arith, sum_of_cut (λ c. reached d c i) xs last kept_keys (omega arith));
    }
