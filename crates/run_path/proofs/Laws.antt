-- A way down with its last node in hand: a path, and a walk that reads. Assumes nothing.
use Rattle.std.proofs.Common.{◌≡◌, ℕ, ◌+◌, ◌-◌, ◌*◌, ◌≤◌, ◌<◌, List, length, get_or, set, ◌++◌, refl, sym, ap, ◌∙◌, subst, zero-add, arith, length-set, get_or-set_same}
use Rattle.std.proofs.lemmas.List.{take-set, set-get_or}
use Rattle.layout.specs.Layout.{node_limit, most_blocks}
use Rattle.pairs.specs.Pairs.{Pair}
use Rattle.node.specs.declared.Shape.TheVariants.{Leaf, Branch}
use Rattle.node.specs.declared.NodeValue.{NodeValue}
use Rattle.node.specs.Node.{node}
use Rattle.node.specs.Search.{child_place, pointer_at}
use Rattle.node.specs.Value.{Becomes}
use Rattle.tree.specs.Table.{Table, path}
use Rattle.store.specs.Serve.{read}
use Rattle.account.specs.declared.Tariff.{Tariff}
use Rattle.account.specs.ServeLaws.{most_charge}
use Rattle.flash_rows.specs.Worktable.{Worktable}
use Rattle.flash_allocate.specs.World.{World, world, Good}
use Rattle.run_serve.specs.Serve.{ServedAs}
use Rattle.run_serve.specs.Step.{Charged, both}
use Rattle.run_path.specs.Path.{PathTo, table_in}
use Rattle.run_path.specs.Descend.{DescendedAs}
use Rattle.run_path.specs.Descending.{Descending, descending_start, descending_next, descended_leaf, descended_out}
use Rattle.run_path.specs.Steps.{Down, down_start, down_more, down_leaf, down_last}

-- So many nodes of a path are laid, and the last of them is in hand.
pub record Come (table : Table) (steps k : ℕ) (ids : List ℕ) (n : ℕ) (v : NodeValue) : Type 0 where
  pub some : 1 ≤ n
  pub down : Down table steps k ids (get_or ids (n - 1) 0) (n - 1)
  pub leaf : Becomes v (table (get_or ids (n - 1) 0))

-- A node laid at the place that the path has come to.
down_laid : {table : Table} {steps k : ℕ} {ids : List ℕ} {id n : ℕ} → Down table steps k ids id n → Down table steps k (set ids n id) id n
down_laid {table} {steps} {k} {ids} {id} {n} d =
    record {
      within = d.within;
      long = omega (arith, length-set ids n id, d.long);
      room = length-set ids n id ∙ d.room;
      on_path = ap (λ (xs : List ℕ). xs ++ path (steps - n) table k id) (take-set ids n id) ∙ d.on_path;
      leaf = d.leaf;
    }

-- The root.
pub come_root : (table : Table) (nodes k : ℕ) (ids : List ℕ) (v : NodeValue) → nodes ≤ node_limit most_blocks → length ids ≡ node_limit most_blocks →
    Becomes v (table 0) → Come table (nodes - 1) k (set ids 0 0) 1 v
come_root table nodes k ids v l e b =
    let root : get_or (set ids 0 0) 0 0 ≡ 0 = get_or-set_same ids 0 0 0 (omega (arith, e)) in
    record {
      some = omega arith;
      down = rw root (down_start table nodes k (set ids 0 0) l (length-set ids 0 0 ∙ e));
      leaf = rw root b;
    }

module _ {table : Table} {steps k : ℕ} {ids : List ℕ} {n : ℕ} {v : NodeValue} (c : Come table steps k ids n v) where
  abbrev last : ℕ
  last = n - 1

  abbrev here : ℕ
  here = get_or ids last 0

  behind : last + 1 ≡ n
  behind = omega (arith, c.some)

  -- on from a branch
  pub come-on : n ≤ steps → (ks : List Pair) (to id : ℕ) → table here ≡ node Branch ks to → id ≡ pointer_at ks to (child_place k ks) →
      (u : NodeValue) → Becomes u (table id) → Come table steps k (set ids n id) (n + 1) u
  come-on l ks to id e f u b =
      let more = down_more c.down (omega (arith, c.some)) ks to e in
      let at : Down table steps k ids id (last + 1) =
      subst (λ (x : ℕ). Down table steps k ids x (last + 1)) (sym f)
      (subst (λ (xs : List ℕ). Down table steps k xs (pointer_at ks to (child_place k ks)) (last + 1)) (set-get_or ids last 0) more) in
      let next : Down table steps k ids id n = subst (λ (m : ℕ). Down table steps k ids id m) behind at in
      let same : n + 1 - 1 ≡ n = omega arith in
      let there : get_or (set ids n id) (n + 1 - 1) 0 ≡ id =
      ap (λ (m : ℕ). get_or (set ids n id) m 0) same ∙ get_or-set_same ids n id 0 (omega (arith, next.within, next.long)) in
      record {
        some = omega arith;
        down =
            subst (λ (x : ℕ). Down table steps k (set ids n id) x (n + 1 - 1)) (sym there)
            (subst (λ (m : ℕ). Down table steps k (set ids n id) id m) (sym same) (down_laid next));
        leaf = subst (λ (x : ℕ). Becomes u (table x)) (sym there) b;
      }

  -- the end of the path, as it is laid
  ended : PathTo table steps k (set ids last here) (record { length = last + 1; leaf = v }) → PathTo table steps k ids (record { length = n; leaf = v })
  ended p =
      subst (λ (m : ℕ). PathTo table steps k ids (record { length = m; leaf = v })) behind
      (subst (λ (xs : List ℕ). PathTo table steps k xs (record { length = last + 1; leaf = v })) (set-get_or ids last 0) p)

  -- a leaf, or no step left
  pub come-leaf : (ps : List Pair) (next : ℕ) → table here ≡ node Leaf ps next → PathTo table steps k ids (record { length = n; leaf = v })
  come-leaf ps next e = ended (down_leaf c.down v c.leaf ps next e)

  pub come_last : steps ≤ last → PathTo table steps k ids (record { length = n; leaf = v })
  come_last l = ended (down_last c.down v c.leaf l)

-- So many nodes of a walk are read, and the last of them is in hand, as it was before its read.
pub record Visited (pool_length table_length : ℕ) (t : Tariff) (k : ℕ) (start : World) (i id : ℕ) (v : NodeValue) (pages : List (List ℕ)) (table : Worktable)
    (r : Charged) : Type 0 where
  pub p : ℕ
  pub q : ℕ
  pub j : ℕ
  pub now : World
  pub paid : ℕ
  pub one : Charged
  pub before : Descending p q t k start j id now paid
  pub served : ServedAs pool_length table_length pages table one t id read now
  pub reads : j + 1 ≡ i
  pub charged : record { state = one.state; charge = paid + one.charge } ≡ r
  pub node : Becomes v (table_in now id)

-- The root.
pub visited_root : {P T P' T' : ℕ} {pages : List (List ℕ)} {table : Worktable} (t : Tariff) (k : ℕ) (w : World) (v : NodeValue) (r : Charged) →
    Good P T w.state → Becomes v (table_in w 0) → ServedAs P' T' pages table r t 0 read w → Visited P' T' t k w 1 0 v pages table r
visited_root {P} {T} t k w v r g b s =
    record {
      p = P;
      q = T;
      j = 0;
      now = w;
      paid = 0;
      one = r;
      before = descending_start P T t k w g;
      served = s;
      reads = omega arith;
      charged = ap (λ (n : ℕ). record { state = r.state; charge = n }) (zero-add r.charge);
      node = b;
    }

module _ {P T : ℕ} {t : Tariff} {k : ℕ} {start : World} {i id : ℕ} {v : NodeValue} {pages : List (List ℕ)} {table : Worktable} {r : Charged}
    (d : Visited P T t k start i id v pages table r) where
  -- what the reads so far keep, and how much they are charged at most
  pub visited_good : Good P T r.state
  visited_good = subst (λ (c : Charged). Good P T c.state) d.charged d.served.kept.good

  pub visited_nodes : r.state.nodes ≡ start.state.nodes
  visited_nodes = ap (λ (c : Charged). c.state.nodes) (sym d.charged) ∙ d.served.kept.nodes ∙ d.before.nodes

  pub visited_most : r.charge ≤ most_charge * i
  visited_most = omega (arith, ap (λ (c : Charged). c.charge) d.charged, d.served.most, d.before.most, d.reads)

  -- at a branch: the child comes next
  pub visited-on : (ks : List Pair) (last child : ℕ) → table_in d.now id ≡ node Branch ks last → child ≡ pointer_at ks last (child_place k ks) →
      i < start.state.nodes → Descending P T t k start i child (world pages table r.state) r.charge
  visited-on ks last child e f l =
      subst (λ (m : ℕ). Descending P T t k start m child (world pages table r.state) r.charge) d.reads
      (subst (λ (c : Charged). Descending P T t k start (d.j + 1) child (world pages table c.state) c.charge) d.charged
      (descending_next d.before d.served ks last child e f (omega (arith, d.reads))))

  -- the walk ends: at a leaf, or with no step left
  module _ (limit : start.state.nodes ≤ node_limit most_blocks) where
    arrived : DescendedAs P T pages table (record { charged = record { state = d.one.state; charge = d.paid + d.one.charge }; id = id; leaf = v }) t k start →
        DescendedAs P T pages table (record { charged = r; id = id; leaf = v }) t k start
    arrived = subst (λ (c : Charged). DescendedAs P T pages table (record { charged = c; id = id; leaf = v }) t k start) d.charged

    pub visited-leaf : (ps : List Pair) (next : ℕ) → table_in d.now id ≡ node Leaf ps next →
        DescendedAs P T pages table (record { charged = r; id = id; leaf = v }) t k start
    visited-leaf ps next e = arrived (descended_leaf d.before d.served v d.node limit ps next e)

    pub visited_last : start.state.nodes ≤ i → DescendedAs P T pages table (record { charged = r; id = id; leaf = v }) t k start
    visited_last l = arrived (descended_out d.before d.served v d.node limit (omega (arith, d.reads)))

-- One read more.
pub visited_more : {P T P' T' : ℕ} {t : Tariff} {k : ℕ} {start : World} {i id : ℕ} {pages pages' : List (List ℕ)} {table table' : Worktable} {r two r' : Charged} →
    Descending P T t k start i id (world pages table r.state) r.charge → (u : NodeValue) → Becomes u (table_in (world pages table r.state) id) →
    ServedAs P' T' pages' table' two t id read (world pages table r.state) → r' ≡ both r two → Visited P' T' t k start (i + 1) id u pages' table' r'
visited_more {P} {T} {i = i} {pages = pages} {table = table} {r = r} {two = two} d u b s e =
    record {
      p = P;
      q = T;
      j = i;
      now = world pages table r.state;
      paid = r.charge;
      one = two;
      before = d;
      served = s;
      reads = refl;
      charged = sym e;
      node = b;
    }
