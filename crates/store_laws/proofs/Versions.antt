-- The rules of versions hold again after every write, and so does the mode that a node is in. Assumes nothing.
use Rattle.std.specs.Prelude.{◌≡◌, Bool, true, false, ◌⊎◌, ℕ, zero, suc, ◌+◌, ◌≤◌, ◌<◌, Some}
use Rattle.std.proofs.Math.Path.{refl, ap, subst}
use Rattle.std.proofs.Common.{sym, ◌∙◌, inl, inr, arith, eq-eqb, ne_eqb}
use mathlib.Core.List.{List, [], ◌∷◌, ◌++◌}
use Rattle.std.proofs.lemmas.Bool.{lt-leb}
use Rattle.laws.specs.Order.{eq_or, le_or}
use Rattle.laws.specs.Counts.{bit, count, count-append, tally}
use Rattle.account.specs.declared.Mode.{Mode}
use Rattle.account.specs.declared.Mode.TheVariants.{Log, Disk}
use Rattle.node.specs.Node.{Node}
use Rattle.node.specs.Change.{Change}
use Rattle.page.specs.Page.{Entry, Content, Page, page, log, whole}
use Rattle.store.specs.Item.{entries}
use Rattle.store.specs.View.{greatest}
use Rattle.store.specs.Pool.{numbered, find}
use Rattle.store.specs.Store.{Store, view}
use Rattle.store.specs.Live.{carries}
use Rattle.store.specs.Write.{next, place, flush, enter, start, node_page}
use Rattle.store_laws.specs.LiveLaws.{live-carries}
use Rattle.store_laws.specs.BlockRules.{numbered-none}
use Rattle.store_laws.specs.Placing.{Invariant}
use Rattle.store_laws.proofs.Placing.{place-tally, place-find-live}
use Rattle.store_laws.specs.Versions.{version_is, positive, says, said, late_in, late, VersionRules, InLog, OnPage, InMode}

positive_le : (n : ℕ) → bit (positive n) ≤ n
positive_le zero = omega arith
positive_le (suc n) = omega arith

none-late : (k : ℕ) (es : List Entry) → ((v : ℕ) → k < v → count (version_is v) es ≡ 0) → count (late_in (suc k)) es ≡ 0
none-late k [] h = refl
none-late k (e ∷ es) h = go (le_or (suc k) e.version) (none-late k es (λ v l. omega (arith, h v l)))
  where
    go : (suc k ≤ e.version) ⊎ (e.version < suc k) → count (late_in (suc k)) es ≡ 0 → count (late_in (suc k)) (e ∷ es) ≡ 0
    go (inl l) r = absurd (omega (arith, h e.version l, ap bit (eq-eqb e.version e.version refl)))
    go (inr l) r = omega (arith, r, ap bit (lt-leb (suc k) e.version l))

module _ {B N : ℕ} {closing : Page → Bool} {st : Store} (v : Invariant B N closing st) where
  -- a page is placed that says no version which the buffer did not say
  place_versions : (c : Content) (rest : List Entry) → late (next st c) ≡ false →
      ((u : ℕ) → bit (says u (next st c)) + count (version_is u) rest ≤ count (version_is u) st.buffer) → VersionRules st →
      VersionRules (place closing N c rest st)
  unfolding said place
  place_versions c rest e h a =
      record {
        early = omega (arith, place-tally v late c rest, ap bit e, a.early);
        from_one = omega (arith, less 0, a.from_one);
        apart = λ u l. go u l (le_or u st.last);
        within = λ u l. omega (arith, less u, a.within u (omega arith));
      }
    where
      less : (u : ℕ) → said u (place closing N c rest st) ≤ said u st
      less u = omega (arith, place-tally v (says u) c rest, h u)

      go : (u : ℕ) → 0 < said u (place closing N c rest st) → (u ≤ st.last) ⊎ (st.last < u) →
          tally (numbered u) (place closing N c rest st).blocks ≡ 0
      go u l (inl b) =
          omega (
            arith,
            place-tally v (numbered u) c rest,
            a.apart u (omega (arith, less u)),
            ap bit (ne_eqb (suc st.last) u (λ q. omega arith)),
          )
      go u l (inr b) = absurd (omega (arith, less u, a.within u b))

  pub flush_versions : VersionRules st → VersionRules (flush closing N st)
  unfolding flush says late said
  flush_versions a =
      place_versions (log st.buffer) []
      (ap positive (none-late st.last st.buffer (λ u l. omega (arith, a.within u l))))
      (λ u. omega (arith, positive_le (count (version_is u) st.buffer))) a

  pub page_versions : (n : ℕ) (x : Node) → VersionRules st → VersionRules (node_page closing N n x st)
  unfolding node_page says late
  page_versions n x a = place_versions (whole n x) st.buffer refl (λ u. omega arith) a

  -- a page that is no log page
  pub silent_versions : (c : Content) → late (next st c) ≡ false → ((u : ℕ) → says u (next st c) ≡ false) → VersionRules st →
      VersionRules (place closing N c st.buffer st)
  silent_versions c e h a = place_versions c st.buffer e (λ u. omega (arith, ap bit (h u))) a

entries-other : (v n u : ℕ) (cs : List Change) → (u ≡ v → ⊥) → count (version_is v) (entries n u cs) ≡ 0
entries-other v n u [] h = refl
entries-other v n u (c ∷ cs) h = rw (ne_eqb u v h) (omega (arith, entries-other v n u cs h))

-- Entries join the buffer under a version from 1 that no page has for a number.
module _ (st : Store) (n own last' : ℕ) (cs : List Change) (later : st.last ≤ last') (known : own ≤ last') (some : 0 < own)
    (unused : tally (numbered own) st.blocks ≡ 0) where
  abbrev joined : Store
  joined = record { blocks = st.blocks; current = st.current; buffer = st.buffer ++ entries n own cs; last = last' }

  -- another version is said as often as before
  joined-other : (u : ℕ) → (own ≡ u → ⊥) → said u joined ≡ said u st
  unfolding said
  joined-other u q = omega (arith, count-append (version_is u) st.buffer (entries n own cs), entries-other u n own cs q)

  joined_versions : VersionRules st → VersionRules joined
  joined_versions a =
      record {
        early = a.early;
        from_one = joined-other 0 (λ q. omega arith) ∙ a.from_one;
        apart = λ u h. go u h (eq_or own u);
        within = λ u h. joined-other u (λ q. omega arith) ∙ a.within u (omega arith);
      }
    where
      go : (u : ℕ) → 0 < said u joined → (own ≡ u) ⊎ (own ≡ u → ⊥) → tally (numbered u) st.blocks ≡ 0
      go u h (inl q) = rw (← q) unused
      go u h (inr q) = a.apart u (omega (arith, joined-other u q))

module _ {B N : ℕ} {closing : Page → Bool} {st : Store} (v : Invariant B N closing st) (n : ℕ) where
  -- an entry under a log node's version
  pub enter_versions : (c : Change) → InLog st n → VersionRules st → VersionRules (enter n c st)
  unfolding enter
  enter_versions c l a =
      joined_versions st n (greatest (view st) n) st.last (c ∷ []) (omega arith) (v.fit.versions n) l.some l.none a

  -- a whole content under the next number
  pub start_versions : (cs : List Change) → VersionRules st → VersionRules (start n cs st)
  unfolding start
  start_versions cs a =
      joined_versions st n (suc st.last) (suc st.last) cs (omega arith) (omega arith) (omega arith)
      (numbered-none st.last st.blocks v.rules.within (suc st.last) (omega arith)) a

  -- a page is placed, and the node's version stays: so does its mode
  place_in_log : (c : Content) (rest : List Entry) → greatest (view (place closing N c rest st)) n ≡ greatest (view st) n → InLog st n →
      InLog (place closing N c rest st) n
  place_in_log c rest t l =
      record {
        none =
            rw t
            (omega (
              arith,
              place-tally v (numbered (greatest (view st) n)) c rest,
              l.none,
              ap bit (ne_eqb (suc st.last) (greatest (view st) n) (λ q. omega (arith, v.fit.versions n))),
            ));
        some = rw t l.some;
      }

  place-on_page : (c : Content) (rest : List Entry) → n < N → greatest (view (place closing N c rest st)) n ≡ greatest (view st) n → OnPage st n →
      OnPage (place closing N c rest st) n
  unfolding carries
  place-on_page c rest l t d =
      record {
        node = d.node;
        page = subst (λ u. find u (place closing N c rest st).blocks ≡ Some (page u (whole n d.node))) (sym t) here;
      }
    where
      own : Page
      own = page (greatest (view st) n) (whole n d.node)

      carried : carries (view st) n (page (greatest (view st) n) (whole n d.node)) ≡ true
      carried = rw (eq-eqb n n refl, eq-eqb (greatest (view st) n) (greatest (view st) n) refl) refl

      here : find (greatest (view st) n) (place closing N c rest st).blocks ≡ Some (page (greatest (view st) n) (whole n d.node))
      here =
          place-find-live v c rest (greatest (view st) n) own (v.fit.versions n) d.page (live-carries (view st) closing N own n l carried)

  pub place_mode : (m : Mode) (c : Content) (rest : List Entry) → n < N →
      greatest (view (place closing N c rest st)) n ≡ greatest (view st) n → InMode m st n → InMode m (place closing N c rest st) n
  place_mode Log c rest l t h = place_in_log c rest t h
  place_mode Disk c rest l t h = place-on_page c rest l t h

-- Version and blocks stay: so does the mode.
pub same_mode_lem : (m : Mode) (a b : Store) (n : ℕ) → greatest (view b) n ≡ greatest (view a) n → b.blocks ≡ a.blocks → InMode m a n → InMode m b n
same_mode_lem Log a b n t e h =
    record { none = rw (t, e) h.none; some = rw t h.some }
same_mode_lem Disk a b n t e h = record { node = h.node; page = rw (t, e) h.page }
