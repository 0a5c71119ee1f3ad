-- Any pool that passes the questions opens, whoever wrote it: the state then says a book that spells a map, and the store holds what it
-- says. Assumes nothing.
use Rattle.std.specs.Prelude.{◌≡◌, Bool, true, false, ◌&&◌, ◌⊎◌, List, [], ◌∷◌, ℕ, zero, suc, ◌≤◌, ◌<◌, eqb, leb, ltb, Option, None, Some}
use Rattle.std.proofs.Math.Path.{refl, sym, ap, subst}
use Rattle.std.proofs.Common.{inl, inr, arith, leb-true, ltb-true}
use Rattle.laws.specs.Tests.{choose, and_left, and_right}
use Rattle.laws.specs.Order.{le_suc_or}
use Rattle.layout.specs.Layout.{fewest_blocks, node_limit, most_log_pages}
use Rattle.account.specs.declared.Mode.{Mode}
use Rattle.account.specs.declared.Tariff.{Tariff}
use Rattle.account.specs.declared.Account.{Account}
use Rattle.account.specs.Tariff.{limit}
use Rattle.account.specs.Range.{in_range, Ranged, in_range_ranged, limit_some}
use Rattle.pairs.specs.Pairs.{Pair}
use Rattle.node.specs.Replay.{Draft, unlinked, made, broken}
use Rattle.page.specs.Page.{Score}
use Rattle.tree.specs.Table.{Table}
use Rattle.tree.specs.Spells.{Spells, map_of}
use Rattle.tree.specs.Sound.{sound}
use Rattle.tree_laws.specs.SoundLaws.{sound_spells, sound-limit}
use Rattle.tree_laws.specs.Standing.{Proper}
use Rattle.tree_laws.specs.GetLaws.{node_proper}
use Rattle.store.specs.View.{pages}
use Rattle.store.specs.Store.{Store, view, draft_of, node_in, node_of}
use Rattle.store.specs.Run.{Run}
use Rattle.store_laws.specs.Keeps.{Keeps}
use Rattle.store.specs.Checkpoint.{checkpoint_of, tariff_in, scores_in, count_in, score_in, complete}
use Rattle.store.specs.Reopen.{Cells, reopened, pages_pass}
use Rattle.store_laws.specs.Opening.{Opens, opened_keeps, complete-newest}
use Rattle.book.specs.Book.{Book}
use Rattle.book.specs.Bound.{Scored}
use Rattle.model.specs.State.{State, book_of}
use Rattle.model.specs.Mount.{refused, opened, state_of, three_pages, scores_below, TreeSound, numbers_left, mount_cells}
use Rattle.demands.specs.Says.{Sound, Says, book_of-count, book_of-table, book_of-account}
use Rattle.demands.specs.Run as Run

-- The questions of a pool but the eighth, which is about sequence numbers left.
pub record Sealed (blocks : ℕ) (c : Cells) (t : Tariff) : Type 0 where
  pub pass : pages_pass blocks c ≡ true
  pub complete : complete (checkpoint_of (reopened blocks c)) ≡ true
  pub tariff : tariff_in (checkpoint_of (reopened blocks c)) ≡ Some t
  pub sound : TreeSound blocks t (reopened blocks c) ≡ true

-- The questions of a pool that opens, one by one.
pub record Mounts (blocks : ℕ) (c : Cells) (t : Tariff) : Type 0 where
  pub pass : pages_pass blocks c ≡ true
  pub complete : complete (checkpoint_of (reopened blocks c)) ≡ true
  pub tariff : tariff_in (checkpoint_of (reopened blocks c)) ≡ Some t
  pub sound : TreeSound blocks t (reopened blocks c) ≡ true
  pub left : numbers_left (reopened blocks c) ≡ true

pub mounts_sealed : {blocks : ℕ} {c : Cells} {t : Tariff} → Mounts blocks c t → Sealed blocks c t
mounts_sealed m = record { pass = m.pass; complete = m.complete; tariff = m.tariff; sound = m.sound }

pub sealed_mounts : {blocks : ℕ} {c : Cells} {t : Tariff} → Sealed blocks c t → numbers_left (reopened blocks c) ≡ true → Mounts blocks c t
sealed_mounts q l = record { pass = q.pass; complete = q.complete; tariff = q.tariff; sound = q.sound; left = l }

-- They are the questions that mount asks: it opens exactly where they all pass.
pub mounts_opened : {blocks : ℕ} {c : Cells} {t : Tariff} → Mounts blocks c t → mount_cells blocks c ≡ opened t (state_of (reopened blocks c))
unfolding mount_cells
mounts_opened m = rw (m.pass, m.complete, m.tariff, m.sound, m.left)

pub record Opened (blocks : ℕ) (c : Cells) (t : Tariff) (s : State) : Type 0 where
  pub mounts : Mounts blocks c t
  pub is : s ≡ state_of (reopened blocks c)

refused-opened : {A : Type 0} (n : ℕ) (t : Tariff) (s : State) → refused n ≡ opened t s → A
refused-opened n t s e = let z : ◌≡◌ {A = ℕ} 0 1 = cc in absurd (omega arith)

opened-tariff : (t t' : Tariff) (s s' : State) → opened t s ≡ opened t' s' → t ≡ t'
opened-tariff t t' s s' e = cc

opened_state : (t t' : Tariff) (s s' : State) → opened t s ≡ opened t' s' → s ≡ s'
opened_state t t' s s' e = cc

pub opened_mounts : {blocks : ℕ} {c : Cells} {t : Tariff} {s : State} → mount_cells blocks c ≡ opened t s → Opened blocks c t s
unfolding mount_cells
opened_mounts {blocks} {c} {t} {s} e =
    pages (pages_pass blocks c) refl (complete (checkpoint_of st)) refl (tariff_in (checkpoint_of st)) refl
  where
    st : Store
    st = reopened blocks c

    tree : (t' : Tariff) → pages_pass blocks c ≡ true → complete (checkpoint_of st) ≡ true → tariff_in (checkpoint_of st) ≡ Some t' →
        (a : Bool) → TreeSound blocks t' st ≡ a → (b : Bool) → numbers_left st ≡ b → Opened blocks c t s
    tree t' p q r false a b l = refused-opened 7 t s (rw (p, q, r, a) at e)
    tree t' p q r true a false l = refused-opened 8 t s (rw (p, q, r, a, l) at e)
    tree t' p q r true a true l =
        let f : opened t' (state_of st) ≡ opened t s = rw (p, q, r, a, l) at e in
        let k : t' ≡ t = opened-tariff t' t (state_of st) s f in
        record {
          mounts =
              record {
                pass = p;
                complete = q;
                tariff = subst (λ (z : Tariff). tariff_in (checkpoint_of st) ≡ Some z) k r;
                sound = subst (λ (z : Tariff). TreeSound blocks z st ≡ true) k a;
                left = l;
              };
          is = sym (opened_state t' t (state_of st) s f);
        }

    pages : (a : Bool) → pages_pass blocks c ≡ a → (b : Bool) → complete (checkpoint_of st) ≡ b → (o : Option Tariff) →
        tariff_in (checkpoint_of st) ≡ o → Opened blocks c t s
    pages false p b q o r = refused-opened 5 t s (rw p at e)
    pages true p false q o r = refused-opened 6 t s (rw (p, q) at e)
    pages true p true q None r = refused-opened 6 t s (rw (p, q, r) at e)
    pages true p true q (Some t') r = tree t' p q r (TreeSound blocks t' st) refl (numbers_left st) refl

-- What such a state is worth: it says its own book, which spells a map; the tariff is in range and the scores are below the limit T.
pub record Ready (blocks : ℕ) (t : Tariff) (s : State) (b : Book) (ps : List Pair) : Type 0 where
  pub says : Says blocks s b
  pub holds : Run.Holds (node_limit blocks) b ps
  pub ranged : Ranged t
  pub scored : Scored t b

pub three_each : (n : ℕ) (st : Store) → three_pages n st ≡ true → (k : ℕ) → k < n → pages (view st) k ≤ most_log_pages
unfolding three_pages
three_each zero st e k l = absurd (omega arith)
three_each (suc n) st e k l =
    go (le_suc_or (suc k) n l) (three_each n st (and_right (leb (pages (view st) n) most_log_pages) (three_pages n st) e) k)
  where
    go : (suc k ≤ n) ⊎ (suc k ≡ suc n) → (k < n → pages (view st) k ≤ most_log_pages) → pages (view st) k ≤ most_log_pages
    go (inl h) r = r h
    go (inr h) r =
        let m : k ≡ n = omega arith in
        rw m (leb-true (pages (view st) n) most_log_pages (and_left (leb (pages (view st) n) most_log_pages) (three_pages n st) e))

score-below : (most n : ℕ) (xs : List Score) → 0 < most → scores_below most xs ≡ true → score_in xs n < most
unfolding scores_below score_in
score-below most n [] p e = p
score-below most n (x ∷ xs) p e = go (eqb n x.id) (score-below most n xs p (and_right (ltb x.score most) (scores_below most xs) e))
  where
    go : (b : Bool) → score_in xs n < most → choose b x.score (score_in xs n) < most
    go true r = ltb-true x.score most (and_left (ltb x.score most) (scores_below most xs) e)
    go false r = r

-- A content of a sound tree is made: no branch without a key stands for it.
proper_made : (d : Draft) → Proper (node_in d) → d ≡ made (node_in d)
proper_made (unlinked ps) p = absurd (omega (arith, p.keyed refl))
proper_made (made x) p = refl
proper_made broken p = absurd (omega (arith, p.keyed refl))

-- The store cannot tell two tables that agree below the count.
keeps_same : {blocks N : ℕ} {table table' : Table} {m m' : ℕ → Mode} {run : Run} → ((n : ℕ) → n < N → table n ≡ table' n) →
    ((n : ℕ) → n < N → m n ≡ m' n) → Keeps blocks N table m run → Keeps blocks N table' m' run
keeps_same {run = run} e f v =
    record {
      good = v.good;
      nodes = v.nodes;
      holds = λ n l. rw (← e n l, ← f n l) (v.holds n l);
      neat = λ n l. rw (← e n l) (v.neat n l);
    }

module _ {blocks : ℕ} {c : Cells} {t : Tariff} (four : fewest_blocks ≤ blocks) (m : Sealed blocks c t) where
  abbrev st : Store
  st = reopened blocks c

  abbrev s : State
  s = state_of st

  abbrev N : ℕ
  N = count_in (checkpoint_of st)

  count-is : (book_of s).count ≡ N
  unfolding book_of state_of
  count-is = refl

  sound-test : sound (node_limit blocks) (book_of s).count (book_of s).table ≡ true
  unfolding TreeSound state_of book_of
  sound-test = and_left (sound (node_limit blocks) N (book_of s).table) _ m.sound

  pub rest_tests : (three_pages N st && (in_range t && scores_below (limit t) (scores_in (checkpoint_of st)))) ≡ true
  unfolding TreeSound state_of
  rest_tests = and_right (sound (node_limit blocks) N (book_of s).table) _ m.sound

  pub range_tests : (in_range t && scores_below (limit t) (scores_in (checkpoint_of st))) ≡ true
  range_tests = and_right (three_pages N st) _ rest_tests

  pub ranged : Ranged t
  ranged = in_range_ranged t (and_left (in_range t) _ range_tests)

  pub spelled : Spells (book_of s).table (book_of s).count (map_of (book_of s).count (book_of s).table)
  spelled = sound_spells (node_limit blocks) (book_of s).count (book_of s).table sound-test

  pub kept : (book_of s).count ≤ node_limit blocks
  kept = sound-limit (node_limit blocks) (book_of s).count (book_of s).table sound-test

  proper : (n : ℕ) → n < N → Proper (node_of st n)
  unfolding state_of
  proper n l =
      subst Proper (book_of-table s n l)
      (node_proper (book_of s).table (book_of s).count (map_of (book_of s).count (book_of s).table) spelled n (omega (arith, count-is)))

  opens : Opens blocks N c
  opens =
      record {
        blocks = four;
        nodes = omega (arith, kept, count-is);
        pass = m.pass;
        some = complete-newest blocks c m.complete;
        three = three_each N st (and_left (three_pages N st) _ rest_tests);
      }

  sound_state : Sound blocks s
  unfolding book_of state_of node_of
  sound_state =
      keeps_same (λ n l. sym (book_of-table s n l)) (λ n l. ap (λ (a : Account). a.mode) (sym (book_of-account s n l)))
      (opened_keeps opens (λ n l. made-content n l) (λ n l. (proper n l).neat))
    where
      made-content : (n : ℕ) → n < N → draft_of st n ≡ made (node_of st n)
      made-content n l = proper_made (draft_of st n) (proper n l)

  -- ANY POOL THAT PASSES says a book that spells a map.
  pub sealed_ready : Ready blocks t s (book_of s) (map_of (book_of s).count (book_of s).table)
  unfolding state_of
  sealed_ready =
      record {
        says = record { sound = sound_state; is = refl };
        holds = record { spells = spelled; most = kept };
        ranged = ranged;
        scored =
            λ n l.
            rw (book_of-account s n (omega (arith, book_of-count s)))
            (score-below (limit t) n (scores_in (checkpoint_of st)) (limit_some ranged)
            (and_right (in_range t) (scores_below (limit t) (scores_in (checkpoint_of st))) range_tests));
      }

pub mounts_ready : {blocks : ℕ} {c : Cells} {t : Tariff} → fewest_blocks ≤ blocks → Mounts blocks c t →
    Ready blocks t (state_of (reopened blocks c)) (book_of (state_of (reopened blocks c)))
    (map_of (book_of (state_of (reopened blocks c))).count (book_of (state_of (reopened blocks c))).table)
mounts_ready four m = sealed_ready four (mounts_sealed m)
