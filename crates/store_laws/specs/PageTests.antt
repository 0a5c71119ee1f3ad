-- The tests of sequence numbers and versions hold exactly where their rules do, page by page and entry by entry. Assumes nothing.
use Rattle.std.specs.Prelude.{◌≡◌, refl, Bool, true, false, ◌&&◌, ◌⊎◌, List, [], ◌∷◌, map, ℕ, zero, suc, ◌+◌, ◌≤◌, ◌<◌, max, eqb, leb, ltb, Option, None, Some}
use Rattle.std.proofs.Common.{ap, subst, inl, inr, le_trans, arith, eqb-true, eq-eqb, ne_eqb, leb-true, le-leb, ltb-true, lt-ltb}
use Rattle.std.proofs.lemmas.Bool.{lt-leb}
use Rattle.laws.specs.Tests.{choose, and_left, and_right, and_both}
use Rattle.laws.specs.Order.{eq_or, le_or}
use Rattle.laws.specs.Counts.{bit, count, tally}
use Rattle.page.specs.Page.{Entry, Content, Page, page, log, whole, checkpoint, sequence}
use Rattle.store.specs.Item.{entry_item, items_of, greatest_in}
use Rattle.store.specs.View.{greatest}
use Rattle.store.specs.Pool.{Blocks, numbered, page_in, or_else, find, items_at}
use Rattle.store.specs.Store.{Store, seen}
use Rattle.store.specs.Reopen.{greatest_of, newest, store_of, version_passes, versions_pass, page_passes, every, every_page}
use Rattle.store_laws.specs.ViewLaws.{greatest_to_le}
use Rattle.store_laws.specs.Steps.{Fit}
use Rattle.store_laws.specs.PoolLaws.{find_none}
use Rattle.store_laws.specs.BlockRules.{numbered-none}
use Rattle.store_laws.specs.BlockTests.{newest-above}
use Rattle.store_laws.specs.Versions.{version_is, positive, says, said, late_in, late, VersionRules}

-- One entry's version: from 1, below the page's number, no page's number.
pub record VersionFits (s : ℕ) (bs : Blocks) (v : ℕ) : Type 0 where
  pub from_one : 1 ≤ v
  pub below : v < s
  pub apart : tally (numbered v) bs ≡ 0

pub version-fits : (s : ℕ) (bs : Blocks) (e : Entry) → version_passes s bs e ≡ true → VersionFits s bs e.version
version-fits s bs e h =
    let v = e.version in
    let r = and_right (leb 1 v) (ltb v s && eqb (tally (numbered v) bs) 0) h in
    record {
      from_one = leb-true 1 v (and_left (leb 1 v) (ltb v s && eqb (tally (numbered v) bs) 0) h);
      below = ltb-true v s (and_left (ltb v s) (eqb (tally (numbered v) bs) 0) r);
      apart = eqb-true _ 0 (and_right (ltb v s) (eqb (tally (numbered v) bs) 0) r);
    }

fits-version : (s : ℕ) (bs : Blocks) (e : Entry) → VersionFits s bs e.version → version_passes s bs e ≡ true
fits-version s bs e f =
    rw (le-leb 1 e.version f.from_one, lt-ltb e.version s f.below, eq-eqb (tally (numbered e.version) bs) 0 f.apart) refl

module _ (s : ℕ) (bs : Blocks) (e : Entry) (es : List Entry) (h : versions_pass s bs (e ∷ es) ≡ true) where
  first_fits : VersionFits s bs e.version
  first_fits = version-fits s bs e (and_left (version_passes s bs e) (versions_pass s bs es) h)

  rest_pass : versions_pass s bs es ≡ true
  rest_pass = and_right (version_passes s bs e) (versions_pass s bs es) h

-- a version that some entry has
pub said_fits : (v s : ℕ) (bs : Blocks) (es : List Entry) → versions_pass s bs es ≡ true → 0 < count (version_is v) es → VersionFits s bs v
said_fits v s bs [] h l = absurd (omega arith)
said_fits v s bs (e ∷ es) h l = go (eq_or e.version v) (λ q. said_fits v s bs es (rest_pass s bs e es h) q)
  where
    go : (e.version ≡ v) ⊎ (e.version ≡ v → ⊥) → (0 < count (version_is v) es → VersionFits s bs v) → VersionFits s bs v
    go (inl q) r = subst (VersionFits s bs) q (first_fits s bs e es h)
    go (inr q) r = r (omega (arith, ap bit (ne_eqb e.version v q)))

passing_greatest_in : (n s : ℕ) (bs : Blocks) (es : List Entry) → versions_pass s bs es ≡ true → greatest_in n (map entry_item es) ≤ s
passing_greatest_in n s bs [] h = omega arith
passing_greatest_in n s bs (e ∷ es) h =
    omega (
      arith,
      (first_fits s bs e es h).below,
      passing_greatest_in n s bs es (rest_pass s bs e es h),
      chosen (eqb e.id n),
    )
  where
    chosen : (b : Bool) → choose b e.version 0 ≤ e.version
    chosen true = omega arith
    chosen false = omega arith

passing_early : (s : ℕ) (bs : Blocks) (es : List Entry) → versions_pass s bs es ≡ true → count (late_in s) es ≡ 0
passing_early s bs [] h = refl
passing_early s bs (e ∷ es) h =
    omega (
      arith,
      ap bit (lt-leb s e.version (first_fits s bs e es h).below),
      passing_early s bs es (rest_pass s bs e es h),
    )

passing_from_one : (s : ℕ) (bs : Blocks) (es : List Entry) → versions_pass s bs es ≡ true → count (version_is 0) es ≡ 0
passing_from_one s bs [] h = refl
passing_from_one s bs (e ∷ es) h =
    omega (
      arith,
      ap bit (ne_eqb e.version 0 (λ z. omega (arith, (first_fits s bs e es h).from_one))),
      passing_from_one s bs es (rest_pass s bs e es h),
    )

-- One page.
pub page_from_one : (bs : Blocks) (p : Page) → page_passes bs p ≡ true → 1 ≤ sequence p
page_from_one bs (page s (log es)) h = leb-true 1 s (and_left (leb 1 s) (versions_pass s bs es) h)
page_from_one bs (page s (whole n x)) h = leb-true 1 s h
page_from_one bs (page s (checkpoint t scores k)) h = leb-true 1 s h

pub page_versions : (bs : Blocks) (s : ℕ) (es : List Entry) → page_passes bs (page s (log es)) ≡ true → versions_pass s bs es ≡ true
page_versions bs s es h = and_right (leb 1 s) (versions_pass s bs es) h

page_greatest : (n : ℕ) (bs : Blocks) (p : Page) → page_passes bs p ≡ true → greatest_in n (items_of p) ≤ sequence p
page_greatest n bs (page s (log es)) h = passing_greatest_in n s bs es (page_versions bs s es h)
page_greatest n bs (page s (whole m x)) h = go (eqb m n)
  where
    go : (b : Bool) → max (choose b s 0) 0 ≤ s
    go true = omega arith
    go false = omega arith
page_greatest n bs (page s (checkpoint t scores k)) h = omega arith

page_early : (bs : Blocks) (p : Page) → page_passes bs p ≡ true → late p ≡ false
unfolding late
page_early bs (page s (log es)) h = ap positive (passing_early s bs es (page_versions bs s es h))
page_early bs (page s (whole n x)) h = refl
page_early bs (page s (checkpoint t scores k)) h = refl

page_says_zero : (bs : Blocks) (p : Page) → page_passes bs p ≡ true → says 0 p ≡ false
unfolding says
page_says_zero bs (page s (log es)) h = ap positive (passing_from_one s bs es (page_versions bs s es h))
page_says_zero bs (page s (whole n x)) h = refl
page_says_zero bs (page s (checkpoint t scores k)) h = refl

positive_true : (n : ℕ) → 0 < bit (positive n) → 0 < n
positive_true zero h = h
positive_true (suc n) h = omega arith

page_says : (v : ℕ) (bs : Blocks) (p : Page) → page_passes bs p ≡ true → 0 < bit (says v p) → VersionFits (sequence p) bs v
unfolding says
page_says v bs (page s (log es)) h l = said_fits v s bs es (page_versions bs s es h) (positive_true (count (version_is v) es) l)
page_says v bs (page s (whole n x)) h l = absurd (omega arith)
page_says v bs (page s (checkpoint t scores k)) h l = absurd (omega arith)

-- What a test rules out of one page, it rules out of all.
every-none : (f g : Page → Bool) → ((p : Page) → f p ≡ true → g p ≡ false) → (b : List Page) → every f b ≡ true → count g b ≡ 0
every-none f g h [] e = refl
every-none f g h (p ∷ b) e =
    omega (arith, ap bit (h p (and_left (f p) (every f b) e)), every-none f g h b (and_right (f p) (every f b) e))

every_page-none : (f g : Page → Bool) → ((p : Page) → f p ≡ true → g p ≡ false) → (bs : Blocks) → every_page f bs ≡ true → tally g bs ≡ 0
every_page-none f g h [] e = refl
every_page-none f g h (b ∷ bs) e =
    omega (
      arith,
      every-none f g h b (and_left (every f b) (every_page f bs) e),
      every_page-none f g h bs (and_right (every f b) (every_page f bs) e),
    )

-- The page that is found passes, and has the number.
abbrev pub Passes : (Page → Bool) → ℕ → Option Page → Type 0
Passes f s None = Unit {0}
Passes f s (Some p) = (f p ≡ true) × (sequence p ≡ s)

page_in-passes : (f : Page → Bool) (s : ℕ) (b : List Page) → every f b ≡ true → Passes f s (page_in s b)
page_in-passes f s [] e = tt
page_in-passes f s (p ∷ b) e = go (numbered s p) refl (page_in-passes f s b (and_right (f p) (every f b) e))
  where
    go : (t : Bool) → numbered s p ≡ t → Passes f s (page_in s b) → Passes f s (choose t (Some p) (page_in s b))
    go true q r = (and_left (f p) (every f b) e, eqb-true (sequence p) s q)
    go false q r = r

pub find-passes : (f : Page → Bool) (s : ℕ) (bs : Blocks) → every_page f bs ≡ true → Passes f s (find s bs)
find-passes f s [] e = tt
find-passes f s (b ∷ bs) e =
    go (page_in s b) (page_in-passes f s b (and_left (every f b) (every_page f bs) e)) (find-passes f s bs (and_right (every f b) (every_page f bs) e))
  where
    go : (o : Option Page) → Passes f s o → Passes f s (find s bs) → Passes f s (or_else o (find s bs))
    go None h r = r
    go (Some p) h r = h

-- A POOL WHOSE PAGES PASS: numbers from 1, versions within, and the rules of versions
pub passing_numbers : (bs : Blocks) → every_page (page_passes bs) bs ≡ true → tally (numbered 0) bs ≡ 0
passing_numbers bs e =
    every_page-none (page_passes bs) (numbered 0) (λ p h. ne_eqb (sequence p) 0 (λ z. omega (arith, page_from_one bs p h))) bs e

pub passing_fit : (bs : Blocks) → every_page (page_passes bs) bs ≡ true → Fit (seen bs [] (newest bs))
unfolding greatest
passing_fit bs e =
    record {
      versions =
          λ n.
          omega (
            arith,
            greatest_to_le (λ s. greatest_in n (items_at (find s bs))) (newest bs) (newest bs)
                (λ s p l. le_trans (go n s (find s bs) (find-passes (page_passes bs) s bs e)) l),
          );
      beyond =
          λ s l. ap items_at (find_none s bs (numbered-none (newest bs) bs (newest-above (newest bs) bs (omega arith)) s l));
    }
  where
    go : (n s : ℕ) (o : Option Page) → Passes (page_passes bs) s o → greatest_in n (items_at o) ≤ s
    go n s None h = omega arith
    go n s (Some p) h = omega (arith, page_greatest n bs p h.0)

fits_raise : {s s' v : ℕ} {bs : Blocks} → VersionFits s bs v → s ≤ s' → VersionFits s' bs v
fits_raise f l = record { from_one = f.from_one; below = omega (arith, f.below); apart = f.apart }

says_in : (v : ℕ) (bs : Blocks) (b : List Page) → every (page_passes bs) b ≡ true → 0 < count (says v) b → VersionFits (greatest_of b) bs v
says_in v bs [] e h = absurd (omega arith)
says_in v bs (p ∷ b) e h =
    go (le_or 1 (bit (says v p))) (λ q. says_in v bs b (and_right (page_passes bs p) (every (page_passes bs) b) e) q)
  where
    go : (1 ≤ bit (says v p)) ⊎ (bit (says v p) < 1) → (0 < count (says v) b → VersionFits (greatest_of b) bs v) →
        VersionFits (max (sequence p) (greatest_of b)) bs v
    go (inl q) r = fits_raise (page_says v bs p (and_left (page_passes bs p) (every (page_passes bs) b) e) q) (omega arith)
    go (inr q) r = fits_raise (r (omega arith)) (omega arith)

says_all : (v : ℕ) (bs cs : Blocks) → every_page (page_passes bs) cs ≡ true → 0 < tally (says v) cs → VersionFits (newest cs) bs v
says_all v bs [] e h = absurd (omega arith)
says_all v bs (c ∷ cs) e h =
    go (le_or 1 (count (says v) c)) (λ q. says_all v bs cs (and_right (every (page_passes bs) c) (every_page (page_passes bs) cs) e) q)
  where
    go : (1 ≤ count (says v) c) ⊎ (count (says v) c < 1) → (0 < tally (says v) cs → VersionFits (newest cs) bs v) →
        VersionFits (max (greatest_of c) (newest cs)) bs v
    go (inl q) r = fits_raise (says_in v bs c (and_left (every (page_passes bs) c) (every_page (page_passes bs) cs) e) q) (omega arith)
    go (inr q) r = fits_raise (r (omega arith)) (omega arith)

pub passing_versions : (bs : Blocks) → every_page (page_passes bs) bs ≡ true → VersionRules (store_of bs)
unfolding said
passing_versions bs e =
    record {
      early = every_page-none (page_passes bs) late (page_early bs) bs e;
      from_one = omega (arith, every_page-none (page_passes bs) (says 0) (page_says_zero bs) bs e);
      apart = λ v h. (says_all v bs bs e (omega arith)).apart;
      within = λ v l. go v l (le_or 1 (tally (says v) bs));
    }
  where
    go : (v : ℕ) → newest bs < v → (1 ≤ tally (says v) bs) ⊎ (tally (says v) bs < 1) → tally (says v) bs + 0 ≡ 0
    go v l (inl q) = absurd (omega (arith, (says_all v bs bs e q).below))
    go v l (inr q) = omega arith

-- OUR OWN PAGES PASS: from the counts, page by page
positive_false : (n : ℕ) → bit (positive n) ≡ 0 → n ≡ 0
positive_false zero h = refl
positive_false (suc n) h = absurd (omega arith)

positive_some : (n : ℕ) → 0 < n → 0 < bit (positive n)
positive_some zero h = h
positive_some (suc n) h = omega arith

counts_versions : (s : ℕ) (all : Blocks) (es : List Entry) → count (late_in s) es ≡ 0 → count (version_is 0) es ≡ 0 →
    ((v : ℕ) → 0 < count (version_is v) es → tally (numbered v) all ≡ 0) → versions_pass s all es ≡ true
counts_versions s all [] l z a = refl
counts_versions s all (e ∷ es) l z a =
    and_both (version_passes s all e) (versions_pass s all es)
    (fits-version s all e
    (record {
      from_one = positive_version (eq_or e.version 0);
      below = early (le_or s e.version);
      apart = a e.version (omega (arith, ap bit (eq-eqb e.version e.version refl)));
    }))
    (counts_versions s all es (omega arith) (omega arith) (λ v h. a v (omega arith)))
  where
    positive_version : (e.version ≡ 0) ⊎ (e.version ≡ 0 → ⊥) → 1 ≤ e.version
    positive_version (inl q) = absurd (omega (arith, z, ap bit (eq-eqb e.version 0 q)))
    positive_version (inr q) = omega arith

    early : (s ≤ e.version) ⊎ (e.version < s) → e.version < s
    early (inl q) = absurd (omega (arith, l, ap bit (le-leb s e.version q)))
    early (inr q) = q

counts_page : (all : Blocks) (p : Page) → bit (numbered 0 p) ≡ 0 → bit (late p) ≡ 0 → bit (says 0 p) ≡ 0 →
    ((v : ℕ) → 0 < bit (says v p) → tally (numbered v) all ≡ 0) → page_passes all p ≡ true
unfolding late says
counts_page all (page s c) n l z a = go c l z a
  where
    from_one_lem : leb 1 s ≡ true
    from_one_lem = le-leb 1 s (pos (eq_or s 0))
      where
        pos : (s ≡ 0) ⊎ (s ≡ 0 → ⊥) → 1 ≤ s
        pos (inl q) = absurd (omega (arith, n, ap bit (eq-eqb s 0 q)))
        pos (inr q) = omega arith

    go : (c : Content) → bit (late (page s c)) ≡ 0 → bit (says 0 (page s c)) ≡ 0 → ((v : ℕ) → 0 < bit (says v (page s c)) → tally (numbered v) all ≡ 0) →
        page_passes all (page s c) ≡ true
    go (log es) l z a =
        and_both (leb 1 s) (versions_pass s all es) from_one_lem
        (counts_versions s all es (positive_false _ l) (positive_false _ z) (λ v h. a v (positive_some _ h)))
    go (whole n x) l z a = from_one_lem
    go (checkpoint t scores k) l z a = from_one_lem

counts_block : (all : Blocks) (b : List Page) → count (numbered 0) b ≡ 0 → count late b ≡ 0 → count (says 0) b ≡ 0 →
    ((v : ℕ) → 0 < count (says v) b → tally (numbered v) all ≡ 0) → every (page_passes all) b ≡ true
counts_block all [] n l z a = refl
counts_block all (p ∷ b) n l z a =
    and_both (page_passes all p) (every (page_passes all) b)
    (counts_page all p (omega arith) (omega arith) (omega arith) (λ v h. a v (omega arith)))
    (counts_block all b (omega arith) (omega arith) (omega arith) (λ v h. a v (omega arith)))

counts_blocks : (all bs : Blocks) → tally (numbered 0) bs ≡ 0 → tally late bs ≡ 0 → tally (says 0) bs ≡ 0 →
    ((v : ℕ) → 0 < tally (says v) bs → tally (numbered v) all ≡ 0) → every_page (page_passes all) bs ≡ true
counts_blocks all [] n l z a = refl
counts_blocks all (b ∷ bs) n l z a =
    and_both (every (page_passes all) b) (every_page (page_passes all) bs)
    (counts_block all b (omega arith) (omega arith) (omega arith) (λ v h. a v (omega arith)))
    (counts_blocks all bs (omega arith) (omega arith) (omega arith) (λ v h. a v (omega arith)))

pub rules_pages : (st : Store) → tally (numbered 0) st.blocks ≡ 0 → VersionRules st → every_page (page_passes st.blocks) st.blocks ≡ true
unfolding said
rules_pages st n r =
    counts_blocks st.blocks st.blocks n r.early (omega (arith, r.from_one)) (λ v h. r.apart v (omega arith))
