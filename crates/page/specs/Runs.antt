-- Fields of one tag one behind another: those that were laid are found, and those that are found stand there. One law for
-- every tag, length and most. Assumes nothing.
use Rattle.std.specs.Prelude.{◌≡◌, Bool}
use Rattle.std.proofs.Math.Path.{refl, ap, ap₂}
use Rattle.std.proofs.Common.{sym, ◌∙◌, mul-zero, le_of_suc-le-suc, not-suc-le-zero, length-append}
use Rattle.std.proofs.Math.Bool.{true, false}
use mathlib.Core.List.{List, [], ◌∷◌, ◌++◌, append_assoc}
use Prim.Native.Nat.{ℕ, zero, suc, ◌+◌, ◌*◌, ◌^◌, ◌≤◌, ◌<◌, zero-le, suc-le-suc}
use native.Mathlib.Omega.{arith}
use Rattle.std.proofs.Math.ListN.{length}
use Rattle.laws.specs.Every.{Every, none, both}
use Rattle.laws.specs.Lay.{part, part-add}
use Rattle.laws.specs.BigEndian.{Bytes}
use Rattle.wire.specs.Tag.{length_of, allowed}
use Rattle.wire.specs.Field.{field, payload_at}
use Rattle.wire.specs.FieldLaws.{length-field, payload_at-field, stands_payload, part-payload, bytes-payload}
use Rattle.page.specs.Image.{fields}
use Rattle.page.specs.Decode.{run, payloads}

-- A run goes on where the payload passes, and stops where it does not.
module _ (ok : List ℕ → Bool) (tag step most : ℕ) (s : List ℕ) (at : ℕ) where
  pub run_goes : ok (payload_at s at tag) ≡ true → run ok tag step (suc most) s at ≡ suc (run ok tag step most s (at + step))
  unfolding run
  run_goes t = rw (t, run)

  pub run_stops : ok (payload_at s at tag) ≡ false → run ok tag step (suc most) s at ≡ 0
  unfolding run
  run_stops t = rw (t, run)

-- A field behind a front, as a longer front.
next-front : (front p : List ℕ) (tag : ℕ) (ps : List (List ℕ)) (rest : List ℕ) →
    front ++ (fields tag (p ∷ ps) ++ rest) ≡ (front ++ field tag p) ++ (fields tag ps ++ rest)
unfolding fields
next-front front p tag ps rest =
    ap (λ (l : List ℕ). front ++ l) (append_assoc (field tag p) (fields tag ps) rest) ∙
    sym (append_assoc front (field tag p) (fields tag ps ++ rest))

first_field : (front p : List ℕ) (tag : ℕ) (ps : List (List ℕ)) (rest : List ℕ) →
    front ++ (fields tag (p ∷ ps) ++ rest) ≡ front ++ (field tag p ++ (fields tag ps ++ rest))
unfolding fields
first_field front p tag ps rest = ap (λ (l : List ℕ). front ++ l) (append_assoc (field tag p) (fields tag ps) rest)

module _ (ok : List ℕ → Bool) (tag len : ℕ) (fits : len < 256 ^ 2) (may : allowed (length_of tag) len ≡ true) where
  -- A payload of the length that passes the test.
  pub record Good (p : List ℕ) : Type 0 where
    pub size : length p ≡ len
    pub passes : ok p ≡ true

  found_first : (front p : List ℕ) (ps : List (List ℕ)) (rest : List ℕ) → length p ≡ len →
      payload_at (front ++ (fields tag (p ∷ ps) ++ rest)) (length front) tag ≡ p
  found_first front p ps rest e =
      ap (λ (s : List ℕ). payload_at s (length front) tag) (first_field front p tag ps rest) ∙
      payload_at-field front tag p (fields tag ps ++ rest) (rw e fits) (rw e may)

  length-next : (front p : List ℕ) → length p ≡ len → length front + (3 + len) ≡ length (front ++ field tag p)
  length-next front p e = sym (length-append front (field tag p) ∙ omega (arith, length-field tag p))

  -- A run is as long as the payloads laid, where what follows is no further one.
  module _ (rest : List ℕ) (stop : (front : List ℕ) → ok (payload_at (front ++ rest) (length front) tag) ≡ false) where
    pub run-fields : (ps : List (List ℕ)) → Every Good ps → (most : ℕ) → length ps ≤ most → (front : List ℕ) →
        run ok tag (3 + len) most (front ++ (fields tag ps ++ rest)) (length front) ≡ length ps
    unfolding run fields
    run-fields [] none zero h front = refl
    run-fields [] none (suc most) h front = run_stops ok tag (3 + len) most (front ++ rest) (length front) (stop front)
    run-fields (p ∷ ps) (both g gs) zero h front = absurd (not-suc-le-zero h)
    run-fields (p ∷ ps) (both g gs) (suc most) h front =
        let s : List ℕ = front ++ (fields tag (p ∷ ps) ++ rest) in
        let t : ok (payload_at s (length front) tag) ≡ true = ap ok (found_first front p ps rest g.size) ∙ g.passes in
        let again : run ok tag (3 + len) most s (length front + (3 + len)) ≡ length ps =
        ap₂ (λ (l : List ℕ) (i : ℕ). run ok tag (3 + len) most l i) (next-front front p tag ps rest) (length-next front p g.size) ∙
        run-fields ps gs most (le_of_suc-le-suc h) (front ++ field tag p) in
        run_goes ok tag (3 + len) most s (length front) t ∙ ap suc again

  -- The payloads of fields that were laid.
  pub payloads-fields : (ps : List (List ℕ)) → Every Good ps → (front rest : List ℕ) →
      payloads tag (3 + len) (length ps) (front ++ (fields tag ps ++ rest)) (length front) ≡ ps
  unfolding payloads
  payloads-fields [] none front rest = refl
  payloads-fields (p ∷ ps) (both g gs) front rest =
      let s : List ℕ = front ++ (fields tag (p ∷ ps) ++ rest) in
      let again : payloads tag (3 + len) (length ps) s (length front + (3 + len)) ≡ ps =
      ap₂ (λ (l : List ℕ) (i : ℕ). payloads tag (3 + len) (length ps) l i) (next-front front p tag ps rest) (length-next front p g.size) ∙
      payloads-fields ps gs (front ++ field tag p) rest in
      ap₂ ◌∷◌ (found_first front p ps rest g.size) again

pub length-payloads : (tag step n : ℕ) (s : List ℕ) (at : ℕ) → length (payloads tag step n s at) ≡ n
unfolding payloads
length-payloads tag step zero s at = refl
length-payloads tag step (suc n) s at = ap suc (length-payloads tag step n s (at + step))

-- What a run found: fields of payloads that pass, within the bytes.
pub record Ran (ok : List ℕ → Bool) (tag step most : ℕ) (s : List ℕ) (at n : ℕ) : Type 0 where
  pub few : n ≤ most
  pub pass : Every (λ p. (ok p ≡ true) × Bytes p) (payloads tag step n s at)
  pub are : part s at (step * n) ≡ fields tag (payloads tag step n s at)

module _ (ok : List ℕ → Bool) (tag len : ℕ) (some : 1 ≤ len) (size : (p : List ℕ) → ok p ≡ true → length p ≡ len) (s : List ℕ) (b : Bytes s) where
  ran_none : (most at : ℕ) → Ran ok tag (3 + len) most s at 0
  unfolding payloads fields part
  ran_none most at = record { few = zero-le; pass = none; are = ap (λ (n : ℕ). part s at n) (mul-zero (3 + len)) }

  ran_more : (most at n : ℕ) → ok (payload_at s at tag) ≡ true → Ran ok tag (3 + len) most s (at + (3 + len)) n →
      Ran ok tag (3 + len) (suc most) s at (suc n)
  unfolding payloads fields
  ran_more most at n t r =
      let l : length (payload_at s at tag) ≡ len = size (payload_at s at tag) t in
      let h = stands_payload s at tag (omega arith) in
      let e : part s at (3 + len) ≡ field tag (payload_at s at tag) = ap (λ (k : ℕ). part s at (3 + k)) (sym l) ∙ part-payload s at tag h b in
      let m : (3 + len) * suc n ≡ (3 + len) + (3 + len) * n = omega arith in
      record {
        few = suc-le-suc r.few;
        pass = both (t, bytes-payload s at tag b h) r.pass;
        are =
            ap (λ (k : ℕ). part s at k) m ∙
            part-add s at (3 + len) ((3 + len) * n) ∙
            ap₂ ◌++◌ e r.are;
      }

  pub ran : (most at : ℕ) → Ran ok tag (3 + len) most s at (run ok tag (3 + len) most s at)
  unfolding run
  ran zero at = ran_none 0 at
  ran (suc most) at = go (ok (payload_at s at tag)) refl (ran most (at + (3 + len)))
    where
      go : (t : Bool) → ok (payload_at s at tag) ≡ t → Ran ok tag (3 + len) most s (at + (3 + len)) (run ok tag (3 + len) most s (at + (3 + len))) →
          Ran ok tag (3 + len) (suc most) s at (run ok tag (3 + len) (suc most) s at)
      go true t r = rw (run_goes ok tag (3 + len) most s at t) (ran_more most at (run ok tag (3 + len) most s (at + (3 + len))) t r)
      go false t r = rw (run_stops ok tag (3 + len) most s at t) (ran_none (suc most) at)
