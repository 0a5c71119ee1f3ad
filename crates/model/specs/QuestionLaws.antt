-- The laws of lists of questions: which part of a list decides. Assumes nothing.
use Rattle.std.specs.Prelude.{◌≡◌, refl, Bool, true, false, ◌&&◌, List, [], ◌∷◌, ◌++◌, ◌≤◌, leb}
use Rattle.std.proofs.Common.{sym, ◌∙◌, arith, leb-true}
use Rattle.laws.specs.Tests.{choose, and_left, and_right}
use Rattle.model.specs.Questions.{Question, first_no}

-- A no among the first questions decides.
pub first-front : (xs ys : List Question) → 1 ≤ first_no xs → first_no (xs ++ ys) ≡ first_no xs
first-front [] ys l = absurd (omega arith)
first-front (q ∷ xs) ys l = go q.1 l (first-front xs ys)
  where
    go : (b : Bool) → 1 ≤ choose b (first_no xs) q.0 → (1 ≤ first_no xs → first_no (xs ++ ys) ≡ first_no xs) →
        choose b (first_no (xs ++ ys)) q.0 ≡ choose b (first_no xs) q.0
    go true h r = r h
    go false h r = refl

-- Questions whose numbers are none of them 0: where all are answered with yes, those behind them decide.
abbrev pub numbered : List Question → Bool
numbered [] = true
numbered (q ∷ qs) = leb 1 q.0 && numbered qs

pub first-behind : (xs ys : List Question) → numbered xs ≡ true → first_no xs ≡ 0 → first_no (xs ++ ys) ≡ first_no ys
first-behind [] ys h e = refl
first-behind (q ∷ xs) ys h e = go q.1 e (first-behind xs ys (and_right (leb 1 q.0) (numbered xs) h))
  where
    go : (b : Bool) → choose b (first_no xs) q.0 ≡ 0 → (first_no xs ≡ 0 → first_no (xs ++ ys) ≡ first_no ys) →
        choose b (first_no (xs ++ ys)) q.0 ≡ first_no ys
    go true f r = r f
    go false f r = absurd (omega (arith, f, leb-true 1 q.0 (and_left (leb 1 q.0) (numbered xs) h)))

pub front_yes : (xs ys : List Question) → numbered xs ≡ true → first_no (xs ++ ys) ≡ 0 → first_no xs ≡ 0
front_yes [] ys h e = refl
front_yes (q ∷ xs) ys h e = go q.1 e (front_yes xs ys (and_right (leb 1 q.0) (numbered xs) h))
  where
    go : (b : Bool) → choose b (first_no (xs ++ ys)) q.0 ≡ 0 → (first_no (xs ++ ys) ≡ 0 → first_no xs ≡ 0) → choose b (first_no xs) q.0 ≡ 0
    go true f r = r f
    go false f r = f

pub behind_yes : (xs ys : List Question) → numbered xs ≡ true → first_no (xs ++ ys) ≡ 0 → first_no ys ≡ 0
behind_yes xs ys h e = sym (first-behind xs ys h (front_yes xs ys h e)) ∙ e
