-- DOCUMENT 02, P3. "A setter types a number and wants that route or the nearest above. Command 07 .. answers 87 with route and word .., or 80 if none is
-- at or above." Assumes nothing.
use Rattle.std.specs.Prelude.{◌≡◌, refl, List, [], ◌∷◌, ◌++◌, ℕ, ◌≤◌, None, Some}
use Rattle.std.proofs.Common.{ap, ◌∙◌, arith}
use Rattle.layout.specs.Layout.{node_limit, last_key, bound32}
use Rattle.account.specs.declared.Tariff.{Tariff}
use Rattle.pairs.specs.Pairs.{Pair, lookup, ceiling, Within}
use Rattle.pairs.specs.Ceiling.{CeilingIs}
use Rattle.pairs.proofs.Ceiling.{ceiling-is as nearest-is, ceiling-none as none_above}
use Rattle.command.specs.declared.Command.{Command}
use Rattle.command.specs.declared.Command.TheVariants.{Scan, Ceiling}
use Rattle.command.specs.Batch.{commands_of, ValidAll}
use Rattle.book.specs.Book.{Book}
use Rattle.book.specs.Command.{ceiling_reply}
use Rattle.book.specs.Command.{requests as RequestsFor}
use Rattle.book.specs.Session.{Session, at_first}
use Rattle.book.specs.InTurnLaws.{replies_to_among}
use Rattle.book.specs.OrderedMap.{map_answer, map_answers, map_answers_behind, map_run}
use Rattle.model.specs.Pool.{blocks_of}
use Rattle.model.specs.PoolLaws.{is-pool}
use Rattle.model.specs.Call.{Call, buffer_of, outcome, batch_of}
use Rattle.model.specs.Calls.{answered, laid_over, fed_of, commands_in}
use Rattle.demands.specs.Ceilings.{ScansFor, SameReads, scans_same}
use Rattle.demands.specs.CallBytes.{CallBytes, run-bytes}
use Rattle.demands.specs.OneCall.{called}
use Rattle.demands.specs.InCall.{before_valid, run_within}
use Rattle.demands.specs.Standing.{stands_open}
use Rattle.demands.specs.TheBook.Stands.{Stands}

-- The map at a moment of a call, behind its first commands; behind none it is the map that the pool spells.
abbrev pub map_then : Tariff → List ℕ → Book → List Pair → List Command → List Pair
map_then t pool b ps before = map_run (node_limit (blocks_of pool)) before (at_first t) b ps

-- 07 answers the next key up of the map at that moment, wherever it stands in a batch or among the turns of a desk: before its answer are those of the
-- commands before it, and behind it those of the commands behind it.
pub ceiling-answers : {t : Tariff} {pool : List ℕ} {b : Book} {ps : List Pair} → Stands t pool b ps → (c : Call) → CallBytes c →
    (before : List Command) (k : ℕ) (after : List Command) → commands_in (fed_of pool c) ≡ before ++ (Ceiling k ∷ after) →
    answered (outcome pool c) ≡
    laid_over (buffer_of c)
    (map_answers (node_limit (blocks_of pool)) before (at_first t) b ps ++
    (ceiling_reply (ceiling k (map_then t pool b ps before)) ∷
    map_answers_behind (node_limit (blocks_of pool)) (before ++ (Ceiling k ∷ [])) after (at_first t) b ps))
unfolding map_answer
ceiling-answers {t} {pool} {b} {ps} s c bytes before k after e =
    (called (stands_open s) c (run-bytes c bytes)).answers ∙
    ap (λ (cs : List Command). laid_over (buffer_of c) (map_answers (node_limit (blocks_of pool)) cs (at_first t) b ps)) e ∙
    ap (laid_over (buffer_of c)) (replies_to_among _ _ before (Ceiling k) after (at_first t) (b, ps))

-- What that is: a pair of the map, at or above the key, with nothing of the map between; 80 exactly where nothing of the map is at or above.
module _ {t : Tariff} {pool : List ℕ} {b : Book} {ps : List Pair} (s : Stands t pool b ps) (before : List Command) (valid : ValidAll before) (k : ℕ) where
  ascending : Within 0 bound32 (map_then t pool b ps before)
  ascending =
      let o = stands_open s in
      run_within (node_limit (blocks_of pool)) (omega (arith, (is-pool pool o.size).most)) before (at_first t) b ps valid o.ready.holds

  pub ceiling-is : CeilingIs lookup k (map_then t pool b ps before) (ceiling k (map_then t pool b ps before))
  ceiling-is = nearest-is k 0 bound32 (map_then t pool b ps before) ascending

  pub ceiling-none : ((j : ℕ) → k ≤ j → lookup j (map_then t pool b ps before) ≡ None) → ceiling k (map_then t pool b ps before) ≡ None
  ceiling-none = none_above k 0 bound32 (map_then t pool b ps before) ascending

-- The commands before any place of a call are valid, so that this holds there.
pub commands_valid : (pool : List ℕ) (c : Call) → CallBytes c → (before cs : List Command) → commands_in (fed_of pool c) ≡ before ++ cs → ValidAll before
commands_valid = before_valid

-- "It reads as a sweep of that route to FFFFFFFF with a most of 1 does": by definition ..
pub ceiling-reads : (limit : ℕ) (n : Session) (k : ℕ) (b : Book) → RequestsFor limit n (Ceiling k) b ≡ RequestsFor limit n (Scan k last_key 1) b
unfolding RequestsFor
ceiling-reads limit n k b = refl

-- .. and so on any pool, with any table and answer buffer: where such scans stand for the ceilings of a batch, the call returns the same number and
-- charges, and leaves the same pool and table.
pub ceilings_read : (pool table buffer batch batch' : List ℕ) (cs ds : List Command) → ScansFor cs ds → commands_of batch ≡ Some cs →
    commands_of batch' ≡ Some ds → SameReads (batch_of pool table batch buffer) (batch_of pool table batch' buffer)
ceilings_read pool table buffer batch batch' cs ds r = scans_same pool table buffer cs ds r batch batch'
