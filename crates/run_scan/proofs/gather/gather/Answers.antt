-- `gather::gather` meets its contract. Over leaves: what is left of the scan from this leaf gives the whole. Over keys: what is left of the leaf from
-- this key gives what the leaf gives. Each way out is one of the reasons to stop. Assumes nothing.
use Rattle.std.proofs.Common.{rules}
use native.Mathlib.Omega.{arith}
use Rattle.run_scan.specs.InLeaf.{taking_start, taking_more}
use Rattle.run_scan.specs.Along.{along_start}
use Rattle.run_scan.specs.Gathering.{gathered_high, gathered-last, gathered_end, gathered_out, gathering_next}
use Rattle.run_scan.proofs.gather.gather.Goals as goal
use Rattle.run_scan.proofs.gather.gather.Goals.{then-next-via-then-next, then-next-via-else-next+then-visited-state}

pub leaves-init : goal.leaves-init
leaves-init c = record {
  link = search rules;
  along = along_start _ _ _ _ _ _ _ _ _ _ c.node_at-leaf.ensures c.requires.4 (search rules) (search rules) c.requires.2;
}

pub keys-init : goal.keys-init
keys-init c =
    let a = c.leaves.invariant.along in
    taking_start _ _ _ _ _ _ _ c.requires.1 a.here.held a.key_room a.value_room a.wanted _ c.find.ensures _ c.place_of-i.ensures

pub keys-preserved : goal.keys-preserved
keys-preserved c =
    taking_more c.requires.3 c.leaves.invariant.along.here.held c.keys.invariant c.keys-test.true c.if-high-key.false c.if-count-most.false

pub leaves-preserved : goal.leaves-preserved
leaves-preserved c =
    let p = c.requires in
    record {
      link = search rules;
      along =
          gathering_next p.1 p.3 c.leaves.invariant.along c.keys.invariant c.keys-test.false p.0.nodes c.if-next.false
          c.if-visited-state.false c.node_at-leaf-in-leaves.result c.node_at-leaf-in-leaves.ensures;
    }

pub returns-then-high-key : goal.returns-then-high-key
returns-then-high-key c =
    let p = c.requires in
    gathered_high p.1 p.3 c.leaves.invariant.along c.keys.invariant c.keys-test.true c.if-high-key.true

pub returns-then-count-most : goal.returns-then-count-most
returns-then-count-most c =
    let p = c.requires in
    gathered-last p.1 p.3 c.leaves.invariant.along c.keys.invariant c.keys-test.true c.if-high-key.false c.if-count-most.true

pub returns-then-next : goal.returns-then-next
returns-then-next c =
    let p = c.requires in
    elim c.then-next.branch [
      | then-next-via-then-next w ↦ gathered_end p.1 p.3 c.leaves.invariant.along c.keys.invariant c.keys-test.false w.if-next.true
      | then-next-via-else-next+then-visited-state w ↦
          gathered_out p.1 p.3 c.leaves.invariant.along c.keys.invariant c.keys-test.false w.if-visited-state.true
    ]

pub overflow_cast-next : goal.overflow_cast-next
overflow_cast-next c = omega (arith, c.leaves.invariant.link)
