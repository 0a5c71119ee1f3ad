-- `checkpoint_pages` meets its contract. The invariant: the checkpoint pages left, written from here, give the whole checkpoint. Assumes nothing.
use mathlib.Core.Path.{sym, ap, ◌∙◌}
use Prim.Native.Nat.{ℕ, ◌+◌, ◌-◌}
use Rattle.laws.specs.Loops.{steps, steps-begin, steps_more, steps-done}
use Rattle.flash_allocate.specs.Flash.{world_of}
use Rattle.flash_checkpoint.specs.CheckpointPages.{checkpoint_page, checkpoint_pages}
use Rattle.flash_checkpoint.proofs.Laws.{between-begin, between_closing, between_more}
use Rattle.flash_checkpoint.proofs.checkpoint_pages.Goals as goal

pub loop-k-init : goal.loop-k-init
loop-k-init c =
    let a = c.args in
    (between-begin a.flash.now c.requires.begun, steps-begin (checkpoint_page a.tariff) c.page_count-k-end.result (world_of a.flash.now))

pub checkpoint_page-requires : goal.checkpoint_page-requires
checkpoint_page-requires c =
    let l = c.loop-k in
    between_closing l.k c.page_count-k-end.result l.invariant.0 c.page_count-k-end.ensures c.requires.limit c.loop-k-test.true

pub loop-k-preserved : goal.loop-k-preserved
loop-k-preserved c =
    let a = c.args in
    let l = c.loop-k in
    let n = c.page_count-k-end in
    let x = c.checkpoint_page in (
      between_more l.k l.invariant.0 x.ensures,
      ap (steps (checkpoint_page a.tariff) (n.result - (l.k + 1)) (l.k + 1)) x.ensures.left.is ∙
          steps_more (checkpoint_page a.tariff) n.result l.k (world_of l.flash) c.loop-k-test.true ∙
          l.invariant.1,
    )

pub returns : goal.returns
unfolding checkpoint_pages
returns c =
    let a = c.args in
    let l = c.loop-k in
    let n = c.page_count-k-end in
    let b = l.invariant.0 in
    record {
      same_pool = b.same_pool;
      same_table = b.same_table;
      long = b.long;
      left =
          record {
            is =
                sym (steps-done (checkpoint_page a.tariff) n.result l.k (world_of l.flash) c.loop-k-test.false) ∙
                l.invariant.1 ∙
                ap (λ (m : ℕ). steps (checkpoint_page a.tariff) m 0 (world_of a.flash.now)) n.ensures;
            good = l.flash.good;
            blocks = b.blocks;
            nodes = b.nodes;
            checkpoint = tt;
          };
    }
