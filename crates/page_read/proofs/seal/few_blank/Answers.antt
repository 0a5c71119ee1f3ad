-- Assumes nothing.
use Rattle.std.proofs.Common.{rules, ◌≡◌, ◌↔◌, IsTrue, slice_index, EachIndex}
use Rattle.laws.specs.Tests.{test_same}
use Rattle.page.specs.Decode.{all_blank}
use Rattle.page_read.specs.Blank.{all_each, each_all}
use Rattle.page_read.proofs.seal.few_blank.Goals as goal

pub returns : goal.returns
returns c =
    let s = c.args.s.now in
    let e : IsTrue c.all.result ↔ EachIndex s (λ k. slice_index s k ≡ 255) = search rules in
    test_same c.all.result (all_blank s) (λ t. all_each s (e.0 t)) (λ t. e.1 (each_all s t))
