-- `Account::serve` meets its contract. The score is compared with T as the definition compares it; one below T fits 32 bits. Assumes nothing.
use mathlib.Core.Path.{sym, ◌∙◌}
use Rattle.account.specs.ServeLaws.{serve-switched, serve_stayed, serve_accounted}
use Rattle.account.proofs.Account.serve.Goals as goal

pub returns-then-limit-score : goal.returns-then-limit-score
returns-then-limit-score c =
    let over =
    rw (c.limit.ensures, c.scored-score.ensures) at c.if-limit-score.true in
    serve_accounted _ _ _ c.requires
    (c.switched.ensures ∙
    sym (serve-switched c.args.tariff c.args.self c.args.request over))

pub returns-else-limit-score : goal.returns-else-limit-score
returns-else-limit-score c =
    let score = c.scored-score.ensures in
    let below = rw (c.limit.ensures, score) at c.if-limit-score.false in
    serve_accounted _ _ _ c.requires
    (c.stayed.ensures ∙
    rw score (sym (serve_stayed c.args.tariff c.args.self c.args.request below)))
