use Rattle.std.proofs.Common.{◌-◌, ◌∷◌, length, take, drop, sym, ap, ◌∙◌}
use Rattle.std.specs.Option.{unwrap_or}
use Rattle.protocol.specs.Words.{words}
use Rattle.protocol.proofs.Lines.{words_none, word_is}
use Rattle.protocol.proofs.words.next_word.Goals as goal

pub returns-in_err-from : goal.returns-in_err-from
returns-in_err-from c = rw c.from_residual.ensures (words_none c.args.line.now c.in_err-from.ensures)

pub returns : goal.returns
returns c =
    let line = c.args.line.now in
    let from = c.in_ok-from.from in
    let ends = c.unwrap_or-to.ensures ∙ ap (λ o. unwrap_or o (length (take (length line - from) (drop from line)))) c.end.ensures in
    word_is line from c.unwrap_or-to.result c.in_ok-from.ensures ends
    ∙ sym (ap (λ w. w ∷ words c.split_at.result.1.now) c.split_at.ensures.front ∙ ap (λ r. take c.unwrap_or-to.result (take (length line - from) (drop from line)) ∷ words r) c.split_at.ensures.back)
