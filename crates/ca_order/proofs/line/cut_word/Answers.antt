use Rattle.std.proofs.Common.{◌≡◌, ◌∙◌, ℕ, suc, ◌+◌, List, ◌∷◌, take, drop, length, length-drop, ap, sym}
use Rattle.std.proofs.Common.{arith}
use Rattle.std.proofs.lemmas.List.{take_rest}
use Rattle.ca_order.specs.Lines.{words_of}
use Rattle.ca_order.specs.code.Lines.{word_len}
use Rattle.ca_order.proofs.LineLemmas.{word_here, word_last}
use Rattle.ca_order.proofs.line.cut_word.Goals as goal

pub returns-then-len-text : goal.returns-then-len-text
returns-then-len-text c =
    let text = c.args.text.now in
    let len = c.word_len-len.ensures.len in
    let next : suc (word_len text) ≡ c.word_len-len.result + 1 = omega (arith, len) in
    let rest = take_rest text (c.word_len-len.result + 1) in (
      word_here text (omega (arith, len, c.if-len-text.true))
          ∙ (λ j. take (sym len j) text ∷ words_of (drop (next j) text))
          ∙ ap (λ (rest : List ℕ). take c.word_len-len.result text ∷ words_of rest) (sym rest),
      omega (arith, ap length rest, length-drop (c.word_len-len.result + 1) text, c.if-len-text.true),
    )

pub returns-else-len-text : goal.returns-else-len-text
returns-else-len-text c = word_last c.args.text.now (omega (arith, c.word_len-len.ensures.len, c.if-len-text.false))
