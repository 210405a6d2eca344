use Rattle.std.proofs.Common.{◌≡◌, ◌∙◌, sym, subst, ap}
use Rattle.std.specs.List.{All}
use Rattle.ca_lex.specs.Words.{words_of, upper_case}
use Rattle.ca_spice.specs.code.Names.{texts}
use Rattle.ca_spice.specs.code.Kept.{IsUpper}
use Rattle.ca_spice.proofs.UpperLemmas.{words_of-upper}
use Rattle.ca_spice.proofs.reading.Reading.line.Goals as goal

pub words-requires : goal.words-requires
words-requires c =
    let words : texts c.deref.result.now ≡ words_of (upper_case c.args.line.now.text) =
    ap texts c.deref.ensures.value ∙ c.in-Ok-spice_words.ensures.ok
    ∙ ap words_of (c.as_bytes-2.ensures ∙ c.in-Ok.ensures.ok ∙ ap upper_case c.as_bytes.ensures) in
    subst (All IsUpper) (sym words) (words_of-upper c.args.line.now.text)
