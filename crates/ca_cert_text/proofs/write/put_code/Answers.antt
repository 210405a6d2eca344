use Rattle.std.proofs.Common.{◌∙◌, ◌++◌, List, ℕ, ap}
use Rattle.ca_cert_text.specs.CertText.{token_word}
use Rattle.ca_cert_text.proofs.WordLemmas.{words_next}
use Rattle.ca_cert_text.proofs.write.put_code.Goals as goal

pub loop-place-preserved : goal.loop-place-preserved
loop-place-preserved c =
    words_next c.loop-place.text c.args.text.now c.put_token.new.text c.args.code.now c.loop-place.place c.get.result c.get.ensures
    c.loop-place.invariant
    (c.in_ok-put_token.ensures ∙ ap
    (λ (front : List ℕ). front ++ token_word c.get.result) c.in_ok-push.ensures.ok)
