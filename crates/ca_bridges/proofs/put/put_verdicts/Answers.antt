use Rattle.std.proofs.Common.{◌≡◌, ◌∙◌, ◌+◌, ◌++◌, ◌∷◌, [], ℕ, List, sym, subst, ap, arith, length, Some}
use Rattle.std.proofs.lemmas.Option.{slice_get_within}
use Rattle.ca_bridges.specs.Numbers.{own_word, word_of}
use Rattle.ca_bridges.specs.code.Numbers.{IsPutUpTo}
use Rattle.ca_bridge_verdicts.specs.declared.verdict.BridgeVerdict.{BridgeVerdict}
use Rattle.ca_bridges.proofs.TargetLemmas.{one_entry}
use Rattle.ca_bridges.proofs.PutLemmas.{put_short, put_own, none_here, put_done}
use Rattle.ca_bridges.proofs.put.put_verdicts.Goals as goal
use Rattle.ca_bridges.proofs.put.put_verdicts.Goals.{then-before-len+then-get-place+in_ok-word_of+in_ok-push, else-before-len+in_ok-push-2, else-before-len-via-then-before-len+else-get-place, else-before-len-via-else-before-len}

pub loop-place-preserved : goal.loop-place-preserved
loop-place-preserved c =
    let targets = c.args.targets.now in
    let numbers = c.args.numbers.now in
    let given = c.args.given.now in
    let words = c.loop-place.words in
    let before = c.loop-place.before in
    let place = c.loop-place.place in
    elim c.if-before-len.branch [
      | then-before-len+then-get-place+in_ok-word_of+in_ok-push w ↦
          let words_are = w.words-is ∙ w.in_ok-push.ensures.ok ∙ ap (λ (word : BridgeVerdict). words ++ word ∷ []) w.in_ok-word_of.ensures in
          subst (λ (ws : List BridgeVerdict). IsPutUpTo targets numbers given ws c.if-before-len.before (place + 1)) (sym words_are)
          (subst (λ (n : ℕ). IsPutUpTo targets numbers given (words ++ word_of w.get-then-get-place.result.now ∷ []) n (place + 1)) (sym w.before-is)
          (put_short targets numbers given words before place c.requires.numbers c.loop-place.invariant w.get-then-get-place.result.now
          (w.get.ensures ∙ ap (λ (n : ℕ). Some n) w.if-get-place.true) w.get-then-get-place.ensures))
      | else-before-len+in_ok-push-2 w ↦
          let words_are = w.words-is ∙ w.in_ok-push-2.ensures.ok ∙ ap (λ (word : BridgeVerdict). words ++ word ∷ []) w.own_word.ensures in
          let none = none_here targets numbers given words before place c.requires.numbers c.loop-place.invariant
          (elim w.else-before-len.branch [
            | else-before-len-via-then-before-len+else-get-place v ↦ λ m at e. v.if-get-place.false (one_entry numbers before v.get.result m v.get.ensures at ∙ e)
            | else-before-len-via-else-before-len v ↦ λ m at e.
                let within = slice_get_within numbers before m at in
                let long = c.len.ensures in
                let past = v.if-before-len.false in
                omega (arith, within, long, past)
          ]) in
          subst (λ (ws : List BridgeVerdict). IsPutUpTo targets numbers given ws c.if-before-len.before (place + 1)) (sym words_are)
          (subst (λ (n : ℕ). IsPutUpTo targets numbers given (words ++ own_word w.get-else-before-len.result ∷ []) n (place + 1)) (sym w.before-is)
          (put_own targets numbers given words before place c.requires.numbers c.loop-place.invariant w.get-else-before-len.result
          w.get-else-before-len.ensures none))
    ]

pub returns : goal.returns
returns c =
    let targets = c.args.targets.now in
    let past : c.loop-place.place ≡ length targets = omega (arith, c.loop-place-test.false, c.len-place-end.ensures, c.loop-place.auto.place-end) in
    put_done targets c.args.numbers.now c.args.given.now c.loop-place.words c.loop-place.before c.requires.numbers
    (subst (λ (n : ℕ). IsPutUpTo targets c.args.numbers.now c.args.given.now c.loop-place.words c.loop-place.before n) past c.loop-place.invariant)
