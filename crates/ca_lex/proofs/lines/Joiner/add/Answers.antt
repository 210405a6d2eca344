use Rattle.ca_lex.proofs.LineLemmas.{nothing_adds, more_adds, stray_adds, info_adds, card_adds}
use Rattle.ca_lex.proofs.lines.Joiner.add.Goals as goal

pub returns-in-Nothing : goal.returns-in-Nothing
returns-in-Nothing c = record { ok = λ more. rw c.in-Nothing.is (nothing_adds _ _ _ more) }

pub returns-in_ok-append-in-Some : goal.returns-in_ok-append-in-Some
returns-in_ok-append-in-Some c = record {
  ok = λ more. rw (c.in-Continuation.is, c.in-Some.is)
      (more_adds _ c.in-Some.card _ c.in-Continuation.text.now _ more (cc (c.in_ok-append-in-Some.ensures.ok, c.in_ok-push-in-Some.ensures.ok)));
}

pub returns-in_ok-push-in-None : goal.returns-in_ok-push-in-None
returns-in_ok-push-in-None c = record {
  ok = λ more. rw (c.in-Continuation.is, c.in-None.is)
      (stray_adds _ _ _ c.in-Continuation.text.now more (cc (c.in_ok-push-in-None.ensures.items, c.in_ok-text-in-None.ensures.ok)));
}

pub returns-in_ok-push-in-PinInfo : goal.returns-in_ok-push-in-PinInfo
returns-in_ok-push-in-PinInfo c = record {
  ok = λ more. rw c.in-PinInfo.is
      (info_adds _ _ _ _ _ c.in-PinInfo.text.now more
      (cc (c.in_ok-push-in-PinInfo.ensures.items, c.in_ok-close-in-PinInfo.ensures.lines, c.in_ok-text-in-PinInfo.ensures.ok)) c.in_ok-close-in-PinInfo.ensures.none);
}

pub returns-in_ok-text-in-Card : goal.returns-in_ok-text-in-Card
returns-in_ok-text-in-Card c = record {
  ok = λ more. rw (c.in-Card.is, ← c.in_ok-text-in-Card.ensures.ok)
      (card_adds _ _ _ _ c.in_ok-text-in-Card.text more c.in_ok-close-in-Card.ensures.lines);
}
