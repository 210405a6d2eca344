use Rattle.std.proofs.Common.{sym, refl}
use Rattle.ca_lex.proofs.WordLemmas.{skipped, all_words}
use Rattle.ca_lex.proofs.words.spice_words.Goals as goal

pub words-preserved-then-is_blank : goal.words-preserved-then-is_blank
words-preserved-then-is_blank c = skipped _ _ c.words.rest.now _ c.in-len1-up.len_at_least (sym c.if-is_blank.ensures) refl c.words.invariant

pub returns : goal.returns
returns c = record { ok = all_words _ _ c.words.rest.now c.in_default.len_below c.words.invariant }
