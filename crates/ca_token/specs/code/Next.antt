-- Words of the code beside those of `specs/Next.antt`. Private functions and proofs cite them.
use Rattle.std.specs.Prelude.{List, ◌++◌}
use Rattle.ca_lex.specs.declared.token.Token.{Token}
use Rattle.ca_token.specs.Scan.{Scan}

-- these tokens before those of the rest
abbrev pub with_tokens : List Token → Scan → Scan
with_tokens tokens rest = record { tokens = tokens ++ rest.tokens; flaw = rest.flaw }
