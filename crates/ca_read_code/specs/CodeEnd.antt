-- How the reading of a code ends.
use Rattle.ca_flat.specs.Codes.{Rules}
use Rattle.ca_read_code.specs.Examined.{Examined, rules_for}

-- the rules of the claims on the defect that is aimed at
abbrev pub rules_of : Examined → Rules
rules_of examined = rules_for examined.chip examined.aim
