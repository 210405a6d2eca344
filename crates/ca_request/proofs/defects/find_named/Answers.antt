use Rattle.std.proofs.Common.{rules, inr, sym, subst}
use Rattle.ca_linked.specs.Instances.{IsNamedGate}
use Rattle.ca_request.proofs.defects.find_named.Goals as goal

pub returns-in_ok-from_bytes-in-None-clause-cause : goal.returns-in_ok-from_bytes-in-None-clause-cause
returns-in_ok-from_bytes-in-None-clause-cause c = inr (
  search rules,
  λ u named. c.in-None.ensures.none u (subst (λ name. IsNamedGate c.args.chip.now name u) (sym c.as_bytes.ensures.value) named),
)
