use Rattle.ca_linked.specs.declared.parts.Part.{Part}
use Rattle.ca_linked.specs.Linked.{net_count}
use Rattle.ca_scan_tests.specs.code.Fits.{AllBefore, IsFit}
use Rattle.ca_scan_tests.proofs.drafts.parts_fit.Given as goal

abbrev pub invariant-loop-u : goal.invariant-loop-u
invariant-loop-u l = AllBefore (λ (part : Part). IsFit (net_count l.draft) part.body) l.u l.draft.parts
