use Rattle.std.proofs.Common.{inl, refl}
use Rattle.ca_cert_text.proofs.LineLemmas.{no_head_end, no_head_line}
use Rattle.ca_cert_text.proofs.read.read_certificate.Goals as goal

pub returns-in_default : goal.returns-in_default
returns-in_default c = record {
  exact = inl (refl, no_head_end c.args.bytes.now c.cut.result.0.now c.cut.result.1.now c.cut.ensures.only c.in_default.len_below);
}

pub returns-in_default-budget_of : goal.returns-in_default-budget_of
returns-in_default-budget_of c = record {
  exact = inl (refl, no_head_line c.args.bytes.now c.cut.result.0.now c.cut.result.1.now c.cut.ensures.only c.in_default-budget_of.ensures);
}
