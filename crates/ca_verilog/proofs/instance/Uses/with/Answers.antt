use Rattle.std.proofs.Common.{◌∙◌, ap}
use Rattle.ca_names.specs.Names.{with_name}
use Rattle.ca_verilog.specs.declared.instance.Use.{Use}
use Rattle.ca_verilog.proofs.KnownLemmas.{known_with}
use Rattle.ca_verilog.proofs.instance.Uses.with.Goals as goal

pub invariant_of-result : goal.invariant_of-result
invariant_of-result c =
    known_with (λ (used : Use). used.pin) c.self.inside.names c.add.new.self _ c.push.new.self _ c.self.invariant
    (c.in_ok-add.ensures.names ∙ ap (λ name. with_name name c.self.inside.names) c.as_bytes.ensures) c.in_ok-push.ensures.ok
