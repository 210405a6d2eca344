use Rattle.std.proofs.Common.{◌∙◌, subst}
use Rattle.ca_lex.specs.Reading.{IsFault}
use Rattle.ca_verilog.specs.VerilogFault.{fault_reported}
use Rattle.ca_verilog.specs.Text.{netlist_of}
use Rattle.ca_make_laws.proofs.ChipReadLemmas.{chip_read, same_reading, no_fault}
use Rattle.ca_make_laws.proofs.reading.made_netlist.Goals as goal

pub returns-in-Ok-clause-netlist : goal.returns-in-Ok-clause-netlist
returns-in-Ok-clause-netlist c =
    same_reading netlist_of _ _ _ _ (c.as_bytes.ensures ∙ c.in_ok-text.ensures {u = tt}) (chip_read c.args.n c.requires)
    (c.in-Ok.ensures {u = tt}).exact

pub unreachable-requires : goal.unreachable-requires
unreachable-requires c =
    no_fault netlist_of _ _ _ _ (c.as_bytes.ensures ∙ c.in_ok-text.ensures {u = tt}) (chip_read c.args.n c.requires)
    (subst (λ f. IsFault (fault_reported f) (netlist_of c.as_bytes.result.now)) c.in-Err-At.field-0-is
    (c.in-Err-At.ensures {u = tt}).exact)

pub unreachable-requires-in-Err-TooManyNets : goal.unreachable-requires-in-Err-TooManyNets
unreachable-requires-in-Err-TooManyNets c =
    no_fault netlist_of _ _ _ _ (c.as_bytes.ensures ∙ c.in_ok-text.ensures {u = tt}) (chip_read c.args.n c.requires)
    (subst (λ f. IsFault (fault_reported f) (netlist_of c.as_bytes.result.now)) c.in-Err-TooManyNets.field-0-is
    (c.in-Err-TooManyNets.ensures {u = tt}).exact)
