use Rattle.std.proofs.Common.{◌∙◌}
use Rattle.ca_spice.proofs.MosLemmas.{params_left}
use Rattle.ca_spice.proofs.mos.are_params.Goals as goal

pub returns : goal.returns
returns c = c.is_empty.ensures ∙ params_left c.params.rest.now c.in_default.len_below ∙ c.params.invariant
