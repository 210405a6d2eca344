use Rattle.std.proofs.Common.{refl}
use Rattle.std.specs.Prelude.{slice_index}
use Rattle.ca_every_vector.proofs.MaskLemmas.{here, added_more}
use Rattle.ca_every_vector.proofs.masks.add.Goals as goal

pub returns-clause-added : goal.returns-clause-added
returns-clause-added c = here c.args.masks.now c.args.u c.args.rows (slice_index c.args.masks.now c.args.u) c.requires refl

pub returns-clause-more : goal.returns-clause-more
returns-clause-more c = added_more c.args.masks.now c.args.u c.args.rows (slice_index c.args.masks.now c.args.u) c.requires refl
