use Rattle.std.proofs.Common.{inr, arith}
use Rattle.std.proofs.lemmas.Nat.Bits.{bit_at_ones}
use Rattle.ca_net.specs.State.{value_at}
use Rattle.ca_flat.specs.Chip.{inputs_at}
use Rattle.ca_every_vector.proofs.VectorLemmas.{row_count}
use Rattle.ca_every_vector.proofs.TriedLemmas.{one_row, one_vector}
use Rattle.ca_every_vector.proofs.tried.rows_for.Goals as goal

pub returns-in-None-clause-lasts : goal.returns-in-None-clause-lasts
returns-in-None-clause-lasts c =
    let few = c.linked.ensures.nets.few_pins c.args.u c.requires.placed.known in
    let k = row_count (inputs_at c.args.chip.now.core c.args.u) (omega arith) in
    inr (λ number less over. bit_at_ones 64 number (omega arith))

pub overflow_shl-rows : goal.overflow_shl-rows
overflow_shl-rows c =
    let few = c.linked.ensures.nets.few_pins c.args.u c.requires.placed.known in
    let k = row_count (inputs_at c.args.chip.now.core c.args.u) (omega arith) in
    let within = c.in-Some.ensures.within in
    omega arith

pub returns-then-mask-rows-ne0-clause-lasts : goal.returns-then-mask-rows-ne0-clause-lasts
returns-then-mask-rows-ne0-clause-lasts c =
    let few = c.linked.ensures.nets.few_pins c.args.u c.requires.placed.known in
    let k = row_count (inputs_at c.args.chip.now.core c.args.u) (omega arith) in
    let within = c.in-Some.ensures.within in
    inr (one_vector c.args.chip.now.core c.args.u (value_at c.args.values.now) c.in-Some.number _ c.in-Some.ensures (one_row c.in-Some.number (omega arith)))

pub returns-clause-lasts : goal.returns-clause-lasts
returns-clause-lasts c =
    let few = c.linked.ensures.nets.few_pins c.args.u c.requires.placed.known in
    let k = row_count (inputs_at c.args.chip.now.core c.args.u) (omega arith) in
    let within = c.in-Some.ensures.within in
    inr (one_vector c.args.chip.now.core c.args.u (value_at c.args.values.now) c.in-Some.number _ c.in-Some.ensures (one_row c.in-Some.number (omega arith)))
