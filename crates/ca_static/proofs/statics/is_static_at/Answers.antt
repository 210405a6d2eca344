use Rattle.std.proofs.Common.{◌≡◌, ◌≢◌, replicate, sym, ◌∙◌, subst}
use Rattle.std.specs.List.{All}
use Rattle.ca_net.specs.declared.trit.Trit.TheVariants.{X}
use Rattle.ca_net.specs.declared.wave.Wave.{Wave}
use Rattle.ca_cell.specs.Raw.{is_input, role_count, circuit_of}
use Rattle.ca_cell.specs.Row.{vector_of}
use Rattle.ca_response.specs.Outputs.{AreEndsOf}
use Rattle.ca_static.proofs.WaveLemmas.{same_count}
use Rattle.ca_static.proofs.StaticLemmas.{static_of_definite, definite_of_static}
use Rattle.ca_static.proofs.statics.is_static_at.Goals as goal

pub returns-clause-exact : goal.returns-clause-exact
returns-clause-exact c =
    let raw = c.args.cell.now in
    let outputs = c.respond-waves.result.items in
    let ends : AreEndsOf raw (circuit_of raw) (replicate (role_count is_input raw.pins) X) (vector_of (role_count is_input raw.pins) c.args.number) outputs =
    subst (λ n. AreEndsOf raw (circuit_of raw) (replicate n X) (vector_of n c.args.number) outputs) c.inputs.ensures.count
    (c.respond-waves.ensures.ends (replicate c.inputs.result X) (vector_of c.inputs.result c.args.number) (same_count c.inputs.result c.args.number)
    (c.as_slice.ensures.value ∙ c.waves_to-pins.ensures.same)) in
    let count = c.respond-waves.ensures.limits.count in
    let same : c.as_slice-2.result.now ≡ outputs = c.as_slice-2.ensures.value in (
      (λ is. static_of_definite raw c.args.number outputs count ends (subst (All (λ (wave : Wave). wave.last ≢ X)) same (c.are_definite.ensures.0 is))),
      (λ static. c.are_definite.ensures.1 (subst (All (λ (wave : Wave). wave.last ≢ X)) (sym same) (definite_of_static raw c.args.number outputs count ends static))),
    )
