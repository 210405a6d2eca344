use Rattle.std.proofs.Common.{◌≡◌, ◌+◌, ◌<◌, ◌≤◌, ◌++◌, ◌∷◌, [], length, ◌∙◌, ap, arith}
use Rattle.std.proofs.lemmas.List.{length-append}
use Rattle.ca_make.specs.declared.gate.TheConstants.{INPUTS}
use Rattle.ca_make.specs.Draw.{gates_from}
use Rattle.ca_make.specs.Chip.{gates_of}
use Rattle.ca_make.proofs.GateLemmas.{gates_next, gates_end, all_next}
use Rattle.ca_make.proofs.draw.gates.Goals as goal

pub loop-k-preserved : goal.loop-k-preserved
loop-k-preserved c =
    let more : c.push.new.self ≡ c.loop-k.gates ++ c.gate.result ∷ [] = (c.in_ok-push.ensures {u = tt}).ok in
    let lt : c.loop-k.k < c.args.n = c.loop-k-test.true in (
      gates_next c.loop-k.k c.args.n c.loop-k.draws.state c.gate.new.self.state c.loop-k.gates c.push.new.self
          c.gate.result (gates_from c.args.n INPUTS c.args.n) lt more c.gate.ensures.gate c.gate.ensures.state
          c.loop-k.invariant.0,
      ap length more ∙ length-append c.loop-k.gates (c.gate.result ∷ []) ∙ ap (λ m. m + 1) c.loop-k.invariant.1,
      all_next c.loop-k.k c.args.n c.loop-k.gates c.push.new.self c.gate.result lt more c.gate.ensures.within
          c.loop-k.invariant.2,
    )

pub returns-clause-gates : goal.returns-clause-gates
unfolding gates_of
returns-clause-gates c =
    let le : c.args.n ≤ c.loop-k.k = omega arith in
    gates_end c.loop-k.k c.args.n c.loop-k.draws.state (INPUTS + c.loop-k.k) c.loop-k.gates
    (gates_from c.args.n INPUTS c.args.n) le c.loop-k.invariant.0
