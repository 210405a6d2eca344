use Rattle.std.proofs.Common.{◌≡◌, ◌+◌, ◌<◌, ◌++◌, ◌∷◌, [], not, length, sym, ◌∙◌, ap, arith}
use Rattle.std.proofs.lemmas.List.{length-append}
use Rattle.ca_make.specs.declared.gate.TheConstants.{INPUTS}
use Rattle.ca_make.specs.Chip.{is_loaded}
use Rattle.ca_make.proofs.LoadLemmas.{filter_passed, filter_left_out, mark_is}
use Rattle.ca_make.proofs.loads.outputs.Goals as goal
use Rattle.ca_make.proofs.loads.outputs.Goals.{then-not-index+in_ok-push, else-not-index}

pub loop-k-preserved : goal.loop-k-preserved
loop-k-preserved c =
    let lt : INPUTS + c.loop-k.k < INPUTS + c.len-count.result = omega (arith, c.loop-k-test.true) in
    let mark : c.index.result.now ≡ is_loaded c.args.gates.now (INPUTS + c.loop-k.k) =
    mark_is c.args.gates.now (INPUTS + c.len-count.result) c.in_ok-loads.loads.items (INPUTS + c.loop-k.k)
    c.index.result.now c.in_ok-loads.ensures lt c.index.ensures in
    elim c.if-not-index.branch [
      | then-not-index+in_ok-push w ↦
          let more : c.if-not-index.outputs ≡ c.loop-k.outputs ++ c.loop-k.k ∷ [] =
          w.outputs-is ∙ (w.in_ok-push.ensures {u = tt}).ok in (
            filter_passed (λ k. not (is_loaded c.args.gates.now (INPUTS + k))) c.loop-k.k c.loop-k.outputs
                c.if-not-index.outputs c.loop-k.invariant.0 (ap not (sym mark ∙ w.if-not-index.true)) more,
            let long : length c.if-not-index.outputs ≡ length c.loop-k.outputs + 1 =
                ap length more ∙ length-append c.loop-k.outputs (c.loop-k.k ∷ []) in
                let few = c.loop-k.invariant.1 in
                omega (arith, long, few),
          )
      | else-not-index w ↦ (
        filter_left_out (λ k. not (is_loaded c.args.gates.now (INPUTS + k))) c.loop-k.k c.loop-k.outputs
            c.if-not-index.outputs c.loop-k.invariant.0 (ap not (sym mark ∙ w.if-not-index.false)) w.outputs-is,
        let long : length c.if-not-index.outputs ≡ length c.loop-k.outputs = ap length w.outputs-is in
            let few = c.loop-k.invariant.1 in
            omega (arith, long, few),
      )
    ]
