use Rattle.std.proofs.Common.{◌≡◌, ◌^◌, ◌+◌, replicate, ap, sym, ◌∙◌, subst, arith}
use Rattle.ca_cell.specs.Raw.{is_input, role_count, circuit_of}
use Rattle.ca_cell.specs.Row.{vector_of}
use Rattle.ca_response.specs.Outputs.{AreEndsOf}
use Rattle.ca_net.specs.declared.trit.Trit.TheVariants.{X}
use Rattle.ca_static.proofs.WaveLemmas.{same_count}
use Rattle.ca_static.proofs.StaticLemmas.{each_of_static, ends_with_lasts}
use Rattle.ca_static.proofs.TableLemmas.{filled_more, filled_all, entries_pushed}
use Rattle.ca_static.proofs.last_table.LastTable.of_static.Goals as goal

pub loop-number-preserved : goal.loop-number-preserved
loop-number-preserved c =
    let raw = c.args.cell.now in
    let number = c.loop-number.number in
    let outputs = c.respond.result.items in
    let ends : AreEndsOf raw (circuit_of raw) (replicate (role_count is_input raw.pins) X) (vector_of (role_count is_input raw.pins) number) outputs =
    subst (λ n. AreEndsOf raw (circuit_of raw) (replicate n X) (vector_of n number) outputs) c.inputs-in-loop-number.ensures.count
    (c.respond.ensures.ends (replicate c.inputs-in-loop-number.result X) (vector_of c.inputs-in-loop-number.result number)
    (same_count c.inputs-in-loop-number.result number) (c.as_slice.ensures.value ∙ c.waves_to-pins.ensures.same)) in
    let count = c.respond.ensures.limits.count in
    record {
      filled = filled_more raw number _ _ outputs c.loop-number.invariant.filled count
          (ends_with_lasts raw number outputs count ends (each_of_static raw c.requires.is_static number))
          (entries_pushed c.loop-number.entries.items c.push.new.self.items c.respond.result c.in_ok-push.ensures.items);
      room = c.respond.ensures.kept;
    }

pub returns-clause-ok : goal.returns-clause-ok
returns-clause-ok c =
    let raw = c.args.cell.now in
    let all : c.loop-number.number ≡ 2 ^ role_count is_input raw.pins =
    let end : c.loop-number.number ≡ c.pow-vectors.result = omega (arith, c.loop-number.auto.number-end, c.loop-number-test.false) in
    end ∙ c.pow-vectors.ensures ∙ ap (λ n. 2 ^ n) c.inputs.ensures.count in
    filled_all raw c.loop-number.number _ c.requires.is_static all c.loop-number.invariant.filled
