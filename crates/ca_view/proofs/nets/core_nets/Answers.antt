use Rattle.std.proofs.Common.{◌≡◌, ◌∙◌, ◌+◌, ap, sym, subst, arith}
use Rattle.std.specs.Prelude.{if◌then◌else◌}
use Rattle.ca_view.proofs.NumberLemmas.{AreFirstNumbers, first_more, all_numbered}
use Rattle.ca_view.proofs.nets.core_nets.Goals as goal
use Rattle.ca_view.proofs.nets.core_nets.Goals.{then-not-is_scan_path, else-not-is_scan_path}

pub loop-net-preserved : goal.loop-net-preserved
loop-net-preserved c =
    let few = c.loop-net.invariant.few in
    elim c.if-not-is_scan_path.branch [
      | then-not-is_scan_path w ↦
          let off = w.if-not-is_scan_path.ensures {u = tt} in
          subst (λ numbers. AreFirstNumbers c.args.chip.now (c.loop-net.net + 1) numbers c.if-not-is_scan_path.count) (sym (c.in_ok-push.ensures.items))
          (first_more c.args.chip.now c.loop-net.net c.loop-net.numbers.items c.loop-net.count c.if-not-is_scan_path.count c.loop-net.invariant
          (w.count-is ∙ ap (λ b. c.loop-net.count + (if b then 0 else 1)) off) (let e = w.count-is in omega arith))
      | else-not-is_scan_path w ↦
          let on = w.if-not-is_scan_path.ensures {u = tt} in
          subst (λ numbers. AreFirstNumbers c.args.chip.now (c.loop-net.net + 1) numbers c.if-not-is_scan_path.count) (sym (c.in_ok-push.ensures.items))
          (first_more c.args.chip.now c.loop-net.net c.loop-net.numbers.items c.loop-net.count c.if-not-is_scan_path.count c.loop-net.invariant
          (w.count-is ∙ (let e : c.loop-net.count ≡ c.loop-net.count + 0 = omega arith in e) ∙ ap (λ b. c.loop-net.count + (if b then 0 else 1)) on) (let e = w.count-is in omega arith))
    ]

pub returns : goal.returns
returns c =
    all_numbered c.args.chip.now c.loop-net.net c.loop-net.numbers.items c.loop-net.count c.loop-net.invariant
    (let e = c.nets-nets.ensures in let low = c.loop-net.auto.net-end in let high = c.loop-net-test.false in omega arith)
    (let e = c.if-nets.false in let low = c.loop-net.auto.net-end in omega arith)
