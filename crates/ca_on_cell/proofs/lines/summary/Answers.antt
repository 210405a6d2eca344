use Rattle.ca_on_cell.proofs.LineLemmas.{summary_made}
use Rattle.std.proofs.Common.{ap, ◌∙◌, ◌++◌}
use Rattle.std.specs.Prelude.{decimal}
use Rattle.ca_on_cell.proofs.lines.summary.Goals as goal

pub returns : goal.returns
returns c = record {
  exposable = c.exposable_count.result;
  counted = c.exposable_count.ensures.shown;
  is = summary_made _ _ _ _ _ _ _ _ _ _ _ c.new-text.ensures (c.in_ok-append.ensures).ok
      (c.in_ok-add_number.ensures ∙ ap (λ number. c.append.new.self ++ decimal number) c.defect_count.ensures.count)
      (c.in_ok-append-2.ensures).ok c.in_ok-add_number-2.ensures (c.in_ok-append-3.ensures).ok
      (c.in_ok-add_number-3.ensures ∙ ap (λ number. c.append-3.new.self ++ decimal number) c.record_count.ensures)
      (c.in_ok-append-4.ensures).ok;
}
