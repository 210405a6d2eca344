use Rattle.std.proofs.Common.{◌∙◌, ◌++◌, []}
use Rattle.csv.specs.Records.{fields_of}
use Rattle.csv.specs.Writing.{default_writer, row_text}
use Rattle.ca_chip_diag.specs.Texts.{candidates_text}
use Rattle.ca_chip_diag.proofs.WriteLemmas.{one_more, header_first, no_more}
use Rattle.ca_chip_diag.proofs.write.write_candidates.Goals as goal

pub loop-k-init : goal.loop-k-init
loop-k-init c = (
  [] ++ row_text default_writer (fields_of c.fill_header.new.fields),
  c.in_ok-append.ensures [] c.writer_of-writer.ensures,
  header_first c.args.chip.now c.args.defects.now c.args.candidates.now (fields_of c.fill_header.new.fields) c.in_ok-fill_header.ensures,
)

pub loop-k-preserved : goal.loop-k-preserved
loop-k-preserved c =
    let inv = c.loop-k.invariant in (
      inv.0 ++ row_text default_writer (fields_of c.fill.new.fields),
      c.in_ok-append-2.ensures inv.0 inv.1,
      one_more c.args.chip.now c.args.defects.now c.loop-k.k c.args.candidates.now inv.0
          (candidates_text c.args.chip.now c.args.defects.now c.args.candidates.now) c.candidate_at.result (fields_of c.fill.new.fields)
          c.candidate_at.ensures c.in_ok-fill.ensures inv.2,
    )

pub returns : goal.returns
returns c =
    let inv = c.loop-k.invariant in
    c.from_vec.ensures ∙ (c.in_ok-finish.ensures inv.0 inv.1
    ∙ no_more c.args.chip.now c.args.defects.now c.loop-k.k c.args.candidates.now inv.0
    (candidates_text c.args.chip.now c.args.defects.now c.args.candidates.now) c.loop-k-test.false inv.2)
