use Rattle.std.proofs.lemmas.List.Elements.{All-contains}
use Rattle.ca_cell.specs.Raw.{is_input, role_count, circuit_of}
use Rattle.ca_cell.specs.List.{defects_of, IsDefectOf}
use Rattle.ca_cell.proofs.MemberLemmas.{all_listed, contained}
use Rattle.ca_cell.proofs.CountLemmas.{length-defects_of}
use Rattle.ca_cell.proofs.defect_laws.lists_defects.Goals as goal

pub returns : goal.returns
returns c = λ raw. record {
  listed = λ defect. (
    All-contains (IsDefectOf raw) (defects_of raw) defect (all_listed (circuit_of raw) (role_count is_input raw.pins)),
    contained (circuit_of raw) (role_count is_input raw.pins) defect,
  );
  count = length-defects_of raw;
}
