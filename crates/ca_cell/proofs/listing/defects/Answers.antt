use Rattle.std.proofs.Common.{◌≡◌, arith, ap, sym, subst, ◌∙◌, length, List}
use Rattle.std.specs.List.{All}
use Rattle.std.proofs.lemmas.Grind.{common_steps}
use Rattle.ca_cell.specs.Raw.{is_input, role_count, circuit_of}
use Rattle.ca_cell.specs.declared.defect.Defect.{Defect}
use Rattle.ca_cell.specs.List.{defects_of, IsDefectOf}
use Rattle.ca_cell.proofs.MemberLemmas.{all_listed}
use Rattle.ca_cell.proofs.CountLemmas.{length-defects_of}
use Rattle.ca_cell.proofs.listing.defects.Goals as goal

pub returns-clause-listed : goal.returns-clause-listed
returns-clause-listed c =
    let list : c.push_shorts.new.list ≡ defects_of c.args.cell.now = grind (arith, common_steps) in
    subst (λ (listed : List Defect). All (IsDefectOf c.args.cell.now) listed) (sym list)
    (all_listed (circuit_of c.args.cell.now) (role_count is_input c.args.cell.now.pins))

pub returns-clause-count : goal.returns-clause-count
returns-clause-count c =
    let list : c.push_shorts.new.list ≡ defects_of c.args.cell.now = grind (arith, common_steps) in
    ap length list ∙ length-defects_of c.args.cell.now
