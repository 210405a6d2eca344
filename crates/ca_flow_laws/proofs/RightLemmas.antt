-- Of a text it can't be that it has no right patterns of a chip and that nothing of it is wrong.
use Rattle.std.proofs.Common.{ℕ, zero, suc, ◌≡◌, ◌≤◌, ◌<◌, ◌⊎◌, ◌∙◌, inl, inr, refl, sym, subst, arith, Bool, List, [], length}
use Rattle.std.proofs.Common.{Result, Ok, Err}
use Rattle.std.specs.Prelude.{slice_index_or, ⊤}
use Rattle.std.proofs.Math.Decide.{dec_le, dec_lt}
use Rattle.std.proofs.lemmas.List.{length-map}
use Rattle.ca_net.specs.declared.trit.Trit.{Trit}
use Rattle.ca_cell.specs.Library.{Named}
use Rattle.ca_verilog.specs.declared.raw.RawNetlist.{RawNetlist}
use Rattle.ca_flat.specs.Chip.{Chip}
use Rattle.ca_linked.specs.Linked.{LinkedChip, outputs_of}
use Rattle.ca_view.specs.Core.{core_net, core_of}
use Rattle.ca_wiring.specs.declared.scan_row.ScanRow.{ScanRow}
use Rattle.ca_scan.specs.ChainFault.{AreAllChains}
use Rattle.ca_code.specs.Filled.{trits_of}
use Rattle.ca_credit.specs.declared.limit.TheConstants.{MOST_PAIRS}
use Rattle.ca_expected.specs.Expected.{AreGoodEnds, AreExpected}
use Rattle.ca_expected.specs.Wrong.{IsRightAt, IsFirstWrong}
use Rattle.ca_stil_form.specs.Reading.{whole}
use Rattle.ca_stil_form.specs.Tokens.{tokens_of}
use Rattle.ca_stil_form.specs.Whole.{stil_form}
use Rattle.ca_stil_form.specs.Whole as form
use Rattle.ca_stil_laws.specs.Laws.{IsNamedLink}
use Rattle.ca_stil_read.specs.Line.{fault_line}
use Rattle.ca_stil_pairs.specs.declared.file.StilFile.{StilFile}
use Rattle.ca_stil_pairs.specs.Chip.{chip_part, part_of}
use Rattle.ca_chip_stil.specs.ChipStil.{stil_chip}
use Rattle.ca_chip_pairs.specs.Laws.{HasChipFile, TextOfLinkedChipIsFile}
use Rattle.ca_fault.specs.declared.fault.LimitKind.TheVariants as limit
use Rattle.ca_fault.specs.declared.fault.Fault.{Fault}
use Rattle.ca_fault.specs.declared.fault.Fault.TheVariants.{Stil, StilChip, Expected, Limit}
use Rattle.ca_patterns.specs.Patterns.{IsPatternsOf, AreFew, IsStilCause, IsStilFault}
use Rattle.ca_flow_laws.specs.Same.{IsInputFault}
use Rattle.ca_flow_laws.proofs.FirstLemmas.{either}

-- of numbers below `n` some is the first of which this doesn't hold, or it holds of all
first_or : (n : ℕ) (P : ℕ → Type 0)
    → ((k : ℕ) → k < n → ((j : ℕ) → j < k → P j) → ¬ (P k) → ⊥)
    → (((k : ℕ) → k < n → P k) → ⊥) → ⊥
first_or zero P none refutes = refutes (λ k below. absurd (omega (arith, below)))
first_or (suc n) P none refutes =
    first_or n P (λ k below. none k (omega (arith, below))) (λ all. either (P n) (λ found. elim found [
      | inl here ↦ refutes (λ k below. elim (dec_lt k n) [
        | yes inside ↦ all k inside
        | no past ↦ (let is : n ≡ k = omega (arith, below, past) in subst P is here)
      ])
      | inr not ↦ none n (omega arith) all not
    ]))

-- expected values are right, or some is the first that is wrong
module _ (chip : Chip) (pairs : List (List Bool)) (rows : List (List Trit)) (counted : length rows ≡ length pairs)
    (long : (place : ℕ) → place < length pairs → length (slice_index_or rows place []) ≡ length chip.outputs) where
  right_or : ((pair output : ℕ) → IsFirstWrong chip pairs rows (record { pair = pair; output = output }) → ⊥)
      → (AreExpected chip pairs rows → ⊥) → ⊥
  right_or none refutes = first_or (length pairs) are_right at_pair (λ all. refutes (record { count = counted; each = all }))
    where
      are_right : ℕ → Type 0
      are_right place = AreGoodEnds chip (trits_of (slice_index_or pairs place [])) (slice_index_or rows place [])

      at_pair : (place : ℕ) → place < length pairs → ((before : ℕ) → before < place → are_right before) → ¬ (are_right place) → ⊥
      at_pair place below before not =
          first_or (length chip.outputs) (IsRightAt chip (trits_of (slice_index_or pairs place [])) (slice_index_or rows place []))
          (λ output inside earlier wrong. none place output (record {
            within = below;
            before = before;
            here = record { within = inside; before = earlier; here = wrong };
          }))
          (λ all. not (record { count = long place below; each = all }))

-- a fault of patterns is one of input
pub stil_reported : (fault : Fault) → IsStilFault fault → IsInputFault fault
stil_reported (Stil line) is = tt
stil_reported StilChip is = tt
stil_reported (Limit kind count) is = tt
stil_reported (Expected pair output) is = tt
stil_reported fault is = absurd is

module _ (law : TextOfLinkedChipIsFile) (netlist : RawNetlist) (library : List Named) (scan : List ScanRow) (chip : LinkedChip)
    (chains : List (List ℕ)) (named : IsNamedLink netlist library scan chip) (all : AreAllChains chip chains) (bytes : List ℕ)
    (none : (fault : Fault) → IsStilFault fault → IsStilCause chip chains fault bytes → ⊥) where
  -- a text has right patterns, or there is a cause against it
  pub patterns_or : ((file : StilFile) → IsPatternsOf chip chains file bytes → AreFew file
      → AreExpected (core_of chip) file.pairs file.expected → ⊥) → ⊥
  patterns_or refutes = by (whole stil_form (tokens_of bytes)) refl
    where
      long : (has : HasChipFile chip chains bytes) (place : ℕ) → place < length has.file.pairs
          → length (slice_index_or has.file.expected place []) ≡ length (core_of chip).outputs
      long has place below =
          let counted = has.fits.counted in
          has.fits.values place [] (omega (arith, below, counted)) ∙ sym (length-map (outputs_of chip) (core_net chip))

      at_file : HasChipFile chip chains bytes → ⊥
      at_file has = elim (dec_le (length has.file.pairs) MOST_PAIRS) [
        | no many ↦ none (Limit limit.Pairs (length has.file.pairs)) tt
            (record { file = has.file; is = has.is; counted = refl; many = omega (arith, many) })
        | yes few ↦ right_or (core_of chip) has.file.pairs has.file.expected (sym has.fits.counted) (long has)
            (λ pair output wrong. none (Expected pair output) tt (record { file = has.file; is = has.is; few = few; wrong = wrong }))
            (λ right. refutes has.file has.is few right)
      ]

      by : (given : Result form.Stil ℕ) → whole stil_form (tokens_of bytes) ≡ given → ⊥
      by (Err left) is = none (Stil (fault_line bytes left)) tt (record { left = left; faulty = is; is_line = refl })
      by (Ok value) is = either (chip_part value ≡ part_of (stil_chip chip chains)) (λ found. elim found [
        | inr other ↦ none StilChip tt (record { value = value; reads = is; other = other })
        | inl same ↦ at_file (law netlist library scan chip chains bytes value named all is same)
      ])
