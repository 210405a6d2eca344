-- Instances that are given by their cells.
use Rattle.std.proofs.Common.{◌≢◌, ℕ, ◌<◌, List, sym, ◌∙◌, ap, subst}
use Rattle.ca_net.specs.declared.trit.Trit.{Trit}
use Rattle.ca_net.specs.declared.trit.Trit.TheVariants.{X}
use Rattle.ca_net.specs.declared.wave.Wave.{Wave}
use Rattle.ca_net.specs.State.{value_at}
use Rattle.ca_cell.specs.Row.{vector_of}
use Rattle.ca_flat.specs.Chip.{Chip, cell_at, inputs_at, outputs_at, net_of, output_net}
use Rattle.ca_flips.specs.Static.{EndsByLast}
use Rattle.ca_flips.specs.Flips.{vector_at}
use Rattle.ca_flips.proofs.PinLemmas.{vector_at_pin}
use Rattle.ca_static.specs.LastTable.{IsLastTable}
use Rattle.ca_sweep.specs.code.Changes.{IsNumberOf}
use Rattle.ca_every_vector.specs.code.Spread.{IsGiven, HasEntry}
use Rattle.ca_every_vector.proofs.VectorLemmas.{vector_definite}

module _ (chip : Chip) (w : ℕ) (values : ℕ → Trit) (number : ℕ) (is : IsNumberOf (inputs_at chip w) (vector_at chip w values) number) where
  -- the values of the input nets are known where they are a vector
  pub known_pins : (pin : ℕ) → pin < inputs_at chip w → values (net_of chip w pin) ≢ X
  known_pins pin within e = vector_definite (inputs_at chip w) number pin within
      (ap (λ v. value_at v pin) is.vector_is ∙ vector_at_pin chip w values pin within ∙ e)

  pub given_by : (table : List (List Wave)) → IsLastTable (cell_at chip w) table → HasEntry chip w values table number (outputs_at chip w) → IsGiven chip w values
  given_by table of entry = record {
    known = known_pins;
    evaluated = λ output within. subst (λ v. EndsByLast (cell_at chip w) v output (values (output_net chip w output))) is.vector_is
        (subst (EndsByLast (cell_at chip w) (vector_of (inputs_at chip w) number) output) (sym (entry output within)) (of.each number output is.within within));
  }
