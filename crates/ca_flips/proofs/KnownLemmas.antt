-- Known lasts are at or below the good ones.
use Rattle.std.proofs.Common.{None, refl, sym, ap, subst}
use Rattle.ca_net.specs.declared.wave.Wave.{Wave}
use Rattle.ca_net.specs.Trit.{IsBelow}
use Rattle.ca_flat.specs.Chip.{output_net}
use Rattle.ca_flat.specs.Simulation.{IsFlattened}
use Rattle.ca_flat.proofs.InstanceWaves.{input_wave}
use Rattle.ca_flat.proofs.NetInduction.{net_induction}
use Rattle.ca_flips.specs.Flips.{lasts_of}
use Rattle.ca_flips.specs.Laws.{KnownLastsAreGood}
use Rattle.ca_flips.proofs.CellLemmas.{below_if}
use Rattle.ca_flips.proofs.PinLemmas.{output_is}

pub known_lasts_are_good_lem : KnownLastsAreGood
known_lasts_are_good_lem chip rank pair good values net is formed known within =
    let flattened : IsFlattened chip rank None = record { chip_is = is; defect_is = tt; formed = formed } in
    net_induction chip rank is (λ net. IsBelow (values net) (lasts_of good net))
    (λ net within kind. subst (IsBelow (values net)) (sym (ap (λ (w : Wave). w.last) (input_wave chip rank None flattened pair good net within kind))) (known.inputs net within kind))
    (λ u lt pins output within. below_if _ _ (λ definite.
    output_is chip rank None flattened u lt pair good refl values output (values (output_net chip u output)) within (known.outputs u output lt within definite) pins))
    net within
