-- The wave of an input of a pair is a wave.
use Rattle.std.proofs.Common.{◌≡◌, [], ◌∷◌, sym, subst}
use Rattle.std.specs.List.{All}
use Rattle.std.proofs.lemmas.List.Elements.{All-nil, All-cons}
use Rattle.ca_net.specs.declared.trit.Trit.{Trit}
use Rattle.ca_net.specs.declared.wave.Wave.{Wave}
use Rattle.ca_net.specs.Wave.{IsWave, pair_of}
use Rattle.ca_parts.proofs.TritLemmas.{meet_left, meet_right}

pub pair_is_wave : (wave : Wave) (first last : Trit) → wave ≡ pair_of first last → IsWave wave
pair_is_wave wave first last is = subst IsWave (sym is) (record { below_first = meet_left first last; below_last = meet_right first last })

pub five_waves : (v w x y z : Wave) → IsWave v → IsWave w → IsWave x → IsWave y → IsWave z → All IsWave (v ∷ w ∷ x ∷ y ∷ z ∷ [])
five_waves v w x y z is_v is_w is_x is_y is_z =
    All-cons IsWave v (w ∷ x ∷ y ∷ z ∷ []) is_v (All-cons IsWave w (x ∷ y ∷ z ∷ []) is_w
    (All-cons IsWave x (y ∷ z ∷ []) is_x (All-cons IsWave y (z ∷ []) is_y (All-cons IsWave z [] is_z (All-nil IsWave)))))
