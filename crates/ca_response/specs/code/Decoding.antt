-- What only proofs cite: the waves of input pins that the entries of a table are for, in order.
use Rattle.std.specs.Prelude.{ℕ, zero, suc, ◌-◌, ◌/◌, ◌%◌, ◌==◌, if◌then◌else◌, List, [], ◌∷◌}
use Rattle.ca_net.specs.declared.trit.Trit.{Trit}
use Rattle.ca_net.specs.declared.trit.Trit.TheVariants.{Zero, One, X}
use Rattle.ca_net.specs.declared.wave.Wave.{Wave}
use Rattle.ca_net.specs.Wave.{pair_of}

-- the value of a number below 3
abbrev pub trit_of : ℕ → Trit
trit_of zero = Zero
trit_of (suc zero) = One
trit_of (suc (suc more)) = X

-- the wave of a number among the eleven of a pin
abbrev pub coded_wave : ℕ → Wave
coded_wave code =
    if code == 0 then pair_of Zero Zero
    else (if code == 1 then pair_of One One
    else record { first = trit_of ((code - 2) / 3); mid = X; last = trit_of ((code - 2) % 3) })

-- the waves of this many input pins that the entry at a place is for
unfoldable pub pins_at : ℕ → ℕ → List Wave
pins_at zero place = []
pins_at (suc count) place = coded_wave (place % 11) ∷ pins_at count (place / 11)
