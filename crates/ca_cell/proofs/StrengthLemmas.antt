-- The strength that a table gives is that of some transistor.
use Rattle.std.proofs.Common.{ℕ, ◌+◌, ◌≤◌, Bool, true, false, arith}
use Rattle.ca_net.specs.declared.scale.TheConstants.{WEAKEST, STRONGEST}
use Rattle.ca_net.specs.declared.device.DeviceKind.{DeviceKind}
use Rattle.ca_net.specs.declared.device.DeviceKind.TheVariants.{N, P}
use Rattle.ca_cell.specs.declared.strength.StrengthTable.{StrengthTable}
use Rattle.ca_cell.specs.Strength.{one_if, reaches, strength_of}

pub one_if-most : (is : Bool) → one_if is ≤ 1
one_if-most true = omega arith
one_if-most false = omega arith

pub strength_of-least : (table : StrengthTable) (width channel : ℕ) → WEAKEST ≤ strength_of table width channel
strength_of-least table width channel = omega arith

pub strength_of-most : (table : StrengthTable) (width channel : ℕ) → strength_of table width channel ≤ STRONGEST
strength_of-most table width channel =
    let first = one_if-most (reaches table.first width channel) in
    let second = one_if-most (reaches table.second width channel) in
    let third = one_if-most (reaches table.third width channel) in
    let fourth = one_if-most (reaches table.fourth width channel) in
    let fifth = one_if-most (reaches table.fifth width channel) in
    omega (arith, first, second, third, fourth, fifth)
