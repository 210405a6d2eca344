-- Cards, and what they make of a reading.
use Rattle.std.proofs.Common.{◌≡◌, ℕ, ◌≤◌, List, Bool, true, false, [], ◌∷◌, ◌++◌, length, get_or, Option}
use Rattle.std.proofs.Common.{Some, None, Result, Ok, Err, sym, ap, ◌∙◌, ◌||◌, append-nil, zero-add, arith}
use Rattle.std.proofs.Common.{subst, cond, refl}
use Rattle.std.specs.Prelude.{option_map}
use Rattle.std.specs.List.{All}
use Rattle.std.specs.Prelude.{IsErrAnd}
use Rattle.std.proofs.lemmas.List.{map-append}
use Rattle.std.proofs.lemmas.List.Elements.{All-head, All-tail}
use Rattle.ca_cell.specs.declared.strength.StrengthTable.{StrengthTable}
use Rattle.ca_cell.specs.declared.raw.RawPin.{RawPin}
use Rattle.ca_cell.specs.declared.raw.RawDevice.{RawDevice}
use denote.Bor.{Bor}
use Rattle.ca_lex.specs.Reading.{IsFault, Gives, unless}
use Rattle.ca_spice.specs.declared.fault.SpiceKind.{SpiceKind}
use Rattle.ca_spice.specs.declared.fault.SpiceKind.TheVariants.{BadCard, BadLength, DoubleName}
use Rattle.ca_spice.specs.declared.fault.Refusal.{Refusal}
use Rattle.ca_spice.specs.declared.open_cell.OpenCell as code
use Rattle.ca_spice.specs.declared.pin.Pin.{Pin}
use Rattle.ca_spice.specs.declared.subcircuit.Subcircuit.{Subcircuit}
use Rattle.ca_names.specs.Names.{has_name, with_name, has_double}
use Rattle.ca_spice.specs.code.Names.{texts}
use Rattle.ca_spice.specs.Mos.{Wiring, Sizes, wiring_of, sizes_of, ends_of, resistor_sizes}
use Rattle.ca_spice.specs.OpenCell.{OpenCell, new_cell, has_device, with_device, wired, mos, resistor, pins_after}
use Rattle.ca_spice.specs.code.SpiceFault.{kind_reported}
use Rattle.ca_spice.specs.Reading.{Reading, is_outside, has_cell, with_open, named}
use Rattle.ca_spice.specs.code.Kept.{IsPlaced, IsUpper, names_of}
use Rattle.ca_spice.specs.code.Named.{open_names}
use Rattle.ca_spice.specs.code.Views.{cell_seen}
use Rattle.ca_spice.proofs.CellLemmas.{has_name-cells, pins_after-length}
use Rattle.ca_spice.proofs.PinLemmas.{following, following-cons}

-- an M card whose words say its wiring and its sizes
pub mos-is : (table : StrengthTable) → (name : List ℕ) (words : List (List ℕ)) (cell : OpenCell) (wiring : Wiring) (sizes : Sizes) → wiring_of name words ≡ Some wiring
    → sizes_of wiring.params ≡ Some sizes
    → mos table name words cell ≡ unless (has_device name cell.devices) DoubleName (Ok (with_device table name wiring sizes cell))
unfolding mos
mos-is table name words cell wiring sizes wiring_is sizes_are =
    ap (λ (found : Option Wiring). elim found as (λ _. Result OpenCell SpiceKind) [ None ↦ Err BadCard | Some w ↦ wired table name w cell ]) wiring_is
    ∙ ap (λ (found : Option Sizes). elim found as (λ _. Result OpenCell SpiceKind) [
      | None ↦ Err BadLength
      | Some s ↦ unless (has_device name cell.devices) DoubleName (Ok (with_device table name wiring s cell))
    ]) sizes_are

pub mos-double : (table : StrengthTable) → (name : List ℕ) (words : List (List ℕ)) (cell : OpenCell) (wiring : Wiring) (sizes : Sizes) → wiring_of name words ≡ Some wiring
    → sizes_of wiring.params ≡ Some sizes → has_device name cell.devices ≡ true → mos table name words cell ≡ Err DoubleName
mos-double table name words cell wiring sizes wiring_is sizes_are there =
    mos-is table name words cell wiring sizes wiring_is sizes_are
    ∙ ap (λ found. unless found DoubleName (Ok (with_device table name wiring sizes cell))) there

pub mos-new : (table : StrengthTable) → (name : List ℕ) (words : List (List ℕ)) (cell grown : OpenCell) (wiring : Wiring) (sizes : Sizes) → wiring_of name words ≡ Some wiring
    → sizes_of wiring.params ≡ Some sizes → has_device name cell.devices ≡ false → grown ≡ with_device table name wiring sizes cell
    → mos table name words cell ≡ Ok grown
mos-new table name words cell grown wiring sizes wiring_is sizes_are new is =
    mos-is table name words cell wiring sizes wiring_is sizes_are
    ∙ ap (λ found. unless found DoubleName (Ok (with_device table name wiring sizes cell))) new
    ∙ ap (λ (c : OpenCell). Ok c) (sym is)

-- an R card whose words say its wiring
pub resistor-is : (table : StrengthTable) → (name : List ℕ) (words : List (List ℕ)) (cell : OpenCell) (wiring : Wiring) → ends_of name words ≡ Some wiring
    → resistor table name words cell ≡ unless (has_device name cell.devices) DoubleName (Ok (with_device table name wiring resistor_sizes cell))
unfolding resistor
resistor-is table name words cell wiring wiring_is =
    ap (λ (found : Option Wiring). elim found as (λ _. Result OpenCell SpiceKind) [
      | None ↦ Err BadCard
      | Some w ↦ unless (has_device name cell.devices) DoubleName (Ok (with_device table name w resistor_sizes cell))
    ]) wiring_is

pub resistor-double : (table : StrengthTable) → (name : List ℕ) (words : List (List ℕ)) (cell : OpenCell) (wiring : Wiring) → ends_of name words ≡ Some wiring
    → has_device name cell.devices ≡ true → resistor table name words cell ≡ Err DoubleName
resistor-double table name words cell wiring wiring_is there =
    resistor-is table name words cell wiring wiring_is
    ∙ ap (λ found. unless found DoubleName (Ok (with_device table name wiring resistor_sizes cell))) there

pub resistor-new : (table : StrengthTable) → (name : List ℕ) (words : List (List ℕ)) (cell : OpenCell) (wiring : Wiring) → ends_of name words ≡ Some wiring
    → has_device name cell.devices ≡ false → resistor table name words cell ≡ Ok (with_device table name wiring resistor_sizes cell)
resistor-new table name words cell wiring wiring_is new =
    resistor-is table name words cell wiring wiring_is
    ∙ ap (λ found. unless found DoubleName (Ok (with_device table name wiring resistor_sizes cell))) new

pub resistor-grown : (table : StrengthTable) → (name : List ℕ) (words : List (List ℕ)) (cell grown : OpenCell) (wiring : Wiring) (sizes : Sizes) → ends_of name words ≡ Some wiring
    → has_device name cell.devices ≡ false → sizes ≡ resistor_sizes → grown ≡ with_device table name wiring sizes cell → resistor table name words cell ≡ Ok grown
resistor-grown table name words cell grown wiring sizes wiring_is new sizes_are is =
    resistor-new table name words cell wiring wiring_is new
    ∙ ap (λ (s : Sizes). Ok (with_device table name wiring s cell)) (sym sizes_are) ∙ ap (λ (c : OpenCell). Ok c) (sym is)

-- outside a subcircuit the names are those of the subcircuits
pub outside_names : (names : List (List ℕ)) (cells : List Subcircuit) (current : Option code.OpenCell) → names ≡ names_of cells ++ open_names current
    → is_outside (record { cells = cells; current = option_map cell_seen current }) ≡ true → names ≡ names_of cells
outside_names names cells None named outside = named ∙ append-nil (names_of cells)
outside_names names cells (Some cell) named outside = absurd cc

-- a subcircuit is known by its name
pub known_cell : (name : List ℕ) (names : List (List ℕ)) (cells : List Subcircuit) (found : Bool) → names ≡ names_of cells
    → found ≡ has_name name names → has_cell name cells ≡ found
known_cell name names cells found named is = sym (has_name-cells name cells) ∙ ap (has_name name) (sym named) ∙ sym is

-- a .SUBCKT is judged by the names that are kept
named-by : (line : ℕ) (name : List ℕ) (pins names : List (List ℕ)) (reading : Reading) → names ≡ names_of reading.cells
    → named line name pins reading
    ≡ unless (has_name name names || has_double pins) DoubleName (Ok (with_open reading (new_cell line name pins)))
unfolding named
named-by line name pins names reading are =
    ap (λ found. unless (found || has_double pins) DoubleName (Ok (with_open reading (new_cell line name pins))))
    (known_cell name names reading.cells (has_name name names) are refl)

pub named-new : (line : ℕ) (name : List ℕ) (pins names : List (List ℕ)) (reading : Reading) (cell : OpenCell) → names ≡ names_of reading.cells
    → unless (has_name name names || has_double pins) DoubleName (Ok (new_cell line name pins)) ≡ Ok cell
    → named line name pins reading ≡ Ok (with_open reading cell)
named-new line name pins names reading cell are made = named-by line name pins names reading are ∙ by (has_name name names || has_double pins) made
  where
    by : (refused : Bool) → unless refused DoubleName (Ok (new_cell line name pins)) ≡ Ok cell
        → unless refused DoubleName (Ok (with_open reading (new_cell line name pins))) ≡ Ok (with_open reading cell)
    by true is = absurd cc
    by false is =
        let same : new_cell line name pins ≡ cell = cc in
        ap (λ (c : OpenCell). Ok (with_open reading c)) same

pub named-fault : (line : ℕ) (name : List ℕ) (pins names : List (List ℕ)) (reading : Reading) (reported : Option SpiceKind) → names ≡ names_of reading.cells
    → IsFault reported (unless (has_name name names || has_double pins) DoubleName (Ok (new_cell line name pins)))
    → IsFault reported (named line name pins reading)
named-fault line name pins names reading None are fault = tt
named-fault line name pins names reading (Some kind) are fault =
    named-by line name pins names reading are ∙ by (has_name name names || has_double pins) fault
  where
    by : (refused : Bool) → unless refused DoubleName (Ok (new_cell line name pins)) ≡ Err kind
        → unless refused DoubleName (Ok (with_open reading (new_cell line name pins))) ≡ Err kind
    by true is = cc
    by false is = absurd cc

-- a new name is the last
pub with_new : (name : List ℕ) (names : List (List ℕ)) → has_name name names ≡ false → with_name name names ≡ names ++ name ∷ []
with_new name names new = ap (λ found. cond found names (names ++ name ∷ [])) new

-- the first word is in upper case, if all are
pub first_upper : (words : List (Bor (List ℕ))) (none : Bor (List ℕ)) → All IsUpper (texts words) → 1 ≤ length words → IsUpper (get_or words 0 none).now
first_upper [] none all some = absurd (omega arith)
first_upper (word ∷ words) none all some = All-head IsUpper word.now (texts words) all

-- the words after the first are in upper case, if all are
pub after_upper : (words : List (Bor (List ℕ))) → All IsUpper (texts words) → 1 ≤ length words → All IsUpper (texts (following words))
after_upper [] all some = absurd (omega arith)
after_upper (word ∷ words) all some =
    subst (λ (left : List (Bor (List ℕ))). All IsUpper (texts left)) (sym (following-cons word words)) (All-tail IsUpper word.now (texts words) all)

-- a refusal that is handed on reports what it reported
pub handed_on : {X Y : Type 0} (view : X → Y) (result : Result X Refusal) (refusal : Refusal) (wanted : Result Y SpiceKind)
    → IsErrAnd result (λ other. other ≡ refusal) → IsFault (kind_reported refusal) wanted → Gives kind_reported view result wanted
handed_on view (Ok value) refusal wanted is fault = absurd is
handed_on {X} {Y} view (Err other) refusal wanted is fault = subst (λ (reported : Refusal). IsFault {Reading = Y} (kind_reported reported) wanted) (sym is) fault

-- names with the one of a subcircuit that ends
pub names_ended : (names : List (List ℕ)) (cells grown : List Subcircuit) (cell : Subcircuit) (open_cell : code.OpenCell) (current : Option code.OpenCell)
    → names ≡ names_of cells ++ open_names current → current ≡ Some open_cell → cell.name ≡ open_cell.name → grown ≡ cells ++ cell ∷ []
    → names ≡ names_of grown ++ []
names_ended names cells grown cell open_cell current named is_open same is =
    named ∙ ap (λ (o : Option code.OpenCell). names_of cells ++ open_names o) is_open
    ∙ ap (λ (last : List ℕ). names_of cells ++ last ∷ []) (sym same)
    ∙ sym (map-append (λ (c : Subcircuit). c.name) cells (cell ∷ [])) ∙ ap names_of (sym is) ∙ sym (append-nil (names_of grown))

-- a subcircuit whose pins have roles stays placed
pub placed_ended : (pins : List Pin) (raw : List RawPin) (nets list : List (List ℕ)) (devices : List RawDevice) → IsPlaced (length pins) nets devices
    → pins_after [] pins ≡ Some raw → list ≡ nets → IsPlaced (length raw) list devices
placed_ended pins raw nets list devices placed all same =
    let count : length raw ≡ length pins = pins_after-length [] pins raw all ∙ zero-add (length pins) in
    subst (λ (names : List (List ℕ)). IsPlaced (length raw) names devices) (sym same) (subst (λ (n : ℕ). IsPlaced n nets devices) (sym count) placed)
