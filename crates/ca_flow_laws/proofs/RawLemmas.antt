-- The subcircuits of a text that is no longer than it may be keep what each entry of a library keeps.
use Rattle.std.proofs.Common.{◌≡◌, ℕ, ◌+◌, ◌<◌, ◌≤◌, ◌^◌, Bool, true, false, ◌||◌, not, cond, List, [], ◌∷◌, ◌++◌, length, map, Option, Some, None}
use Rattle.std.proofs.Common.{Result, Ok, Err, refl, sym, ap, subst, ◌∙◌, arith, length-append, true≢false}
use Rattle.std.specs.Prelude.{nat_lt, eqb, ◌&&◌, option_and_then}
use Rattle.std.specs.Prelude.{◌==◌, codes}
use Rattle.std.specs.Str.{bytes_eq}
use Rattle.std.specs.List.{AllByRecursion, list_all}
use Rattle.std.proofs.lemmas.Option.{slice_get_within}
use Rattle.std.proofs.lemmas.List.{length-map}
use Rattle.std.proofs.lemmas.List.Elements.{All-nil}
use Rattle.ca_lex.specs.declared.lines.Line.{Line}
use Rattle.ca_lex.specs.Words.{words_of, upper_case}
use Rattle.ca_lex.specs.Lines.{spice_lines}
use Rattle.ca_lex.specs.FirstFault.{steps_from, located}
use Rattle.ca_lex.specs.Reading.{unless}
use Rattle.ca_names.specs.Names.{has_name, with_name, place_with, has_double}
use Rattle.ca_net.specs.declared.device.DeviceKind.{DeviceKind}
use Rattle.ca_net.specs.declared.device.DeviceKind.TheVariants as kind
use Rattle.ca_cell.specs.declared.strength.StrengthTable.{StrengthTable}
use Rattle.ca_cell.specs.declared.library.TheConstants.{MOST_CELLS}
use Rattle.ca_cell.specs.declared.raw.RawPin.{RawPin}
use Rattle.ca_cell.specs.declared.raw.RawDevice.{RawDevice}
use Rattle.ca_cell.specs.Rules.{PlacesWithin, IsRaw}
use Rattle.ca_spice.specs.declared.fault.SpiceKind.{SpiceKind}
use Rattle.ca_spice.specs.declared.fault.SpiceKind.TheVariants.{NotText, BadCard, DoubleName}
use Rattle.ca_spice.specs.declared.fault.SpiceFault.{SpiceFault}
use Rattle.ca_spice.specs.declared.fault.SpiceFault.TheVariants.{TooManyCells}
use Rattle.ca_spice.specs.Card.{card_by_letter, is_ignored, card_of}
use Rattle.ca_spice.specs.Names.{is_text, is_name}
use Rattle.ca_spice.specs.PinInfo as info
use Rattle.ca_cell.specs.Devices.{has_gate}
use Rattle.ca_pin_sets.proofs.RawLemmas.{resolved_is_raw}
use Rattle.ca_spice.specs.Mos.{Wiring, Sizes, kind_of, wiring_with, wiring_of, ends_of, resistor_wiring, are_sound, resistor_sizes}
use Rattle.ca_spice.specs.code.Mos.{IsWiring}
use Rattle.ca_spice.specs.OpenCell.{OpenCell, pin_of, new_cell, with_pins, has_roles, pin_info, with_drain, with_gate, with_source, device_of}
use Rattle.ca_spice.specs.OpenCell.{mos, resistor, with_device, pins_after, is_ended_by, subcircuit_with, ended}
use Rattle.ca_spice.specs.Reading.{Reading, Step, nothing, is_outside, has_cell, with_open, is_header, named, subckt, goes_on, in_cell, with_cell}
use Rattle.ca_spice.specs.Reading.{ends, card_step, is_stray, is_comment, judged, words_step, line_step, at_line, lines_from, library_from}
use Rattle.ca_spice.specs.Reading.{resolved_cell, library_of}
use Rattle.ca_spice.specs.code.Kept.{IsSound, IsPlaced, IsPlacedCell}
use Rattle.ca_spice.proofs.SpelledLemmas.{all_append}
use Rattle.ca_spice.proofs.CardLemmas.{kept_rule, kept_value, mos_found, resistor_found, at_its_place}
use Rattle.ca_spice.proofs.CellLemmas.{sound_device, with_name-longer, IsPlaced-grown, IsPlaced-IsRaw}
use Rattle.ca_spice.proofs.WritableLemmas.{first_step, pin_info_names}
use Rattle.ca_spice.proofs.ReadingLemmas.{placed_ended}
use Rattle.ca_load.specs.declared.cells.TheConstants.{MAX_CELLS}
use Rattle.ca_flow_laws.proofs.LengthLemmas.{weight_of, weights_of, text_weight}

-- the subcircuit that is being read has at most this many nets and devices, each terminal at one of the nets
record IsHeld (most : ℕ) (cell : OpenCell) : Type 0 where
  pub few_nets : length cell.nets ≤ most
  pub few_devices : length cell.devices ≤ most
  pub placed : IsPlaced (length cell.pins) cell.nets cell.devices

abbrev IsHeldOpen : ℕ → Option OpenCell → Type 0
IsHeldOpen most None = Unit {0}
IsHeldOpen most (Some cell) = IsHeld most cell

-- the subcircuits that were read are placed
abbrev ArePlaced : Reading → Type 0
ArePlaced reading = AllByRecursion (λ cell. IsPlacedCell cell.raw) reading.cells

record IsHeldReading (most : ℕ) (reading : Reading) : Type 0 where
  pub cells : ArePlaced reading
  pub current : IsHeldOpen most reading.current

-- a card that is read has a device with a gate
gate_found : (model : List ℕ) (k : DeviceKind) → kind_of model ≡ Some k → has_gate k ≡ true
unfolding kind_of
gate_found [] k is = absurd cc
gate_found (letter ∷ model) k is = by (eqb letter 78) (eqb letter 80) is
  where
    by : (n p : Bool) → cond n (Some kind.N) (cond p (Some kind.P) None) ≡ Some k → has_gate k ≡ true
    by true p is = let same : kind.N ≡ k = cc in subst (λ it. has_gate it ≡ true) same refl
    by false true is = let same : kind.P ≡ k = cc in subst (λ it. has_gate it ≡ true) same refl
    by false false is = absurd cc

wiring_gate : (name : List ℕ) (words : List (List ℕ)) (wiring : Wiring) → wiring_of name words ≡ Some wiring → has_gate wiring.kind ≡ true
unfolding wiring_of
wiring_gate name [] wiring is = absurd cc
wiring_gate name (a ∷ []) wiring is = absurd cc
wiring_gate name (a ∷ b ∷ []) wiring is = absurd cc
wiring_gate name (a ∷ b ∷ c ∷ []) wiring is = absurd cc
wiring_gate name (a ∷ b ∷ c ∷ d ∷ []) wiring is = absurd cc
wiring_gate name (drain ∷ gate ∷ source ∷ bulk ∷ model ∷ params) wiring is =
    by (list_all is_name (name ∷ drain ∷ gate ∷ source ∷ bulk ∷ model ∷ []) && are_sound params) is
  where
    by_kind : (found : Option DeviceKind) → kind_of model ≡ found → option_and_then (wiring_with drain gate source params) found ≡ Some wiring
        → has_gate wiring.kind ≡ true
    by_kind None found is = absurd cc
    by_kind (Some k) found is =
        let same : k ≡ wiring.kind = cc in
        subst (λ it. has_gate it ≡ true) same (gate_found model k found)

    by : (sound : Bool) → cond sound (option_and_then (wiring_with drain gate source params) (kind_of model)) None ≡ Some wiring
        → has_gate wiring.kind ≡ true
    by true is = by_kind (kind_of model) refl is
    by false is = absurd cc

-- the wiring of an R card has its drain as its gate
ends_gate : (name : List ℕ) (words : List (List ℕ)) (wiring : Wiring) → ends_of name words ≡ Some wiring → wiring.gate ≡ wiring.drain
unfolding ends_of
ends_gate name [] wiring is = absurd cc
ends_gate name (a ∷ []) wiring is = absurd cc
ends_gate name (a ∷ b ∷ []) wiring is = absurd cc
ends_gate name (drain ∷ source ∷ word ∷ more) wiring is = by (list_all is_name (name ∷ drain ∷ source ∷ [])) is
  where
    by : (sound : Bool) → cond sound (Some (resistor_wiring drain source)) None ≡ Some wiring → wiring.gate ≡ wiring.drain
    by true is =
        let same : resistor_wiring drain source ≡ wiring = cc in
        subst (λ (it : Wiring). it.gate ≡ it.drain) same refl
    by false is = absurd cc

-- a name makes at most one more
name_most : (name : List ℕ) (names : List (List ℕ)) → length (with_name name names) ≤ 1 + length names
name_most name names = by (has_name name names)
  where
    by : (found : Bool) → length (cond found names (names ++ name ∷ [])) ≤ 1 + length names
    by true = omega arith
    by false = let count = length-append names (name ∷ []) in omega (arith, count)

-- and stands among them
name_within : (name : List ℕ) (names : List (List ℕ)) → place_with name names < length (with_name name names)
name_within name names = slice_get_within (with_name name names) (place_with name names) name (at_its_place name names)

module _ (table : StrengthTable) (most more : ℕ) (up : most + 3 ≤ more) (few : more < 2 ^ 32) where
  held_up : (cell : OpenCell) → IsHeld most cell → IsHeld more cell
  held_up cell held = record {
    few_nets = let is = held.few_nets in omega (arith, is, up);
    few_devices = let is = held.few_devices in omega (arith, is, up);
    placed = held.placed;
  }

  open_up : (current : Option OpenCell) → IsHeldOpen most current → IsHeldOpen more current
  open_up None held = held
  open_up (Some cell) held = held_up cell held

  -- a device more
  device_held : (name : List ℕ) (wiring : Wiring) (sizes : Sizes) (cell next : OpenCell) → next ≡ with_device table name wiring sizes cell → IsWiring wiring
      → IsHeld most cell → IsHeld more next
  device_held name wiring sizes cell next is wired held =
      let first = name_most wiring.drain cell.nets in
      let second = name_most wiring.gate (with_drain wiring cell.nets) in
      let third = name_most wiring.source (with_gate wiring cell.nets) in
      let to_first = with_name-longer wiring.drain cell.nets in
      let to_second = with_name-longer wiring.gate (with_drain wiring cell.nets) in
      let to_third = with_name-longer wiring.source (with_gate wiring cell.nets) in
      let drain = name_within wiring.drain cell.nets in
      let gate = name_within wiring.gate (with_drain wiring cell.nets) in
      let source = name_within wiring.source (with_gate wiring cell.nets) in
      let nets = held.few_nets in
      let devices = held.few_devices in
      let device : RawDevice = device_of table name wiring sizes cell.nets in
      let count : length (cell.devices ++ device ∷ []) ≡ length cell.devices + 1 = length-append cell.devices (device ∷ []) in
      subst (IsHeld more) (sym is) (record {
        few_nets = omega (arith, nets, up, first, second, third);
        few_devices = omega (arith, devices, up, count);
        placed = IsPlaced-grown (length cell.pins) cell.nets (with_source wiring cell.nets) cell.devices device held.placed
            (omega (arith, to_first, to_second, to_third)) (omega (arith, nets, up, few, first, second, third))
            (omega (arith, devices, up, few, count))
            (record { drain = omega (arith, drain, to_second, to_third); gate = omega (arith, gate, to_third); source = source })
            (sound_device table sizes wiring device cell.nets (with_drain wiring cell.nets) refl wired refl refl refl refl);
      })

  -- a transistor
  mos_held : (name : List ℕ) (words : List (List ℕ)) (cell next : OpenCell) → mos table name words cell ≡ Ok next → IsHeld most cell → IsHeld more next
  mos_held name words cell next is held =
      let found = mos_found table name words cell next is in
      device_held name found.wiring found.sizes cell next found.is
      (λ gateless. absurd (true≢false (sym (wiring_gate name words found.wiring found.wired) ∙ gateless))) held

  -- a resistor
  resistor_held : (name : List ℕ) (words : List (List ℕ)) (cell next : OpenCell) → resistor table name words cell ≡ Ok next → IsHeld most cell → IsHeld more next
  resistor_held name words cell next is held =
      let found = resistor_found table name words cell next is in
      device_held name found.wiring resistor_sizes cell next found.is (λ gateless. ends_gate name words found.wiring found.wired) held

  -- roles leave the number of pins
  role_held : (words : List (List ℕ)) (cell next : OpenCell) → pin_info words cell ≡ Ok next → IsHeld most cell → IsHeld more next
  unfolding pin_info
  role_held words cell next is held = by (info.pin_info cell.nets words cell.pins) refl is
    where
      by : (given : Result (List _) SpiceKind) → info.pin_info cell.nets words cell.pins ≡ given → has_roles cell given ≡ Ok next → IsHeld more next
      by (Ok pins) read is =
          let same : with_pins cell pins ≡ next = cc in
          let names = pin_info_names cell.nets words cell.pins pins read in
          let count : length cell.pins ≡ length pins =
          sym (length-map cell.pins _) ∙ ap length (sym names) ∙ length-map pins _ in
          let up_held = held_up cell held in
          subst (IsHeld more) same (record {
            few_nets = up_held.few_nets;
            few_devices = up_held.few_devices;
            placed = subst (λ n. IsPlaced n cell.nets cell.devices) count held.placed;
          })
      by (Err kind) read is = absurd cc

  -- what the reading becomes with another subcircuit that is being read
  reopened : (reading next : Reading) (cell : OpenCell) → next ≡ with_open reading cell → ArePlaced reading → IsHeld more cell
      → IsHeldReading more next
  reopened reading next cell is cells held = subst (IsHeldReading more) (sym is) (record { cells = cells; current = held })

  in_cell_held : (step : OpenCell → Result OpenCell SpiceKind) (reading next : Reading) → in_cell step reading ≡ Ok next
      → ((cell after : OpenCell) → step cell ≡ Ok after → IsHeld most cell → IsHeld more after) → IsHeldReading most reading → IsHeldReading more next
  in_cell_held step reading next is each held = by reading.current refl is
    where
      by_step : (cell : OpenCell) → reading.current ≡ Some cell → (given : Result OpenCell SpiceKind) → step cell ≡ given → goes_on reading given ≡ Ok next
          → IsHeldReading more next
      by_step cell is_open (Ok after) stepped is =
          reopened reading next after (cc) held.cells (each cell after stepped (subst (IsHeldOpen most) is_open held.current))
      by_step cell is_open (Err kind) stepped is = absurd cc

      by : (current : Option OpenCell) → reading.current ≡ current
          → elim current as (λ _. Step) [ None ↦ Err BadCard | Some cell ↦ goes_on reading (step cell) ] ≡ Ok next → IsHeldReading more next
      by None is_open is = absurd cc
      by (Some cell) is_open is = by_step cell is_open (step cell) refl is

  -- a subcircuit without devices
  subckt_held : (line : ℕ) (words : List (List ℕ)) (reading next : Reading) → length words ≤ more → subckt line words reading ≡ Ok next
      → IsHeldReading most reading → IsHeldReading more next
  unfolding subckt named
  subckt_held line [] reading next within is held = absurd cc
  subckt_held line (name ∷ pins) reading next within is held =
      let rule = kept_rule (not (is_outside reading) || not (is_header (name ∷ pins))) BadCard (named line name pins reading) next is in
      let value = kept_value (has_cell name reading.cells || has_double pins) DoubleName (with_open reading (new_cell line name pins)) next rule.1 in
      let count : length (map pin_of pins) ≡ length pins = length-map pins pin_of in
      reopened reading next (new_cell line name pins) value.1 held.cells (record {
        few_nets = omega (arith, within);
        few_devices = omega arith;
        placed = record {
          few_nets = omega (arith, within, few);
          few_devices = omega arith;
          pins_within = omega (arith, count);
          places = All-nil (PlacesWithin (length pins));
          sound = All-nil IsSound;
        };
      })

  ended_held : (words : List (List ℕ)) (cell : OpenCell) (made : _) → ended words cell ≡ Ok made → IsHeld most cell → IsPlacedCell made.raw
  unfolding ended
  ended_held words cell made is held =
      by (pins_after [] cell.pins) refl (kept_rule (not (is_ended_by words cell.name)) BadCard (subcircuit_with cell (pins_after [] cell.pins)) made is).1
    where
      by : (given : Option (List RawPin)) → pins_after [] cell.pins ≡ given → subcircuit_with cell given ≡ Ok made → IsPlacedCell made.raw
      by None found is = absurd cc
      by (Some pins) found is =
          let same : record { name = cell.name; raw = record { pins = pins; nets = cell.nets; devices = cell.devices } } ≡ made = cc in
          subst (λ it. IsPlacedCell it.raw) same (placed_ended cell.pins pins cell.nets cell.nets cell.devices held.placed found refl)

  ends_held : (words : List (List ℕ)) (reading next : Reading) → ends words reading ≡ Ok next → IsHeldReading most reading → IsHeldReading more next
  unfolding ends
  ends_held words reading next is held = by reading.current refl is
    where
      by_made : (cell : OpenCell) → reading.current ≡ Some cell → (given : Result _ SpiceKind) → ended words cell ≡ given → with_cell reading given ≡ Ok next
          → IsHeldReading more next
      by_made cell is_open (Ok made) found is =
          let same : record { cells = reading.cells ++ made ∷ []; current = None } ≡ next = cc in
          subst (IsHeldReading more) same (record {
            cells = all_append (λ cell. IsPlacedCell cell.raw) reading.cells (made ∷ []) held.cells
                (ended_held words cell made found (subst (IsHeldOpen most) is_open held.current), tt);
            current = tt;
          })
      by_made cell is_open (Err kind) found is = absurd cc

      by : (current : Option OpenCell) → reading.current ≡ current
          → elim current as (λ _. Step) [ None ↦ Err BadCard | Some cell ↦ with_cell reading (ended words cell) ] ≡ Ok next → IsHeldReading more next
      by None is_open is = absurd cc
      by (Some cell) is_open is = by_made cell is_open (ended words cell) refl is

  reading_up : (reading next : Reading) → reading ≡ next → IsHeldReading most reading → IsHeldReading more next
  reading_up reading next same held =
      subst (IsHeldReading more) same (record { cells = held.cells; current = open_up reading.current held.current })

  card_held : (line : ℕ) (word : List ℕ) (words : List (List ℕ)) (reading next : Reading) → length words ≤ more
      → card_step table (card_of word) line word words reading ≡ Ok next → IsHeldReading most reading → IsHeldReading more next
  unfolding card_step card_of card_by_letter is_ignored
  card_held line word words reading next within is held =
      by (bytes_eq word (codes ".SUBCKT")) (bytes_eq word (codes ".ENDS")) (bytes_eq word (codes "*.PININFO")) (is_ignored word) is
    where
      by_letter : (word : List ℕ) → card_step table (card_by_letter word) line word words reading ≡ Ok next → IsHeldReading more next
      by_letter [] is = absurd cc
      by_letter (letter ∷ rest) is = at (letter == 77) (letter == 82) (letter == 67 || letter == 68) (letter == 43) is
        where
          at : (mos_is resistor_is ignored stray : Bool)
              → card_step table (cond mos_is (card_by_letter (77 ∷ [])) (cond resistor_is (card_by_letter (82 ∷ []))
              (cond ignored (card_by_letter (67 ∷ [])) (cond stray (card_by_letter (43 ∷ [])) (card_by_letter [])))))
              line (letter ∷ rest) words reading ≡ Ok next → IsHeldReading more next
          at true resistor_is ignored stray is = in_cell_held (mos table (letter ∷ rest) words) reading next is (mos_held (letter ∷ rest) words) held
          at false true ignored stray is =
              in_cell_held (resistor table (letter ∷ rest) words) reading next is (resistor_held (letter ∷ rest) words) held
          at false false true stray is = reading_up reading next (cc) held
          at false false false true is = absurd cc
          at false false false false is = absurd cc

      by : (subckt_is ends_is info_is ignored : Bool)
          → card_step table (cond subckt_is (card_of (codes ".SUBCKT")) (cond ends_is (card_of (codes ".ENDS")) (cond info_is (card_of (codes "*.PININFO"))
          (cond ignored (card_of (codes ".END")) (card_by_letter word))))) line word words reading ≡ Ok next → IsHeldReading more next
      by true ends_is info_is ignored is = subckt_held line words reading next within is held
      by false true info_is ignored is = ends_held words reading next is held
      by false false true ignored is = in_cell_held (pin_info words) reading next is (role_held words) held
      by false false false true is = reading_up reading next (cc) held
      by false false false false is = by_letter word is

  words_held : (line : ℕ) (words : List (List ℕ)) (reading next : Reading) → length words ≤ more → words_step table line words reading ≡ Ok next
      → IsHeldReading most reading → IsHeldReading more next
  unfolding words_step
  words_held line [] reading next within is held = reading_up reading next (cc) held
  words_held line (word ∷ words) reading next within is held = by (is_comment (card_of word) reading) is
    where
      by : (comment : Bool) → cond comment (Ok reading) (judged table (card_of word) line word words reading) ≡ Ok next → IsHeldReading more next
      by true is = reading_up reading next (cc) held
      by false is =
          let formed = kept_rule (is_stray (card_of word)) BadCard
          (unless (not (list_all is_text (word ∷ words))) NotText (card_step table (card_of word) line word words reading)) next is in
          let text = kept_rule (not (list_all is_text (word ∷ words))) NotText (card_step table (card_of word) line word words reading) next formed.1 in
          card_held line word words reading next (omega (arith, within)) text.1 held

  line_held : (line : Line) (reading next : Reading) → length (words_of (upper_case line.text)) ≤ more → line_step table line reading ≡ Ok next
      → IsHeldReading most reading → IsHeldReading more next
  unfolding line_step
  line_held line reading next within is held = words_held line.line (words_of (upper_case line.text)) reading next within is held

stepped_at : (line : Line) (given : Step) (next : Reading)
    → elim given as (λ _. Result Reading SpiceFault) [ Ok later ↦ Ok later | Err kind ↦ Err (at_line line kind) ] ≡ Ok next → given ≡ Ok next
stepped_at line (Ok later) next is = cc
stepped_at line (Err kind) next is = absurd cc

lines_held : (table : StrengthTable) (lines : List Line) (most : ℕ) (reading last : Reading) → most + weights_of lines < 2 ^ 32 → lines_from table reading lines ≡ Ok last
    → IsHeldReading most reading → IsHeldReading (most + weights_of lines) last
unfolding steps_from
lines_held table [] most reading last few is held =
    let same : reading ≡ last = cc in
    subst (λ n. IsHeldReading n last) (omega arith) (subst (IsHeldReading most) same held)
lines_held table (line ∷ lines) most reading last few is held =
    let first = first_step (located at_line (line_step table)) reading last line lines is in
    let next = line_held table most (most + weight_of line) (omega arith) (omega (arith, few)) line reading first.next (omega arith)
    (stepped_at line (line_step table line reading) first.next first.stepped) held in
    let all : IsHeldReading ((most + weight_of line) + weights_of lines) last =
    lines_held table lines (most + weight_of line) first.next last (omega (arith, few)) first.rest next in
    subst (λ n. IsHeldReading n last) (omega arith) all

-- each subcircuit is one from which an entry can be made
abbrev pub AreRaw : Reading → Type 0
AreRaw reading = AllByRecursion (λ cell. IsRaw cell.raw) reading.cells

-- with the nets of input pins' sets written as the pins too
resolved_raw : (cells : List _) → ArePlaced (record { cells = cells; current = None }) → AreRaw (record { cells = map resolved_cell cells; current = None })
resolved_raw [] placed = tt
resolved_raw (cell ∷ cells) placed = (resolved_is_raw cell.raw (IsPlaced-IsRaw cell.raw placed.0), resolved_raw cells placed.1)

-- the subcircuits of a text that is no longer than it may be are
pub raw_cells : (table : StrengthTable) (bytes : List ℕ) (read : Reading) → length bytes ≤ MAX_CELLS → library_of table bytes ≡ Ok read.cells → AreRaw read
unfolding library_from
raw_cells table bytes read within reported = by (lines_from table nothing (spice_lines bytes)) refl reported
  where
    by_limit : (reading : Reading) → ArePlaced reading → (many : Bool)
        → cond many (Err (TooManyCells (length reading.cells))) (Ok (map resolved_cell reading.cells)) ≡ Ok read.cells → AreRaw read
    by_limit reading held true reported = absurd cc
    by_limit reading held false reported =
        let same : map resolved_cell reading.cells ≡ read.cells = cc in
        subst (λ cells. AreRaw (record { cells = cells; current = None })) same (resolved_raw reading.cells held)

    by_current : (reading : Reading) → ArePlaced reading → (current : Option OpenCell)
        → library_from (Ok (record { cells = reading.cells; current = current })) ≡ Ok read.cells → AreRaw read
    by_current reading held None reported = by_limit reading held (nat_lt MOST_CELLS (length reading.cells)) reported
    by_current reading held (Some cell) reported = absurd cc

    by : (given : Result Reading SpiceFault) → lines_from table nothing (spice_lines bytes) ≡ given → library_from given ≡ Ok read.cells → AreRaw read
    by (Err fault) is reported = absurd cc
    by (Ok reading) is reported =
        let weight = text_weight bytes in
        let few : 0 + weights_of (spice_lines bytes) < 2 ^ 32 = omega (arith, weight, within) in
        by_current reading (lines_held table (spice_lines bytes) 0 nothing reading few is (record { cells = tt; current = tt })).cells reading.current reported
