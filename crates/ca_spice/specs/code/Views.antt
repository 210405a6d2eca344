-- Words of the code beside those of `specs/Views.antt`. Private functions and proofs cite them.
use Rattle.std.specs.Prelude.{option_map}
use Rattle.ca_spice.specs.declared.mos.Wiring as code_wiring
use Rattle.ca_spice.specs.declared.mos.Sizes as code_sizes
use Rattle.ca_spice.specs.declared.open_cell.OpenCell as code_cell
use Rattle.ca_spice.specs.declared.reading.Reading as code_reading
use Rattle.ca_spice.specs.code.Names.{texts}
use Rattle.ca_spice.specs.Mos.{Wiring, Sizes}
use Rattle.ca_spice.specs.OpenCell.{OpenCell}
use Rattle.ca_spice.specs.Reading.{Reading}

-- the wiring
abbrev pub wiring_seen : code_wiring.Wiring → Wiring
wiring_seen wiring = record {
  drain = wiring.drain.now;
  gate = wiring.gate.now;
  source = wiring.source.now;
  kind = wiring.kind;
  params = texts wiring.params.now;
}

-- the sizes
abbrev pub sizes_seen : code_sizes.Sizes → Sizes
sizes_seen sizes = record { width = sizes.width.0; length = sizes.length.0 }

-- the open subcircuit
abbrev pub cell_seen : code_cell.OpenCell → OpenCell
cell_seen cell = record {
  line = cell.line;
  name = cell.name;
  pins = cell.pins.items;
  nets = cell.nets;
  devices = cell.devices;
}

-- the reading
abbrev pub reading_seen : code_reading.Reading → Reading
reading_seen reading = record { cells = reading.cells.items; current = option_map cell_seen reading.current }
