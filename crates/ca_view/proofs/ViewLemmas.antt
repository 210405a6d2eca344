-- The tables of a chip are those that the simulator and the guide ask for.
use Rattle.std.proofs.Common.{◌≡◌, ℕ, ◌<◌, ◌≤◌, List, Bool, length, refl, sym, ◌∙◌, subst, arith}
use Rattle.std.proofs.lemmas.List.{length-map}
use Rattle.std.proofs.Math.Decide.{dec_le}
use Rattle.std.specs.List.{All}
use Rattle.ca_cell.specs.declared.raw.RawCell.{RawCell}
use Rattle.ca_cell.specs.declared.rule.CellRule.TheVariants.{TooManyInputs}
use Rattle.ca_cell.specs.declared.rule.TheConstants.{MOST_INPUTS}
use Rattle.ca_cell.specs.Raw.{is_input, role_count}
use Rattle.ca_linked.specs.Linked as linked
use Rattle.ca_linked.specs.Linked.{inputs_of, IsWired}
use Rattle.ca_flat.specs.Chip.{Chip, IsCell}
use Rattle.ca_view.specs.Core.{core_net, core_of, core_constants}
use Rattle.ca_view.specs.Numbers.{Numbers, AreCoreNumbers}
use Rattle.ca_view.proofs.CoreIsChip.{core_is}
use Rattle.ca_view.specs.declared.constants.FixedNet.{FixedNet}
use Rattle.ca_view.specs.Linked.{IsLinked, IsPinned, AreReaders, place_in}
use Rattle.ca_view.specs.NetLists.{NetLists, AreNetsOf}
use Rattle.ca_view.specs.Constants.{constants_of}
use Rattle.ca_view.specs.Places.{AreRanks, cell_number}
use Rattle.ca_view.specs.Readers.{AreRows, row_at}
use Rattle.ca_view.specs.Pins.{Pins}
use Rattle.ca_view.specs.code.Pins.{AreCorePins}
use Rattle.ca_view.specs.code.Links.{turned, LinksPins}
use Rattle.ca_view.specs.code.Ends.{AreMarked}
use Rattle.ca_view.specs.View.{Viewed}
use Rattle.ca_view.specs.code.View.{viewed_as, IsKept}
use Rattle.ca_view.proofs.EndLemmas.{core_inputs_within}
use Rattle.ca_view.proofs.FeedLemmas.{links_are_feeds}
use Rattle.ca_view.proofs.InputLemmas.{core_pinned}
use Rattle.ca_view.proofs.LinkedLemmas.{core_linked}
use Rattle.ca_view.proofs.ReaderLemmas.{rows_read}

few_inputs : (raw : RawCell) → IsCell raw → role_count is_input raw.pins ≤ MOST_INPUTS
few_inputs raw cell = elim (dec_le (role_count is_input raw.pins) MOST_INPUTS) [
  | yes few ↦ few
  | no many ↦ absurd (cell.keeps (TooManyInputs (role_count is_input raw.pins)) (λ same. cc) (refl, omega arith))
]

-- what the lists are made of
abbrev pub lists_of : Pins → List (List ℕ) → List (List ℕ) → List Bool → List ℕ → NetLists
lists_of pins onward back observed inputs = record {
  onward = onward;
  back = back;
  observed = observed;
  input_pins = pins.inputs;
  output_pins = pins.outputs;
  inputs = inputs;
}

module _ (chip : linked.LinkedChip) (is : IsWired chip) where
  lists_are : (pins : Pins) (onward back : List (List ℕ)) (observed : List Bool) (inputs : List ℕ) → AreCorePins (core_of chip) pins
      → LinksPins pins onward → LinksPins (turned pins) back → AreMarked (length (core_of chip).nets) (core_of chip).outputs observed
      → inputs ≡ (core_of chip).inputs → AreNetsOf (core_of chip) (lists_of pins onward back observed inputs)
  lists_are pins onward back observed inputs are links links_back marked same =
      let core = core_is chip is in
      let feeds = links_are_feeds (core_of chip) pins onward back are.are links links_back in
      record {
        onward_count = links.counted ∙ are.are.nets;
        back_count = links_back.counted ∙ are.are.nets;
        input_count = are.input_rows ∙ are.are.count;
        output_count = are.output_rows ∙ are.are.count;
        onward = feeds.feeds;
        back = feeds.fed;
        observed = marked.marked;
        input_pins = are.are.inputs;
        output_pins = are.are.outputs;
        inputs = same;
        on_nets = core.on_nets;
        few_pins = λ u lt. few_inputs _ (core.cells u lt);
      }

  pub view_is_kept : (numbers : Numbers) (ranks : List ℕ) (readers : List (List ℕ)) (constants : List FixedNet) (pins : Pins)
      (onward back : List (List ℕ)) (observed : List Bool) (inputs outputs : List ℕ) (count : ℕ) → length (inputs_of chip) ≤ 16383
      → AreCoreNumbers chip numbers → AreRanks chip ranks → AreRows chip readers → constants_of constants ≡ core_constants chip
      → AreCorePins (core_of chip) pins → LinksPins pins onward → LinksPins (turned pins) back → count ≡ numbers.count
      → AreMarked count outputs observed → inputs ≡ (core_of chip).inputs → outputs ≡ (core_of chip).outputs
      → IsKept pins (viewed_as chip ranks readers constants pins onward back observed inputs outputs)
  view_is_kept numbers ranks readers constants pins onward back observed inputs outputs count few numbered ranked read fixed are links links_back counted marked same out =
      let marks : AreMarked (length (core_of chip).nets) (core_of chip).outputs observed =
      subst (λ n. AreMarked n (core_of chip).outputs observed) (counted ∙ numbered.total) (subst (λ (l : List ℕ). AreMarked count l observed) out marked) in
      record {
        wired = is;
        few_nets = numbered.few;
        is_view = record {
          chip_is = refl;
          core_is = refl;
          ranked = ranked;
          read = read;
          constants_are = fixed;
          nets = lists_are pins onward back observed inputs are links links_back marks same;
          outputs_are = out;
          few = (let l = length-map (inputs_of chip) (core_net chip) in omega arith);
        };
        pins_are = are.are;
        room = marks.room;
        inputs_within = subst (All (λ net. net < length (core_of chip).nets)) (sym same) (core_inputs_within chip is);
      }

-- what a view shows of the core
pub record ShowsCore (view : Viewed) : Type 0 where
  pub linked : IsLinked view.core (place_in view.ranks) (cell_number view.chip)
  pub pinned : IsPinned view.core
  pub read : (net : ℕ) → net < length view.core.nets → AreReaders view.core net (row_at view.readers net)
  pub nets : AreNetsOf view.core view.lists

pub shows_core : (pins : Pins) (view : Viewed) → IsKept pins view → ShowsCore view
shows_core pins view kept =
    let chip = view.chip in
    let is = kept.wired in
    let core_is = kept.is_view.core_is in
    record {
      linked = subst (λ (core : Chip). IsLinked core (place_in view.ranks) (cell_number chip)) (sym core_is)
          (core_linked chip is view.ranks kept.is_view.ranked is.few_parts);
      pinned = subst IsPinned (sym core_is) (
          core_pinned chip is
          (let few = kept.is_view.few in let l = length-map (inputs_of chip) (core_net chip) in omega arith) kept.few_nets
          );
      read = subst (λ (core : Chip). (net : ℕ) → net < length core.nets → AreReaders core net (row_at view.readers net)) (sym core_is)
          (rows_read chip is view.readers kept.is_view.read);
      nets = subst (λ (core : Chip). AreNetsOf core view.lists) (sym core_is) kept.is_view.nets;
    }
